-- What is acknowledged leaves the send queue.
use Rattle.std.proofs.Common.{◌≡◌, ℕ, ◌+◌, ◌-◌, ◌≤◌, Bool, false, List, [], ◌∷◌, length, drop, arith, refl, ap, sym, ◌∙◌}
use Rattle.std.specs.Prelude.{nat_lt, nat_le, ◌&&◌, ◌||◌, ◌==◌, not, min}
use Rattle.std.specs.List.{list_all}
use Rattle.std.proofs.lemmas.Bool.{cond_both}
use Rattle.std.proofs.lemmas.List.{drop_min, drop-drop}
use Rattle.ix_base.specs.declared.id.WireNo.{WireNo}
use Rattle.ix_base.specs.declared.segment.Seg.{Seg}
use Rattle.ix_base.specs.declared.segment.SegHead.{SegHead}
use Rattle.ix_base.specs.Sequence.{number, ahead, is_past, is_at_or_past}
use Rattle.ix_base.specs.Flags.{has_flag}
use Rattle.ix_tcpdef.specs.Connection.{snd_una, snd_nxt, rcv_nxt, acked_data, room, rcv_wnd, seq_of, is_listen, is_syn_sent, is_syn_received, is_time_wait, on, tells, ended}
use Rattle.ix_tcpdef.specs.Arrival.{Next, Goes, Stops, ◌>>=◌, job_of, span, is_acceptable, acceptability, reset, synchronize, unacknowledged}
use Rattle.ix_tcpdef.specs.Acknowledgement.{establishing, too_far, is_duplicate, duplicated, advanced, is_newer, windowed, acked, told_sent, fin_acked_in, fin_acked, synchronized, acknowledgement}
use Rattle.ix_tcpdef.specs.Body.{octets, delivered, rest_of, holding, filled, is_apart, waiting, received, takes_body, body, past_fin, fin_taken_in, fin_taken, finished, text_and_fin}
use Rattle.ix_tcpdef.specs.Opening.{opens, opening, syn_sent}
use Rattle.ix_tcpdef.specs.Sound.{IsKept, HasOpened}
use Rattle.ix_tcpdef.specs.Step.{checked, arrived_in, arrived, stepped, step}
use Rattle.ix_tcpdef.specs.declared.types.Cfg.{Cfg}
use Rattle.ix_tcpdef.specs.declared.types.State.{State}
use Rattle.ix_tcpdef.specs.declared.types.State.TheVariants as st
use Rattle.ix_tcpdef.specs.declared.types.Connection.{Connection}
use Rattle.ix_tcpdef.specs.declared.types.HeldSegment.{HeldSegment}
use Rattle.ix_tcpdef.specs.declared.types.Input.TheVariants as inputs
use Rattle.ix_tcpdef.specs.declared.types.Job.{Job}
use Rattle.ix_tcpdef.specs.declared.types.Octets.{Octets}
use Rattle.ix_tcpdef.specs.declared.types.Told.{Told}
use Rattle.ix_tcpdef.specs.declared.types.Told.TheVariants as told
use Rattle.ix_base.specs.declared.segment.TheConstants.{ACK, FIN, RST, SYN}
use Rattle.ix_tcpdef.specs.Stands.{send_queue}
use Rattle.ix_tcpin.proofs.OpeningLemmas.{start}

-- nothing more was given to be sent, and no less is acknowledged
record GrowsOn (w v : Connection) : Type 0 where
  sent : v.sent ≡ w.sent
  acked : acked_data w ≤ acked_data v

record Grows (w : Connection) (n : Next) : Type 0 where
  then : GrowsOn w (job_of n).connection

abbrev GrowsBy : Connection → Job → Type 0
GrowsBy w j = GrowsOn w j.connection

grows-then : (w : Connection) (n : Next) (f : Job → Next) → Grows w n → ((j : Job) → GrowsBy w j → Grows w (f j)) → Grows w (n >>= f)
grows-then w (Goes j) f g more = more j g.then
grows-then w (Stops j) f g more = record { then = g.then }

grows-tells : (w : Connection) (j : Job) (t : Told) → GrowsBy w j → GrowsBy w (tells j t)
grows-tells w j t g = cond_both (j.connection.accepted && not j.connection.shut) _ _ (GrowsBy w) (λ _. g) (λ _. g)

-- ## The checks
grows-acceptability : (cfg : Cfg) (h : SegHead) (now : ℕ) (w : Connection) (j : Job) → GrowsBy w j → Grows w (acceptability cfg h now j)
unfolding acceptability
grows-acceptability cfg h now w j g =
    let P : Next → Type 0 = Grows w in
    cond_both (is_acceptable (span h) (rcv_wnd cfg j.connection) (seq_of j.connection h)) _ _ P (λ _. record { then = g })
    (λ _. cond_both (has_flag h.flags RST) _ _ P (λ _. record { then = g })
    (λ _. cond_both (has_flag h.flags FIN && is_time_wait j.connection.state) _ _ P (λ _. record { then = record { sent = g.sent; acked = g.acked } }) (λ _. record { then = g })))

grows-reset : (cfg : Cfg) (h : SegHead) (w : Connection) (j : Job) → GrowsBy w j → Grows w (reset cfg h j)
unfolding reset
grows-reset cfg h w j g =
    let P : Next → Type 0 = Grows w in
    cond_both (not (has_flag h.flags RST)) _ _ P (λ _. record { then = g })
    (λ _. cond_both (h.seq == rcv_nxt j.connection) _ _ P (λ _. record { then = grows-tells w (on j (ended j.connection)) told.DeadReset (record { sent = g.sent; acked = g.acked }) }) (λ _. record { then = g }))

grows-synchronize : (cfg : Cfg) (h : SegHead) (w : Connection) (j : Job) → GrowsBy w j → Grows w (synchronize cfg h j)
unfolding synchronize
grows-synchronize cfg h w j g =
    let P : Next → Type 0 = Grows w in
    cond_both (not (has_flag h.flags SYN)) _ _ P (λ _. record { then = g })
    (λ _. cond_both (is_syn_received j.connection.state) _ _ P (λ _. record { then = record { sent = g.sent; acked = g.acked } }) (λ _. record { then = g }))

grows-unacknowledged : (h : SegHead) (w : Connection) (j : Job) → GrowsBy w j → Grows w (unacknowledged h j)
unfolding unacknowledged
grows-unacknowledged h w j g = cond_both (has_flag h.flags ACK) _ _ (Grows w) (λ _. record { then = g }) (λ _. record { then = g })

-- ## The acknowledgement
further : (least una n len : ℕ) → least ≤ min (una - 1) len → least ≤ min (una + n - 1) len
further least una n len most = omega arith

grows-duplicated : (h : SegHead) (w v : Connection) → GrowsOn w v → GrowsOn w (duplicated h v)
unfolding duplicated
grows-duplicated h w v g =
    let P : Connection → Type 0 = GrowsOn w in
    cond_both (not (is_duplicate h v)) _ _ P (λ _. g)
    (λ _. cond_both v.recovering _ _ P (λ _. record { sent = g.sent; acked = g.acked })
    (λ _. cond_both (v.dups == 2) _ _ P (λ _. record { sent = g.sent; acked = g.acked }) (λ _. record { sent = g.sent; acked = g.acked })))

grows-advanced : (cfg : Cfg) (h : SegHead) (now : ℕ) (w v : Connection) → GrowsOn w v → GrowsOn w (advanced cfg h now v)
unfolding advanced
grows-advanced cfg h now w v g =
    cond_both (is_past (snd_una v) h.ack) _ _ (GrowsOn w) (λ _. record { sent = g.sent; acked = further (acked_data w) v.una (ahead (snd_una v) h.ack) (length v.sent) g.acked }) (λ _. g)

grows-windowed : (h : SegHead) (before : ℕ) (w v : Connection) → GrowsOn w v → GrowsOn w (windowed h before v)
unfolding windowed
grows-windowed h before w v g =
    let P : Connection → Type 0 = GrowsOn w in
    cond_both (not (is_at_or_past before h.ack && is_newer h v)) _ _ P (λ _. g)
    (λ _. cond_both (nat_lt 0 h.window && (v.una == v.nxt)) _ _ P (λ _. record { sent = g.sent; acked = g.acked }) (λ _. record { sent = g.sent; acked = g.acked }))

grows-acked : (cfg : Cfg) (h : SegHead) (now : ℕ) (w v : Connection) → GrowsOn w v → GrowsOn w (acked cfg h now v)
grows-acked cfg h now w v g =
    grows-windowed h (snd_una v) w (advanced cfg h now (duplicated h v)) (grows-advanced cfg h now w (duplicated h v) (grows-duplicated h w v g))

grows-told_sent : (m : ℕ) (w : Connection) (j : Job) → GrowsBy w j → GrowsBy w (told_sent m j)
unfolding told_sent
grows-told_sent m w j g =
    cond_both (nat_lt 0 m || (j.connection.wants && nat_lt 0 (room j.connection))) _ _ (GrowsBy w)
    (λ _. grows-tells w (on j (record j.connection { wants = false })) (told.Sent m (room j.connection)) (record { sent = g.sent; acked = g.acked }))
    (λ _. g)

grows-fin_acked_in : (s : State) (cfg : Cfg) (now : ℕ) (w : Connection) (j : Job) → GrowsBy w j → Grows w (fin_acked_in s cfg now j)
grows-fin_acked_in st.FinWait1 cfg now w j g = record { then = record { sent = g.sent; acked = g.acked } }
grows-fin_acked_in st.Closing cfg now w j g = record { then = record { sent = g.sent; acked = g.acked } }
grows-fin_acked_in st.LastAck cfg now w j g = record { then = record { sent = g.sent; acked = g.acked } }
grows-fin_acked_in _ cfg now w j g = record { then = g }

grows-fin_acked : (cfg : Cfg) (now : ℕ) (w : Connection) (j : Job) → GrowsBy w j → Grows w (fin_acked cfg now j)
unfolding fin_acked
grows-fin_acked cfg now w j g =
    cond_both (j.connection.fin_sent && (j.connection.una == j.connection.nxt)) _ _ (Grows w) (λ _. grows-fin_acked_in j.connection.state cfg now w j g) (λ _. record { then = g })

grows-acknowledgement : (cfg : Cfg) (h : SegHead) (now : ℕ) (w : Connection) (j : Job) → GrowsBy w j → Grows w (acknowledgement cfg h now j)
unfolding acknowledgement establishing synchronized too_far
grows-acknowledgement cfg h now w j g =
    let P : Next → Type 0 = Grows w in
    cond_both (is_syn_received j.connection.state) _ _ P
    (λ _. cond_both (is_past (snd_una j.connection) h.ack && not (is_past (snd_nxt j.connection) h.ack)) _ _ P
    (λ _. record { then = record { sent = g.sent; acked = further (acked_data w) j.connection.una (ahead (snd_una j.connection) h.ack) (length j.connection.sent) g.acked } })
    (λ _. record { then = g }))
    (λ _. grows-then w _ _ (cond_both (is_past (snd_nxt j.connection) h.ack) _ _ P (λ _. record { then = g }) (λ _. record { then = g }))
    (λ i k. grows-fin_acked cfg now w _ (grows-told_sent (acked_data (acked cfg h now i.connection) - acked_data i.connection) w (on i (acked cfg h now i.connection)) (grows-acked cfg h now w i.connection k))))

-- ## The body and the FIN
grows-delivered : (o : Octets) (n : WireNo) (w : Connection) (j : Job) → GrowsBy w j → GrowsBy w (delivered o n j)
unfolding delivered
grows-delivered o n w j g =
    let P : Job → Type 0 = GrowsBy w in
    cond_both j.connection.shut _ _ P (λ _. record { sent = g.sent; acked = g.acked })
    (λ _. cond_both j.connection.accepted _ _ P (λ _. record { sent = g.sent; acked = g.acked }) (λ _. record { sent = g.sent; acked = g.acked }))

grows-filled : (ss : List HeldSegment) (fin : Bool) (w : Connection) (j : Job) → GrowsBy w j → GrowsBy w (filled ss fin j).0
unfolding filled
grows-filled [] fin w j g = g
grows-filled (s ∷ rest) fin w j g =
    let P : Job × Bool → Type 0 = λ r. GrowsBy w r.0 in
    cond_both (nat_lt j.connection.rcv s.at) _ _ P (λ _. g)
    (λ _. cond_both (nat_le (s.at + length s.bytes) j.connection.rcv) _ _ P
    (λ _. grows-filled rest fin w (holding rest j) (record { sent = g.sent; acked = g.acked }))
    (λ _. grows-filled rest s.fin w (delivered (rest_of s j.connection.rcv) s.w (holding rest j)) (grows-delivered (rest_of s j.connection.rcv) s.w w (holding rest j) (record { sent = g.sent; acked = g.acked }))))

grows-waiting : (o : Octets) (n : WireNo) (fin : Bool) (w v : Connection) → GrowsOn w v → GrowsOn w (waiting o n fin v)
unfolding waiting
grows-waiting o n fin w v g =
    cond_both (nat_lt (length v.held) 8 && list_all (is_apart o) v.held) _ _ (GrowsOn w) (λ _. record { sent = g.sent; acked = g.acked }) (λ _. g)

grows-body : (cfg : Cfg) (n : WireNo) (seg : Seg) (w : Connection) (j : Job) → GrowsBy w j → GrowsBy w (body cfg n seg j).0
unfolding body received
grows-body cfg n seg w j g =
    let P : Job × Bool → Type 0 = λ r. GrowsBy w r.0 in
    let o : Octets = octets j.connection.rcv (rcv_wnd cfg j.connection) (seq_of j.connection seg.head) seg.head.at seg.body in
    cond_both (not (takes_body j.connection.state)) _ _ P (λ _. g)
    (λ _. cond_both (length o.bytes == 0) _ _ P (λ _. g)
    (λ _. cond_both (o.at == j.connection.rcv) _ _ P
    (λ _. grows-filled j.connection.held (has_flag seg.head.flags FIN && o.whole) w (delivered o n j) (grows-delivered o n w j g))
    (λ _. grows-waiting o n (has_flag seg.head.flags FIN && o.whole) w j.connection g)))

grows-fin_taken_in : (s : State) (cfg : Cfg) (now : ℕ) (w : Connection) (j : Job) (v : Connection) → GrowsOn w v → GrowsBy w (fin_taken_in s cfg now j v)
grows-fin_taken_in st.Established cfg now w j v g = grows-tells w (on j (record v { state = st.CloseWait })) told.RecvEnd (record { sent = g.sent; acked = g.acked })
grows-fin_taken_in st.FinWait1 cfg now w j v g = record { sent = g.sent; acked = g.acked }
grows-fin_taken_in st.FinWait2 cfg now w j v g = record { sent = g.sent; acked = g.acked }
grows-fin_taken_in _ cfg now w j v g = g

grows-finished : (cfg : Cfg) (h : SegHead) (now : ℕ) (stands : Bool) (w : Connection) (j : Job) → GrowsBy w j → GrowsBy w (finished cfg h now stands j)
unfolding finished fin_taken
grows-finished cfg h now stands w j g =
    cond_both stands _ _ (GrowsBy w) (λ _. grows-fin_taken_in j.connection.state cfg now w j (past_fin j.connection) (record { sent = g.sent; acked = g.acked }))
    (λ _. cond_both (has_flag h.flags FIN && (h.len == 0) && is_past (rcv_nxt j.connection) h.seq) _ _ (GrowsBy w) (λ _. g) (λ _. g))

grows-text : (cfg : Cfg) (n : WireNo) (seg : Seg) (now : ℕ) (w : Connection) (j : Job) → GrowsBy w j → GrowsBy w (text_and_fin cfg n seg now j)
unfolding text_and_fin
grows-text cfg n seg now w j g = grows-finished cfg seg.head now (body cfg n seg j).1 w (body cfg n seg j).0 (grows-body cfg n seg w j g)

-- ## By the state
grows-checked : (cfg : Cfg) (n : WireNo) (seg : Seg) (now : ℕ) (w : Connection) (j : Job) → GrowsBy w j → Grows w (checked cfg n seg now j)
unfolding checked
grows-checked cfg n seg now w j g =
    grows-then w (acceptability cfg seg.head now j) _ (grows-acceptability cfg seg.head now w j g)
    (λ i k. grows-then w (reset cfg seg.head i) _ (grows-reset cfg seg.head w i k)
    (λ i k. grows-then w (synchronize cfg seg.head i) _ (grows-synchronize cfg seg.head w i k)
    (λ i k. grows-then w (unacknowledged seg.head i) _ (grows-unacknowledged seg.head w i k)
    (λ i k. grows-then w (acknowledgement cfg seg.head now i) _ (grows-acknowledgement cfg seg.head now w i k)
    (λ i k. record { then = grows-text cfg n seg now w i k })))))

grows-opening : (cfg : Cfg) (h : SegHead) (now : ℕ) (w : Connection) → w.sent ≡ [] → GrowsBy w (opening cfg h now (start w))
unfolding opening
grows-opening cfg h now w none =
    let empty : length w.sent ≡ 0 = ap length none in
    cond_both (opens h) _ _ (GrowsBy w) (λ _. record { sent = refl; acked = omega arith }) (λ _. record { sent = refl; acked = omega arith })

grows-syn_sent : (cfg : Cfg) (h : SegHead) (w : Connection) → w.una ≤ 1 → GrowsBy w (syn_sent cfg h (start w))
unfolding syn_sent
grows-syn_sent cfg h w first =
    let P : Job → Type 0 = GrowsBy w in
    let same : GrowsOn w w = record { sent = refl; acked = omega arith } in
    cond_both (has_flag h.flags ACK && not (h.ack == number w.iss 1)) _ _ P
    (λ _. cond_both (has_flag h.flags RST) _ _ P (λ _. same) (λ _. same))
    (λ _. cond_both (has_flag h.flags RST) _ _ P
    (λ _. cond_both (has_flag h.flags ACK) _ _ P (λ _. record { sent = refl; acked = omega arith }) (λ _. same))
    (λ _. cond_both (has_flag h.flags SYN && has_flag h.flags ACK) _ _ P (λ _. record { sent = refl; acked = omega arith }) (λ _. same)))

grows-arrived_in : (s : State) (cfg : Cfg) (n : WireNo) (seg : Seg) (now : ℕ) (w : Connection) → w.state ≡ s → IsKept cfg w → HasOpened w → GrowsBy w (arrived_in s cfg n seg now (start w))
grows-arrived_in st.Closed cfg n seg now w is k opened = record { sent = refl; acked = omega arith }
grows-arrived_in st.Listen cfg n seg now w is k opened = grows-opening cfg seg.head now w (opened.listening (ap is_listen is))
grows-arrived_in st.SynSent cfg n seg now w is k opened =
    let one : w.nxt ≡ 1 = k.sound.sender.syn (ap is_syn_sent is) in
    let order : w.una ≤ w.nxt = k.sound.sender.order in
    grows-syn_sent cfg seg.head w (omega arith)
grows-arrived_in _ cfg n seg now w is k opened = (grows-checked cfg n seg now w (start w) (record { sent = refl; acked = omega arith })).then

-- ## The send queue
left_by : (w v : Connection) → GrowsOn w v → send_queue v ≡ drop (acked_data v - acked_data w) (send_queue w)
left_by w v g =
    let A : ℕ = acked_data w in
    let B : ℕ = acked_data v in
    let most : A ≤ B = g.acked in
    let sum : A + (B - A) ≡ B = omega arith in
    sym (drop_min (v.una - 1) v.sent)
    ∙ ap (drop B) g.sent
    ∙ ap (λ (m : ℕ). drop m w.sent) (sym sum)
    ∙ sym (drop-drop (B - A) A w.sent)
    ∙ ap (drop (B - A)) (drop_min (w.una - 1) w.sent)

pub queue-left : (cfg : Cfg) (now : ℕ) (w : Connection) (n : WireNo) (seg : Seg) → IsKept cfg w → HasOpened w → send_queue (step cfg w (inputs.Segment n seg) now).connection ≡ drop (acked_data (step cfg w (inputs.Segment n seg) now).connection - acked_data w) (send_queue w)
unfolding step stepped arrived
queue-left cfg now w n seg k opened =
    left_by w (arrived_in w.state cfg n seg now (start w)).connection (grows-arrived_in w.state cfg n seg now w refl k opened)
