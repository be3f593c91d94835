-- The acknowledgement of a segment over numbers stands for that of the connection.
use Rattle.std.proofs.Common.{◌≡◌, ℕ, ◌+◌, ◌-◌, ◌^◌, ◌<◌, ◌≤◌, Bool, true, false, if◌then◌else◌, List, [], ◌∷◌, ◌++◌, length, arith, refl, ap, sym, subst, ◌∙◌}
use Rattle.std.specs.Prelude.{nat_lt, ◌&&◌, ◌||◌, ◌==◌, not, min, Some}
use Rattle.std.proofs.lemmas.Bool.{cond_both}
use Rattle.ix_base.specs.declared.id.WireNo.{WireNo}
use Rattle.ix_base.specs.declared.segment.Seg.{Seg}
use Rattle.ix_base.specs.declared.segment.SegHead.{SegHead}
use Rattle.ix_base.specs.Sequence.{ahead, is_past, is_at_or_past}
use Rattle.ix_tcpdef.specs.Ticks.{later}
use Rattle.ix_tcpdef.specs.Connection.{snd_una, snd_nxt, acked_data, queued, room, is_closed, is_syn_received, on, gives}
use Rattle.ix_tcpdef.specs.Frames.{ack_frame, reset_frame}
use Rattle.ix_tcpdef.specs.Arrival.{Goes, Stops, ◌>>=◌}
use Rattle.ix_tcpdef.specs.Acknowledgement.{is_duplicate, duplicated, advanced, is_newer, unpersisted, windowed, established, establishing, too_far, acked, told_sent, fin_acked_in, fin_acked, synchronized, acknowledgement}
use Rattle.ix_tcpdef.specs.Needs.{carries}
use Rattle.ix_tcpdef.specs.Sound.{IsKept, bit, HasOpened}
use Rattle.ix_tcpin.proofs.PositionLemmas.{advance_most, finds_position}
use Rattle.ix_tcpdef.specs.Delivered.{expects}
use Rattle.ix_tcpdef.specs.declared.types.Cfg.{Cfg}
use Rattle.ix_tcpdef.specs.declared.types.State.{State}
use Rattle.ix_tcpdef.specs.declared.types.State.TheVariants as st
use Rattle.ix_tcpdef.specs.declared.types.Connection.{Connection}
use Rattle.ix_tcpdef.specs.declared.types.Job.{Job}
use Rattle.ix_tcpdef.specs.declared.types.Output.{Output}
use Rattle.ix_tcpdef.specs.declared.types.Output.TheVariants as outputs
use Rattle.ix_tcpdef.specs.declared.types.Tcb.{Tcb}
use Rattle.ix_tcpdef.specs.declared.types.Told.{Told}
use Rattle.ix_tcpdef.specs.declared.types.Told.TheVariants as told
use Rattle.ix_tcpdef.specs.Stands.{tcb_of}
use Rattle.ix_tcpin.specs.Heads.{ack_head, reset_head}
use Rattle.ix_tcpin.specs.Work as at_work
use Rattle.ix_tcpin.specs.Work.{Work, work, Course, Onward, Done, along, work_of, replies, announces, ends}
use Rattle.ix_tcpin.specs.Verdict.{is_end}
use Rattle.ix_tcpin.specs.Acknowledgement.{established_numbers, establishing_part, too_far_part, acked_bytes, acked_numbers, sent_part, fin_acked_part_in, fin_acked_part, counts, synchronized_part, acknowledgement_part}
use Rattle.ix_tcpin.proofs.Relation.{so_far, at, SameText, Agrees, Says, Leads, first-more, last-more, says-answered, says-ended}
use Rattle.ix_tcpin.proofs.CheckLemmas.{says-ack}
use Rattle.ix_tcpin.proofs.NumberLemmas.{IsFlying, flight_test, flies-acked, same-acked, acked-acked}

-- the segment goes on: what stands for what
pub record Stays (w : Connection) (k : Work) (j : Job) : Type 0 where
  pub events : List Told
  pub is : k ≡ at w j events
  pub agrees : Agrees w j events

pub flying : (cfg : Cfg) (w : Connection) → IsKept cfg w → IsFlying w
flying cfg w k = record { order = k.sound.sender.order; near = by_fin w.fin_sent k.sound.sender.flight }
  where
    by_fin : (b : Bool) → w.nxt ≤ w.una + 65535 + bit b → w.nxt ≤ w.una + 65536
    by_fin true h = omega arith
    by_fin false h = omega arith

-- ## SYN-RECEIVED
same-established : (h : SegHead) (w : Connection) → w.una ≡ 0 → w.nxt ≡ 1 → h.ack < 2 ^ 32 → w.una + ahead (snd_una w) h.ack ≤ w.nxt → established_numbers h (tcb_of w) ≡ tcb_of (established h w)
same-established h w una nxt fits most =
    let none : w.una - 1 ≡ w.una + ahead (snd_una w) h.ack - 1 = omega arith in
    ap (λ (u : ℕ). record (tcb_of (established h w)) { una = u; queued = queued w }) (sym (finds_position w.iss w.una h.ack fits))
    ∙ ap (λ (p : ℕ). record (tcb_of (established h w)) { queued = length w.sent - min p (length w.sent) }) none

acked-established : (h : SegHead) (w : Connection) → w.una ≡ 0 → w.nxt ≡ 1 → w.una + ahead (snd_una w) h.ack ≤ w.nxt → acked_data (established h w) ≡ acked_data w
acked-established h w una nxt most =
    let none : w.una + ahead (snd_una w) h.ack - 1 ≡ w.una - 1 = omega arith in
    ap (λ (p : ℕ). min p (length w.sent)) none

-- one more event
announced : (w : Connection) (j : Job) (es : List Told) (c : Connection) (t : Told) → is_end t ≡ false → Agrees w j es → SameText w c → is_closed c.state ≡ false → Agrees w (gives (on j c) (outputs.Told t)) (es ++ t ∷ [])
announced w j es c t other a same alive =
    record {
      same = same;
      first = first-more es t other ∙ ap (λ (l : List Output). l ++ outputs.Told t ∷ []) a.first;
      last = last-more es t other ∙ a.last;
      before = a.before;
      alive = alive;
    }

same_text : (w v : Connection) → SameText w v → SameText w v
same_text w v s = record { pieces = s.pieces; held = s.held; rcv = s.rcv; irs = s.irs; accepted = s.accepted }

leads-establishing : (h : SegHead) (w : Connection) (n : WireNo) (seg : Seg) (j : Job) (es : List Told) → Agrees w j es → IsFlying j.connection → j.connection.una ≡ 0 → j.connection.nxt ≡ 1 → h.ack < 2 ^ 32 → Leads (Stays w) (Says w n seg) (establishing_part h (at w j es)) (establishing h j)
unfolding establishing_part establishing
leads-establishing h w n seg j es a f una nxt fits =
    by_tests (is_past (snd_una j.connection) h.ack) (is_past (snd_nxt j.connection) h.ack) refl refl
  where
    by_tests : (b c : Bool) → is_past (snd_una j.connection) h.ack ≡ b → is_past (snd_nxt j.connection) h.ack ≡ c → Leads (Stays w) (Says w n seg) (if b && not c then Onward (announces (at_work.on (at w j es) (established_numbers h (tcb_of j.connection))) told.Knock) else Done (replies (at w j es) (reset_head (tcb_of j.connection) h))) (if b && not c then Goes (gives (on j (established h j.connection)) (outputs.Told told.Knock)) else Stops (gives j (reset_frame j.connection h)))
    by_tests false c p q = says-answered w n seg j es j.connection (Some (reset_head (tcb_of j.connection) h)) a a.same a.alive refl
    by_tests true true p q = says-answered w n seg j es j.connection (Some (reset_head (tcb_of j.connection) h)) a a.same a.alive refl
    by_tests true false p q =
        let most : j.connection.una + ahead (snd_una j.connection) h.ack ≤ j.connection.nxt = advance_most j.connection.iss j.connection.una j.connection.nxt h.ack f.order f.near p q in
        record {
          events = es ++ told.Knock ∷ [];
          is = ap (λ (t : Tcb). work t (so_far w (acked_data j.connection - acked_data w) (es ++ told.Knock ∷ []))) (same-established h j.connection una nxt fits most)
              ∙ ap (λ (m : ℕ). work (tcb_of (established h j.connection)) (so_far w (m - acked_data w) (es ++ told.Knock ∷ []))) (sym (acked-established h j.connection una nxt most));
          agrees = announced w j es (established h j.connection) told.Knock refl a (record { pieces = a.same.pieces; held = a.same.held; rcv = a.same.rcv; irs = a.same.irs; accepted = a.same.accepted }) refl;
        }

-- ## Later states
-- told of bytes that were acknowledged, or of room
stays-sent : (m : ℕ) (w : Connection) (j : Job) (es : List Told) → Agrees w j es → Stays w (sent_part m (at w j es)) (told_sent m j)
unfolding sent_part told_sent
stays-sent m w j es a = by_tests (nat_lt 0 m || (j.connection.wants && nat_lt 0 (room j.connection))) (j.connection.accepted && not j.connection.shut)
  where
    by_tests : (b c : Bool) → Stays w (if b then (if c then announces (at_work.on (at w j es) (tcb_of (record j.connection { wants = false }))) (told.Sent m (room j.connection)) else at_work.on (at w j es) (tcb_of (record j.connection { wants = false }))) else at w j es) (if b then (if c then gives (on j (record j.connection { wants = false })) (outputs.Told (told.Sent m (room j.connection))) else on j (record j.connection { wants = false })) else j)
    by_tests false c = record { events = es; is = refl; agrees = a }
    by_tests true false =
        record {
          events = es;
          is = refl;
          agrees = record { same = record { pieces = a.same.pieces; held = a.same.held; rcv = a.same.rcv; irs = a.same.irs; accepted = a.same.accepted }; first = a.first; last = a.last; before = a.before; alive = a.alive };
        }
    by_tests true true =
        record {
          events = es ++ told.Sent m (room j.connection) ∷ [];
          is = refl;
          agrees = announced w j es (record j.connection { wants = false }) (told.Sent m (room j.connection)) refl a (record { pieces = a.same.pieces; held = a.same.held; rcv = a.same.rcv; irs = a.same.irs; accepted = a.same.accepted }) a.alive;
        }

flies-sent : (m : ℕ) (j : Job) → IsFlying j.connection → IsFlying (told_sent m j).connection
unfolding told_sent
flies-sent m j f =
    cond_both (nat_lt 0 m || (j.connection.wants && nat_lt 0 (room j.connection))) _ _ (λ (r : Job). IsFlying r.connection)
    (λ _. cond_both (j.connection.accepted && not j.connection.shut) _ _ (λ (r : Job). IsFlying r.connection) (λ _. record { order = f.order; near = f.near }) (λ _. record { order = f.order; near = f.near }))
    (λ _. f)

-- the own FIN is acknowledged
stays-state : (w : Connection) (j : Job) (es : List Told) (c : Connection) → Agrees w j es → SameText w c → is_closed c.state ≡ false → Agrees w (on j c) es
stays-state w j es c a same alive = record { same = same; first = a.first; last = a.last; before = a.before; alive = alive }

leads-fin_acked_in : (s : State) (cfg : Cfg) (now : ℕ) (w : Connection) (n : WireNo) (seg : Seg) (j : Job) (es : List Told) → Agrees w j es → Leads (Stays w) (Says w n seg) (fin_acked_part_in s cfg now (at w j es)) (fin_acked_in s cfg now j)
leads-fin_acked_in st.FinWait1 cfg now w n seg j es a =
    record { events = es; is = refl; agrees = stays-state w j es (record j.connection { state = st.FinWait2 }) a (record { pieces = a.same.pieces; held = a.same.held; rcv = a.same.rcv; irs = a.same.irs; accepted = a.same.accepted }) refl }
leads-fin_acked_in st.Closing cfg now w n seg j es a =
    record { events = es; is = refl; agrees = stays-state w j es (record j.connection { state = st.TimeWait; deadline = Some (later now cfg.time_wait) }) a (record { pieces = a.same.pieces; held = a.same.held; rcv = a.same.rcv; irs = a.same.irs; accepted = a.same.accepted }) refl }
leads-fin_acked_in st.LastAck cfg now w n seg j es a = says-ended w n seg j es es j.outputs a a.first a.last
leads-fin_acked_in _ cfg now w n seg j es a = record { events = es; is = refl; agrees = a }

leads-fin_acked : (cfg : Cfg) (now : ℕ) (w : Connection) (n : WireNo) (seg : Seg) (j : Job) (es : List Told) → Agrees w j es → IsFlying j.connection → Leads (Stays w) (Says w n seg) (fin_acked_part cfg now (at w j es)) (fin_acked cfg now j)
unfolding fin_acked_part fin_acked
leads-fin_acked cfg now w n seg j es a f = rw (flight_test j.connection f) (by_test (j.connection.fin_sent && (j.connection.una == j.connection.nxt)))
  where
    by_test : (b : Bool) → Leads (Stays w) (Says w n seg) (if b then fin_acked_part_in j.connection.state cfg now (at w j es) else Onward (at w j es)) (if b then fin_acked_in j.connection.state cfg now j else Goes j)
    by_test true = leads-fin_acked_in j.connection.state cfg now w n seg j es a
    by_test false = record { events = es; is = refl; agrees = a }

-- what follows on numbers that stand for a connection
leads-stays : (cfg : Cfg) (now : ℕ) (w : Connection) (n : WireNo) (seg : Seg) (k : Work) (j : Job) → Stays w k j → IsFlying j.connection → Leads (Stays w) (Says w n seg) (fin_acked_part cfg now k) (fin_acked cfg now j)
leads-stays cfg now w n seg k j s f =
    subst (λ (x : Work). Leads (Stays w) (Says w n seg) (fin_acked_part cfg now x) (fin_acked cfg now j)) (sym s.is) (leads-fin_acked cfg now w n seg j s.events s.agrees f)

-- where the text stays as it was
record KeepsText (w v : Connection) : Type 0 where
  pieces : v.pieces ≡ w.pieces
  held : v.held ≡ w.held
  rcv : v.rcv ≡ w.rcv
  irs : v.irs ≡ w.irs
  accepted : v.accepted ≡ w.accepted
  state : v.state ≡ w.state

keeps-then : (u v w : Connection) → KeepsText u v → KeepsText v w → KeepsText u w
keeps-then u v w a b =
    record { pieces = b.pieces ∙ a.pieces; held = b.held ∙ a.held; rcv = b.rcv ∙ a.rcv; irs = b.irs ∙ a.irs; accepted = b.accepted ∙ a.accepted; state = b.state ∙ a.state }

keeps-duplicated : (h : SegHead) (w : Connection) → KeepsText w (duplicated h w)
unfolding duplicated
keeps-duplicated h w =
    cond_both (not (is_duplicate h w)) _ _ (KeepsText w) (λ _. record { pieces = refl; held = refl; rcv = refl; irs = refl; accepted = refl; state = refl })
    (λ _. cond_both w.recovering _ _ (KeepsText w) (λ _. record { pieces = refl; held = refl; rcv = refl; irs = refl; accepted = refl; state = refl })
    (λ _. cond_both (w.dups == 2) _ _ (KeepsText w) (λ _. record { pieces = refl; held = refl; rcv = refl; irs = refl; accepted = refl; state = refl }) (λ _. record { pieces = refl; held = refl; rcv = refl; irs = refl; accepted = refl; state = refl })))

keeps-advanced : (cfg : Cfg) (h : SegHead) (now : ℕ) (w : Connection) → KeepsText w (advanced cfg h now w)
unfolding advanced
keeps-advanced cfg h now w =
    cond_both (is_past (snd_una w) h.ack) _ _ (KeepsText w) (λ _. record { pieces = refl; held = refl; rcv = refl; irs = refl; accepted = refl; state = refl }) (λ _. record { pieces = refl; held = refl; rcv = refl; irs = refl; accepted = refl; state = refl })

keeps-windowed : (h : SegHead) (before : ℕ) (w : Connection) → KeepsText w (windowed h before w)
unfolding windowed
keeps-windowed h before w = by_tests (not (is_at_or_past before h.ack && is_newer h w)) (nat_lt 0 h.window && (w.una == w.nxt))
  where
    by_tests : (a b : Bool) → KeepsText w (if a then w else if b then unpersisted (record w { wnd = h.window; wl1 = h.seq; wl2 = h.ack }) else record w { wnd = h.window; wl1 = h.seq; wl2 = h.ack })
    by_tests true b = record { pieces = refl; held = refl; rcv = refl; irs = refl; accepted = refl; state = refl }
    by_tests false true = record { pieces = refl; held = refl; rcv = refl; irs = refl; accepted = refl; state = refl }
    by_tests false false = record { pieces = refl; held = refl; rcv = refl; irs = refl; accepted = refl; state = refl }

keeps-acked : (cfg : Cfg) (h : SegHead) (now : ℕ) (w : Connection) → KeepsText w (acked cfg h now w)
keeps-acked cfg h now w =
    keeps-then _ _ _ (keeps-duplicated h w) (keeps-then _ _ _ (keeps-advanced cfg h now (duplicated h w)) (keeps-windowed h (snd_una w) (advanced cfg h now (duplicated h w))))

leads-synchronized : (cfg : Cfg) (h : SegHead) (now : ℕ) (w : Connection) (n : WireNo) (seg : Seg) (j : Job) (es : List Told) → Agrees w j es → acked_data j.connection ≡ acked_data w → IsFlying j.connection → 1 ≤ j.connection.una → h.ack < 2 ^ 32 → Leads (Stays w) (Says w n seg) (synchronized_part cfg h now (at w j es)) (synchronized cfg h now j)
unfolding synchronized_part synchronized too_far_part too_far
leads-synchronized cfg h now w n seg j es a even f least fits = by_test (is_past (snd_nxt j.connection) h.ack) refl
  where
    by_test : (b : Bool) → is_past (snd_nxt j.connection) h.ack ≡ b → Leads (Stays w) (Says w n seg) (along (if b then Done (replies (at w j es) (ack_head cfg (tcb_of j.connection))) else Onward (at w j es)) (λ (k : Work). fin_acked_part cfg now (sent_part (acked_bytes h k.numbers) (counts (acked_bytes h k.numbers) (at_work.on k (acked_numbers cfg h now k.numbers)))))) ((if b then Stops (gives j (ack_frame cfg j.connection)) else Goes j) >>= (λ (j : Job). fin_acked cfg now (told_sent (acked_data (acked cfg h now j.connection) - acked_data j.connection) (on j (acked cfg h now j.connection)))))
    by_test true p = says-ack cfg w n seg j es a
    by_test false p =
        let c : Connection = acked cfg h now j.connection in
        let m : ℕ = acked_data c - acked_data j.connection in
        let t : KeepsText j.connection c = keeps-acked cfg h now j.connection in
        let count : acked_bytes h (tcb_of j.connection) ≡ m = acked-acked cfg h now j.connection least in
        let numbers : acked_numbers cfg h now (tcb_of j.connection) ≡ tcb_of c = same-acked cfg h now j.connection f least fits p in
        let agrees : Agrees w (on j c) es = stays-state w j es c a (record { pieces = t.pieces ∙ a.same.pieces; held = t.held ∙ a.same.held; rcv = t.rcv ∙ a.same.rcv; irs = t.irs ∙ a.same.irs; accepted = t.accepted ∙ a.same.accepted }) (ap is_closed t.state ∙ a.alive) in
        let is : work (acked_numbers cfg h now (tcb_of j.connection)) (so_far w (acked_bytes h (tcb_of j.connection)) es) ≡ at w (on j c) es =
        ap (λ (x : Tcb). work x (so_far w (acked_bytes h (tcb_of j.connection)) es)) numbers
        ∙ ap (λ (x : ℕ). work (tcb_of c) (so_far w x es)) (count ∙ ap (λ (x : ℕ). acked_data c - x) even) in
        let begin : Stays w (sent_part m (at w (on j c) es)) (told_sent m (on j c)) = stays-sent m w (on j c) es agrees in
        let stays : Stays w (sent_part (acked_bytes h (tcb_of j.connection)) (work (acked_numbers cfg h now (tcb_of j.connection)) (so_far w (acked_bytes h (tcb_of j.connection)) es))) (told_sent m (on j c)) =
        subst (λ (x : Work). Stays w x (told_sent m (on j c))) (sym (ap (λ (x : Work). sent_part (acked_bytes h (tcb_of j.connection)) x) is ∙ ap (λ (x : ℕ). sent_part x (at w (on j c) es)) count)) begin in
        leads-stays cfg now w n seg _ _ stays (flies-sent m (on j c) (flies-acked cfg h now j.connection f p))

-- ## By the state
leads-acknowledgement_in : (s : State) (cfg : Cfg) (h : SegHead) (now : ℕ) (w : Connection) (n : WireNo) (seg : Seg) (j : Job) (es : List Told) → j.connection.state ≡ s → expects s ≡ true → Agrees w j es → acked_data j.connection ≡ acked_data w → IsKept cfg j.connection → HasOpened j.connection → h.ack < 2 ^ 32 → Leads (Stays w) (Says w n seg) (if is_syn_received s then establishing_part h (at w j es) else synchronized_part cfg h now (at w j es)) (if is_syn_received s then establishing h j else synchronized cfg h now j)
leads-acknowledgement_in st.Listen cfg h now w n seg j es is checked a even k opened fits = cc
leads-acknowledgement_in st.SynSent cfg h now w n seg j es is checked a even k opened fits = cc
leads-acknowledgement_in st.Closed cfg h now w n seg j es is checked a even k opened fits = cc
leads-acknowledgement_in st.SynReceived cfg h now w n seg j es is checked a even k opened fits =
    let begun : (j.connection.una ≡ 0) × (j.connection.nxt ≡ 1) = opened.synchronizing (ap is_syn_received is) in
    leads-establishing h w n seg j es a (flying cfg j.connection k) begun.0 begun.1 fits
leads-acknowledgement_in _ cfg h now w n seg j es is checked a even k opened fits =
    leads-synchronized cfg h now w n seg j es a even (flying cfg j.connection k) (k.sound.sender.stream (ap carries is)) fits

pub leads-acknowledgement : (cfg : Cfg) (h : SegHead) (now : ℕ) (w : Connection) (n : WireNo) (seg : Seg) (j : Job) (es : List Told) → expects j.connection.state ≡ true → Agrees w j es → acked_data j.connection ≡ acked_data w → IsKept cfg j.connection → HasOpened j.connection → h.ack < 2 ^ 32 → Leads (Stays w) (Says w n seg) (acknowledgement_part cfg h now (at w j es)) (acknowledgement cfg h now j)
unfolding acknowledgement_part acknowledgement
leads-acknowledgement cfg h now w n seg j es checked a even k opened fits =
    leads-acknowledgement_in j.connection.state cfg h now w n seg j es refl checked a even k opened fits
