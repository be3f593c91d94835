-- Positions go onward, over every step.
use Rattle.std.proofs.Common.{◌≡◌, ℕ, ◌+◌, ◌-◌, ◌^◌, ◌<◌, ◌≤◌, Bool, true, false, if◌then◌else◌, length, drop, List, [], ◌∷◌, arith, refl, sym, ap, subst, ◌∙◌, length-drop}
use Rattle.std.specs.Prelude.{nat_lt, nat_le, ◌&&◌, ◌||◌, ◌==◌, not, is_none}
use Rattle.std.specs.List.{list_all}
use Rattle.std.proofs.lemmas.Bool.{cond_both}
use Rattle.std.proofs.lemmas.Grind.{common_steps}
use Rattle.ix_base.specs.declared.id.WireNo.{WireNo}
use Rattle.ix_base.specs.declared.segment.Seg.{Seg}
use Rattle.ix_base.specs.declared.segment.SegHead.{SegHead}
use Rattle.ix_base.specs.Sequence.{number, ahead, is_past, is_at_or_past}
use Rattle.ix_base.specs.Flags.{has_flag}
use Rattle.ix_tcpdef.specs.Connection.{snd_una, snd_nxt, rcv_nxt, rcv_wnd, seq_of, room, acked_data, is_listen, is_syn_sent, is_syn_received, is_time_wait, on, gives, tells, ended}
use Rattle.ix_tcpdef.specs.Frames.{ack_frame, reset_frame}
use Rattle.ix_tcpdef.specs.Arrival.{Next, Goes, Stops, ◌>>=◌, job_of, span, is_acceptable, acceptability, reset, synchronize, unacknowledged}
use Rattle.ix_tcpdef.specs.Acknowledgement.{established, establishing, too_far, is_duplicate, duplicated, advanced, is_newer, windowed, told_sent, fin_acked_in, fin_acked, acked, synchronized, acknowledgement}
use Rattle.ix_tcpdef.specs.Body.{octets, delivered, rest_of, holding, filled, is_apart, waiting, received, takes_body, body, fin_taken_in, fin_taken, past_fin, finished, text_and_fin}
use Rattle.ix_tcpdef.specs.Opening.{opens, opening, connecting, syn_sent}
use Rattle.ix_tcpdef.specs.Calls.{is_live, accept, is_open, sendv, recv_done, persists, close, answered, is_connect, called}
use Rattle.ix_tcpdef.specs.Flush.{unsent, resends, resent, sends, data_sent, fin_sent, ack_sent, waits_for_window, armed, flushed, is_due, timed_out, collapsed_in, collapsed, retransmitted, probed, expired}
use Rattle.ix_tcpdef.specs.Step.{checked, arrived_in, arrived, is_alive, stepped, step}
use Rattle.ix_tcpdef.specs.Needs.{EndsBy, IsFramed}
use Rattle.ix_tcpdef.specs.Sound.{IsKept, IsWritten, HasWindow}
use Rattle.ix_tcpdef.specs.Delivered.{expects}
use Rattle.ix_tcpdef.specs.Onward.{knows_peer, MovesOn, GoesOnward, StepsGoOnward, FollowsNumbers}
use Rattle.ix_tcpdef.proofs.NumberLemmas.{advance_most}
use Rattle.ix_tcpdef.proofs.KeptAck.{in_flight, kept-acknowledgement}
use Rattle.ix_tcpdef.proofs.KeptArrival.{IsUnchanged, LeavesKept, passes-acceptability, passes-reset, passes-synchronize, passes-unacknowledged}
use Rattle.ix_tcpdef.proofs.KeptBody.{octets-lie}
use Rattle.ix_tcpdef.proofs.KeptCalls.{listen-is}
use Rattle.ix_tcpdef.proofs.KeptStep.{kept-step}
use Rattle.ix_tcpdef.specs.declared.types.Ask.{Ask}
use Rattle.ix_tcpdef.specs.declared.types.Ask.TheVariants as asks
use Rattle.ix_tcpdef.specs.declared.types.Cfg.{Cfg}
use Rattle.ix_tcpdef.specs.declared.types.Connection.{Connection}
use Rattle.ix_tcpdef.specs.declared.types.HeldSegment.{HeldSegment}
use Rattle.ix_tcpdef.specs.declared.types.Input.{Input}
use Rattle.ix_tcpdef.specs.declared.types.Input.TheVariants as inputs
use Rattle.ix_tcpdef.specs.declared.types.Job.{Job}
use Rattle.ix_tcpdef.specs.declared.types.Octets.{Octets}
use Rattle.ix_tcpdef.specs.declared.types.Output.TheVariants as outputs
use Rattle.ix_tcpdef.specs.declared.types.State.{State}
use Rattle.ix_tcpdef.specs.declared.types.State.TheVariants as st
use Rattle.ix_tcpdef.specs.declared.types.Told.{Told}
use Rattle.ix_tcpdef.specs.declared.types.Told.TheVariants as told
use Rattle.ix_base.specs.declared.segment.TheConstants.{ACK, FIN, RST, SYN}

pub follows_numbers : FollowsNumbers
follows_numbers start p q m =
    let from : p ≤ q = m.from in
    let to : q < p + 2 ^ 32 = m.to in
    omega arith

-- ## Between SND.UNA and SND.NXT
-- Where a step under way may have brought a connection: SND.UNA is not past what was sent, SND.NXT not before it, and RCV.NXT lies up to top.
record Reaches (old : Connection) (top iss irs una nxt rcv : ℕ) : Type 0 where
  iss_is : iss ≡ old.iss
  irs_is : irs ≡ old.irs
  una_from : old.una ≤ una
  una_to : una ≤ old.nxt
  nxt_from : old.nxt ≤ nxt
  rcv_from : old.rcv ≤ rcv
  rcv_to : rcv ≤ top

abbrev Reached : Connection → ℕ → Connection → Type 0
Reached old top w = Reaches old top w.iss w.irs w.una w.nxt w.rcv

abbrev At : Connection → ℕ → Job → Type 0
At old top j = Reached old top j.connection

reached-first : (cfg : Cfg) (w : Connection) → IsKept cfg w → Reached w w.rcv w
reached-first cfg w k =
    let order : w.una ≤ w.nxt = k.sound.sender.order in
    record { iss_is = refl; irs_is = refl; una_from = omega arith; una_to = order; nxt_from = omega arith; rcv_from = omega arith; rcv_to = omega arith }

reached-higher : (old : Connection) (low top : ℕ) (w : Connection) → low ≤ top → Reached old low w → Reached old top w
reached-higher old low top w higher r =
    let to : w.rcv ≤ low = r.rcv_to in
    record { iss_is = r.iss_is; irs_is = r.irs_is; una_from = r.una_from; una_to = r.una_to; nxt_from = r.nxt_from; rcv_from = r.rcv_from; rcv_to = omega arith }

at-tells : (old : Connection) (top : ℕ) (j : Job) (t : Told) → At old top j → At old top (tells j t)
at-tells old top j t p = cond_both (j.connection.accepted && not j.connection.shut) _ _ (At old top) (λ _. p) (λ _. p)

-- ## The checks of a segment
-- a check that lets a segment go on leaves the job as it was
at-then : (old : Connection) (top : ℕ) (j : Job) (n : Next) (f : Job → Next) → IsUnchanged j n → At old top (job_of n) → At old top (job_of (f j)) → At old top (job_of (n >>= f))
at-then old top j (Goes i) f same p more = subst (λ (v : Job). At old top (job_of (f v))) (sym same) more
at-then old top j (Stops i) f same p more = p

abbrev Leaves : Connection → ℕ → Next → Type 0
Leaves old top n = At old top (job_of n)

at-acceptability : (old : Connection) (top : ℕ) (cfg : Cfg) (h : SegHead) (now : ℕ) (j : Job) → At old top j → Leaves old top (acceptability cfg h now j)
unfolding acceptability
at-acceptability old top cfg h now j p =
    let P : Next → Type 0 = Leaves old top in
    cond_both (is_acceptable (span h) (rcv_wnd cfg j.connection) (seq_of j.connection h)) _ _ P (λ _. p)
    (λ _. cond_both (has_flag h.flags RST) _ _ P (λ _. p)
    (λ _. cond_both (has_flag h.flags FIN && is_time_wait j.connection.state) _ _ P (λ _. p) (λ _. p)))

at-reset : (old : Connection) (top : ℕ) (cfg : Cfg) (h : SegHead) (j : Job) → At old top j → Leaves old top (reset cfg h j)
unfolding reset
at-reset old top cfg h j p =
    let P : Next → Type 0 = Leaves old top in
    cond_both (not (has_flag h.flags RST)) _ _ P (λ _. p)
    (λ _. cond_both (h.seq == rcv_nxt j.connection) _ _ P (λ _. at-tells old top (on j (ended j.connection)) told.DeadReset p) (λ _. p))

at-synchronize : (old : Connection) (top : ℕ) (cfg : Cfg) (h : SegHead) (j : Job) → At old top j → Leaves old top (synchronize cfg h j)
unfolding synchronize
at-synchronize old top cfg h j p =
    let P : Next → Type 0 = Leaves old top in
    cond_both (not (has_flag h.flags SYN)) _ _ P (λ _. p)
    (λ _. cond_both (is_syn_received j.connection.state) _ _ P (λ _. p) (λ _. p))

at-unacknowledged : (old : Connection) (top : ℕ) (h : SegHead) (j : Job) → At old top j → Leaves old top (unacknowledged h j)
unfolding unacknowledged
at-unacknowledged old top h j p = cond_both (has_flag h.flags ACK) _ _ (Leaves old top) (λ _. p) (λ _. p)

-- ## The acknowledgement
-- SND.UNA goes to a number that was sent
at-moved : (old : Connection) (x : ℕ) → old.una ≤ old.nxt → old.nxt ≤ old.una + 65536 → is_past (snd_una old) x ≡ true → is_past (snd_nxt old) x ≡ false → Reaches old old.rcv old.iss old.irs (old.una + ahead (snd_una old) x) old.nxt old.rcv
at-moved old x order near past sent =
    let most : old.una + ahead (snd_una old) x ≤ old.nxt = advance_most old.iss old.una old.nxt x order near past sent in
    record { iss_is = refl; irs_is = refl; una_from = omega arith; una_to = most; nxt_from = omega arith; rcv_from = omega arith; rcv_to = omega arith }

at-establishing : (cfg : Cfg) (h : SegHead) (j : Job) → IsKept cfg j.connection → Leaves j.connection j.connection.rcv (establishing h j)
unfolding establishing
at-establishing cfg h j k = by_tests (is_past (snd_una j.connection) h.ack) (is_past (snd_nxt j.connection) h.ack) refl refl
  where
    by_tests : (a b : Bool) → is_past (snd_una j.connection) h.ack ≡ a → is_past (snd_nxt j.connection) h.ack ≡ b → Leaves j.connection j.connection.rcv (if a && not b then Goes (gives (on j (established h j.connection)) (outputs.Told told.Knock)) else Stops (gives j (reset_frame j.connection h)))
    by_tests true false past sent = at-moved j.connection h.ack k.sound.sender.order (in_flight _ _ _ k.sound.sender.flight) past sent
    by_tests true true past sent = reached-first cfg j.connection k
    by_tests false b past sent = reached-first cfg j.connection k

-- the numbers are those of the connection as it was
record Stands (old : Connection) (iss irs una nxt rcv : ℕ) : Type 0 where
  iss_is : iss ≡ old.iss
  irs_is : irs ≡ old.irs
  una_is : una ≡ old.una
  nxt_is : nxt ≡ old.nxt
  rcv_is : rcv ≡ old.rcv

abbrev Stood : Connection → Connection → Type 0
Stood old w = Stands old w.iss w.irs w.una w.nxt w.rcv

stood-duplicated : (h : SegHead) (w : Connection) → Stood w (duplicated h w)
unfolding duplicated
stood-duplicated h w =
    let same : Stood w w = record { iss_is = refl; irs_is = refl; una_is = refl; nxt_is = refl; rcv_is = refl } in
    let P : Connection → Type 0 = Stood w in
    cond_both (not (is_duplicate h w)) _ _ P (λ _. same)
    (λ _. cond_both w.recovering _ _ P (λ _. same) (λ _. cond_both (w.dups == 2) _ _ P (λ _. same) (λ _. same)))

reached-advanced : (cfg : Cfg) (h : SegHead) (now : ℕ) (old w : Connection) → Stood old w → is_past (snd_nxt old) h.ack ≡ false → IsKept cfg old → Reached old old.rcv (advanced cfg h now w)
unfolding advanced
reached-advanced cfg h now old w s sent k =
    let order : old.una ≤ old.nxt = k.sound.sender.order in
    let una : w.una ≡ old.una = s.una_is in
    let nxt : w.nxt ≡ old.nxt = s.nxt_is in
    let rcv : w.rcv ≡ old.rcv = s.rcv_is in
    let base : snd_una w ≡ snd_una old = ap (λ n. number n w.una) s.iss_is ∙ ap (λ n. number old.iss n) s.una_is in
    cond_both (is_past (snd_una w) h.ack) _ _ (Reached old old.rcv)
    (λ past.
    let octets : ahead (snd_una w) h.ack ≡ ahead (snd_una old) h.ack = ap (λ n. ahead n h.ack) base in
    let most : old.una + ahead (snd_una old) h.ack ≤ old.nxt =
    advance_most old.iss old.una old.nxt h.ack order (in_flight old.una old.nxt old.fin_sent k.sound.sender.flight) (sym (ap (λ n. is_past n h.ack) base) ∙ past) sent in
    record { iss_is = s.iss_is; irs_is = s.irs_is; una_from = omega (arith, una); una_to = omega (arith, una, octets, most); nxt_from = omega (arith, nxt); rcv_from = omega (arith, rcv); rcv_to = omega (arith, rcv) })
    (λ _. record { iss_is = s.iss_is; irs_is = s.irs_is; una_from = omega (arith, una); una_to = omega (arith, una, order); nxt_from = omega (arith, nxt); rcv_from = omega (arith, rcv); rcv_to = omega (arith, rcv) })

reached-windowed : (h : SegHead) (before : ℕ) (old : Connection) (top : ℕ) (w : Connection) → Reached old top w → Reached old top (windowed h before w)
unfolding windowed
reached-windowed h before old top w r =
    cond_both (not (is_at_or_past before h.ack && is_newer h w)) _ _ (Reached old top) (λ _. r)
    (λ _. cond_both (nat_lt 0 h.window && (w.una == w.nxt)) _ _ (Reached old top) (λ _. r) (λ _. r))

reached-acked : (cfg : Cfg) (h : SegHead) (now : ℕ) (w : Connection) → is_past (snd_nxt w) h.ack ≡ false → IsKept cfg w → Reached w w.rcv (acked cfg h now w)
reached-acked cfg h now w sent k =
    reached-windowed h (snd_una w) w w.rcv (advanced cfg h now (duplicated h w)) (reached-advanced cfg h now w (duplicated h w) (stood-duplicated h w) sent k)

at-told_sent : (old : Connection) (top n : ℕ) (j : Job) → At old top j → At old top (told_sent n j)
unfolding told_sent
at-told_sent old top n j p =
    cond_both (nat_lt 0 n || (j.connection.wants && nat_lt 0 (room j.connection))) _ _ (At old top)
    (λ _. at-tells old top (on j (record j.connection { wants = false })) (told.Sent n (room j.connection)) p)
    (λ _. p)

at-fin_acked_in : (s : State) (old : Connection) (top : ℕ) (cfg : Cfg) (now : ℕ) (j : Job) → At old top j → Leaves old top (fin_acked_in s cfg now j)
at-fin_acked_in st.FinWait1 old top cfg now j p = p
at-fin_acked_in st.Closing old top cfg now j p = p
at-fin_acked_in st.LastAck old top cfg now j p = p
at-fin_acked_in _ old top cfg now j p = p

at-fin_acked : (old : Connection) (top : ℕ) (cfg : Cfg) (now : ℕ) (j : Job) → At old top j → Leaves old top (fin_acked cfg now j)
unfolding fin_acked
at-fin_acked old top cfg now j p =
    cond_both (j.connection.fin_sent && (j.connection.una == j.connection.nxt)) _ _ (Leaves old top) (λ _. at-fin_acked_in j.connection.state old top cfg now j p) (λ _. p)

at-synchronized : (cfg : Cfg) (h : SegHead) (now : ℕ) (j : Job) → IsKept cfg j.connection → Leaves j.connection j.connection.rcv (synchronized cfg h now j)
unfolding synchronized too_far
at-synchronized cfg h now j k = by_test (is_past (snd_nxt j.connection) h.ack) refl
  where
    by_test : (a : Bool) → is_past (snd_nxt j.connection) h.ack ≡ a → Leaves j.connection j.connection.rcv ((if a then Stops (gives j (ack_frame cfg j.connection)) else Goes j) >>= (λ j. fin_acked cfg now (told_sent (acked_data (acked cfg h now j.connection) - acked_data j.connection) (on j (acked cfg h now j.connection)))))
    by_test true p = reached-first cfg j.connection k
    by_test false p =
        at-fin_acked j.connection j.connection.rcv cfg now _ (at-told_sent j.connection j.connection.rcv _ (on j (acked cfg h now j.connection)) (reached-acked cfg h now j.connection p k))

at-acknowledgement : (cfg : Cfg) (h : SegHead) (now : ℕ) (j : Job) → IsKept cfg j.connection → Leaves j.connection j.connection.rcv (acknowledgement cfg h now j)
unfolding acknowledgement
at-acknowledgement cfg h now j k =
    cond_both (is_syn_received j.connection.state) _ _ (Leaves j.connection j.connection.rcv)
    (λ _. at-establishing cfg h j k)
    (λ _. at-synchronized cfg h now j k)

-- ## The body and the FIN
at-delivered : (old : Connection) (top : ℕ) (o : Octets) (w : WireNo) (j : Job) → j.connection.rcv + length o.bytes ≤ top → At old top j → At old top (delivered o w j)
unfolding delivered
at-delivered old top o w j reach p =
    let from : old.rcv ≤ j.connection.rcv = p.rcv_from in
    let further : Reaches old top j.connection.iss j.connection.irs j.connection.una j.connection.nxt (j.connection.rcv + length o.bytes) =
    record { iss_is = p.iss_is; irs_is = p.irs_is; una_from = p.una_from; una_to = p.una_to; nxt_from = p.nxt_from; rcv_from = omega arith; rcv_to = reach } in
    cond_both j.connection.shut _ _ (At old top) (λ _. further) (λ _. cond_both j.connection.accepted _ _ (At old top) (λ _. further) (λ _. further))

at-filled : (old : Connection) (top : ℕ) (ss : List HeldSegment) (fin : Bool) (j : Job) → EndsBy top ss → At old top j → At old top (filled ss fin j).0
unfolding filled
at-filled old top [] fin j ends p = p
at-filled old top (s ∷ rest) fin j ends p =
    let P : Job × Bool → Type 0 = λ r. At old top r.0 in
    let len : length (drop (j.connection.rcv - s.at) s.bytes) ≡ length s.bytes - (j.connection.rcv - s.at) = length-drop (j.connection.rcv - s.at) s.bytes in
    let end : s.at + length s.bytes ≤ top = ends.0 in
    cond_both (nat_lt j.connection.rcv s.at) _ _ P (λ _. p)
    (λ after. cond_both (nat_le (s.at + length s.bytes) j.connection.rcv) _ _ P
    (λ _. at-filled old top rest fin (holding rest j) ends.1 p)
    (λ more. at-filled old top rest s.fin (delivered (rest_of s j.connection.rcv) s.w (holding rest j)) ends.1
    (at-delivered old top (rest_of s j.connection.rcv) s.w (holding rest j) (grind (arith, common_steps)) p)))

reached-waiting : (old : Connection) (top : ℕ) (o : Octets) (w : WireNo) (fin : Bool) (c : Connection) → Reached old top c → Reached old top (waiting o w fin c)
unfolding waiting
reached-waiting old top o w fin c p = cond_both (nat_lt (length c.held) 8 && list_all (is_apart o) c.held) _ _ (Reached old top) (λ _. p) (λ _. p)

at-received : (old : Connection) (top : ℕ) (cfg : Cfg) (o : Octets) (w : WireNo) (fin : Bool) (j : Job) → o.at + length o.bytes ≤ top → EndsBy top j.connection.held → At old top j → At old top (received cfg o w fin j).0
unfolding received
at-received old top cfg o w fin j reach ends p =
    cond_both (o.at == j.connection.rcv) _ _ (λ (r : Job × Bool). At old top r.0)
    (λ here. at-filled old top j.connection.held fin (delivered o w j) ends (at-delivered old top o w j (grind (arith, common_steps, here, reach)) p))
    (λ _. reached-waiting old top o w fin j.connection p)

-- up to the end of the window
abbrev window_end : Cfg → Connection → ℕ
window_end cfg w = w.rcv + (cfg.window - w.unread)

at-body : (cfg : Cfg) (w : WireNo) (seg : Seg) (old : Connection) (j : Job) → IsFramed seg → IsKept cfg j.connection → At old (window_end cfg j.connection) j → At old (window_end cfg j.connection) (body cfg w seg j).0
unfolding body
at-body cfg w seg old j framed k p =
    let top : ℕ = window_end cfg j.connection in
    let P : Job × Bool → Type 0 = λ r. At old (window_end cfg j.connection) r.0 in
    let o : Octets = octets j.connection.rcv (rcv_wnd cfg j.connection) (seq_of j.connection seg.head) seg.head.at seg.body in
    cond_both (not (takes_body j.connection.state)) _ _ P (λ _. p)
    (λ _. cond_both (length o.bytes == 0) _ _ P (λ _. p)
    (λ some. at-received old (window_end cfg j.connection) cfg o w _ j (octets-lie cfg seg j.connection framed k.standing.buffer.unread_fits some).within k.standing.buffer.held_fits p))

reached-fin : (old : Connection) (top : ℕ) (w : Connection) → Reached old top w → Reached old (top + 1) (past_fin w)
reached-fin old top w r =
    let from : old.rcv ≤ w.rcv = r.rcv_from in
    let to : w.rcv ≤ top = r.rcv_to in
    record { iss_is = r.iss_is; irs_is = r.irs_is; una_from = r.una_from; una_to = r.una_to; nxt_from = r.nxt_from; rcv_from = omega arith; rcv_to = omega arith }

at-fin_taken_in : (s : State) (old : Connection) (top : ℕ) (cfg : Cfg) (now : ℕ) (j : Job) (w : Connection) → Reached old top w → At old top (fin_taken_in s cfg now j w)
at-fin_taken_in st.Established old top cfg now j w r = at-tells old top (on j (record w { state = st.CloseWait })) told.RecvEnd r
at-fin_taken_in st.FinWait1 old top cfg now j w r = r
at-fin_taken_in st.FinWait2 old top cfg now j w r = r
at-fin_taken_in _ old top cfg now j w r = r

at-finished : (old : Connection) (top : ℕ) (cfg : Cfg) (h : SegHead) (now : ℕ) (stands : Bool) (j : Job) → At old top j → At old (top + 1) (finished cfg h now stands j)
unfolding finished fin_taken
at-finished old top cfg h now stands j p =
    let still : At old (top + 1) j = reached-higher old top (top + 1) j.connection (omega arith) p in
    cond_both stands _ _ (At old (top + 1)) (λ _. at-fin_taken_in j.connection.state old (top + 1) cfg now j (past_fin j.connection) (reached-fin old top j.connection p))
    (λ _. cond_both (has_flag h.flags FIN && (h.len == 0) && is_past (rcv_nxt j.connection) h.seq) _ _ (At old (top + 1)) (λ _. still) (λ _. still))

at-text_and_fin : (cfg : Cfg) (w : WireNo) (seg : Seg) (now : ℕ) (old : Connection) (j : Job) → cfg.window < 2 ^ 16 → IsFramed seg → IsKept cfg j.connection → At old old.rcv j → At old (old.rcv + 65536) (text_and_fin cfg w seg now j)
unfolding text_and_fin
at-text_and_fin cfg w seg now old j small framed k p =
    let from : old.rcv ≤ j.connection.rcv = p.rcv_from in
    let to : j.connection.rcv ≤ old.rcv = p.rcv_to in
    let same : j.connection.rcv ≡ old.rcv = omega arith in
    let higher : window_end cfg j.connection + 1 ≤ old.rcv + 65536 = omega (arith, same, small) in
    reached-higher old (window_end cfg j.connection + 1) (old.rcv + 65536) (finished cfg seg.head now (body cfg w seg j).1 (body cfg w seg j).0).connection higher
    (at-finished old (window_end cfg j.connection) cfg seg.head now (body cfg w seg j).1 (body cfg w seg j).0
    (at-body cfg w seg old j framed k (reached-higher old old.rcv (window_end cfg j.connection) j.connection (omega (arith, same)) p)))

at-last : (cfg : Cfg) (w : WireNo) (seg : Seg) (now : ℕ) (old : Connection) (n : Next) → cfg.window < 2 ^ 16 → IsFramed seg → LeavesKept cfg n → Leaves old old.rcv n → At old (old.rcv + 65536) (job_of (n >>= (λ j. Goes (text_and_fin cfg w seg now j))))
at-last cfg w seg now old (Goes j) small framed k p = at-text_and_fin cfg w seg now old j small framed k.kept p
at-last cfg w seg now old (Stops j) small framed k p = reached-higher old old.rcv (old.rcv + 65536) j.connection (omega arith) p

at-checked : (cfg : Cfg) (w : WireNo) (seg : Seg) (now : ℕ) (j : Job) → cfg.window < 2 ^ 16 → seg.head.window < 2 ^ 16 → IsFramed seg → expects j.connection.state ≡ true → IsKept cfg j.connection → At j.connection (j.connection.rcv + 65536) (job_of (checked cfg w seg now j))
unfolding checked
at-checked cfg w seg now j small window framed known k =
    let top : ℕ = j.connection.rcv + 65536 in
    let first : At j.connection (j.connection.rcv + 65536) j = reached-higher j.connection j.connection.rcv (j.connection.rcv + 65536) j.connection (omega arith) (reached-first cfg j.connection k) in
    at-then j.connection (j.connection.rcv + 65536) j (acceptability cfg seg.head now j) _ (passes-acceptability cfg seg.head now j k).same (at-acceptability j.connection (j.connection.rcv + 65536) cfg seg.head now j first)
    (at-then j.connection (j.connection.rcv + 65536) j (reset cfg seg.head j) _ (passes-reset cfg seg.head j k).same (at-reset j.connection (j.connection.rcv + 65536) cfg seg.head j first)
    (at-then j.connection (j.connection.rcv + 65536) j (synchronize cfg seg.head j) _ (passes-synchronize cfg seg.head j k).same (at-synchronize j.connection (j.connection.rcv + 65536) cfg seg.head j first)
    (at-then j.connection (j.connection.rcv + 65536) j (unacknowledged seg.head j) _ (passes-unacknowledged cfg seg.head j k).same (at-unacknowledged j.connection (j.connection.rcv + 65536) seg.head j first)
    (at-last cfg w seg now j.connection (acknowledgement cfg seg.head now j) small framed (kept-acknowledgement cfg seg.head now j window known k) (at-acknowledgement cfg seg.head now j k)))))

-- ## What is sent
-- SND.NXT alone goes on
record Sends (old : Connection) (iss irs una nxt rcv : ℕ) : Type 0 where
  iss_is : iss ≡ old.iss
  irs_is : irs ≡ old.irs
  una_is : una ≡ old.una
  nxt_from : old.nxt ≤ nxt
  rcv_is : rcv ≡ old.rcv

abbrev Sending : Connection → Connection → Type 0
Sending old w = Sends old w.iss w.irs w.una w.nxt w.rcv

abbrev SendingAt : Connection → Job → Type 0
SendingAt old j = Sending old j.connection

sending-first : (w : Connection) → Sending w w
sending-first w = record { iss_is = refl; irs_is = refl; una_is = refl; nxt_from = omega arith; rcv_is = refl }

sending-more : (old w : Connection) (n : ℕ) → Sending old w → Sends old w.iss w.irs w.una (w.nxt + n) w.rcv
sending-more old w n s =
    let from : old.nxt ≤ w.nxt = s.nxt_from in
    record { iss_is = s.iss_is; irs_is = s.irs_is; una_is = s.una_is; nxt_from = omega arith; rcv_is = s.rcv_is }

sending-tells : (old : Connection) (j : Job) (t : Told) → SendingAt old j → SendingAt old (tells j t)
sending-tells old j t p = cond_both (j.connection.accepted && not j.connection.shut) _ _ (SendingAt old) (λ _. p) (λ _. p)

sending-resent : (old : Connection) (cfg : Cfg) (j : Job) → SendingAt old j → SendingAt old (resent cfg j)
unfolding resent
sending-resent old cfg j p = cond_both (j.connection.resend && resends j.connection.state) _ _ (SendingAt old) (λ _. p) (λ _. p)

sending-data_sent : (old : Connection) (cfg : Cfg) (j : Job) → SendingAt old j → SendingAt old (data_sent cfg j)
unfolding data_sent
sending-data_sent old cfg j p = cond_both (sends j.connection.state) _ _ (SendingAt old) (λ _. sending-more old j.connection _ p) (λ _. p)

sending-fin_sent : (old : Connection) (cfg : Cfg) (j : Job) → SendingAt old j → SendingAt old (fin_sent cfg j)
unfolding fin_sent
sending-fin_sent old cfg j p =
    cond_both (sends j.connection.state && j.connection.fin_wanted && not j.connection.fin_sent && (length (unsent j.connection) == 0)) _ _ (SendingAt old) (λ _. sending-more old j.connection 1 p) (λ _. p)

sending-ack_sent : (old : Connection) (cfg : Cfg) (j : Job) → SendingAt old j → SendingAt old (ack_sent cfg j)
unfolding ack_sent
sending-ack_sent old cfg j p = cond_both (j.connection.ack_owed && (length j.outputs == 0)) _ _ (SendingAt old) (λ _. p) (λ _. p)

sending-armed : (old : Connection) (cfg : Cfg) (now : ℕ) (w : Connection) → Sending old w → Sending old (armed cfg now w)
unfolding armed
sending-armed old cfg now w p =
    cond_both (is_none w.deadline && (nat_lt w.una w.nxt || ((w.una == w.nxt) && waits_for_window w))) _ _ (Sending old) (λ _. p) (λ _. p)

sending-flushed : (old : Connection) (cfg : Cfg) (now : ℕ) (j : Job) → SendingAt old j → SendingAt old (flushed cfg now j)
unfolding flushed
sending-flushed old cfg now j p =
    sending-armed old cfg now _ (sending-ack_sent old cfg _ (sending-fin_sent old cfg _ (sending-data_sent old cfg _ (sending-resent old cfg j p))))

sending-timed_out : (old : Connection) (j : Job) → SendingAt old j → SendingAt old (timed_out j)
unfolding timed_out
sending-timed_out old j p =
    cond_both (is_syn_sent j.connection.state) _ _ (SendingAt old) (λ _. p) (λ _. sending-tells old (on j (ended j.connection)) told.DeadTimeout p)

sending-collapsed_in : (s : State) (old w : Connection) → Sending old w → Sending old (collapsed_in s w)
sending-collapsed_in st.SynSent old w p = p
sending-collapsed_in st.SynReceived old w p = p
sending-collapsed_in _ old w p = p

sending-retransmitted : (old : Connection) (cfg : Cfg) (now : ℕ) (j : Job) → SendingAt old j → SendingAt old (retransmitted cfg now j)
unfolding retransmitted collapsed
sending-retransmitted old cfg now j p =
    cond_both (nat_le cfg.retries (j.connection.expiries + 1)) _ _ (SendingAt old) (λ _. sending-timed_out old j p) (λ _. sending-collapsed_in j.connection.state old j.connection p)

sending-expired : (old : Connection) (cfg : Cfg) (now : ℕ) (j : Job) → SendingAt old j → SendingAt old (expired cfg now j)
unfolding expired probed
sending-expired old cfg now j p =
    cond_both (not (is_due j.connection.deadline now)) _ _ (SendingAt old) (λ _. p)
    (λ _. cond_both (is_time_wait j.connection.state) _ _ (SendingAt old) (λ _. p)
    (λ _. cond_both (nat_lt j.connection.una j.connection.nxt) _ _ (SendingAt old) (λ _. sending-retransmitted old cfg now j p) (λ _. p)))

-- ## Calls
sending-answered : (old : Connection) (cfg : Cfg) (ask : Ask) (j : Job) → SendingAt old j → SendingAt old (answered cfg ask j)
unfolding answered accept sendv recv_done close
sending-answered old cfg asks.Connect j p = p
sending-answered old cfg asks.Accept j p = cond_both j.connection.accepted _ _ (SendingAt old) (λ _. p) (λ _. p)
sending-answered old cfg (asks.Sendv bytes) j p = cond_both (not (j.connection.accepted && is_open j.connection.state)) _ _ (SendingAt old) (λ _. p) (λ _. p)
sending-answered old cfg (asks.RecvDone n) j p =
    cond_both (not j.connection.accepted) _ _ (SendingAt old) (λ _. p) (λ _. cond_both (nat_lt j.connection.unread n) _ _ (SendingAt old) (λ _. p) (λ _. p))
sending-answered old cfg asks.Close j p = cond_both (persists j.connection) _ _ (Sending old) (λ _. p) (λ _. p)

-- ## A step
moves-same : (p : ℕ) (q : ℕ) → q ≡ p → MovesOn p q
moves-same p q e = record { from = omega arith; to = omega arith }

onward-sending : (old w : Connection) → old.una ≤ old.nxt → w.nxt ≤ w.una + 65536 → Sending old w → GoesOnward old w
onward-sending old w order flight s =
    let una : w.una ≡ old.una = s.una_is in
    let from : old.nxt ≤ w.nxt = s.nxt_from in
    record {
      iss = s.iss_is;
      una = λ _. moves-same old.una w.una una;
      nxt = λ _. record { from = from; to = omega arith };
      irs = λ _. s.irs_is;
      rcv = λ _. moves-same old.rcv w.rcv s.rcv_is;
    }

onward-reached : (old w : Connection) → old.nxt ≤ old.una + 65536 → w.nxt ≤ w.una + 65536 → Reached old (old.rcv + 65536) w → GoesOnward old w
onward-reached old w before flight r =
    let una_from : old.una ≤ w.una = r.una_from in
    let una_to : w.una ≤ old.nxt = r.una_to in
    let nxt_from : old.nxt ≤ w.nxt = r.nxt_from in
    let rcv_from : old.rcv ≤ w.rcv = r.rcv_from in
    let rcv_to : w.rcv ≤ old.rcv + 65536 = r.rcv_to in
    record {
      iss = r.iss_is;
      una = λ _. record { from = una_from; to = omega arith };
      nxt = λ _. record { from = nxt_from; to = omega arith };
      irs = λ _. r.irs_is;
      rcv = λ _. record { from = rcv_from; to = omega arith };
    }

-- of a connection before its opening only its own initial number stays
onward-listen : (old w : Connection) → old.state ≡ st.Listen → w.iss ≡ old.iss → GoesOnward old w
onward-listen old w is iss =
    let listens : is_listen old.state ≡ true = ap is_listen is in
    let unknown : knows_peer old.state ≡ false = ap knows_peer is in
    record {
      iss = iss;
      una = λ e. let no : true ≡ false = sym listens ∙ e in cc;
      nxt = λ e. let no : true ≡ false = sym listens ∙ e in cc;
      irs = λ e. let no : false ≡ true = sym unknown ∙ e in cc;
      rcv = λ e. let no : false ≡ true = sym unknown ∙ e in cc;
    }

onward-opening : (cfg : Cfg) (h : SegHead) (now : ℕ) (j : Job) → j.connection.state ≡ st.Listen → GoesOnward j.connection (opening cfg h now j).connection
unfolding opening
onward-opening cfg h now j is =
    cond_both (opens h) _ _ (λ (r : Job). GoesOnward j.connection r.connection) (λ _. onward-listen j.connection _ is refl) (λ _. onward-listen j.connection _ is refl)

-- in SYN-SENT the SYN alone was sent, and may be acknowledged
record Greets (old : Connection) (iss una nxt : ℕ) : Type 0 where
  iss_is : iss ≡ old.iss
  una_from : old.una ≤ una
  una_to : una ≤ old.nxt
  nxt_is : nxt ≡ old.nxt

abbrev Greeting : Connection → Job → Type 0
Greeting old j = Greets old j.connection.iss j.connection.una j.connection.nxt

greets-syn_sent : (cfg : Cfg) (h : SegHead) (j : Job) → j.connection.state ≡ st.SynSent → IsKept cfg j.connection → Greeting j.connection (syn_sent cfg h j)
unfolding syn_sent
greets-syn_sent cfg h j is k =
    let order : j.connection.una ≤ j.connection.nxt = k.sound.sender.order in
    let one : j.connection.nxt ≡ 1 = k.sound.sender.syn (ap is_syn_sent is) in
    let P : Job → Type 0 = Greeting j.connection in
    let same : Greeting j.connection j = record { iss_is = refl; una_from = omega arith; una_to = order; nxt_is = refl } in
    cond_both (has_flag h.flags ACK && not (h.ack == number j.connection.iss 1)) _ _ P
    (λ _. cond_both (has_flag h.flags RST) _ _ P (λ _. same) (λ _. same))
    (λ _. cond_both (has_flag h.flags RST) _ _ P
    (λ _. cond_both (has_flag h.flags ACK) _ _ P (λ _. same) (λ _. same))
    (λ _. cond_both (has_flag h.flags SYN && has_flag h.flags ACK) _ _ P (λ _. record { iss_is = refl; una_from = omega arith; una_to = omega arith; nxt_is = refl }) (λ _. same)))

onward-greeting : (old w : Connection) → old.state ≡ st.SynSent → old.nxt ≤ old.una + 65536 → Greets old w.iss w.una w.nxt → GoesOnward old w
onward-greeting old w is before g =
    let unknown : knows_peer old.state ≡ false = ap knows_peer is in
    let from : old.una ≤ w.una = g.una_from in
    let to : w.una ≤ old.nxt = g.una_to in
    record {
      iss = g.iss_is;
      una = λ _. record { from = from; to = omega arith };
      nxt = λ _. moves-same old.nxt w.nxt g.nxt_is;
      irs = λ e. let no : false ≡ true = sym unknown ∙ e in cc;
      rcv = λ e. let no : false ≡ true = sym unknown ∙ e in cc;
    }

onward-arrived_in : (s : State) (cfg : Cfg) (w : WireNo) (seg : Seg) (now : ℕ) (j : Job) → j.connection.state ≡ s → cfg.window < 2 ^ 16 → seg.head.window < 2 ^ 16 → IsFramed seg → IsKept cfg j.connection → (arrived_in s cfg w seg now j).connection.nxt ≤ (arrived_in s cfg w seg now j).connection.una + 65536 → GoesOnward j.connection (arrived_in s cfg w seg now j).connection
onward-arrived_in st.Closed cfg w seg now j is small window framed k flight =
    onward-sending j.connection j.connection k.sound.sender.order flight (sending-first j.connection)
onward-arrived_in st.Listen cfg w seg now j is small window framed k flight = onward-opening cfg seg.head now j is
onward-arrived_in st.SynSent cfg w seg now j is small window framed k flight =
    onward-greeting j.connection _ is (in_flight _ _ _ k.sound.sender.flight) (greets-syn_sent cfg seg.head j is k)
onward-arrived_in _ cfg w seg now j is small window framed k flight =
    onward-reached j.connection _ (in_flight _ _ _ k.sound.sender.flight) flight (at-checked cfg w seg now j small window framed (ap expects is) k)

onward-called : (cfg : Cfg) (ask : Ask) (now : ℕ) (j : Job) → IsKept cfg j.connection → (called cfg ask now j).connection.nxt ≤ (called cfg ask now j).connection.una + 65536 → GoesOnward j.connection (called cfg ask now j).connection
unfolding called connecting
onward-called cfg ask now j k flight =
    let order : j.connection.una ≤ j.connection.nxt = k.sound.sender.order in
    let P : Job → Type 0 = λ r. r.connection.nxt ≤ r.connection.una + 65536 → GoesOnward j.connection r.connection in
    cond_both (is_connect ask) _ _ P
    (λ _. cond_both (is_listen j.connection.state) _ _ P
    (λ listens _. onward-listen j.connection _ (listen-is j.connection.state listens) refl)
    (λ _ f. onward-sending j.connection j.connection order f (sending-first j.connection)))
    (λ _. cond_both (is_live j.connection) _ _ P
    (λ _ f. onward-sending j.connection _ order f (sending-answered j.connection cfg ask j (sending-first j.connection)))
    (λ _ f. onward-sending j.connection _ order f (sending-first j.connection)))
    flight

onward-stepped : (cfg : Cfg) (i : Input) (now : ℕ) (j : Job) → cfg.window < 2 ^ 16 → IsWritten i → HasWindow i → IsKept cfg j.connection → (stepped cfg i now j).connection.nxt ≤ (stepped cfg i now j).connection.una + 65536 → GoesOnward j.connection (stepped cfg i now j).connection
unfolding stepped arrived
onward-stepped cfg (inputs.Segment w seg) now j small written window k flight =
    onward-arrived_in j.connection.state cfg w seg now j refl small window written k flight
onward-stepped cfg inputs.Timer now j small written window k flight =
    onward-sending j.connection _ k.sound.sender.order flight
    (cond_both (is_alive j.connection.state) _ _ (SendingAt j.connection) (λ _. sending-expired j.connection cfg now j (sending-first j.connection)) (λ _. sending-first j.connection))
onward-stepped cfg (inputs.Call ask) now j small written window k flight = onward-called cfg ask now j k flight
onward-stepped cfg inputs.Flush now j small written window k flight =
    onward-sending j.connection _ k.sound.sender.order flight
    (cond_both (is_alive j.connection.state) _ _ (SendingAt j.connection) (λ _. sending-flushed j.connection cfg now j (sending-first j.connection)) (λ _. sending-first j.connection))

pub steps_go_onward : StepsGoOnward
unfolding step
steps_go_onward cfg w i now small range written window k =
    onward-stepped cfg i now (record { connection = w; outputs = [] }) small written window k (in_flight _ _ _ (kept-step cfg w i now range written window k).sound.sender.flight)
