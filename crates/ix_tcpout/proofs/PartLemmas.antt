-- The parts over numbers stand for the parts of a step.
use Rattle.std.proofs.Common.{◌≡◌, ℕ, ◌+◌, ◌-◌, ◌%◌, ◌^◌, ◌<◌, ◌≤◌, Bool, true, false, if◌then◌else◌, List, [], ◌∷◌, ◌++◌, length, take, drop, arith, refl, ap, sym, subst, ◌∙◌, length-take, length-drop, inl, inr}
use Rattle.std.specs.Prelude.{nat_lt, ◌&&◌, ◌||◌, ◌==◌, not, min, map, is_none, Some}
use Rattle.std.proofs.lemmas.Bool.{cases_Bool, cond_both}
use Rattle.std.proofs.lemmas.List.{map-append, length-map, take_min, drop-drop}
use Rattle.std.proofs.lemmas.Grind.{common_steps}
use Rattle.ix_base.specs.Sequence.{number}
use Rattle.ix_tcpdef.specs.Ticks.{later}
use Rattle.ix_tcpdef.specs.Connection.{queued, is_syn_sent, on, gives}
use Rattle.ix_tcpdef.specs.Frames.{fin_frame, ack_frame}
use Rattle.ix_tcpdef.specs.Needs.{carries}
use Rattle.ix_tcpdef.specs.Sound.{bit}
use Rattle.ix_tcpdef.specs.Flush.{unsent, resends, resent, sends, usable, sendable, data_frames, data_sent, fin_sent, ack_sent, waits_for_window, armed, first_unacked, flushed}
use Rattle.ix_tcpdef.specs.declared.types.Cfg.{Cfg}
use Rattle.ix_tcpdef.specs.declared.types.State.{State}
use Rattle.ix_tcpdef.specs.declared.types.State.TheVariants as st
use Rattle.ix_tcpdef.specs.declared.types.Connection.{Connection}
use Rattle.ix_tcpdef.specs.declared.types.Job.{Job}
use Rattle.ix_tcpdef.specs.declared.types.Output.{Output}
use Rattle.ix_tcpdef.specs.declared.types.Tcb.{Tcb}
use Rattle.ix_base.specs.declared.segment.TheConstants.{ACK, FIN}
use Rattle.ix_tcpdef.specs.Stands.{tcb_of, send_queue}
use Rattle.ix_tcpout.proofs.NumberLemmas.{counts_ahead, goes_on}
use Rattle.ix_tcpout.specs.declared.outs.OutSeg.{OutSeg}
use Rattle.ix_tcpout.specs.Heads.{bare, again_in}
use Rattle.ix_tcpout.specs.Given.{frame_of, start}
use Rattle.ix_tcpout.specs.Sending.{IsSending, IsWorkOf}
use Rattle.ix_tcpout.specs.Parts.{Work, work, flight, unsent_bytes, sendable_bytes, segments, resend_part, data_part, fin_part, ack_part, arm_part, all_parts}
use Rattle.ix_tcpout.proofs.AgainLemmas.{Orders, flight_small, again_stands}
use Rattle.ix_tcpout.proofs.SegmentLemmas.{segments_stand}

-- one more segment is one more frame
pushed : (queue : List ℕ) (es : List OutSeg) (e : OutSeg) (os : List Output) (o : Output) → map (frame_of queue) es ≡ os → frame_of queue e ≡ o → map (frame_of queue) (es ++ e ∷ []) ≡ os ++ o ∷ []
pushed queue es e os o before here = map-append (frame_of queue) es (e ∷ []) ∙ ap (λ (l : List Output). l ++ frame_of queue e ∷ []) before ∙ ap (λ (f : Output). os ++ f ∷ []) here

-- Work that stands for a step has the connection's numbers, so a part may be looked at there.
at_connection : (f : Work → Work) (g : Job → Job) (k : Work) (j : Job) → IsWorkOf k j → IsWorkOf (f (work (tcb_of j.connection) k.entries)) (g j) → IsWorkOf (f k) (g j)
at_connection f g k j stands part =
    let same : work (tcb_of j.connection) k.entries ≡ k = ap (λ (t : Tcb). work t k.entries) (sym stands.numbers) in
    subst (λ (v : Work). IsWorkOf (f v) (g j)) same part

-- what is in flight, and what was not sent
pub flight_is : (w : Connection) → Orders w → flight (tcb_of w) ≡ w.nxt - w.una
flight_is w s =
    let near : w.nxt ≤ w.una + 65536 = flight_small w s in
    counts_ahead w.iss w.una w.nxt s.order (omega (arith, near))

sends-carries : (s : State) → sends s ≡ true → carries s ≡ true
sends-carries st.Listen e = e
sends-carries st.SynSent e = e
sends-carries st.SynReceived e = e
sends-carries st.Closed e = e
sends-carries _ e = refl

unsent_is : (w : Connection) → Orders w → 1 ≤ w.una → unsent_bytes (tcb_of w) ≡ length (unsent w)
unsent_is w s least =
    let order : w.una ≤ w.nxt = s.order in
    let rest : length (unsent w) ≡ length w.sent - (w.nxt - 1) = length-drop (w.nxt - 1) w.sent in
    rw (flight_is w s) (by_fin w.fin_sent refl order rest)
  where
    by_fin : (b : Bool) → w.fin_sent ≡ b → w.una ≤ w.nxt → length (unsent w) ≡ length w.sent - (w.nxt - 1) → queued w - (w.nxt - w.una) ≡ length (unsent w)
    by_fin true e order rest = let all : w.nxt ≡ length w.sent + 2 = s.fin e in omega (arith, all, order, rest, least)
    by_fin false e order rest = let within : w.nxt ≤ length w.sent + 1 + bit false = subst (λ b. w.nxt ≤ length w.sent + 1 + bit b) e s.within in omega (arith, within, order, rest, least)

-- what the deadline is set by: where nothing is in flight, the numbers tell what was not sent
pub record IsFlying (w : Connection) : Type 0 where
  pub order : w.una ≤ w.nxt
  pub near : w.nxt ≤ w.una + 65537
  pub same : w.una ≡ w.nxt → unsent_bytes (tcb_of w) ≡ length (unsent w)

pub flies : (w : Connection) → IsSending w → IsFlying w
flies w s =
    let order : w.una ≤ w.nxt = s.sender.order in
    let small : w.nxt ≤ w.una + 65536 = flight_small w s.sender in
    let given : w.nxt ≤ length w.sent + 1 + bit w.fin_sent = s.sender.within in
    let rest : length (unsent w) ≡ length w.sent - (w.nxt - 1) = length-drop (w.nxt - 1) w.sent in
    record {
      order = order;
      near = omega arith;
      same = λ (same : w.una ≡ w.nxt). rw (flight_is w s.sender) (omega (arith, same, order, rest));
    }

-- ## First
stands-resent_at : (cfg : Cfg) (j : Job) (es : List OutSeg) → IsSending j.connection → map (frame_of (send_queue j.connection)) es ≡ j.outputs → IsWorkOf (resend_part cfg (work (tcb_of j.connection) es)) (resent cfg j)
unfolding resend_part resent
stands-resent_at cfg j es s frames = by_test (j.connection.resend && resends j.connection.state)
  where
    by_test : (b : Bool) → IsWorkOf (if b then work (record (tcb_of j.connection) { resend = false }) (es ++ again_in j.connection.state cfg (tcb_of j.connection) ∷ []) else work (tcb_of j.connection) es) (if b then gives (on j (record j.connection { resend = false })) (first_unacked cfg j.connection) else j)
    by_test true = record { numbers = refl; frames = pushed (send_queue j.connection) es _ j.outputs _ frames (again_stands cfg j.connection s) }
    by_test false = record { numbers = refl; frames = frames }

stands-resent : (cfg : Cfg) (k : Work) (j : Job) → IsSending j.connection → IsWorkOf k j → IsWorkOf (resend_part cfg k) (resent cfg j)
stands-resent cfg k j s stands = at_connection (resend_part cfg) (resent cfg) k j stands (stands-resent_at cfg j k.entries s stands.frames)

sending-resent : (cfg : Cfg) (j : Job) → IsSending j.connection → IsSending (resent cfg j).connection
unfolding resent
sending-resent cfg j s = by_test (j.connection.resend && resends j.connection.state)
  where
    by_test : (b : Bool) → IsSending (if b then gives (on j (record j.connection { resend = false })) (first_unacked cfg j.connection) else j).connection
    by_test true = record { alive = s.alive; sender = s.sender; mss = s.mss }
    by_test false = s

-- ## Second
sendable_length : (w : Connection) → length (sendable w) ≡ min (usable w) (length (unsent w))
sendable_length w = length-take (usable w) (unsent w)

sendable_is : (w : Connection) → Orders w → 1 ≤ w.una → sendable_bytes (tcb_of w) ≡ length (sendable w)
sendable_is w s least =
    rw (unsent_is w s least, flight_is w s)
    (let order : w.una ≤ w.nxt = s.order in omega (arith, sendable_length w, order))

unsent_cut : (w : Connection) → Orders w → 1 ≤ w.una → unsent w ≡ drop (w.nxt - w.una) (send_queue w)
unsent_cut w s least =
    let order : w.una ≤ w.nxt = s.order in
    let place : (w.una - 1) + (w.nxt - w.una) ≡ w.nxt - 1 = omega arith in
    ap (λ n. drop n w.sent) (sym place) ∙ sym (drop-drop (w.nxt - w.una) (w.una - 1) w.sent)

sendable_cut : (w : Connection) → Orders w → 1 ≤ w.una → sendable w ≡ take (length (sendable w)) (drop (w.nxt - w.una) (send_queue w))
sendable_cut w s least =
    sym (ap (λ n. take n (unsent w)) (sendable_length w) ∙ take_min_right (usable w) (unsent w)) ∙ ap (take (length (sendable w))) (unsent_cut w s least)
  where
    take_min_right : (n : ℕ) (xs : List ℕ) → take (min n (length xs)) xs ≡ take n xs
    take_min_right n xs = take_min n xs

stands-data_at : (cfg : Cfg) (j : Job) (es : List OutSeg) → IsSending j.connection → map (frame_of (send_queue j.connection)) es ≡ j.outputs → IsWorkOf (data_part cfg (work (tcb_of j.connection) es)) (data_sent cfg j)
unfolding data_part data_sent
stands-data_at cfg j es s frames = by_test (sends j.connection.state) refl
  where
    by_test : (b : Bool) → sends j.connection.state ≡ b → IsWorkOf (if b then work (record (tcb_of j.connection) { nxt = (number j.connection.iss j.connection.nxt + sendable_bytes (tcb_of j.connection)) % 2 ^ 32 }) (es ++ segments cfg (tcb_of j.connection) (sendable_bytes (tcb_of j.connection)) (flight (tcb_of j.connection)) (sendable_bytes (tcb_of j.connection))) else work (tcb_of j.connection) es) (if b then record { connection = record j.connection { nxt = j.connection.nxt + length (sendable j.connection) }; outputs = j.outputs ++ data_frames cfg j.connection (length (sendable j.connection)) j.connection.nxt (sendable j.connection) } else j)
    by_test false e = record { numbers = refl; frames = frames }
    by_test true e =
        let least : 1 ≤ j.connection.una = s.sender.stream (sends-carries j.connection.state e) in
        let order : j.connection.una ≤ j.connection.nxt = s.sender.order in
        let n_is : sendable_bytes (tcb_of j.connection) ≡ length (sendable j.connection) = sendable_is j.connection s.sender least in
        let place : j.connection.una + (j.connection.nxt - j.connection.una) ≡ j.connection.nxt = omega arith in
        let cut : sendable j.connection ≡ take (length (sendable j.connection)) (drop (j.connection.nxt - j.connection.una) (send_queue j.connection)) = sendable_cut j.connection s.sender least in
        let given : length (unsent j.connection) ≡ length j.connection.sent - (j.connection.nxt - 1) = length-drop (j.connection.nxt - 1) j.connection.sent in
        let cut_length : length (sendable j.connection) ≡ min (usable j.connection) (length (unsent j.connection)) = sendable_length j.connection in
        let within : 0 < length (sendable j.connection) → j.connection.una + (j.connection.nxt - j.connection.una) + length (sendable j.connection) ≤ length j.connection.sent + 1 = λ some. omega (arith, given, cut_length, place, least, order, some) in
        rw (n_is, flight_is j.connection s.sender)
        (record {
          numbers = ap (λ n. record (tcb_of j.connection) { nxt = n }) (sym (goes_on j.connection.iss j.connection.nxt (length (sendable j.connection))));
          frames = map-append (frame_of (send_queue j.connection)) es _
              ∙ ap (λ (l : List Output). l ++ map (frame_of (send_queue j.connection)) (segments cfg (tcb_of j.connection) (length (sendable j.connection)) (j.connection.nxt - j.connection.una) (length (sendable j.connection)))) frames
              ∙ ap (λ (l : List Output). j.outputs ++ l) (segments_stand cfg j.connection (length (sendable j.connection)) (j.connection.nxt - j.connection.una) (length (sendable j.connection)) (sendable j.connection) least s.mss refl cut within)
              ∙ ap (λ at. j.outputs ++ data_frames cfg j.connection (length (sendable j.connection)) at (sendable j.connection)) place;
        })

stands-data : (cfg : Cfg) (k : Work) (j : Job) → IsSending j.connection → IsWorkOf k j → IsWorkOf (data_part cfg k) (data_sent cfg j)
stands-data cfg k j s stands = at_connection (data_part cfg) (data_sent cfg) k j stands (stands-data_at cfg j k.entries s stands.frames)

sends-not_syn_sent : (s : State) → sends s ≡ true → is_syn_sent s ≡ true → false ≡ true
sends-not_syn_sent st.SynSent e f = e
sends-not_syn_sent _ e f = f

-- so many more octets are sent, of those that were not sent
sending-more : (w : Connection) (n : ℕ) → sends w.state ≡ true → n ≤ length w.sent - (w.nxt - 1) → n ≤ w.una + min w.wnd w.cwnd - w.nxt → w.wnd ≤ 65535 → IsSending w → IsSending (record w { nxt = w.nxt + n })
sending-more w n e given room window s =
    let least : 1 ≤ w.una = s.sender.stream (sends-carries w.state e) in
    let order : w.una ≤ w.nxt = s.sender.order in
    let within : w.nxt ≤ length w.sent + 1 + bit w.fin_sent = s.sender.within in
    let flight : w.nxt ≤ w.una + 65535 + bit w.fin_sent = s.sender.flight in
    record {
      alive = s.alive;
      sender = record {
        order = omega arith;
        within = omega arith;
        fin = λ f. let all : w.nxt ≡ length w.sent + 2 = s.sender.fin f in omega arith;
        flight = omega arith;
        stream = s.sender.stream;
        syn = λ f. let no : false ≡ true = sends-not_syn_sent w.state e f in cc;
        wanted = s.sender.wanted;
        unwanted = s.sender.unwanted;
      };
      mss = s.mss;
    }

sending-data : (cfg : Cfg) (j : Job) → j.connection.wnd ≤ 65535 → IsSending j.connection → IsSending (data_sent cfg j).connection
unfolding data_sent
sending-data cfg j window s =
    let cut : length (sendable j.connection) ≡ min (usable j.connection) (length (unsent j.connection)) = sendable_length j.connection in
    let rest : length (unsent j.connection) ≡ length j.connection.sent - (j.connection.nxt - 1) = length-drop (j.connection.nxt - 1) j.connection.sent in
    cond_both (sends j.connection.state) _ _ (λ (r : Job). IsSending r.connection)
    (λ e. sending-more j.connection (length (sendable j.connection)) e (omega (arith, cut, rest)) (omega (arith, cut)) window s)
    (λ _. s)

-- ## Third
fin_frames : (cfg : Cfg) (w : Connection) (queue : List ℕ) → frame_of queue (bare cfg (tcb_of w) (number w.iss w.nxt) (FIN + ACK)) ≡ fin_frame cfg w w.nxt
fin_frames cfg w queue = refl

stands-fin_at : (cfg : Cfg) (j : Job) (es : List OutSeg) → IsSending j.connection → map (frame_of (send_queue j.connection)) es ≡ j.outputs → IsWorkOf (fin_part cfg (work (tcb_of j.connection) es)) (fin_sent cfg j)
unfolding fin_part fin_sent
stands-fin_at cfg j es s frames = by_state (sends j.connection.state) refl
  where
    by_test : (b : Bool) → IsWorkOf (if b then work (record (tcb_of j.connection) { nxt = (number j.connection.iss j.connection.nxt + 1) % 2 ^ 32; fin_sent = true }) (es ++ bare cfg (tcb_of j.connection) (number j.connection.iss j.connection.nxt) (FIN + ACK) ∷ []) else work (tcb_of j.connection) es) (if b then gives (on j (record j.connection { nxt = j.connection.nxt + 1; fin_sent = true })) (fin_frame cfg j.connection j.connection.nxt) else j)
    by_test true =
        record {
          numbers = ap (λ n. record (tcb_of j.connection) { nxt = n; fin_sent = true }) (sym (goes_on j.connection.iss j.connection.nxt 1));
          frames = pushed (send_queue j.connection) es _ j.outputs _ frames (fin_frames cfg j.connection (send_queue j.connection));
        }
    by_test false = record { numbers = refl; frames = frames }

    by_state : (b : Bool) → sends j.connection.state ≡ b → IsWorkOf (if b && j.connection.fin_wanted && not j.connection.fin_sent && (unsent_bytes (tcb_of j.connection) == 0) then work (record (tcb_of j.connection) { nxt = (number j.connection.iss j.connection.nxt + 1) % 2 ^ 32; fin_sent = true }) (es ++ bare cfg (tcb_of j.connection) (number j.connection.iss j.connection.nxt) (FIN + ACK) ∷ []) else work (tcb_of j.connection) es) (if b && j.connection.fin_wanted && not j.connection.fin_sent && (length (unsent j.connection) == 0) then gives (on j (record j.connection { nxt = j.connection.nxt + 1; fin_sent = true })) (fin_frame cfg j.connection j.connection.nxt) else j)
    by_state true e = rw (unsent_is j.connection s.sender (s.sender.stream (sends-carries j.connection.state e))) (by_test (true && j.connection.fin_wanted && not j.connection.fin_sent && (length (unsent j.connection) == 0)))
    by_state false e = record { numbers = refl; frames = frames }

stands-fin : (cfg : Cfg) (k : Work) (j : Job) → IsSending j.connection → IsWorkOf k j → IsWorkOf (fin_part cfg k) (fin_sent cfg j)
stands-fin cfg k j s stands = at_connection (fin_part cfg) (fin_sent cfg) k j stands (stands-fin_at cfg j k.entries s stands.frames)

-- what the deadline needs is left as it was, or the FIN is in flight
flies-fin : (cfg : Cfg) (j : Job) → IsSending j.connection → IsFlying (fin_sent cfg j).connection
unfolding fin_sent
flies-fin cfg j s = by_tests (sends j.connection.state) j.connection.fin_wanted j.connection.fin_sent (length (unsent j.connection) == 0) refl refl refl refl
  where
    by_tests : (a b c d : Bool) → sends j.connection.state ≡ a → j.connection.fin_wanted ≡ b → j.connection.fin_sent ≡ c → (length (unsent j.connection) == 0) ≡ d → IsFlying (if a && b && not c && d then gives (on j (record j.connection { nxt = j.connection.nxt + 1; fin_sent = true })) (fin_frame cfg j.connection j.connection.nxt) else j).connection
    by_tests true true false true e wanted not_sent none =
        let order : j.connection.una ≤ j.connection.nxt = s.sender.order in
        let near : j.connection.nxt ≤ j.connection.una + 65536 = flight_small j.connection s.sender in
        record { order = omega arith; near = omega arith; same = λ (same : j.connection.una ≡ j.connection.nxt + 1). absurd (omega arith) }
    by_tests true true false false e w n f = flies j.connection s
    by_tests true true true d e w n f = flies j.connection s
    by_tests true false c d e w n f = flies j.connection s
    by_tests false b c d e w n f = flies j.connection s

-- ## Fourth
stands-ack_at : (cfg : Cfg) (j : Job) (es : List OutSeg) → map (frame_of (send_queue j.connection)) es ≡ j.outputs → IsWorkOf (ack_part cfg (work (tcb_of j.connection) es)) (ack_sent cfg j)
unfolding ack_part ack_sent
stands-ack_at cfg j es frames =
    let same : length es ≡ length j.outputs = sym (length-map es (frame_of (send_queue j.connection))) ∙ ap length frames in
    rw same (by_test (j.connection.ack_owed && (length j.outputs == 0)))
  where
    by_test : (b : Bool) → IsWorkOf (if b then work (record (tcb_of j.connection) { ack_owed = false }) (es ++ bare cfg (tcb_of j.connection) (number j.connection.iss j.connection.nxt) ACK ∷ []) else work (record (tcb_of j.connection) { ack_owed = false }) es) (if b then gives (on j (record j.connection { ack_owed = false })) (ack_frame cfg j.connection) else on j (record j.connection { ack_owed = false }))
    by_test true = record { numbers = refl; frames = pushed (send_queue j.connection) es _ j.outputs _ frames refl }
    by_test false = record { numbers = refl; frames = frames }

stands-ack : (cfg : Cfg) (k : Work) (j : Job) → IsWorkOf k j → IsWorkOf (ack_part cfg k) (ack_sent cfg j)
stands-ack cfg k j stands = at_connection (ack_part cfg) (ack_sent cfg) k j stands (stands-ack_at cfg j k.entries stands.frames)

flies-ack : (cfg : Cfg) (j : Job) → IsFlying j.connection → IsFlying (ack_sent cfg j).connection
unfolding ack_sent
flies-ack cfg j f =
    cond_both (j.connection.ack_owed && (length j.outputs == 0)) _ _ (λ (r : Job). IsFlying r.connection)
    (λ _. record { order = f.order; near = f.near; same = f.same })
    (λ _. record { order = f.order; near = f.near; same = f.same })

-- ## Fifth
pub flight_test : (w : Connection) → IsFlying w → not (number w.iss w.una == number w.iss w.nxt) ≡ nat_lt w.una w.nxt
flight_test w f =
    let order : w.una ≤ w.nxt = f.order in
    let near : w.nxt ≤ w.una + 65537 = f.near in
    elim (cases_Bool (nat_lt w.una w.nxt)) [ inl before ↦ grind (arith, common_steps, before) | inr level ↦ grind (arith, common_steps, level) ]

-- the test for the deadline, over numbers and over positions
arm_test : (w : Connection) → IsFlying w → (not (number w.iss w.una == number w.iss w.nxt) || ((w.wnd == 0) && (nat_lt 0 (unsent_bytes (tcb_of w)) || w.wants))) ≡ (nat_lt w.una w.nxt || ((w.una == w.nxt) && waits_for_window w))
arm_test w f = rw (flight_test w f) (elim (cases_Bool (nat_lt w.una w.nxt)) [ inl before ↦ rw before refl | inr level ↦ rw level (at_rest level) ])
  where
    at_rest : nat_lt w.una w.nxt ≡ false → ((w.wnd == 0) && (nat_lt 0 (unsent_bytes (tcb_of w)) || w.wants)) ≡ ((w.una == w.nxt) && waits_for_window w)
    at_rest level =
        let order : w.una ≤ w.nxt = f.order in
        let same : w.una ≡ w.nxt = grind (arith, common_steps, level) in
        let test : (w.una == w.nxt) ≡ true = grind (arith, common_steps, same) in
        rw (test, f.same same) refl

stands-armed : (cfg : Cfg) (now : ℕ) (w : Connection) → IsFlying w → arm_part cfg now (tcb_of w) ≡ tcb_of (armed cfg now w)
unfolding arm_part armed
stands-armed cfg now w f = rw (arm_test w f) (by_test (is_none w.deadline && (nat_lt w.una w.nxt || ((w.una == w.nxt) && waits_for_window w))))
  where
    by_test : (b : Bool) → (if b then record (tcb_of w) { deadline = Some (later now cfg.rto) } else tcb_of w) ≡ tcb_of (if b then record w { deadline = Some (later now cfg.rto) } else w)
    by_test true = refl
    by_test false = refl

-- ## All
same_queue : (cfg : Cfg) (now : ℕ) (w : Connection) → send_queue (armed cfg now w) ≡ send_queue w
unfolding armed
same_queue cfg now w = by_test (is_none w.deadline && (nat_lt w.una w.nxt || ((w.una == w.nxt) && waits_for_window w)))
  where
    by_test : (b : Bool) → send_queue (if b then record w { deadline = Some (later now cfg.rto) } else w) ≡ send_queue w
    by_test true = refl
    by_test false = refl

stands-arm : (cfg : Cfg) (now : ℕ) (k : Work) (j : Job) → IsFlying j.connection → IsWorkOf k j → IsWorkOf (work (arm_part cfg now k.numbers) k.entries) (on j (armed cfg now j.connection))
stands-arm cfg now k j f stands =
    record {
      numbers = ap (arm_part cfg now) stands.numbers ∙ stands-armed cfg now j.connection f;
      frames = ap (λ (q : List ℕ). map (frame_of q) k.entries) (same_queue cfg now j.connection) ∙ stands.frames;
    }

same_window : (cfg : Cfg) (j : Job) → (resent cfg j).connection.wnd ≡ j.connection.wnd
unfolding resent
same_window cfg j = cond_both (j.connection.resend && resends j.connection.state) _ _ (λ (r : Job). r.connection.wnd ≡ j.connection.wnd) (λ _. refl) (λ _. refl)

pub stands-all : (cfg : Cfg) (now : ℕ) (w : Connection) → w.wnd ≤ 65535 → IsSending w → IsWorkOf (all_parts cfg now (work (tcb_of w) [])) (flushed cfg now (start w))
unfolding all_parts flushed
stands-all cfg now w window s =
    let j0 : Job = start w in
    let t0 : IsWorkOf (work (tcb_of w) []) j0 = record { numbers = refl; frames = refl } in
    let t1 : IsWorkOf (resend_part cfg (work (tcb_of w) [])) (resent cfg j0) = stands-resent cfg _ j0 s t0 in
    let s1 : IsSending (resent cfg j0).connection = sending-resent cfg j0 s in
    let window1 : (resent cfg j0).connection.wnd ≤ 65535 = omega (arith, same_window cfg j0, window) in
    let t2 : IsWorkOf (data_part cfg (resend_part cfg (work (tcb_of w) []))) (data_sent cfg (resent cfg j0)) = stands-data cfg _ _ s1 t1 in
    let s2 : IsSending (data_sent cfg (resent cfg j0)).connection = sending-data cfg _ window1 s1 in
    let t3 : IsWorkOf (fin_part cfg (data_part cfg (resend_part cfg (work (tcb_of w) [])))) (fin_sent cfg (data_sent cfg (resent cfg j0))) = stands-fin cfg _ _ s2 t2 in
    stands-arm cfg now _ _ (flies-ack cfg _ (flies-fin cfg _ s2)) (stands-ack cfg _ _ t3)
