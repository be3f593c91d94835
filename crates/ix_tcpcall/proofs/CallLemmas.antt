-- Calls over numbers stand for the calls of a step.
use Rattle.std.proofs.Common.{◌≡◌, ℕ, zero, suc, ◌+◌, ◌-◌, ◌≤◌, Bool, true, false, if◌then◌else◌, List, [], ◌∷◌, ◌++◌, length, take, drop, arith, refl, ap, sym, ◌∙◌, subst, length-append, append-nil, inl, inr}
use Rattle.std.specs.Prelude.{nat_lt, ◌&&◌, ◌||◌, ◌==◌, not, min, map, Some, None}
use Rattle.std.proofs.lemmas.Bool.{cases_Bool, and_parts}
use Rattle.std.proofs.lemmas.Grind.{common_steps}
use Rattle.std.proofs.lemmas.List.{drop-append-le, length-take-le}
use Rattle.ix_base.specs.declared.segment.Ret.{Ret}
use Rattle.ix_base.specs.declared.segment.Ret.TheVariants as rets
use Rattle.ix_tcpdef.specs.Connection.{snd_una, snd_nxt, rcv_wnd, queued, room, is_closed, is_listen, on, gives}
use Rattle.ix_tcpdef.specs.Frames.{syn_frame}
use Rattle.ix_tcpdef.specs.Acknowledgement.{unpersisted}
use Rattle.ix_tcpdef.specs.Opening.{active, connecting}
use Rattle.ix_tcpdef.specs.Sound.{SendsInOrder, HasOpened, may_send, bit}
use Rattle.ix_tcpdef.specs.Stands.{tcb_of, send_queue}
use Rattle.ix_tcpdef.specs.Calls.{is_live, is_open, returns, as_told, recv_of, kept_end, accept, sendv, recv_done, shut_down, persists, close, answered, called}
use Rattle.ix_tcpdef.specs.Step.{step, stepped}
use Rattle.ix_tcpdef.specs.declared.types.Ask.TheVariants as asks
use Rattle.ix_tcpdef.specs.declared.types.Cfg.{Cfg}
use Rattle.ix_tcpdef.specs.declared.types.State.{State}
use Rattle.ix_tcpdef.specs.declared.types.State.TheVariants as st
use Rattle.ix_tcpdef.specs.declared.types.Connection.{Connection}
use Rattle.ix_tcpdef.specs.declared.types.HeldSegment.{HeldSegment}
use Rattle.ix_tcpdef.specs.declared.types.Input.TheVariants as inputs
use Rattle.ix_tcpdef.specs.declared.types.Job.{Job}
use Rattle.ix_tcpdef.specs.declared.types.Output.{Output}
use Rattle.ix_tcpdef.specs.declared.types.Output.TheVariants as outputs
use Rattle.ix_tcpdef.specs.declared.types.Piece.{Piece}
use Rattle.ix_tcpdef.specs.declared.types.Tcb.{Tcb}
use Rattle.ix_tcpcall.specs.Given.{Gives, returned, bytes_done, told_with, pieces_with, held_with, sent_head}
use Rattle.ix_tcpcall.specs.Parts.{Answer, answer, on_handle, accept_part, queue_room, sendv_part, recv_done_part, shut_numbers, without_persist, close_part, Opened, opened, active_numbers, syn_head, connect_part}

-- a step that begins
abbrev pub start : Connection → Job
start w = record { connection = w; outputs = [] }

-- An answer over numbers stands for a step: the numbers are the connection's, and by the return the step gives this.
pub record StandsAs (given : Ret → List Output) (queue : Ret → List ℕ) (pieces : Ret → List Piece) (held : Ret → List HeldSegment) (a : Answer) (j : Job) : Type 0 where
  pub numbers : a.numbers ≡ tcb_of j.connection
  pub gives : Gives (given a.ret) (queue a.ret) (pieces a.ret) (held a.ret) j

-- ## Accept
pub accept_stands : (cfg : Cfg) (now : ℕ) (w : Connection)
    → StandsAs (λ r. returned r ++ told_with r w) (λ r. send_queue w) (λ r. pieces_with r w.pieces) (λ r. w.held) (on_handle accept_part (tcb_of w)) (step cfg w (inputs.Call asks.Accept) now)
unfolding on_handle accept_part step stepped called answered accept
accept_stands cfg now w = by_tests (is_live w) w.accepted
  where
    by_tests : (a b : Bool)
        → StandsAs (λ r. returned r ++ told_with r w) (λ r. send_queue w) (λ r. pieces_with r w.pieces) (λ r. w.held)
        (if a then (if b then answer (tcb_of w) rets.NotKnocked else answer (record (tcb_of w) { accepted = true }) (rets.Done 0)) else answer (tcb_of w) rets.BadHandle)
        (if a then (if b then returns (start w) rets.NotKnocked else record { connection = record w { accepted = true; pieces = map as_told w.pieces }; outputs = [] ++ outputs.Ret (rets.Done 0) ∷ [] ++ map recv_of w.pieces ++ kept_end w }) else returns (start w) rets.BadHandle)
    by_tests true true = record { numbers = refl; gives = record { outputs = refl; queue = refl; pieces = refl; held = refl } }
    by_tests true false = record { numbers = refl; gives = record { outputs = refl; queue = refl; pieces = refl; held = refl } }
    by_tests false b = record { numbers = refl; gives = record { outputs = refl; queue = refl; pieces = refl; held = refl } }

-- ## RecvDone
pub recv_done_stands : (cfg : Cfg) (n now : ℕ) (w : Connection)
    → StandsAs returned (λ r. send_queue w) (λ r. w.pieces) (λ r. w.held) (on_handle (recv_done_part cfg n) (tcb_of w)) (step cfg w (inputs.Call (asks.RecvDone n)) now)
unfolding on_handle recv_done_part step stepped called answered recv_done
recv_done_stands cfg n now w = by_tests (is_live w) w.accepted (nat_lt w.unread n)
  where
    by_tests : (a b c : Bool)
        → StandsAs returned (λ r. send_queue w) (λ r. w.pieces) (λ r. w.held)
        (if a then (if not b then answer (tcb_of w) rets.NotOpen else if c then answer (tcb_of w) rets.TooMuch else answer (record (tcb_of w) { unread = w.unread - n; ack_owed = w.ack_owed || ((rcv_wnd cfg w == 0) && nat_lt 0 n) }) (rets.Done n)) else answer (tcb_of w) rets.BadHandle)
        (if a then (if not b then returns (start w) rets.NotOpen else if c then returns (start w) rets.TooMuch else returns (on (start w) (record w { unread = w.unread - n; ack_owed = w.ack_owed || ((rcv_wnd cfg w == 0) && nat_lt 0 n) })) (rets.Done n)) else returns (start w) rets.BadHandle)
    by_tests true true true = record { numbers = refl; gives = record { outputs = refl; queue = refl; pieces = refl; held = refl } }
    by_tests true true false = record { numbers = refl; gives = record { outputs = refl; queue = refl; pieces = refl; held = refl } }
    by_tests true false c = record { numbers = refl; gives = record { outputs = refl; queue = refl; pieces = refl; held = refl } }
    by_tests false b c = record { numbers = refl; gives = record { outputs = refl; queue = refl; pieces = refl; held = refl } }

-- ## Close
-- the test of something in flight
flight_test : (w : Connection) → SendsInOrder w.state w.una w.nxt (length w.sent) w.fin_wanted w.fin_sent → (snd_una w == snd_nxt w) ≡ (w.una == w.nxt)
flight_test w s =
    let order : w.una ≤ w.nxt = s.order in
    let near : w.nxt ≤ w.una + 65535 + bit w.fin_sent = s.flight in
    let small : bit w.fin_sent ≤ 1 = bit_small w.fin_sent in
    let near_by : w.nxt ≤ w.una + 65536 = omega arith in
    elim (cases_Bool (w.una == w.nxt)) [ inl level ↦ grind (arith, common_steps, level) | inr before ↦ grind (arith, common_steps, before) ]
  where
    bit_small : (b : Bool) → bit b ≤ 1
    bit_small true = omega arith
    bit_small false = omega arith

pub close_stands : (cfg : Cfg) (now : ℕ) (w : Connection) → SendsInOrder w.state w.una w.nxt (length w.sent) w.fin_wanted w.fin_sent
    → StandsAs returned (λ r. send_queue w) (λ r. w.pieces) (λ r. held_with r w.held) (on_handle close_part (tcb_of w)) (step cfg w (inputs.Call asks.Close) now)
unfolding on_handle close_part step stepped called answered close
close_stands cfg now w s = rw (flight_test w s) (by_tests (is_live w) (persists w))
  where
    by_tests : (a b : Bool)
        → StandsAs returned (λ r. send_queue w) (λ r. w.pieces) (λ r. held_with r w.held)
        (if a then answer (if b then without_persist (shut_numbers (tcb_of w)) else shut_numbers (tcb_of w)) (rets.Done 0) else answer (tcb_of w) rets.BadHandle)
        (if a then returns (on (start w) (if b then unpersisted (shut_down w) else shut_down w)) (rets.Done 0) else returns (start w) rets.BadHandle)
    by_tests true true = record { numbers = refl; gives = record { outputs = refl; queue = refl; pieces = refl; held = refl } }
    by_tests true false = record { numbers = refl; gives = record { outputs = refl; queue = refl; pieces = refl; held = refl } }
    by_tests false b = record { numbers = refl; gives = record { outputs = refl; queue = refl; pieces = refl; held = refl } }

-- ## Sendv
open-may_send : (s : State) → is_open s ≡ true → may_send s ≡ true
open-may_send st.Established e = refl
open-may_send st.CloseWait e = refl
open-may_send _ e = absurd (cc)

-- where bytes can be given, the FIN was not sent: all that is acknowledged was given
acked_given : (w : Connection) → SendsInOrder w.state w.una w.nxt (length w.sent) w.fin_wanted w.fin_sent → is_open w.state ≡ true → w.una ≤ length w.sent + 1
acked_given w s e = by_fin w.fin_sent refl
  where
    by_fin : (b : Bool) → w.fin_sent ≡ b → w.una ≤ length w.sent + 1
    by_fin true f =
        let wanted : w.fin_wanted ≡ true = s.wanted f in
        let unwanted : w.fin_wanted ≡ false = s.unwanted (open-may_send w.state e) in
        absurd (cc)
    by_fin false f =
        let order : w.una ≤ w.nxt = s.order in
        let within : w.nxt ≤ length w.sent + 1 + bit false = subst (λ (b : Bool). w.nxt ≤ length w.sent + 1 + bit b) f s.within in
        omega (arith, within)

-- n more bytes are given
queued_more : (una given n : ℕ) → una ≤ given + 1 → given - min (una - 1) given + n ≡ (given + n) - min (una - 1) (given + n)
queued_more una given n le = omega arith

pub sendv_stands : (cfg : Cfg) (now : ℕ) (w : Connection) (bytes : List ℕ) → SendsInOrder w.state w.una w.nxt (length w.sent) w.fin_wanted w.fin_sent
    → StandsAs returned (λ r. send_queue w ++ take (bytes_done r) bytes) (λ r. w.pieces) (λ r. w.held) (on_handle (sendv_part (length bytes)) (tcb_of w)) (step cfg w (inputs.Call (asks.Sendv bytes)) now)
unfolding on_handle sendv_part step stepped called answered sendv
sendv_stands cfg now w bytes s = by_tests (is_live w) (w.accepted && is_open w.state) refl
  where
    by_tests : (a b : Bool) → (w.accepted && is_open w.state) ≡ b
        → StandsAs returned (λ r. send_queue w ++ take (bytes_done r) bytes) (λ r. w.pieces) (λ r. w.held)
        (if a then (if not b then answer (tcb_of w) rets.NotOpen else answer (record (tcb_of w) { queued = queued w + min (length bytes) (room w); wants = w.wants || nat_lt (min (length bytes) (room w)) (length bytes) }) (rets.Done (min (length bytes) (room w)))) else answer (tcb_of w) rets.BadHandle)
        (if a then (if not b then returns (start w) rets.NotOpen else returns (on (start w) (record w { sent = w.sent ++ take (min (length bytes) (room w)) bytes; wants = w.wants || nat_lt (min (length bytes) (room w)) (length bytes) })) (rets.Done (min (length bytes) (room w)))) else returns (start w) rets.BadHandle)
    by_tests true true e =
        let given : w.una ≤ length w.sent + 1 = acked_given w s (and_parts w.accepted (is_open w.state) e).1 in
        let before : w.una - 1 ≤ length w.sent = omega (arith, given) in
        let fits : min (length bytes) (room w) ≤ length bytes = omega arith in
        let len : length (w.sent ++ take (min (length bytes) (room w)) bytes) ≡ length w.sent + min (length bytes) (room w) = length-append w.sent (take (min (length bytes) (room w)) bytes) ∙ ap (λ (k : ℕ). length w.sent + k) (length-take-le (min (length bytes) (room w)) bytes fits) in
        record {
          numbers = ap (λ (q : ℕ). record (tcb_of w) { queued = q; wants = w.wants || nat_lt (min (length bytes) (room w)) (length bytes) })
              (queued_more w.una (length w.sent) (min (length bytes) (room w)) given ∙ ap (λ (k : ℕ). k - min (w.una - 1) k) (sym len));
          gives = record {
            outputs = refl;
            queue = drop-append-le (w.una - 1) w.sent (take (min (length bytes) (room w)) bytes) before;
            pieces = refl;
            held = refl;
          };
        }
    by_tests true false e = record { numbers = refl; gives = record { outputs = refl; queue = sym (append-nil (send_queue w)); pieces = refl; held = refl } }
    by_tests false b e = record { numbers = refl; gives = record { outputs = refl; queue = sym (append-nil (send_queue w)); pieces = refl; held = refl } }

pub sendv_within : (total : ℕ) (t : Tcb) → bytes_done (on_handle (sendv_part total) t).ret ≤ total
unfolding on_handle sendv_part
sendv_within total t = by_tests ((t.knocked || t.accepted) && not t.shut && not (is_closed t.state)) (t.accepted && is_open t.state)
  where
    by_tests : (a b : Bool) → bytes_done (if a then (if not b then answer t rets.NotOpen else answer (record t { queued = t.queued + min total (queue_room t); wants = t.wants || nat_lt (min total (queue_room t)) total }) (rets.Done (min total (queue_room t)))) else answer t rets.BadHandle).ret ≤ total
    by_tests true true = omega arith
    by_tests true false = omega arith
    by_tests false b = omega arith

-- ## Connect
abbrev pub no_bytes : List ℕ
no_bytes = []

drop_nil : (n : ℕ) → drop n no_bytes ≡ no_bytes
drop_nil zero = refl
drop_nil (suc n) = refl

pub record OpensAs (w : Connection) (o : Opened) (j : Job) : Type 0 where
  pub numbers : o.numbers ≡ tcb_of j.connection
  pub gives : Gives (sent_head o.sent) (send_queue w) w.pieces w.held j

pub connect_stands : (cfg : Cfg) (now : ℕ) (w : Connection) → HasOpened w → OpensAs w (connect_part cfg now (tcb_of w)) (step cfg w (inputs.Call asks.Connect) now)
unfolding connect_part step stepped called connecting
connect_stands cfg now w o = by_test (is_listen w.state) refl
  where
    by_test : (b : Bool) → is_listen w.state ≡ b
        → OpensAs w (if b then opened (active_numbers cfg now (tcb_of w)) (Some (syn_head cfg (tcb_of w))) else opened (tcb_of w) None)
        (if b then gives (on (start w) (active cfg now w)) (syn_frame cfg (active cfg now w)) else start w)
    by_test true e =
        let none : w.sent ≡ [] = o.listening e in
        let empty : length w.sent ≡ 0 = ap length none in
        let same : length w.sent - min (w.una - 1) (length w.sent) ≡ length w.sent - min (0 - 1) (length w.sent) = omega (arith, empty) in
        record {
          numbers = ap (λ (q : ℕ). record (active_numbers cfg now (tcb_of w)) { queued = q }) same;
          gives = record {
            outputs = refl;
            queue = ap (drop (0 - 1)) none ∙ drop_nil (0 - 1) ∙ sym (drop_nil (w.una - 1)) ∙ ap (drop (w.una - 1)) (sym none);
            pieces = refl;
            held = refl;
          };
        }
    by_test false e = record { numbers = refl; gives = record { outputs = refl; queue = refl; pieces = refl; held = refl } }
