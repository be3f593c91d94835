-- The first unacknowledged segment over numbers is that of the connection.
use Rattle.std.proofs.Common.{◌≡◌, ℕ, ◌+◌, ◌-◌, ◌<◌, ◌≤◌, Bool, true, false, List, [], ◌∷◌, length, take, drop, arith, refl, ap, sym, subst, ◌∙◌, length-take, length-drop}
use Rattle.std.specs.Prelude.{◌==◌, min}
use Rattle.std.proofs.lemmas.List.{take-take, take_min}
use Rattle.std.proofs.lemmas.Grind.{common_steps}
use Rattle.ix_tcpdef.specs.Frames.{data_frame}
use Rattle.ix_tcpdef.specs.Needs.{carries}
use Rattle.ix_tcpdef.specs.Sound.{SendsInOrder, bit}
use Rattle.ix_tcpdef.specs.Step.{is_alive}
use Rattle.ix_tcpdef.specs.Flush.{unacked, first_of, first_unacked_in, first_unacked}
use Rattle.ix_tcpdef.specs.declared.types.Cfg.{Cfg}
use Rattle.ix_tcpdef.specs.declared.types.State.{State}
use Rattle.ix_tcpdef.specs.declared.types.State.TheVariants as st
use Rattle.ix_tcpdef.specs.declared.types.Connection.{Connection}
use Rattle.ix_tcpdef.specs.Stands.{tcb_of, send_queue}
use Rattle.ix_tcpout.proofs.NumberLemmas.{counts_ahead}
use Rattle.ix_tcpout.specs.Heads.{sent_bytes, bytes, first_again, again_in}
use Rattle.ix_tcpout.specs.Given.{frame_of}
use Rattle.ix_tcpout.specs.Sending.{IsSending}
use Rattle.ix_tcpout.proofs.FrameLemmas.{frame_bytes}

abbrev pub Orders : Connection → Type 0
Orders w = SendsInOrder w.state w.una w.nxt (length w.sent) w.fin_wanted w.fin_sent

bit_most : (b : Bool) → bit b ≤ 1
bit_most true = omega arith
bit_most false = omega arith

-- what is in flight is less than 2^17
pub flight_small : (w : Connection) → Orders w → w.nxt ≤ w.una + 65536
flight_small w s = let one : bit w.fin_sent ≤ 1 = bit_most w.fin_sent in omega (arith, s.flight)

-- how many bytes were sent
pub sent_is : (w : Connection) → Orders w → 1 ≤ w.una → sent_bytes (tcb_of w) ≡ length (unacked w)
sent_is w s least =
    let near : w.nxt ≤ w.una + 65536 = flight_small w s in
    let order : w.una ≤ w.nxt = s.order in
    rw (counts_ahead w.iss w.una w.nxt order (omega arith))
    (let cut : length (unacked w) ≡ min (w.nxt - w.una) (length (drop (w.una - 1) w.sent)) = length-take (w.nxt - w.una) (drop (w.una - 1) w.sent) in
    let rest : length (drop (w.una - 1) w.sent) ≡ length w.sent - (w.una - 1) = length-drop (w.una - 1) w.sent in
    omega (arith, cut, rest))

first_is : (cfg : Cfg) (w : Connection) (n : ℕ) (bs : List ℕ) → 1 ≤ w.una → n ≡ length bs → 0 < w.mss → bs ≡ take (w.nxt - w.una) (send_queue w) → frame_of (send_queue w) (first_again cfg (tcb_of w) n) ≡ first_of cfg w bs
first_is cfg w n [] least is mss cut = rw is refl
first_is cfg w n (b ∷ bs) least is mss cut =
    let taken : length (b ∷ bs) ≡ min (w.nxt - w.una) (length (send_queue w)) = ap length cut ∙ length-take (w.nxt - w.una) (send_queue w) in
    let rest : length (send_queue w) ≡ length w.sent - (w.una - 1) = length-drop (w.una - 1) w.sent in
    let some : 0 < length (b ∷ bs) = omega arith in
    let k : ℕ = min w.mss (length (b ∷ bs)) in
    let few : k ≤ w.nxt - w.una = omega (arith, taken) in
    let body : take w.mss (b ∷ bs) ≡ take k (send_queue w) =
    sym (take_min w.mss (b ∷ bs)) ∙ ap (take k) cut ∙ take-take k (w.nxt - w.una) (send_queue w) few in
    let start : w.una + 0 ≡ w.una = omega arith in
    rw (is, nonzero (length (b ∷ bs)) some)
    (subst (λ at. frame_of (send_queue w) (bytes cfg (tcb_of w) 0 k) ≡ data_frame cfg w at (take w.mss (b ∷ bs))) start
    (frame_bytes cfg w 0 k (take w.mss (b ∷ bs)) least (omega (arith, some, mss)) (omega (arith, taken, rest, some)) body))
  where
    nonzero : (n : ℕ) → 0 < n → (n == 0) ≡ false
    nonzero n some = grind (arith, common_steps)

pub again_is : (s : State) (cfg : Cfg) (w : Connection) → (carries s ≡ true → 1 ≤ w.una) → is_alive s ≡ true → Orders w → 0 < w.mss → frame_of (send_queue w) (again_in s cfg (tcb_of w)) ≡ first_unacked_in s cfg w
again_is st.Listen cfg w stream alive s mss = cc
again_is st.Closed cfg w stream alive s mss = cc
again_is st.SynSent cfg w stream alive s mss = refl
again_is st.SynReceived cfg w stream alive s mss = refl
again_is _ cfg w stream alive s mss = first_is cfg w _ _ (stream refl) (sent_is w s (stream refl)) mss refl

pub again_stands : (cfg : Cfg) (w : Connection) → IsSending w → frame_of (send_queue w) (again_in w.state cfg (tcb_of w)) ≡ first_unacked cfg w
unfolding first_unacked
again_stands cfg w s = again_is w.state cfg w s.sender.stream s.alive s.sender (omega (arith, s.mss))
