-- Data in segments, over numbers and over positions.
use Rattle.std.proofs.Common.{◌≡◌, ℕ, zero, suc, ◌+◌, ◌-◌, ◌<◌, ◌≤◌, List, [], ◌∷◌, length, take, drop, arith, refl, ap, sym, ◌∙◌, length-take, length-drop}
use Rattle.std.specs.Prelude.{min, map}
use Rattle.std.proofs.lemmas.List.{take-take, take_min, drop_min, drop-drop, drop-take}
use Rattle.ix_tcpdef.specs.Frames.{data_frame}
use Rattle.ix_tcpdef.specs.Flush.{data_frames}
use Rattle.ix_tcpdef.specs.declared.types.Cfg.{Cfg}
use Rattle.ix_tcpdef.specs.declared.types.Connection.{Connection}
use Rattle.ix_tcpdef.specs.declared.types.Output.{Output}
use Rattle.ix_tcpdef.specs.declared.types.Tcb.{Tcb}
use Rattle.ix_tcpdef.specs.Stands.{tcb_of, send_queue}
use Rattle.ix_tcpout.specs.Heads.{bytes}
use Rattle.ix_tcpout.specs.Given.{frame_of}
use Rattle.ix_tcpout.specs.Parts.{segments}
use Rattle.ix_tcpout.proofs.FrameLemmas.{frame_bytes}

-- any number that is no less than the bytes serves
segments-most : (cfg : Cfg) (t : Tcb) (f g from left : ℕ) → 64 ≤ t.mss → left ≤ f → left ≤ g → segments cfg t f from left ≡ segments cfg t g from left
segments-most cfg t zero zero from left p a b = refl
segments-most cfg t zero (suc g) from zero p a b = refl
segments-most cfg t zero (suc g) from (suc left) p a b = absurd (omega (arith, a))
segments-most cfg t (suc f) zero from zero p a b = refl
segments-most cfg t (suc f) zero from (suc left) p a b = absurd (omega (arith, b))
segments-most cfg t (suc f) (suc g) from zero p a b = refl
segments-most cfg t (suc f) (suc g) from (suc left) p a b =
    ap (λ es. bytes cfg t from (min t.mss (suc left)) ∷ es)
    (segments-most cfg t f g (from + min t.mss (suc left)) (suc left - min t.mss (suc left)) p (omega (arith, a, p)) (omega (arith, b, p)))

-- the first of them, and the others
first_of_left : (cfg : Cfg) (t : Tcb) (from left : ℕ) → 64 ≤ t.mss → 0 < left → segments cfg t left from left ≡ bytes cfg t from (min t.mss left) ∷ segments cfg t (left - min t.mss left) (from + min t.mss left) (left - min t.mss left)
first_of_left cfg t from zero p some = absurd (omega (arith, some))
first_of_left cfg t from (suc left) p some =
    ap (λ es. bytes cfg t from (min t.mss (suc left)) ∷ es)
    (segments-most cfg t left (suc left - min t.mss (suc left)) (from + min t.mss (suc left)) (suc left - min t.mss (suc left)) p (omega (arith, p)) (omega arith))

pub first_segments : (cfg : Cfg) (t : Tcb) (from left n : ℕ) → 64 ≤ t.mss → 0 < left → n ≡ min t.mss left → segments cfg t left from left ≡ bytes cfg t from n ∷ segments cfg t (left - n) (from + n) (left - n)
first_segments cfg t from left n p some is = rw is (first_of_left cfg t from left p some)

-- Segments over numbers are the frames of the connection.
pub segments_stand : (cfg : Cfg) (w : Connection) (most from left : ℕ) (bs : List ℕ) → 1 ≤ w.una → 64 ≤ w.mss → left ≡ length bs → bs ≡ take left (drop from (send_queue w)) → (0 < left → w.una + from + left ≤ length w.sent + 1) → map (frame_of (send_queue w)) (segments cfg (tcb_of w) most from left) ≡ data_frames cfg w most (w.una + from) bs
segments_stand cfg w zero from left bs least mss is cut within = refl
segments_stand cfg w (suc most) from zero [] least mss is cut within = refl
segments_stand cfg w (suc most) from (suc left) [] least mss is cut within = absurd (omega (arith, is))
segments_stand cfg w (suc most) from zero (b ∷ bs) least mss is cut within = absurd (omega (arith, is))
segments_stand cfg w (suc most) from (suc left) (b ∷ bs) least mss is cut within =
    let all : List ℕ = b ∷ bs in
    let room : w.una + from + suc left ≤ length w.sent + 1 = within (omega arith) in
    let queue : List ℕ = send_queue w in
    let n : ℕ = min w.mss (suc left) in
    let n_is : min w.mss (length all) ≡ n = ap (min w.mss) (sym is) in
    let few : n ≤ suc left = omega arith in
    let first : take w.mss all ≡ take n (drop from queue) =
    sym (take_min w.mss all) ∙ ap (λ k. take k all) n_is ∙ ap (take n) cut ∙ take-take n (suc left) (drop from queue) few in
    let whole : suc left ≡ n + (suc left - n) = omega (arith, few) in
    let rest : drop w.mss all ≡ take (suc left - n) (drop (from + n) queue) =
    sym (drop_min w.mss all)
    ∙ ap (λ k. drop k all) n_is
    ∙ ap (drop n) (cut ∙ ap (λ k. take k (drop from queue)) whole)
    ∙ drop-take n (suc left - n) (drop from queue)
    ∙ ap (take (suc left - n)) (drop-drop n from queue) in
    let len : length (take w.mss all) ≡ n = length-take w.mss all ∙ n_is in
    let more : suc left - n ≡ length (drop w.mss all) = omega (arith, length-drop w.mss all, is) in
    let frame : frame_of queue (bytes cfg (tcb_of w) from n) ≡ data_frame cfg w (w.una + from) (take w.mss all) =
    frame_bytes cfg w from n (take w.mss all) least (omega (arith, mss)) (omega (arith, room, few)) first in
    let place : w.una + (from + n) ≡ (w.una + from) + length (take w.mss all) = omega (arith, len) in
    let others : map (frame_of queue) (segments cfg (tcb_of w) most (from + n) (suc left - n)) ≡ data_frames cfg w most (w.una + (from + n)) (drop w.mss all) =
    segments_stand cfg w most (from + n) (suc left - n) (drop w.mss all) least mss more rest (λ _. omega (arith, room, few)) in
    ap (λ (o : Output). o ∷ map (frame_of queue) (segments cfg (tcb_of w) most (from + n) (suc left - n))) frame
    ∙ ap (λ (os : List Output). data_frame cfg w (w.una + from) (take w.mss all) ∷ os) (others ∙ ap (λ at. data_frames cfg w most at (drop w.mss all)) place)
