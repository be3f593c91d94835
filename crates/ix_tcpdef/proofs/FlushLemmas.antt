use Rattle.std.proofs.Common.{◌≡◌, ℕ, zero, suc, ◌+◌, ◌≤◌, ◌<◌, List, [], ◌∷◌, length, take, drop, refl, ap, sym, ◌∙◌, arith, length-drop, length-take}
use Rattle.std.specs.Prelude.{min}
use Rattle.std.proofs.lemmas.List.{take_min, drop_min}
use Rattle.ix_tcpdef.specs.declared.types.Cfg.{Cfg}
use Rattle.ix_tcpdef.specs.declared.types.Connection.{Connection}
use Rattle.ix_tcpdef.specs.Frames.{data_frame}
use Rattle.ix_tcpdef.specs.Flush.{data_frames}

-- any number that is no less than the bytes are serves
pub data_frames-most : (cfg : Cfg) (w : Connection) (f g at : ℕ) (bs : List ℕ) → 64 ≤ w.mss → length bs ≤ f → length bs ≤ g → data_frames cfg w f at bs ≡ data_frames cfg w g at bs
data_frames-most cfg w zero zero at bs p a b = refl
data_frames-most cfg w zero (suc g) at [] p a b = refl
data_frames-most cfg w zero (suc g) at (x ∷ bs) p a b = absurd (omega (arith, a))
data_frames-most cfg w (suc f) zero at [] p a b = refl
data_frames-most cfg w (suc f) zero at (x ∷ bs) p a b = absurd (omega (arith, b))
data_frames-most cfg w (suc f) (suc g) at [] p a b = refl
data_frames-most cfg w (suc f) (suc g) at (x ∷ bs) p a b =
    let shorter : length (drop w.mss (x ∷ bs)) ≤ length bs = omega (arith, length-drop w.mss (x ∷ bs), p) in
    ap (λ os. data_frame cfg w at (take w.mss (x ∷ bs)) ∷ os)
    (data_frames-most cfg w f g (at + length (take w.mss (x ∷ bs))) (drop w.mss (x ∷ bs)) p (omega (arith, shorter, a)) (omega (arith, shorter, b)))

-- the first of them, and the others
pub data_frames-first : (cfg : Cfg) (w : Connection) (at : ℕ) (bs : List ℕ) → 64 ≤ w.mss → 0 < length bs → data_frames cfg w (length bs) at bs ≡ data_frame cfg w at (take w.mss bs) ∷ data_frames cfg w (length (drop w.mss bs)) (at + length (take w.mss bs)) (drop w.mss bs)
data_frames-first cfg w at [] p h = absurd (omega (arith, h))
data_frames-first cfg w at (x ∷ bs) p h =
    ap (λ os. data_frame cfg w at (take w.mss (x ∷ bs)) ∷ os)
    (data_frames-most cfg w (length bs) (length (drop w.mss (x ∷ bs))) _ (drop w.mss (x ∷ bs)) p (omega (arith, length-drop w.mss (x ∷ bs), p)) (omega arith))

pub first_frames : (cfg : Cfg) (w : Connection) (at n : ℕ) (bs : List ℕ) → 64 ≤ w.mss → 0 < length bs → n ≡ min w.mss (length bs) → data_frames cfg w (length bs) at bs ≡ data_frame cfg w at (take n bs) ∷ data_frames cfg w (length (drop n bs)) (at + n) (drop n bs)
first_frames cfg w at n bs p h e =
    let t : take n bs ≡ take w.mss bs = rw e (take_min w.mss bs) in
    let d : drop n bs ≡ drop w.mss bs = rw e (drop_min w.mss bs) in
    let k : length (take w.mss bs) ≡ n = length-take w.mss bs ∙ sym e in
    rw (t, d)
    (data_frames-first cfg w at bs p h
    ∙ ap (λ (n : ℕ). data_frame cfg w at (take w.mss bs) ∷ data_frames cfg w (length (drop w.mss bs)) (at + n) (drop w.mss bs)) k)
