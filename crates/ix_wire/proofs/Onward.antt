-- Entries that are only put behind others.
use Rattle.std.proofs.Common.{◌≡◌, List, [], ◌∷◌, length, take, refl, ◌∙◌}
use Rattle.ix_wire.specs.Wire.{Written}
use Rattle.ix_wire.specs.Saved.{GoesOn}

heads : {X : Type 0} (a b : X) (p q : List X) → a ∷ p ≡ b ∷ q → a ≡ b
heads a b p q e = cc

tails : {X : Type 0} (a b : X) (p q : List X) → a ∷ p ≡ b ∷ q → p ≡ q
tails a b p q e = cc

take-through : {X : Type 0} (xs ys zs : List X) → take (length xs) ys ≡ xs → take (length ys) zs ≡ ys → take (length xs) zs ≡ xs
take-through [] ys zs p q = refl
take-through (x ∷ xs) [] zs p q = absurd (cc)
take-through (x ∷ xs) (y ∷ ys) [] p q = absurd (cc)
take-through (x ∷ xs) (y ∷ ys) (z ∷ zs) p q =
    let first : y ≡ x = heads y x (take (length xs) ys) xs p in
    let second : z ≡ y = heads z y (take (length ys) zs) ys q in
    let rest : take (length xs) zs ≡ xs = take-through xs ys zs (tails y x (take (length xs) ys) xs p) (tails z y (take (length ys) zs) ys q) in
    cc

pub onward : (w v u : Written) → GoesOn w v → GoesOn v u → GoesOn w u
onward w v u f g = record { front = take-through w.entries v.entries u.entries f.front g.front; pace = g.pace ∙ f.pace }
