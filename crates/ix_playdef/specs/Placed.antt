-- What the elements of a list give, one after another, by their places.
use Rattle.std.specs.Prelude.{◌≡◌, ℕ, ◌+◌, ◌<◌, ◌≤◌, List, [], ◌∷◌, ◌++◌, length, drop}
use Rattle.std.proofs.Common.{get_or, sym, ap, ◌∙◌, append_assoc, append-nil}
use Rattle.std.proofs.lemmas.List.{drop_more, drop_all}

-- where the first of these elements has this place
abbrev pub placed : {A B : Type 0} → (ℕ → A → List B) → ℕ → List A → List B
placed f at [] = []
placed f at (x ∷ xs) = f at x ++ placed f (at + 1) xs

-- ## One step of a loop over what elements give
-- what was given so far, with what the element at a place gives, and what the rest gives
pub placed-one : {A B : Type 0} (f : ℕ → A → List B) (xs : List A) (i : ℕ) (d : A) (done ys : List B) → i < length xs → ys ≡ f i (get_or xs i d)
    → (done ++ ys) ++ placed f (i + 1) (drop (i + 1) xs) ≡ done ++ placed f i (drop i xs)
placed-one f xs i d done ys h e =
    append_assoc done ys (placed f (i + 1) (drop (i + 1) xs))
    ∙ ap (λ zs. done ++ (zs ++ placed f (i + 1) (drop (i + 1) xs))) e
    ∙ ap (λ zs. done ++ placed f i zs) (sym (drop_more xs i d h))

pub placed-end : {A B : Type 0} (f : ℕ → A → List B) (xs : List A) (i : ℕ) (done : List B) → length xs ≤ i → done ++ placed f i (drop i xs) ≡ done
placed-end f xs i done h = ap (λ zs. done ++ placed f i zs) (drop_all i xs h) ∙ append-nil done

pub ruleset steps = (placed-one, placed-end)
