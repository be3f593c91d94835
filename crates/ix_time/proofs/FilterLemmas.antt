-- What filters do to each other.
use Rattle.std.proofs.Common.{◌≡◌, Bool, true, false, ◌&&◌, List, [], ◌∷◌, filter, refl, ap, sym, ◌∙◌, inl, inr}
use Rattle.std.proofs.lemmas.Bool.{cases_Bool}
use Rattle.std.proofs.lemmas.List.Elements.{filter_agree}

and_comm : (a b : Bool) → (a && b) ≡ (b && a)
and_comm true true = refl
and_comm true false = refl
and_comm false true = refl
and_comm false false = refl

module _ {X : Type 0} where
  pub filter-yes : (p : X → Bool) (x : X) (xs : List X) → p x ≡ true → filter p (x ∷ xs) ≡ x ∷ filter p xs
  filter-yes p x xs e = rw e refl

  pub filter-no : (p : X → Bool) (x : X) (xs : List X) → p x ≡ false → filter p (x ∷ xs) ≡ filter p xs
  filter-no p x xs e = rw e refl

  filter_step : (p q : X → Bool) (x : X) (xs : List X) → filter p (filter q xs) ≡ filter (λ y. q y && p y) xs
      → filter p (filter q (x ∷ xs)) ≡ filter (λ y. q y && p y) (x ∷ xs)
  filter_step p q x xs rest =
      elim (cases_Bool (q x)) [
        | inl pass ↦ elim (cases_Bool (p x)) [ inl too ↦ rw (pass, too) (ap (λ l. x ∷ l) rest) | inr not_too ↦ rw (pass, not_too) rest ]
        | inr stop ↦ rw stop rest
      ]

  -- a filter of a filter is one filter
  pub filter-filter : (p q : X → Bool) (xs : List X) → filter p (filter q xs) ≡ filter (λ y. q y && p y) xs
  filter-filter p q [] = refl
  filter-filter p q (x ∷ xs) = filter_step p q x xs (filter-filter p q xs)

  pub filter_comm : (p q : X → Bool) (xs : List X) → filter p (filter q xs) ≡ filter q (filter p xs)
  filter_comm p q xs =
      filter-filter p q xs
      ∙ filter_agree (λ y. q y && p y) (λ y. p y && q y) (λ y. and_comm (q y) (p y)) xs
      ∙ sym (filter-filter q p xs)
