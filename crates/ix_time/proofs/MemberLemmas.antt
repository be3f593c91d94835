-- Entries of a list, lists with each key once, and the ticks that they give.
use Rattle.std.proofs.Common.{◌≡◌, ◌≢◌, ◌==◌, ℕ, zero, suc, Bool, true, not, List, [], ◌∷◌, ◌++◌, filter, Some, None, ◌⊎◌, refl, ap, sym, ◌∙◌, inl, inr, arith}
use Rattle.std.specs.List.{slice_get}
use Rattle.std.specs.List.Sorted.{IsPermutation}
use Rattle.std.proofs.lemmas.Bool.{eq-eqb, ne_eqb, cases_eq, cases_Bool}
use Rattle.std.proofs.lemmas.Option.{same_Some}
use Rattle.std.proofs.lemmas.List.Sorted.{IsPermutation-refl, IsPermutation-trans, IsPermutation-sym, IsPermutation-cons, IsPermutation-middle}
use Rattle.ix_time.specs.Entries.{Above, IsRising, tick_of, without}
use Rattle.ix_time.proofs.FilterLemmas.{filter-yes, filter-no}
use Rattle.ix_time.proofs.MapLemmas.{tick-same, tick-other, tick_of-without}

-- an entry of the list
abbrev pub In : (ℕ × ℕ) → List (ℕ × ℕ) → Type 0
In e [] = ⊥
In e (x ∷ xs) = (x ≡ e) ⊎ In e xs

pub In-left : (e : ℕ × ℕ) (xs ys : List (ℕ × ℕ)) → In e xs → In e (xs ++ ys)
In-left e [] ys here = absurd here
In-left e (x ∷ xs) ys here = elim here [ inl is ↦ inl is | inr there ↦ inr (In-left e xs ys there) ]

pub In-right : (e : ℕ × ℕ) (xs ys : List (ℕ × ℕ)) → In e ys → In e (xs ++ ys)
In-right e [] ys here = here
In-right e (x ∷ xs) ys here = inr (In-right e xs ys here)

pub In-cases : (e : ℕ × ℕ) (xs ys : List (ℕ × ℕ)) → In e (xs ++ ys) → In e xs ⊎ In e ys
In-cases e [] ys here = inr here
In-cases e (x ∷ xs) ys here =
    elim here [
      | inl is ↦ inl (inl is)
      | inr there ↦ elim (In-cases e xs ys there) [ inl left ↦ inl (inr left) | inr right ↦ inr right ]
    ]

pub In-filter : (p : (ℕ × ℕ) → Bool) (e : ℕ × ℕ) (xs : List (ℕ × ℕ)) → In e xs → p e ≡ true → In e (filter p xs)
In-filter p e [] here passes = absurd here
In-filter p e (x ∷ xs) here passes =
    elim here [
      | inl is ↦ rw (ap p is ∙ passes) (inl is)
      | inr there ↦ elim (cases_Bool (p x)) [
        | inl pass ↦ rw pass (inr (In-filter p e xs there passes))
        | inr stop ↦ rw stop (In-filter p e xs there passes)
      ]
    ]

pub record Passed (p : (ℕ × ℕ) → Bool) (e : ℕ × ℕ) (xs : List (ℕ × ℕ)) : Type 0 where
  pub passes : p e ≡ true
  pub there : In e xs

pub In-passed : (p : (ℕ × ℕ) → Bool) (e : ℕ × ℕ) (xs : List (ℕ × ℕ)) → In e (filter p xs) → Passed p e xs
In-passed p e [] here = absurd here
In-passed p e (x ∷ xs) here =
    elim (cases_Bool (p x)) [
      | inl pass ↦ (
          let its : In e (x ∷ filter p xs) = rw (filter-yes p x xs pass) at here in
          elim its [
            | inl is ↦ record { passes = ap p (sym is) ∙ pass; there = inl is }
            | inr later ↦ (
                let rest : Passed p e xs = In-passed p e xs later in
                record { passes = rest.passes; there = inr rest.there })
          ])
      | inr stop ↦ (
          let its : In e (filter p xs) = rw (filter-no p x xs stop) at here in
          let rest : Passed p e xs = In-passed p e xs its in
          record { passes = rest.passes; there = inr rest.there })
    ]

-- by index
pub In-get : (e : ℕ × ℕ) (xs : List (ℕ × ℕ)) → In e xs → (i : ℕ) × (slice_get xs i ≡ Some e)
In-get e [] here = absurd here
In-get e (x ∷ xs) here =
    elim here [
      | inl is ↦ (zero, ap (λ (g : ℕ × ℕ). Some g) is)
      | inr there ↦ (let rest = In-get e xs there in (suc rest.0, rest.1))
    ]

pub get-In : (e : ℕ × ℕ) (xs : List (ℕ × ℕ)) (i : ℕ) → slice_get xs i ≡ Some e → In e xs
get-In e [] i is = let no : None ≡ Some e = is in cc
get-In e (x ∷ xs) zero is = inl (same_Some x e is)
get-In e (x ∷ xs) (suc i) is = inr (get-In e xs i is)

-- each key once
abbrev pub NoKey : ℕ → List (ℕ × ℕ) → Type 0
NoKey key xs = (e : ℕ × ℕ) → In e xs → e.0 ≢ key

abbrev pub Distinct : List (ℕ × ℕ) → Type 0
Distinct [] = Unit {0}
Distinct (x ∷ xs) = NoKey x.0 xs × Distinct xs

pub Distinct-append : (xs ys : List (ℕ × ℕ)) → Distinct xs → Distinct ys → ((e f : ℕ × ℕ) → In e xs → In f ys → f.0 ≢ e.0) → Distinct (xs ++ ys)
Distinct-append [] ys left right apart = right
Distinct-append (x ∷ xs) ys left right apart = (
  λ e here. elim (In-cases e xs ys here) [ inl mine ↦ left.0 e mine | inr its ↦ apart x e (inl refl) its ],
  Distinct-append xs ys left.1 right (λ e f here there. apart e f (inr here) there),
)

pub Distinct-filter : (p : (ℕ × ℕ) → Bool) (xs : List (ℕ × ℕ)) → Distinct xs → Distinct (filter p xs)
Distinct-filter p [] once = tt
Distinct-filter p (x ∷ xs) once =
    elim (cases_Bool (p x)) [
      | inl pass ↦ rw pass (λ e here. once.0 e (In-passed p e xs here).there, Distinct-filter p xs once.1)
      | inr stop ↦ rw stop (Distinct-filter p xs once.1)
    ]

pub Distinct-rising : (xs : List (ℕ × ℕ)) → IsRising xs → Distinct xs
Distinct-rising [] rising = tt
Distinct-rising (x ∷ xs) rising = (λ e here. above-key x.0 xs rising.0 e here, Distinct-rising xs rising.1)
  where
    above-key : (low : ℕ) (ys : List (ℕ × ℕ)) → Above low ys → (e : ℕ × ℕ) → In e ys → e.0 ≢ low
    above-key low [] above e here = absurd here
    above-key low (y ∷ ys) above e here =
        elim here [
          | inl is ↦ (λ same. absurd (omega (arith, above.0, ap (λ (g : ℕ × ℕ). g.0) is)))
          | inr there ↦ above-key low ys above.1 e there
        ]

-- one index for one key
pub Distinct-index : (xs : List (ℕ × ℕ)) (i j : ℕ) (e f : ℕ × ℕ) → Distinct xs → slice_get xs i ≡ Some e → slice_get xs j ≡ Some f → e.0 ≡ f.0 → i ≡ j
Distinct-index [] i j e f once first second same = let no : None ≡ Some e = first in cc
Distinct-index (x ∷ xs) zero zero e f once first second same = refl
Distinct-index (x ∷ xs) zero (suc j) e f once first second same =
    absurd (once.0 f (get-In f xs j second) (sym same ∙ ap (λ (g : ℕ × ℕ). g.0) (sym (same_Some x e first))))
Distinct-index (x ∷ xs) (suc i) zero e f once first second same =
    absurd (once.0 e (get-In e xs i first) (same ∙ ap (λ (g : ℕ × ℕ). g.0) (sym (same_Some x f second))))
Distinct-index (x ∷ xs) (suc i) (suc j) e f once first second same = ap (λ (k : ℕ). suc k) (Distinct-index xs i j e f once.1 first second same)

-- the tick of a key is that of its entry
pub tick-In : (q t : ℕ) (xs : List (ℕ × ℕ)) → tick_of q xs ≡ Some t → In (q, t) xs
tick-In q t [] is = let no : None ≡ Some t = is in cc
tick-In q t (x ∷ xs) is =
    elim (cases_eq q x.0) [
      | inl same ↦ (
          let tick : x.1 ≡ t = same_Some x.1 t (sym (tick-same q x xs same) ∙ is) in
          inl (ap (λ (k : ℕ). (k, x.1)) (sym same) ∙ ap (λ (k : ℕ). (q, k)) tick))
      | inr apart ↦ inr (tick-In q t xs (sym (tick-other q x xs apart) ∙ is))
    ]

pub In-tick : (q t : ℕ) (xs : List (ℕ × ℕ)) → Distinct xs → In (q, t) xs → tick_of q xs ≡ Some t
In-tick q t [] once here = absurd here
In-tick q t (x ∷ xs) once here =
    elim here [
      | inl is ↦ (
          let key : q ≡ x.0 = ap (λ (g : ℕ × ℕ). g.0) (sym is) in
          tick-same q x xs key ∙ ap (λ (g : ℕ × ℕ). Some g.1) is)
      | inr there ↦ tick-other q x xs (λ same. once.0 (q, t) there same) ∙ In-tick q t xs once.1 there
    ]

no-tick : (q : ℕ) (xs : List (ℕ × ℕ)) → NoKey q xs → tick_of q xs ≡ None
no-tick q [] none = refl
no-tick q (x ∷ xs) none = tick-other q x xs (λ same. none x (inl refl) (sym same)) ∙ no-tick q xs (λ e here. none e (inr here))

without-absent : (q : ℕ) (xs : List (ℕ × ℕ)) → NoKey q xs → without q xs ≡ xs
without-absent q [] none = refl
without-absent q (x ∷ xs) none =
    rw (ne_eqb x.0 q (none x (inl refl))) (ap (λ l. x ∷ l) (without-absent q xs (λ e here. none e (inr here))))

-- an entry in front
pulled : (q t : ℕ) (xs : List (ℕ × ℕ)) → Distinct xs → tick_of q xs ≡ Some t → IsPermutation ((q, t) ∷ without q xs) xs
pulled q t [] once is = let no : None ≡ Some t = is in cc
pulled q t (x ∷ xs) once is =
    elim (cases_eq x.0 q) [
      | inl same ↦ (
          let tick : x.1 ≡ t = same_Some x.1 t (sym (tick-same q x xs (sym same)) ∙ is) in
          let its : x ≡ (q, t) = ap (λ (k : ℕ). (k, x.1)) same ∙ ap (λ (k : ℕ). (q, k)) tick in
          let none : NoKey q xs = λ e here bad. once.0 e here (bad ∙ sym same) in
          let rest : without q (x ∷ xs) ≡ xs = rw (eq-eqb x.0 q same) (without-absent q xs none) in
          rw (rest, ← its) (IsPermutation-refl (x ∷ xs)))
      | inr apart ↦ (
          let rest : without q (x ∷ xs) ≡ x ∷ without q xs = rw (ne_eqb x.0 q apart) refl in
          let others = pulled q t xs once.1 (sym (tick-other q x xs (λ same. apart (sym same))) ∙ is) in
          rw rest
          (IsPermutation-trans ((q, t) ∷ x ∷ without q xs) (x ∷ (q, t) ∷ without q xs) (x ∷ xs)
          (IsPermutation-sym (x ∷ (q, t) ∷ without q xs) ((q, t) ∷ x ∷ without q xs) (IsPermutation-middle (x ∷ []) (q, t) (without q xs)))
          (IsPermutation-cons x ((q, t) ∷ without q xs) xs others)))
    ]

-- lists with the same ticks have the same entries
pub same-entries : (xs ys : List (ℕ × ℕ)) → Distinct xs → Distinct ys → ((q : ℕ) → tick_of q xs ≡ tick_of q ys) → IsPermutation xs ys
same-entries [] [] left right same = IsPermutation-refl []
same-entries [] (y ∷ ys) left right same =
    let no : None ≡ Some y.1 = same y.0 ∙ tick-same y.0 y ys refl in
    cc
same-entries (x ∷ xs) ys left right same =
    let found : tick_of x.0 ys ≡ Some x.1 = sym (same x.0) ∙ tick-same x.0 x xs refl in
    let rest : (q : ℕ) → tick_of q xs ≡ tick_of q (without x.0 ys) =
    λ q. elim (cases_eq q x.0) [
      | inl here ↦ (
          let none : tick_of q xs ≡ None = no-tick q xs (λ e there bad. left.0 e there (bad ∙ here)) in
          none ∙ sym (tick_of-without q x.0 ys ∙ rw (eq-eqb q x.0 here) refl))
      | inr apart ↦ (
          sym (tick-other q x xs apart) ∙ same q ∙ sym (tick_of-without q x.0 ys ∙ rw (ne_eqb q x.0 apart) refl))
    ] in
    IsPermutation-trans (x ∷ xs) (x ∷ without x.0 ys) ys
    (IsPermutation-cons x xs (without x.0 ys) (same-entries xs (without x.0 ys) left.1 (Distinct-filter (λ e. not (e.0 == x.0)) ys right) rest))
    (pulled x.0 x.1 ys right found)
