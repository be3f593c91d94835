-- No two frames that are out have one buffer, and one that stays out keeps its own.
use Rattle.std.proofs.Common.{◌≡◌, ℕ, ◌+◌, ◌≤◌, Bool, true, false, not, List, [], ◌∷◌, refl, sym, ap, ◌∙◌, subst, arith}
use Rattle.std.specs.Prelude.{◌==◌, ◌&&◌, ◌||◌, if◌then◌else◌, Option, Some, None, sum_by}
use Rattle.std.specs.List.{list_all, list_any}
use Rattle.std.proofs.lemmas.Bool.Decides.{nat_tests}
use Rattle.std.proofs.lemmas.List.Sums.{sum_by-cons}
use Rattle.ix_base.specs.declared.id.BufId.{BufId}
use Rattle.ix_base.specs.declared.id.WireNo.{WireNo}
use Rattle.ix_mbuf.specs.Owners.{one_if, same_id}
use Rattle.ix_mbuf.specs.declared.name.Name.{Name}
use Rattle.ix_lines.specs.declared.types.EntryLine.{EntryLine}
use Rattle.ix_fits.specs.Journals.{buffer_of, buffer_of_line, is_buffer}
use Rattle.ix_fits.specs.Journals as lines
use Rattle.ix_fits.specs.Owners.{Play, all_stay, are_apart, buffers_of, is_among, is_printed, same_buffer, stays}
use Rattle.ix_settled.specs.Renamed.{AgreesWith}
use Rattle.ix_owned.specs.Owned.{one_name}

test-eq : (h g : ℕ) → (h == g) ≡ true → h ≡ g
test-eq h g e = grind (arith, nat_tests)

pub self-test : (n : ℕ) → (n == n) ≡ true
self-test n = grind (arith, nat_tests)

test-swap : (g h : ℕ) → (g == h) ≡ (h == g)
test-swap g h = by_test (h == g) refl
  where
    by_test : (q : Bool) → (h == g) ≡ q → (g == h) ≡ q
    by_test true e = let same = test-eq h g e in grind (arith, nat_tests)
    by_test false e = grind (arith, nat_tests)

-- ## Tests of buffers
same-self : (a : BufId) → same_id a a ≡ true
same-self a = rw (self-test a.home.0, self-test a.slot) refl

same-swap : (a b : BufId) → lines.same_id b a ≡ same_id a b
same-swap a b = ap (λ q. q && (b.slot == a.slot)) (test-swap b.home.0 a.home.0) ∙ ap (λ q. (a.home.0 == b.home.0) && q) (test-swap b.slot a.slot)

pub name-self : (x : Name) → one_name x x ≡ 1
name-self x = rw (same-self x.id, self-test x.uses) refl

-- nothing is the same as no buffer
none-same : (bs : List (Option BufId)) → list_any (same_buffer None) bs ≡ false
none-same [] = refl
none-same (b ∷ bs) = none-same bs

to-none : (b : Option BufId) → same_buffer b None ≡ false
to-none None = refl
to-none (Some a) = refl

none-printed : (between : List EntryLine) → is_printed None between ≡ false
none-printed [] = refl
none-printed (l ∷ ls) = ap (λ q. q || is_printed None ls) (to-none (buffer_of_line l)) ∙ none-printed ls

one-zero : (q : Bool) → (let n : ℕ = if q then 1 else 0 in n) ≡ 0 → q ≡ false
one-zero true e = absurd (omega (arith, e))
one-zero false e = refl

module _ (entries : List EntryLine) (name : WireNo → Name) (agrees : AgreesWith entries name) where
  -- ## Apart
  none-like : (a : BufId) (ws : List WireNo) → sum_by (λ w. one_if a (name w)) ws ≡ 0 → list_any (same_buffer (Some a)) (buffers_of entries ws) ≡ false
  none-like a [] e = refl
  none-like a (w ∷ ws) e =
      let all = sum_by-cons (λ w. one_if a (name w)) w ws in
      let first : one_if a (name w) ≡ 0 = omega (arith, all, e) in
      let rest : sum_by (λ w. one_if a (name w)) ws ≡ 0 = omega (arith, all, e) in
      ap (λ q. q || list_any (same_buffer (Some a)) (buffers_of entries ws)) (by_buffer (buffer_of entries w.0) refl (one-zero (same_id a (name w).id) first)) ∙ none-like a ws rest
    where
      by_buffer : (o : Option BufId) → buffer_of entries w.0 ≡ o → same_id a (name w).id ≡ false → same_buffer (Some a) o ≡ false
      by_buffer None is other = refl
      by_buffer (Some b) is other = same-swap a b ∙ ap (same_id a) (sym (agrees.id w b is)) ∙ other

  pub apart : (ws : List WireNo) → ((id : BufId) → sum_by (λ w. one_if id (name w)) ws ≤ 1) → are_apart (buffers_of entries ws) ≡ true
  apart [] once = refl
  apart (w ∷ ws) once =
      let all = λ (id : BufId). sum_by-cons (λ w. one_if id (name w)) w ws in
      let rest = apart ws (λ id. (let a = all id in let le = once id in omega (arith, a, le))) in
      by_buffer (buffer_of entries w.0) refl rest
    where
      by_buffer : (o : Option BufId) → buffer_of entries w.0 ≡ o → are_apart (buffers_of entries ws) ≡ true → (not (list_any (same_buffer o) (buffers_of entries ws)) && are_apart (buffers_of entries ws)) ≡ true
      by_buffer None is rest = ap (λ q. not q && are_apart (buffers_of entries ws)) (none-same (buffers_of entries ws)) ∙ rest
      by_buffer (Some a) is rest =
          let here : one_if a (name w) ≡ 1 = ap (λ (b : BufId). if same_id a b then 1 else 0) (agrees.id w a is) ∙ (rw (same-self a) refl) in
          let all = sum_by-cons (λ w. one_if a (name w)) w ws in
          let le = once a in
          let none : sum_by (λ w. one_if a (name w)) ws ≡ 0 = omega (arith, here, all, le) in
          ap (λ q. not q && are_apart (buffers_of entries ws)) (none-like a ws none) ∙ rest

  -- ## What stays out
  among-weighs : (w : WireNo) (ws : List WireNo) → is_among ws w ≡ true → 1 ≤ sum_by (λ v. one_name (name w) (name v)) ws
  among-weighs w [] e = absurd (cc)
  among-weighs w (v ∷ vs) e =
      let all = sum_by-cons (λ v. one_name (name w) (name v)) v vs in
      let least = by_test (v.0 == w.0) refl e (among-weighs w vs) in
      omega (arith, all, least)
    where
      by_test : (q : Bool) → (v.0 == w.0) ≡ q → (q || is_among vs w) ≡ true → (is_among vs w ≡ true → 1 ≤ sum_by (λ v. one_name (name w) (name v)) vs)
          → 1 ≤ one_name (name w) (name v) + sum_by (λ v. one_name (name w) (name v)) vs
      by_test true t e f =
          let same : v ≡ w = ap (λ n. (let u : WireNo = record { 0 = n } in u)) (test-eq v.0 w.0 t) in
          let one : one_name (name w) (name v) ≡ 1 = ap (λ (u : WireNo). one_name (name w) (name u)) same ∙ name-self (name w) in
          omega (arith, one)
      by_test false t e f = let rest = f e in omega (arith, rest)

  module _ (p : Play) (same_entries : p.entries ≡ entries) (before now : List WireNo) (between : List EntryLine)
      (none : (x : Name) → 1 ≤ sum_by (λ v. one_name x (name v)) before → 1 ≤ sum_by (λ v. one_name x (name v)) now → is_printed (Some x.id) between ≡ false) where
    one-stays : (w : WireNo) → 1 ≤ sum_by (λ v. one_name (name w) (name v)) before → stays p now between w ≡ true
    one-stays w out = by_test (is_among now w) refl
      where
        by_buffer : (o : Option BufId) → buffer_of p.entries w.0 ≡ o → is_among now w ≡ true → is_printed o between ≡ false
        by_buffer None is e = none-printed between
        by_buffer (Some b) is e =
            let own : buffer_of entries w.0 ≡ Some b = ap (λ (z : List EntryLine). buffer_of z w.0) (sym same_entries) ∙ is in
            subst (λ (c : BufId). is_printed (Some c) between ≡ false) (agrees.id w b own) (none (name w) out (among-weighs w now e))

        by_test : (q : Bool) → is_among now w ≡ q → not (q && is_printed (buffer_of p.entries w.0) between) ≡ true
        by_test true e = ap not (by_buffer (buffer_of p.entries w.0) refl e)
        by_test false e = refl

    all-so : (ws : List WireNo) → ((w : WireNo) → sum_by (λ v. one_name (name w) (name v)) ws ≤ sum_by (λ v. one_name (name w) (name v)) before) → list_all (stays p now between) ws ≡ true
    all-so [] more = refl
    all-so (w ∷ ws) more =
        let cons = λ (x : WireNo). sum_by-cons (λ v. one_name (name x) (name v)) w ws in
        let here = more w in let first = cons w in let self = name-self (name w) in
        let out : 1 ≤ sum_by (λ v. one_name (name w) (name v)) before = omega (arith, here, first, self) in
        ap (λ q. q && list_all (stays p now between) ws) (one-stays w out) ∙ all-so ws (λ x. (let a = cons x in let b = more x in omega (arith, a, b)))

    pub stay : all_stay p before now between ≡ true
    stay = all-so before (λ w. omega arith)
