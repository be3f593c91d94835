-- The strays of a report rise.
use Rattle.std.proofs.Common.{◌≡◌, ℕ, suc, ◌+◌, ◌<◌, ◌≤◌, refl, Bool, true, List, [], ◌∷◌, length, get_or, arith, inl, inr}
use Rattle.std.specs.Prelude.{◌==◌, count_by, sum_by}
use Rattle.std.specs.List.Sorted.{IsNonDecreasingBy, IsPermutation, IsSortedByKey}
use Rattle.std.specs.Ordering.{nat_cmp}
use Rattle.std.proofs.lemmas.Bool.{cases_eq}
use Rattle.std.proofs.lemmas.Bool.Decides.{nat_tests}
use Rattle.std.proofs.lemmas.List.Sorted.{IsNonDecreasingBy-from_sort}
use Rattle.std.proofs.lemmas.List.Sums.{sum_by-cons}
use Rattle.ix_groupdef.specs.declared.types.GroupRecord.{GroupRecord}
use Rattle.ix_groupdef.specs.declared.types.Stray.{Stray}
use Rattle.ix_lines.specs.declared.types.StrayLine.{StrayLine}
use Rattle.ix_playdef.specs.Placed.{placed}
use Rattle.ix_playdef.specs.declared.order.Reply.{Reply}
use Rattle.ix_trace.specs.Sheet.{Rise}
use Rattle.ix_sheet.specs.Lines.{by_place}
use Rattle.ix_sheet.specs.Strays.{all_strays, all_strays_at, group_strays, is_stray_at, stray_line, strays_at, wire_of}
use Rattle.ix_sheet.proofs.Counts.{count-append, count-at, count-cons, count-moved, count-yes}

abbrev is_at : ℕ → StrayLine → Bool
is_at w l = l.w.0 == w

-- ## As many lines have a wire number as strays
count-group : (replies : List Reply) (w group at : ℕ) (ss : List Stray) → count_by (is_at w) (by_place (stray_line replies group) at ss) ≡ count_by (is_stray_at w) ss
count-group replies w group at [] = refl
count-group replies w group at (s ∷ ss) =
    omega (
      arith,
      count-cons (is_at w) (stray_line replies group at s) (by_place (stray_line replies group) (at + 1) ss),
      count-cons (is_stray_at w) s ss,
      count-group replies w group (at + 1) ss,
    )

count-groups : (replies : List Reply) (w at : ℕ) (rs : List GroupRecord) → count_by (is_at w) (placed (group_strays replies) at rs) ≡ sum_by (strays_at w) rs
count-groups replies w at [] = refl
count-groups replies w at (r ∷ rs) =
    omega (
      arith,
      count-append (is_at w) (group_strays replies at r) (placed (group_strays replies) (at + 1) rs),
      count-group replies w at 0 r.strays,
      sum_by-cons (strays_at w) r rs,
      count-groups replies w (at + 1) rs,
    )

-- ## Where no two have one number, lines in order rise
record IsAbove (low : ℕ) (ls : List StrayLine) : Type 0 where
  each : (i : ℕ) (d : StrayLine) → i < length ls → low ≤ wire_of (get_or ls i d)

rise-from : (low : ℕ) (ls : List StrayLine) → IsAbove low ls → IsNonDecreasingBy wire_of ls → ((w : ℕ) → count_by (is_at w) ls ≤ 1) → Rise low ls
rise-from low [] above order once = tt
rise-from low (l ∷ ls) above order once =
    let yes : is_at l.w.0 l ≡ true = grind (arith, nat_tests) in
    let step : (i : ℕ) (d : StrayLine) → i < length ls → l.w.0 + 1 ≤ wire_of (get_or ls i d) =
    λ i d lt.
    let le : wire_of l ≤ wire_of (get_or ls i d) = order 0 (suc i) d (omega arith) (omega (arith, lt)) in
    elim (cases_eq (wire_of (get_or ls i d)) l.w.0) [
      | inl same ↦ (let here : is_at l.w.0 (get_or ls i d) ≡ true = grind (arith, nat_tests, same) in
          absurd (omega (arith, once l.w.0, count-yes (is_at l.w.0) l ls yes, count-at (is_at l.w.0) ls i d lt here)))
      | inr other ↦ omega (arith, le, other)
    ] in (
      above.each 0 l (omega arith),
      rise-from (l.w.0 + 1) ls (record { each = step }) (λ i j d le lt. order (suc i) (suc j) d (omega (arith, le)) (omega (arith, lt)))
          (λ w. omega (arith, once w, count-cons (is_at w) l ls)),
    )

pub strays-rise : (replies : List Reply) (rs : List GroupRecord) (ls : List StrayLine) → ((w : ℕ) → all_strays_at w rs ≤ 1)
    → IsPermutation (all_strays replies rs) ls → IsSortedByKey wire_of nat_cmp ls → Rise 0 ls
strays-rise replies rs ls apart moved sorted =
    rise-from 0 ls (record { each = λ i d lt. omega arith }) (IsNonDecreasingBy-from_sort wire_of ls sorted)
    (λ w. omega (arith, apart w, count-groups replies w 0 rs, count-moved (is_at w) (all_strays replies rs) ls moved))
