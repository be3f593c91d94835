-- Groups that are put on a core, all four of a class together.
use Rattle.std.proofs.Common.{◌≡◌, ◌≢◌, ℕ, zero, suc, ◌+◌, ◌*◌, ◌%◌, ◌<◌, ◌≤◌, List, [], ◌∷◌, ◌++◌, ◌⊎◌, inl, inr, length, get_or, refl, ap, sym, ◌∙◌, arith, Bool, true, false, length-append}
use Rattle.std.specs.Prelude.{◌==◌, ◌||◌, if◌then◌else◌, slice_set, All}
use Rattle.std.proofs.Math.ListN.{get_or-append, length-set}
use Rattle.std.proofs.Math.Seq.{get_or-append_seam}
use Rattle.std.proofs.lemmas.Bool.{cases_eq, cases_lt}
use Rattle.std.proofs.lemmas.Bool.Decides.{nat_tests}
use Rattle.std.proofs.lemmas.List.{get_or-set_other, get_or-set_same}
use Rattle.ix_base.specs.declared.id.CoreId.{CoreId}
use Rattle.ix_cp.specs.declared.plan.PlanMove.{PlanMove}
use Rattle.ix_wire.specs.Table.{groups_from, opening_cores}
use Rattle.ix_wire.specs.Classes.{AreTogether}

-- each of these groups goes to a core
abbrev pub put_all : CoreId → List ℕ → List CoreId → List CoreId
put_all to [] at = at
put_all to (group ∷ groups) at = put_all to groups (slice_set at group to)

pub length-put_all : (to : CoreId) (groups : List ℕ) (at : List CoreId) → length (put_all to groups at) ≡ length at
length-put_all to [] at = refl
length-put_all to (group ∷ groups) at = length-put_all to groups (slice_set at group to) ∙ length-set at group to

is_member : ℕ → List ℕ → Bool
is_member x [] = false
is_member x (group ∷ groups) = (group == x) || is_member x groups

same_branches : (b : Bool) (x : CoreId) → (if b then x else x) ≡ x
same_branches true x = refl
same_branches false x = refl

this_one : (e b : Bool) (x y : CoreId) → e ≡ true → (if (e || b) then x else y) ≡ x
this_one true b x y h = refl
this_one false b x y h = absurd (cc)

another : (e b : Bool) (x y : CoreId) → e ≡ false → (if (e || b) then x else y) ≡ (if b then x else y)
another true b x y h = absurd (cc)
another false b x y h = refl

is_equal : (a b : ℕ) → b ≡ a → (a == b) ≡ true
is_equal a b h = grind (arith, nat_tests)

is_other : (a b : ℕ) → b ≢ a → (a == b) ≡ false
is_other a b h = grind (arith, nat_tests)

put_all-read : (to : CoreId) (groups : List ℕ) (at : List CoreId) (x : ℕ) (d : CoreId) → x < length at
    → get_or (put_all to groups at) x d ≡ (if is_member x groups then to else get_or at x d)
unfolding is_member
put_all-read to [] at x d h = refl
put_all-read to (group ∷ groups) at x d h =
    put_all-read to groups (slice_set at group to) x d (omega (arith, length-set at group to)) ∙ step (cases_eq x group) where
      step : (x ≡ group) ⊎ (x ≢ group)
          → (if is_member x groups then to else get_or (slice_set at group to) x d)
          ≡ (if ((group == x) || is_member x groups) then to else get_or at x d)
      step (inl same) =
          ap (λ (y : CoreId). if is_member x groups then to else y)
          (ap (λ k. get_or (slice_set at group to) k d) same ∙ get_or-set_same at group to d (omega arith))
          ∙ same_branches (is_member x groups) to ∙ sym (this_one (group == x) (is_member x groups) to (get_or at x d) (is_equal group x same))
      step (inr other) =
          ap (λ (y : CoreId). if is_member x groups then to else y) (get_or-set_other at group x to d other)
          ∙ sym (another (group == x) (is_member x groups) to (get_or at x d) (is_other group x other))

-- the groups of a class
in_class : (k j i : ℕ) → k < 128 → j < 128 → i < 4 → is_member (j + 128 * i) (groups_from k 4) ≡ (j == k)
unfolding is_member
in_class k j zero h g l = grind (arith, nat_tests)
in_class k j (suc zero) h g l = grind (arith, nat_tests)
in_class k j (suc (suc zero)) h g l = grind (arith, nat_tests)
in_class k j (suc (suc (suc zero))) h g l = grind (arith, nat_tests)
in_class k j (suc (suc (suc (suc i)))) h g l = absurd (omega arith)

class_read : (to : CoreId) (k j i : ℕ) (at : List CoreId) (d : CoreId) → length at ≡ 512 → k < 128 → j < 128 → i < 4
    → get_or (put_all to (groups_from k 4) at) (j + 128 * i) d ≡ (if j == k then to else get_or at (j + 128 * i) d)
class_read to k j i at d count h g l =
    put_all-read to (groups_from k 4) at (j + 128 * i) d (omega arith)
    ∙ ap (λ b. if b then to else get_or at (j + 128 * i) d) (in_class k j i h g l)

pub put_all-together : (to : CoreId) (k : ℕ) (at : List CoreId) → length at ≡ 512 → k < 128 → AreTogether at
    → AreTogether (put_all to (groups_from k 4) at)
put_all-together to k at count h all = record {
  each = λ j i d g l.
      class_read to k j i at d count h g l ∙ ap (λ (y : CoreId). if j == k then to else y) (all.each j i d g l)
      ∙ ap (λ n. if j == k then to else get_or at n d) (let e : j ≡ j + 128 * 0 = omega arith in e)
      ∙ sym (class_read to k j 0 at d count h g (omega arith))
      ∙ ap (λ n. get_or (put_all to (groups_from k 4) at) n d) (let e : j + 128 * 0 ≡ j = omega arith in e);
}

-- each move of a plan, for all groups of its place
abbrev pub put_plan : ℕ → List PlanMove → List CoreId → List CoreId
put_plan width [] at = at
put_plan width (m ∷ plan) at = put_plan width plan (put_all m.to (groups_from m.group.0 width) at)

pub length-put_plan : (width : ℕ) (plan : List PlanMove) (at : List CoreId) → length (put_plan width plan at) ≡ length at
length-put_plan width [] at = refl
length-put_plan width (m ∷ plan) at =
    length-put_plan width plan (put_all m.to (groups_from m.group.0 width) at) ∙ length-put_all m.to (groups_from m.group.0 width) at

pub put_plan-together : (plan : List PlanMove) (at : List CoreId) → length at ≡ 512 → All (λ (m : PlanMove). m.group.0 < 128) plan
    → AreTogether at → AreTogether (put_plan 4 plan at)
put_plan-together [] at count moves all = all
put_plan-together (m ∷ plan) at count moves all =
    put_plan-together plan (put_all m.to (groups_from m.group.0 4) at) (length-put_all m.to (groups_from m.group.0 4) at ∙ count)
    (λ k d h. moves (suc k) d (omega arith))
    (put_all-together m.to m.group.0 at count (moves 0 m (omega arith)) all)

-- the cores at the start
pub opening_cores-count : (live n : ℕ) → length (opening_cores live n) ≡ n
unfolding opening_cores
opening_cores-count live zero = refl
opening_cores-count live (suc n) =
    length-append (opening_cores live n) (record { 0 = n % 128 % live } ∷ []) ∙ (let e : length (opening_cores live n) + 1 ≡ suc n = omega (arith, opening_cores-count live n) in e)

opening_cores-read : (live n g : ℕ) (d : CoreId) → g < n → get_or (opening_cores live n) g d ≡ record { 0 = g % 128 % live }
unfolding opening_cores
opening_cores-read live zero g d h = absurd (omega arith)
opening_cores-read live (suc n) g d h = step (cases_lt g n) (λ below. opening_cores-read live n g d below) where
  step : (g < n) ⊎ (n ≤ g) → (g < n → get_or (opening_cores live n) g d ≡ record { 0 = g % 128 % live }) → get_or (opening_cores live n ++ record { 0 = n % 128 % live } ∷ []) g d ≡ record { 0 = g % 128 % live }
  step (inl below) front =
      get_or-append (opening_cores live n) (record { 0 = n % 128 % live } ∷ []) d g (omega (arith, opening_cores-count live n))
      ∙ front below
  step (inr above) front =
      let last : g ≡ n = omega arith in
      ap (λ k. get_or (opening_cores live n ++ record { 0 = n % 128 % live } ∷ []) k d) (last ∙ sym (opening_cores-count live n))
      ∙ get_or-append_seam (opening_cores live n) (record { 0 = n % 128 % live }) [] d
      ∙ ap (λ k. record { 0 = k % 128 % live }) (sym last)

pub opening_cores-together : (live n : ℕ) → n ≡ 512 → AreTogether (opening_cores live n)
opening_cores-together live n all = record {
  each = λ k i d h l.
      opening_cores-read live n (k + 128 * i) d (omega arith)
      ∙ ap (λ (r : ℕ). record { 0 = r % live }) (let e : (k + 128 * i) % 128 ≡ k % 128 = omega arith in e)
      ∙ sym (opening_cores-read live n k d (omega arith));
}
