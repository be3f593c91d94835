-- A plan moves each group of its places to another core.
use Rattle.std.proofs.Common.{◌≡◌, ◌<◌, ◌+◌, ◌*◌, ℕ, zero, suc, List, [], ◌∷◌, length, get_or, take, Bool, true, false, Some, refl, ap, subst, sym, ◌∙◌, arith}
use Rattle.std.specs.Prelude.{◌||◌, All, slice_get, slice_set}
use Rattle.std.specs.List.{list_any}
use Rattle.std.proofs.lemmas.List.{take-set-le}
use Rattle.std.proofs.Math.Seq.{take-set-lt}
use Rattle.ix_base.specs.declared.id.CoreId.{CoreId}
use Rattle.ix_cp.specs.declared.plan.PlanMove.{PlanMove}
use Rattle.ix_cp.specs.Plan.{GoElsewhere, is_core}
use Rattle.ix_wire.specs.Classes.{AreTogether}
use Rattle.ix_wire.specs.Table.{groups_from}
use Rattle.ix_wire.proofs.PutLaws.{length-put_all, put_all, put_all-together}

-- each move of a plan takes all groups of its place to another core than they are on by the moves before it
abbrev pub GroupsGo : ℕ → List CoreId → List PlanMove → Type 0
GroupsGo width at [] = Unit {0}
GroupsGo width at (m ∷ plan) =
    (list_any (λ (group : ℕ). is_core m.to.0 (slice_get at group)) (groups_from m.group.0 width) ≡ false)
    × GroupsGo width (put_all m.to (groups_from m.group.0 width) at) plan

one_false : (a : Bool) → a ≡ false → (a || false) ≡ false
one_false true h = h
one_false false h = refl

-- in version 2 a place is a group
pub groups_go-two : (plan : List PlanMove) (at : List CoreId) → GoElsewhere at plan → GroupsGo 1 at plan
groups_go-two [] at go = tt
groups_go-two (m ∷ plan) at go = (one_false _ go.0, groups_go-two plan (slice_set at m.group.0 m.to) go.1)

get_in : (at : List CoreId) (i : ℕ) (d : CoreId) → i < length at → slice_get at i ≡ Some (get_or at i d)
get_in [] i d h = absurd (omega arith)
get_in (owner ∷ at) zero d h = refl
get_in (owner ∷ at) (suc i) d h = get_in at i d (omega arith)

get_take : (n : ℕ) (at : List CoreId) (i : ℕ) → i < n → slice_get (take n at) i ≡ slice_get at i
get_take zero at i h = absurd (omega arith)
get_take (suc n) [] i h = refl
get_take (suc n) (owner ∷ at) zero h = refl
get_take (suc n) (owner ∷ at) (suc i) h = get_take n at i (omega arith)

four_false : (a b c d : Bool) → a ≡ false → b ≡ false → c ≡ false → d ≡ false → (a || (b || (c || (d || false)))) ≡ false
four_false false false false false h i j k = refl
four_false true b c d h i j k = h
four_false false true c d h i j k = i
four_false false false true d h i j k = j
four_false false false false true h i j k = k

-- in version 1 a place is a class, whose groups are on one core
class_off : (to k : ℕ) (at : List CoreId) → length at ≡ 512 → k < 128 → AreTogether at → is_core to (slice_get (take 128 at) k) ≡ false
    → list_any (λ (group : ℕ). is_core to (slice_get at group)) (groups_from k 4) ≡ false
class_off to k at count h together off =
    four_false _ _ _ _ first (one 1 (k + 128) (omega arith) (omega arith)) (one 2 (k + 128 + 128) (omega arith) (omega arith))
    (one 3 (k + 128 + 128 + 128) (omega arith) (omega arith)) where
      none : CoreId
      none = record { 0 = 0 }

      first : is_core to (slice_get at k) ≡ false
      first = ap (is_core to) (sym (get_take 128 at k h)) ∙ off

      one : (i group : ℕ) → i < 4 → group ≡ k + 128 * i → is_core to (slice_get at group) ≡ false
      one i group l is =
          ap (λ g. is_core to (slice_get at g)) is
          ∙ ap (is_core to) (get_in at (k + 128 * i) none (omega arith) ∙ ap Some (together.each k i none h l) ∙ sym (get_in at k none (omega arith)))
          ∙ first

-- the first classes behind a move of a class
take-put_class : (to : CoreId) (k : ℕ) (at : List CoreId) → k < 128 → take 128 (put_all to (groups_from k 4) at) ≡ slice_set (take 128 at) k to
take-put_class to k at h =
    take-set-le 128 (slice_set (slice_set (slice_set at k to) (k + 128) to) (k + 128 + 128) to) (k + 128 + 128 + 128) to (omega arith)
    ∙ take-set-le 128 (slice_set (slice_set at k to) (k + 128) to) (k + 128 + 128) to (omega arith)
    ∙ take-set-le 128 (slice_set at k to) (k + 128) to (omega arith) ∙ take-set-lt 128 at k to h

pub groups_go-one : (plan : List PlanMove) (at : List CoreId) → length at ≡ 512 → All (λ (m : PlanMove). m.group.0 < 128) plan → AreTogether at
    → GoElsewhere (take 128 at) plan → GroupsGo 4 at plan
groups_go-one [] at count moves together go = tt
groups_go-one (m ∷ plan) at count moves together go =
    let within : m.group.0 < 128 = moves 0 m (omega arith) in (
      class_off m.to.0 m.group.0 at count within together go.0,
      groups_go-one plan (put_all m.to (groups_from m.group.0 4) at) (length-put_all m.to (groups_from m.group.0 4) at ∙ count)
          (λ k d h. moves (suc k) d (omega arith)) (put_all-together m.to m.group.0 at count within together)
          (subst (λ classes. GoElsewhere classes plan) (sym (take-put_class m.to m.group.0 at within)) go.1),
    )
