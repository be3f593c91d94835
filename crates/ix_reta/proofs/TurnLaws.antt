-- One turn more.
use Rattle.std.proofs.Common.{◌≡◌, ◌≢◌, ℕ, ◌+◌, ◌<◌, ◌≤◌, List, [], ◌∷◌, ◌++◌, length, get_or, set, inl, inr, refl, ap, sym, ◌∙◌, arith, Bool, true, false}
use Rattle.std.proofs.Math.ListN.{get_or-append, length-set}
use Rattle.std.proofs.lemmas.Bool.{cases_eq, cases_lt}
use Rattle.std.proofs.lemmas.List.{get_or-set_other, get_or-set_same}
use Rattle.std.proofs.Math.Seq.{get_or-append_seam}
use Rattle.std.specs.Prelude.{if◌then◌else◌, ◌==◌}
use Rattle.std.proofs.lemmas.Bool.Decides.{nat_tests}
use Rattle.ix_base.specs.declared.id.CoreId.{CoreId}
use Rattle.ix_base.specs.declared.id.GroupId.{GroupId}
use Rattle.ix_reta.specs.declared.table.Row.{Row}
use Rattle.ix_reta.specs.Rows.{AreRows, RowsBelow, row_of}
use Rattle.ix_reta.specs.Table.{core_from, core_of, opening_core, tenure_of}

pub core_from-none : (core : CoreId) (group : ℕ) → core_from core [] group ≡ core
unfolding core_from
core_from-none core group = refl

core_from-more : (core : CoreId) (turns : List (GroupId × CoreId)) (turn : GroupId × CoreId) (group : ℕ)
    → core_from core (turns ++ turn ∷ []) group ≡ (if turn.0.0 == group then turn.1 else core_from core turns group)
unfolding core_from
core_from-more core [] turn group = refl
core_from-more core (t ∷ turns) turn group = core_from-more (if t.0.0 == group then t.1 else core) turns turn group

if_true : {A : Type 0} (b : Bool) (x y : A) → b ≡ true → (if b then x else y) ≡ x
if_true true x y h = refl
if_true false x y h = absurd (cc)

if_false : {A : Type 0} (b : Bool) (x y : A) → b ≡ false → (if b then x else y) ≡ y
if_false true x y h = absurd (cc)
if_false false x y h = refl

pub core_from-turned : (start core : CoreId) (turns : List (GroupId × CoreId)) (group : GroupId) (g : ℕ) → g ≡ group.0
    → core_from start (turns ++ (group, core) ∷ []) g ≡ core
core_from-turned start core turns group g is =
    core_from-more start turns (group, core) g ∙ if_true (group.0 == g) _ _ (grind (arith, nat_tests))

pub core_from-other : (start core : CoreId) (turns : List (GroupId × CoreId)) (group : GroupId) (g : ℕ) → g ≢ group.0
    → core_from start (turns ++ (group, core) ∷ []) g ≡ core_from start turns g
core_from-other start core turns group g not =
    core_from-more start turns (group, core) g ∙ if_false (group.0 == g) _ _ (grind (arith, nat_tests))

pub tenure_of-none : (group : ℕ) → tenure_of [] group ≡ 0
unfolding tenure_of
tenure_of-none group = refl

pub tenure_of-turned : (turns : List (GroupId × CoreId)) (group : GroupId) (core : CoreId) (g : ℕ) → g ≡ group.0
    → tenure_of (turns ++ (group, core) ∷ []) g ≡ tenure_of turns g + 1
unfolding tenure_of
tenure_of-turned [] group core g is = grind (arith, nat_tests)
tenure_of-turned (t ∷ turns) group core g is = omega (arith, tenure_of-turned turns group core g is)

pub tenure_of-other : (turns : List (GroupId × CoreId)) (group : GroupId) (core : CoreId) (g : ℕ) → g ≢ group.0
    → tenure_of (turns ++ (group, core) ∷ []) g ≡ tenure_of turns g
unfolding tenure_of
tenure_of-other [] group core g not = grind (arith, nat_tests)
tenure_of-other (t ∷ turns) group core g not = omega (arith, tenure_of-other turns group core g not)

pub tenure_of-bound : (turns : List (GroupId × CoreId)) (g : ℕ) → tenure_of turns g ≤ length turns
unfolding tenure_of
tenure_of-bound [] g = omega arith
tenure_of-bound (t ∷ turns) g = grind (arith, nat_tests, tenure_of-bound turns g)

pub ruleset turn_steps = (core_from-turned, core_from-other, tenure_of-turned, tenure_of-other)

pub ruleset opening_steps = (core_from-none, tenure_of-none)

-- one row more at the end
pub RowsBelow-more : (live : ℕ) (turns : List (GroupId × CoreId)) (rows : List Row) (row : Row) (n : ℕ) → length rows ≡ n
    → row ≡ row_of live turns n → RowsBelow live turns rows n → RowsBelow live turns (rows ++ row ∷ []) (n + 1)
RowsBelow-more live turns rows row n count is each = λ group d h.
    elim (cases_lt group n) [
      | inl below ↦ get_or-append rows (row ∷ []) d group (omega arith) ∙ each group d below
      | inr above ↦
          let same : group ≡ length rows = omega arith in
          ap (λ k. get_or (rows ++ row ∷ []) k d) same ∙ get_or-append_seam rows row [] d ∙ is ∙ ap (row_of live turns) (sym count ∙ sym same)
    ]

same_row : (live : ℕ) (turns : List (GroupId × CoreId)) (group : GroupId) (core : CoreId) (g : ℕ) → g ≡ group.0
    → record { core = core; tenure = tenure_of turns group.0 + 1 } ≡ row_of live (turns ++ (group, core) ∷ []) g
same_row live turns group core g same =
    let c : core_of live (turns ++ (group, core) ∷ []) g ≡ core = core_from-turned (opening_core live g) core turns group g same in
    let t : tenure_of (turns ++ (group, core) ∷ []) g ≡ tenure_of turns g + 1 = tenure_of-turned turns group core g same in
    let u : tenure_of turns g ≡ tenure_of turns group.0 = ap (tenure_of turns) same in
    cc

other_row : (live : ℕ) (turns : List (GroupId × CoreId)) (group : GroupId) (core : CoreId) (g : ℕ) → g ≢ group.0
    → row_of live turns g ≡ row_of live (turns ++ (group, core) ∷ []) g
other_row live turns group core g other =
    let c : core_of live (turns ++ (group, core) ∷ []) g ≡ core_of live turns g = core_from-other (opening_core live g) core turns group g other in
    let t : tenure_of (turns ++ (group, core) ∷ []) g ≡ tenure_of turns g = tenure_of-other turns group core g other in
    cc

-- the row of a group that was turned
pub AreRows-turned : (live : ℕ) (turns : List (GroupId × CoreId)) (rows : List Row) (group : GroupId) (core : CoreId) (row : Row)
    → group.0 < 512 → row ≡ record { core = core; tenure = tenure_of turns group.0 + 1 } → AreRows live turns rows
    → AreRows live (turns ++ (group, core) ∷ []) (set rows group.0 row)
AreRows-turned live turns rows group core row h is rowed = record {
  count = length-set rows group.0 row ∙ rowed.count;
  each = λ g d below.
      elim (cases_eq g group.0) [
        | inl same ↦
            ap (λ k. get_or (set rows group.0 row) k d) same ∙ get_or-set_same rows group.0 row d (omega (arith, rowed.count)) ∙ is
            ∙ same_row live turns group core g same
        | inr other ↦ get_or-set_other rows group.0 g row d other ∙ rowed.each g d below ∙ other_row live turns group core g other
      ];
}
