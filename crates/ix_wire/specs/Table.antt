-- Where the flow groups are, which of them are tagged, and which cores are live. Formats: docs/SCRIPT.md, "Flow groups".
use Rattle.std.specs.Prelude.{ℕ, zero, suc, ◌+◌, ◌%◌, ◌==◌, ◌&&◌, ◌||◌, not, Bool, true, false, List, [], ◌∷◌, ◌++◌, if◌then◌else◌, nat_lt, Option, Some, None, fold, is_some, slice_get, slice_set}
use Rattle.std.specs.List.{list_any}
use Rattle.ix_base.specs.declared.id.CoreId.{CoreId}
use Rattle.ix_cp.specs.declared.plan.PlanMove.{PlanMove}
use Rattle.ix_cp.specs.Plan.{is_core}

-- the core of each flow group, the line of each one's tag, which of the eight cores are live, and how many cores there are
pub record Standing : Type 0 where
  pub at : List CoreId
  pub tags : List (Option ℕ)
  pub live : List Bool
  pub count : ℕ

-- the cores of the first groups at the start: group g is on core (g mod 128) mod live
unfoldable pub opening_cores : ℕ → ℕ → List CoreId
opening_cores live zero = []
opening_cores live (suc n) = opening_cores live n ++ record { 0 = n % 128 % live } ∷ []

unfoldable pub no_tags : ℕ → List (Option ℕ)
no_tags zero = []
no_tags (suc n) = no_tags n ++ None ∷ []

-- the first cores are live
abbrev pub first_live : ℕ → List Bool
first_live live = nat_lt 0 live ∷ nat_lt 1 live ∷ nat_lt 2 live ∷ nat_lt 3 live ∷ nat_lt 4 live ∷ nat_lt 5 live ∷ nat_lt 6 live ∷ nat_lt 7 live ∷ []

unfoldable pub opening_table : ℕ → ℕ → Standing
opening_table cores live = record { at = opening_cores live 512; tags = no_tags 512; live = first_live live; count = cores }

-- The groups of a number: `width` groups, each 128 above the one before it.
abbrev pub groups_from : ℕ → ℕ → List ℕ
groups_from place zero = []
groups_from place (suc width) = place ∷ groups_from (place + 128) width

abbrev pub has_core : ℕ → Standing → Bool
has_core core t = nat_lt core t.count

-- an element, or `false` where there is none
abbrev pub or_false : Option Bool → Bool
or_false None = false
or_false (Some b) = b

-- there is this core, and it is live
abbrev pub is_live_core : ℕ → Standing → Bool
is_live_core core t = has_core core t && or_false (slice_get t.live core)

abbrev pub is_on : Standing → ℕ → ℕ → Bool
is_on t core group = is_core core (slice_get t.at group)

abbrev pub is_tag : Option (Option ℕ) → Bool
is_tag None = false
is_tag (Some tag) = is_some tag

abbrev pub is_tagged : Standing → ℕ → Bool
is_tagged t group = is_tag (slice_get t.tags group)

abbrev pub is_untagged : Standing → ℕ → Bool
is_untagged t group = not (is_tagged t group)

-- some group below a number is on the core and tagged
unfoldable pub has_tagged_on : Standing → ℕ → ℕ → Bool
has_tagged_on t core zero = false
has_tagged_on t core (suc group) = has_tagged_on t core group || (is_on t core group && is_tagged t group)

-- no core below a number is live but this one
unfoldable pub is_only_live : Standing → ℕ → ℕ → Bool
is_only_live t core zero = true
is_only_live t core (suc other) = is_only_live t core other && ((other == core) || not (is_live_core other t))

-- a plan moves a tagged group
abbrev pub are_planned_tagged : Standing → ℕ → List PlanMove → Bool
are_planned_tagged t width plan = list_any (λ (m : PlanMove). list_any (is_tagged t) (groups_from m.group.0 width)) plan

-- of two tags that of the lower line
abbrev pub earlier : Option ℕ → Option ℕ → Option ℕ
earlier None b = b
earlier (Some a) None = Some a
earlier (Some a) (Some b) = Some (if nat_lt b a then b else a)

-- the line of the first tag
abbrev pub earliest : List (Option ℕ) → Option ℕ
earliest tags = fold earlier None tags

-- a group is tagged by a line
unfoldable pub tagged : ℕ → ℕ → Standing → Standing
tagged line group t = record t { tags = slice_set t.tags group (Some line) }

-- a group goes to a core, and its tag is over
unfoldable pub moved : ℕ → CoreId → Standing → Standing
moved group to t = record t { at = slice_set t.at group to; tags = slice_set t.tags group None }

-- a core is live or not
unfoldable pub with_live : ℕ → Bool → Standing → Standing
with_live core live t = record t { live = slice_set t.live core live }
