-- The redirection table as the fold of its turns. Formats: docs/SCRIPT.md, "Flow groups".
use Rattle.std.specs.Prelude.{ℕ, ◌+◌, ◌%◌, ◌==◌, List, [], ◌∷◌, if◌then◌else◌}
use Rattle.ix_base.specs.declared.id.CoreId.{CoreId}
use Rattle.ix_base.specs.declared.id.GroupId.{GroupId}

-- turns, and the number of those for which there is room yet
pub record Turns : Type 0 where
  pub turns : List (GroupId × CoreId)
  pub room : ℕ

-- a table: the number of cores over which the groups are spread at the start, the turns so far, and the room
pub record Table : Type 0 where
  pub live : ℕ
  pub turns : List (GroupId × CoreId)
  pub room : ℕ

-- the core of a group after these turns, from the one before them
unfoldable pub core_from : CoreId → List (GroupId × CoreId) → ℕ → CoreId
core_from core [] group = core
core_from core (turn ∷ turns) group = core_from (if turn.0.0 == group then turn.1 else core) turns group

-- the core of a group at the start
abbrev pub opening_core : ℕ → ℕ → CoreId
opening_core live group = record { 0 = group % 128 % live }

-- the core of a group: that of its last turn, or else the one at the start
abbrev pub core_of : ℕ → List (GroupId × CoreId) → ℕ → CoreId
core_of live turns group = core_from (opening_core live group) turns group

-- the number of turns of a group
unfoldable pub tenure_of : List (GroupId × CoreId) → ℕ → ℕ
tenure_of [] group = 0
tenure_of (turn ∷ turns) group = (if turn.0.0 == group then 1 else 0) + tenure_of turns group
