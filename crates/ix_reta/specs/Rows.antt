-- The rows in which a table is kept.
use Rattle.std.specs.Prelude.{◌≡◌, ◌<◌, ℕ, List, length, slice_index_or}
use Rattle.ix_base.specs.declared.id.CoreId.{CoreId}
use Rattle.ix_base.specs.declared.id.GroupId.{GroupId}
use Rattle.ix_reta.specs.declared.table.Row.{Row}
use Rattle.ix_reta.specs.Table.{core_of, tenure_of}

-- the row that the turns give
abbrev pub row_of : ℕ → List (GroupId × CoreId) → ℕ → Row
row_of live turns group = record { core = core_of live turns group; tenure = tenure_of turns group }

-- these are the rows of the groups below a number
abbrev pub RowsBelow : ℕ → List (GroupId × CoreId) → List Row → ℕ → Type 0
RowsBelow live turns rows n = (group : ℕ) (d : Row) → group < n → slice_index_or rows group d ≡ row_of live turns group

-- one row for each of 512 groups
pub record AreRows (live : ℕ) (turns : List (GroupId × CoreId)) (rows : List Row) : Type 0 where
  pub count : length rows ≡ 512
  pub each : RowsBelow live turns rows 512
