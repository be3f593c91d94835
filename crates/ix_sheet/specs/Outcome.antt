-- What a play leaves that can be reported.
use Rattle.std.specs.Prelude.{◌≡◌, ◌≤◌, ◌<◌, ◌+◌, ◌^◌, ℕ, List, length, All, IsSome}
use Rattle.std.specs.List.{AllByRecursion}
use Rattle.ix_base.specs.declared.id.TheConstants.{FLOW_GROUPS}
use Rattle.ix_fits.specs.Journals.{buffer_of}
use Rattle.ix_groupdef.specs.declared.types.ConnEnd.{ConnEnd}
use Rattle.ix_groupdef.specs.declared.types.GroupRecord.{GroupRecord}
use Rattle.ix_groupdef.specs.declared.types.JournalEntry.{JournalEntry}
use Rattle.ix_lines.specs.Words.{last_group}
use Rattle.ix_lines.specs.declared.types.EntryLine.{EntryLine}
use Rattle.ix_lines.specs.declared.types.EntryLine.TheVariants as lines
use Rattle.ix_playdef.specs.Replies.{FitsGroup}
use Rattle.ix_tcpdef.specs.declared.types.Output.{Output}
use Rattle.ix_tcpdef.specs.declared.types.Output.TheVariants as outputs
use Rattle.ix_tcpdef.specs.declared.types.Told.{Told}
use Rattle.ix_tcpdef.specs.declared.types.Told.TheVariants as told
use Rattle.ix_trace.specs.Sheet.{IsFull, count_settles}
use Rattle.ix_sheet.specs.Strays.{all_strays_at}
use Rattle.ix_sheet.specs.declared.outcome.Outcome.{Outcome}

-- a part that was told is of an entry that a buffer holds
abbrev pub HasBuffer : List EntryLine → Told → Type 0
HasBuffer entries (told.Recv w from len) = IsSome (buffer_of entries w.0)
HasBuffer entries _ = Unit {0}

abbrev pub NamesBuffer : List EntryLine → Output → Type 0
NamesBuffer entries (outputs.Told t) = HasBuffer entries t
NamesBuffer entries _ = Unit {0}

-- so are all parts that a connection's application was told, ..
abbrev pub NamesBuffers : List EntryLine → ConnEnd → Type 0
NamesBuffers entries c = All (λ (e : JournalEntry). All (NamesBuffer entries) e.outputs) c.journal

-- .. and those of all connections of a group
abbrev pub NamesAll : List EntryLine → GroupRecord → Type 0
NamesAll entries r = All (NamesBuffers entries) r.conns

-- an entry's group is one of the flow groups
abbrev pub HasGroup : EntryLine → Type 0
HasGroup (lines.Frame rec at group ring fate) = group.0 ≤ last_group
HasGroup (lines.Tag group) = group.0 ≤ last_group
HasGroup (lines.Move group to) = group.0 ≤ last_group
HasGroup (lines.Time t) = Unit {0}
HasGroup lines.Settle = Unit {0}

-- The facts that a report keeps hold of what stands in it as it is, and what each group leaves can be told. `plays_can_be_reported` says that
-- it is so of every play.
pub record CanBeReported (cores : ℕ) (o : Outcome) : Type 0 where
  pub groups : length o.groups ≡ FLOW_GROUPS
  pub fit : All FitsGroup o.groups
  pub named : All (NamesAll o.entries) o.groups
  -- No two strays have one wire number.
  pub apart : (w : ℕ) → all_strays_at w o.groups ≤ 1
  pub in_groups : All HasGroup o.entries
  pub few : length o.entries < 2 ^ 32
  pub full : AllByRecursion (IsFull cores) o.settles
  pub count : length o.settles ≡ count_settles o.entries + 1
  pub closed : length o.closed ≡ cores
