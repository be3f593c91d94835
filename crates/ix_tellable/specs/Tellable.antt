-- What a group leaves of a play can be told in a trace, however its entries are cut into cycles.
use Rattle.std.specs.Prelude.{◌≡◌, ℕ, Bool, true, ◌==◌, List, length, All}
use Rattle.std.specs.List.{AllByRecursion, list_any}
use Rattle.ix_conf.specs.declared.settings.Conf.{Conf}
use Rattle.ix_conf.specs.Settings.{settings_of}
use Rattle.ix_groupdef.specs.declared.types.ConnEnd.{ConnEnd}
use Rattle.ix_groupdef.specs.declared.types.GroupRecord.{GroupRecord}
use Rattle.ix_groupdef.specs.declared.types.JournalEntry.{JournalEntry}
use Rattle.ix_groupdef.specs.declared.types.Taken.{Taken}
use Rattle.ix_groupdef.specs.Group.{Cycle, Connect, run}
use Rattle.ix_groupdef.specs.Places.{accepted}
use Rattle.ix_groupdef.specs.Record.{record_of}
use Rattle.ix_groupdef.specs.Told.{IsFrame}
use Rattle.ix_groupdef.specs.Whole.{HasEntry}
use Rattle.ix_playdef.specs.Replies.{FitsGroup}
use Rattle.ix_playdef.specs.Setting.{setting_of_play}
use Rattle.ix_tcpdef.specs.declared.types.Output.{Output}
use Rattle.ix_tcpdef.specs.declared.types.Output.TheVariants as outputs
use Rattle.ix_tcpdef.specs.declared.types.Told.TheVariants as told

-- whether a frame has this wire number
abbrev pub has_number : ℕ → Taken → Bool
has_number w t = t.w.0 == w

-- a part that was told names one of these frames
abbrev pub NamesFrame : List Taken → Output → Type 0
NamesFrame ts (outputs.Told (told.Recv w from len)) = list_any (has_number w.0) ts ≡ true
NamesFrame ts _ = Unit {0}

-- so do all parts that a connection was told
abbrev pub NamesFrames : List Taken → ConnEnd → Type 0
NamesFrames ts c = All (λ (e : JournalEntry). All (NamesFrame ts) e.outputs) c.journal

-- what a group leaves that took these frames
pub record CanBeTraced (taken : List Taken) (left : GroupRecord) : Type 0 where
  pub fits : FitsGroup left
  pub parts : All (NamesFrames taken) left.conns

-- A hardware address has six bytes.
abbrev pub RecordsCanBeTold : Type 0
RecordsCanBeTold =
    (conf : Conf) (frames : List (List ℕ)) (asked : List Connect) (cs : List Cycle) → length (settings_of conf).mac ≡ 6
    → AllByRecursion HasEntry cs → AllByRecursion IsFrame (accepted cs)
    → CanBeTraced (accepted cs) (record_of (setting_of_play (settings_of conf) frames) (run (setting_of_play (settings_of conf) frames) asked cs))
