-- What each flow group leaves of a play on one core, where every frame of at most 2,048 bytes is accepted.
use Rattle.std.specs.Prelude.{◌≡◌, ℕ, ◌<◌, List, [], length, slice_index_or, filter}
use Rattle.ix_conf.specs.Settings.{Settings}
use Rattle.ix_groupdef.specs.declared.types.GroupRecord.{GroupRecord}
use Rattle.ix_groupdef.specs.Group.{Connect, run}
use Rattle.ix_groupdef.specs.Record.{record_of}
use Rattle.ix_groupdef.specs.Setting.{Setting}
use Rattle.ix_wire.specs.declared.entry.Entry.{Entry}
use Rattle.ix_playdef.specs.Connects.{core0, connects_in, is_asked_in}
use Rattle.ix_playdef.specs.Setting.{setting_of_play}
use Rattle.ix_playdef.specs.Wire.{cycles_of, group_entries}
use Rattle.ix_playdef.specs.declared.wire.Given.{Given}

-- the record of the group after its connects and its entries
abbrev pub group_record : Settings → List (List ℕ) → List Entry → ℕ → GroupRecord
group_record s frames entries group =
    let env : Setting = setting_of_play s frames in
    record_of env (run env (connects_in s group) (cycles_of core0 (group_entries frames group entries)))

-- what all groups leave, group by group
pub record AreRecords (s : Settings) (frames : List (List ℕ)) (entries : List Entry) (records : List GroupRecord) : Type 0 where
  pub count : length records ≡ 512
  pub each : (group : ℕ) (d : GroupRecord) → group < length records → slice_index_or records group d ≡ group_record s frames entries group

-- ## From what a group is given
-- by its own of all connects
abbrev pub record_given : Setting → List Connect → ℕ → List Given → GroupRecord
record_given env cs group given = record_of env (run env (filter (is_asked_in env.local.ip group) cs) (cycles_of core0 given))

pub record AreRecordsGiven (env : Setting) (cs : List Connect) (lists : List (List Given)) (records : List GroupRecord) : Type 0 where
  pub count : length records ≡ length lists
  pub each : (group : ℕ) (d : GroupRecord) → group < length records → slice_index_or records group d ≡ record_given env cs group (slice_index_or lists group [])
