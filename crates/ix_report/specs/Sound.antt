-- What is true of every report that fits.
use Rattle.std.specs.Prelude.{ℕ, ◌<◌, IsSome, List, slice_index_or}
use Rattle.std.specs.List.{AllByRecursion}
use Rattle.ix_conf.specs.declared.settings.Conf.{Conf}
use Rattle.ix_conf.specs.Settings.{settings_of}
use Rattle.ix_groupdef.specs.declared.types.GroupRecord.{GroupRecord}
use Rattle.ix_wire.specs.declared.entry.Entry.{Entry}
use Rattle.ix_playdef.specs.Connects.{core0, connects_in}
use Rattle.ix_playdef.specs.Replies.{Places}
use Rattle.ix_playdef.specs.Setting.{setting_of_play}
use Rattle.ix_playdef.specs.Sound.{AreBytes, IsSoundGroup, frames_given}
use Rattle.ix_playdef.specs.Wire.{cycles_of, group_entries}
use Rattle.ix_report.specs.Fits.{Fits}
use Rattle.ix_report.specs.Lines.{short_text}
use Rattle.ix_report.specs.declared.report.Report.{Report}

-- For every configuration, capture of bytes and wire list, each group of a report that fits is sound.
abbrev pub ReportsAreSound : Type 0
ReportsAreSound =
    (conf : Conf) (frames : List (List ℕ)) (entries : List Entry) (places : Places) (r : Report) → AllByRecursion AreBytes frames
    → Fits (settings_of conf) frames entries places r
    → (group : ℕ) (d : GroupRecord) → group < 512
    → IsSoundGroup (setting_of_play (settings_of conf) frames) (connects_in (settings_of conf) group) (cycles_of core0 (group_entries frames group entries))
    (frames_given (group_entries frames group entries)) (slice_index_or r.groups group d)

-- Each has its text: none of its lines is missing.
abbrev pub ReportsHaveText : Type 0
ReportsHaveText =
    (conf : Conf) (frames : List (List ℕ)) (entries : List Entry) (places : Places) (r : Report) → Fits (settings_of conf) frames entries places r → IsSome (short_text places r)
