-- What is true of every report that fits, on any number of cores.
use Rattle.std.specs.Prelude.{ℕ, ◌<◌, List}
use Rattle.std.specs.List.{AllByRecursion}
use Rattle.ix_base.specs.declared.id.TheConstants.{FLOW_GROUPS}
use Rattle.ix_conf.specs.declared.settings.Conf.{Conf}
use Rattle.ix_conf.specs.Settings.{settings_of}
use Rattle.ix_groupdef.specs.Group.{Cycle}
use Rattle.ix_playdef.specs.Setting.{setting_of_play}
use Rattle.ix_playdef.specs.Sound.{AreBytes, IsSoundGroup}
use Rattle.ix_trace.specs.declared.sheet.Sheet.{Sheet}
use Rattle.ix_wire.specs.declared.entry.Entry.{Entry}
use Rattle.ix_fits.specs.Connects.{asked_in}
use Rattle.ix_fits.specs.Cutting.{frames_due}
use Rattle.ix_fits.specs.Fits.{CardFits, GroupsFit, dues_of, left_by}

-- For every configuration, capture of bytes, wire list and report whose card and groups fit in some cycles: each group is sound, in its cycles.
abbrev pub ReportsAreSound : Type 0
ReportsAreSound =
    (conf : Conf) (frames : List (List ℕ)) (entries : List Entry) (r : Sheet) (cycles : ℕ → List Cycle) → AllByRecursion AreBytes frames
    → CardFits (settings_of conf) frames entries r → GroupsFit (settings_of conf) frames r cycles
    → (g : ℕ) → g < FLOW_GROUPS
    → IsSoundGroup (setting_of_play (settings_of conf) frames) (asked_in (setting_of_play (settings_of conf) frames) (settings_of conf) g) (cycles g)
    (frames_due (dues_of (settings_of conf) frames r g)) (left_by (settings_of conf) frames cycles g)
