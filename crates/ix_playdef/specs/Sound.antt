-- What is true of the groups of every play.
use Rattle.std.specs.Prelude.{◌≡◌, ◌≤◌, ◌<◌, ℕ, ◌+◌, All, Bool, List, [], ◌∷◌, ◌++◌, length, slice_index_or, filter, count_by}
use Rattle.std.specs.List.{AllByRecursion}
use Rattle.ix_conf.specs.declared.settings.Conf.{Conf}
use Rattle.ix_conf.specs.Settings.{Settings, settings_of}
use Rattle.ix_groupdef.specs.declared.types.GroupRecord.{GroupRecord}
use Rattle.ix_groupdef.specs.declared.types.Taken.{Taken}
use Rattle.ix_groupdef.specs.declared.types.TheConstants.{LIMIT}
use Rattle.ix_groupdef.specs.Answered.{TookFront}
use Rattle.ix_groupdef.specs.Cycles.{IsLegal}
use Rattle.ix_groupdef.specs.Group.{Cycle, Connect, OnePerFlow, run}
use Rattle.ix_groupdef.specs.Laws.{IsRun}
use Rattle.ix_groupdef.specs.Life.{lives}
use Rattle.ix_groupdef.specs.Places.{HearsOwn, HeardPart, RiseFrom, accepted, in_wire_order, numbers, placed, segments_of}
use Rattle.ix_groupdef.specs.Record.{record_of}
use Rattle.ix_groupdef.specs.Setting.{Setting}
use Rattle.ix_groupdef.specs.StrayFrames.{AreStraysOf, IsLeftOver}
use Rattle.ix_groupdef.specs.Told.{IsFrame, ToldStream}
use Rattle.ix_wire.specs.declared.entry.Entry.{Entry}
use Rattle.ix_playdef.specs.Connects.{core0, connects_in}
use Rattle.ix_playdef.specs.Groups.{AreRecords}
use Rattle.ix_playdef.specs.Replies.{CanBeTold}
use Rattle.ix_playdef.specs.Setting.{setting_of_play}
use Rattle.ix_playdef.specs.Wire.{cycles_of, group_entries}
use Rattle.ix_playdef.specs.declared.wire.Given.{Given}
use Rattle.ix_playdef.specs.declared.wire.Given.TheVariants.{Frame, Time}

-- A group that left this record took these frames, in wire order, in these cycles, behind these connects.
pub record IsSoundGroup (env : Setting) (asked : List Connect) (cs : List Cycle) (taken : List Taken) (left : GroupRecord) : Type 0 where
  -- Its record is that of the group's machine.
  pub machine : left ≡ record_of env (run env asked cs)
  pub frames : accepted cs ≡ taken
  -- None is lost, doubled or moved: those in journals and those among the strays are, in wire order, those that it took.
  pub none_lost : (p : ℕ → Bool) → in_wire_order (filter p (placed (run env asked cs))) ≡ filter p (numbers taken)
  -- A connection has only segments of its flow, those that arrived while it lived, in their order.
  pub own : AllByRecursion HearsOwn (run env asked cs).lives
  pub in_order : AllByRecursion (HeardPart (segments_of env taken)) (run env asked cs).lives
  -- So stand the strays, each with its disposition and its answer; each was refused.
  pub strays : AreStraysOf env left.strays taken
  pub refused : AllByRecursion (IsLeftOver env asked cs) left.strays
  -- The journals are runs of the step, and legal for the cycles.
  pub runs : AllByRecursion IsRun (run env asked cs).lives
  pub legal : AllByRecursion (IsLegal env asked cs) (run env asked cs).lives
  pub few : count_by lives (run env asked cs).lives ≤ LIMIT
  pub one : OnePerFlow (run env asked cs).lives
  -- What TCP took is the beginning of the answer.
  pub answered : AllByRecursion (TookFront env) (run env asked cs).lives
  -- What was told are the bytes of the delivered parts, and begins the peer's stream where the peer agrees with itself.
  pub told : AllByRecursion ToldStream (run env asked cs).lives

-- the frames that a group is given
abbrev pub frame_in : Given → List Taken
frame_in (Frame taken) = taken ∷ []
frame_in (Time w t) = []

abbrev pub frames_given : List Given → List Taken
frames_given [] = []
frames_given (g ∷ gs) = frame_in g ++ frames_given gs

-- a capture has bytes
abbrev pub AreBytes : List ℕ → Type 0
AreBytes bs = AllByRecursion (λ b. b < 256) bs

-- ## However entries are cut into cycles
-- A group that took frames of bytes, of at most 2,048 each, with rising wire numbers, is sound.
abbrev pub TakersAreSound : Type 0
TakersAreSound =
    (conf : Conf) (frames : List (List ℕ)) (asked : List Connect) (cs : List Cycle) (taken : List Taken) (left : GroupRecord)
    → left ≡ record_of (setting_of_play (settings_of conf) frames) (run (setting_of_play (settings_of conf) frames) asked cs)
    → accepted cs ≡ taken → RiseFrom 0 taken → AllByRecursion IsFrame taken
    → IsSoundGroup (setting_of_play (settings_of conf) frames) asked cs taken left

-- ## Whatever a configuration, a capture and a wire list leave
-- It can be told.
abbrev pub RecordsAreTold : Type 0
RecordsAreTold = (conf : Conf) (frames : List (List ℕ)) (entries : List Entry) (records : List GroupRecord) → AreRecords (settings_of conf) frames entries records → All CanBeTold records

abbrev pub RecordsAreSound : Type 0
RecordsAreSound =
    (conf : Conf) (frames : List (List ℕ)) (entries : List Entry) (records : List GroupRecord) → AllByRecursion AreBytes frames
    → AreRecords (settings_of conf) frames entries records
    → (group : ℕ) (d : GroupRecord) → group < 512
    → IsSoundGroup (setting_of_play (settings_of conf) frames) (connects_in (settings_of conf) group) (cycles_of core0 (group_entries frames group entries))
    (frames_given (group_entries frames group entries)) (slice_index_or records group d)
