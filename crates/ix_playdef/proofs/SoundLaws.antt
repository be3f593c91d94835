-- The groups of every play are sound.
use Rattle.std.proofs.Common.{◌≡◌, ℕ, zero, suc, ◌+◌, ◌<◌, ◌≤◌, refl, sym, ap, ◌∙◌, subst, Bool, true, false, List, [], ◌∷◌, ◌++◌, length, get_or, arith}
use Rattle.std.specs.Prelude.{if◌then◌else◌, ◌&&◌, ◌==◌, not, nat_lt, slice_get, Option, Some, None, filter}
use Rattle.std.specs.List.{AllByRecursion}
use Rattle.std.proofs.lemmas.Bool.Decides.{nat_tests}
use Rattle.ix_base.specs.declared.id.CoreId.{CoreId}
use Rattle.ix_appdef.specs.Answers.{Grows, AnswersGrow}
use Rattle.ix_conf.specs.declared.settings.Conf.{Conf}
use Rattle.ix_conf.specs.Settings.{Settings, settings_of}
use Rattle.ix_groupdef.specs.declared.types.GroupRecord.{GroupRecord}
use Rattle.ix_groupdef.specs.declared.types.Taken.{Taken}
use Rattle.ix_groupdef.specs.Answered.{TookFronts}
use Rattle.ix_groupdef.specs.Cycles.{AreLegal}
use Rattle.ix_groupdef.specs.Group.{Group, Cycle, Frames, Connect, OneLives, run}
use Rattle.ix_groupdef.specs.Laws.{AreRuns, FewLive}
use Rattle.ix_groupdef.specs.Places.{NoneLost, HearOwn, HeardPart, HeardInOrder, RiseFrom, accepted, in_wire_order, numbers, placed, segments_of}
use Rattle.ix_groupdef.specs.Record.{record_of}
use Rattle.ix_groupdef.specs.Sent.{FramesFit}
use Rattle.ix_groupdef.specs.Setting.{Setting}
use Rattle.ix_groupdef.specs.StrayFrames.{AreStraysOf, IsLeftOver, StraysInOrder, StraysAreLeftOver}
use Rattle.ix_groupdef.specs.Told.{IsFrame, ToldStreams}
use Rattle.ix_groupdef.specs.Whole.{JournalsAreWhole}
use Rattle.ix_tcpdef.specs.Sound.{IsInRange}
use Rattle.ix_wire.specs.declared.entry.Entry.{Entry}
use Rattle.ix_wire.specs.declared.entry.Entry.TheVariants as entries
use Rattle.ix_playdef.specs.Connects.{core0, connects_in}
use Rattle.ix_playdef.specs.Groups.{AreRecords}
use Rattle.ix_playdef.specs.Replies.{CanBeTold}
use Rattle.ix_playdef.specs.Setting.{cfg_of, application_of, setting_of_play}
use Rattle.ix_playdef.specs.Sound.{IsSoundGroup, AreBytes, frame_in, frames_given, TakersAreSound, RecordsAreSound, RecordsAreTold}
use Rattle.ix_playdef.specs.Wire.{cycle_by, cycles_of, given_by, given_frame, given_from, group_entries, is_taken}
use Rattle.ix_steer.specs.Steering.{group_of_frame}
use Rattle.ix_playdef.specs.declared.wire.Given.{Given}
use Rattle.ix_playdef.specs.declared.wire.Given.TheVariants.{Frame, Time}
use Rattle.ix_base.specs.declared.id.TheConstants.{BUFFER_BYTES}
use Rattle.ix_playdef.proofs.FitLaws.{told-of}

-- ## The laws of groups that are used
pub record GroupLaws : Type 0 where
  pub runs : AreRuns
  pub few : FewLive
  pub one : OneLives
  pub none_lost : NoneLost
  pub own : HearOwn
  pub in_order : HeardInOrder
  pub strays : StraysInOrder
  pub left_over : StraysAreLeftOver
  pub legal : AreLegal
  pub answered : TookFronts
  pub told : ToldStreams

-- A group that took frames of bytes with rising numbers, under a configuration in range, is sound.
pub sound-group : GroupLaws → AnswersGrow → (env : Setting) (s : Settings) → env.answer ≡ (setting_of_play s []).answer → IsInRange env.cfg → (asked : List Connect) (cs : List Cycle) (taken : List Taken) (left : GroupRecord)
    → left ≡ record_of env (run env asked cs) → accepted cs ≡ taken → RiseFrom 0 taken → AllByRecursion IsFrame taken → IsSoundGroup env asked cs taken left
sound-group laws grow env s answer range asked cs taken left is same rise frames =
    record {
      machine = is;
      frames = same;
      none_lost = λ p. laws.none_lost env asked cs (subst (RiseFrom 0) (sym same) rise) p ∙ ap (λ ts. filter p (numbers ts)) same;
      own = laws.own env asked cs;
      in_order = subst (λ ts. AllByRecursion (HeardPart (segments_of env ts)) (run env asked cs).lives) same (laws.in_order env asked cs);
      strays = subst (λ (r : GroupRecord). AreStraysOf env r.strays taken) (sym is) (subst (AreStraysOf env (run env asked cs).strays) same (laws.strays env asked cs));
      refused = subst (λ (r : GroupRecord). AllByRecursion (IsLeftOver env asked cs) r.strays) (sym is) (laws.left_over env asked cs);
      runs = laws.runs env asked cs;
      legal = laws.legal env asked cs;
      few = laws.few env asked cs;
      one = laws.one env asked cs;
      answered = laws.answered env (subst Grows (sym answer) (grow (application_of s.app s.text))) asked cs;
      told = laws.told env asked cs range (subst (RiseFrom 0) (sym same) rise) (subst (AllByRecursion IsFrame) (sym same) frames);
    }

-- ## What a group is given of a wire list
-- short frames of bytes, with rising numbers
abbrev AreGood : ℕ → List Given → Type 0
AreGood n gs = RiseFrom n (frames_given gs) × AllByRecursion IsFrame (frames_given gs) × (accepted (cycles_of core0 gs) ≡ frames_given gs)

rise-later : (n m : ℕ) (ts : List Taken) → n ≤ m → RiseFrom m ts → RiseFrom n ts
rise-later n m [] le p = tt
rise-later n m (t ∷ ts) le p = (omega (arith, le, p.0), p.1)

good-later : (n m : ℕ) (gs : List Given) → n ≤ m → AreGood m gs → AreGood n gs
good-later n m gs le p = (rise-later n m (frames_given gs) le p.0, p.1, p.2)

not_long : (frame : List ℕ) (b : Bool) → (not (nat_lt BUFFER_BYTES (length frame)) && b) ≡ true → nat_lt BUFFER_BYTES (length frame) ≡ false
not_long frame b e = by_case (nat_lt BUFFER_BYTES (length frame)) e
  where
    by_case : (a : Bool) → (not a && b) ≡ true → a ≡ false
    by_case true e = absurd (cc)
    by_case false e = refl

short_enough : (frame : List ℕ) → nat_lt BUFFER_BYTES (length frame) ≡ false → length frame ≤ 2048
short_enough frame e = grind (arith, nat_tests)

good-frame : (group w : ℕ) (frame : List ℕ) (gs : List Given) → AreBytes frame → AreGood (suc w) gs → AreGood w (given_frame group w (Some frame) ++ gs)
good-frame group w frame gs bytes p = by_test (is_taken group frame) refl
  where
    t : Taken
    t = record { w = record { 0 = w }; frame = frame }

    by_test : (b : Bool) → is_taken group frame ≡ b → AreGood w ((if b then Frame t ∷ [] else []) ++ gs)
    by_test true e =
        let short : nat_lt BUFFER_BYTES (length frame) ≡ false = not_long frame (group_of_frame frame == group) e in (
          (omega arith, p.0),
          (record { size = short_enough frame short; bytes = bytes }, p.1),
          ap (λ (b : Bool). accepted ((if b then [] else Frames core0 (t ∷ []) ∷ []) ++ cycles_of core0 gs)) short ∙ ap (λ ts. t ∷ ts) p.2,
        )
    by_test false e = good-later w (suc w) gs (omega arith) p

good-record : (frames : List (List ℕ)) (group w rec : ℕ) (gs : List Given) → AllByRecursion AreBytes frames → AreGood (suc w) gs → AreGood w (given_frame group w (slice_get frames rec) ++ gs)
good-record [] group w zero gs bytes p = good-later w (suc w) gs (omega arith) p
good-record [] group w (suc rec) gs bytes p = good-later w (suc w) gs (omega arith) p
good-record (f ∷ frames) group w zero gs bytes p = good-frame group w f gs bytes.0 p
good-record (f ∷ frames) group w (suc rec) gs bytes p = good-record frames group w rec gs bytes.1 p

good-entry : (frames : List (List ℕ)) (group w : ℕ) (e : Entry) (gs : List Given) → AllByRecursion AreBytes frames → AreGood (suc w) gs → AreGood w (given_by frames group w e ++ gs)
good-entry frames group w (entries.Frame rec) gs bytes p = good-record frames group w rec gs bytes p
good-entry frames group w (entries.Time t) gs bytes p = let q = good-later w (suc w) gs (omega arith) p in (q.0, q.1, q.2)
good-entry frames group w _ gs bytes p = good-later w (suc w) gs (omega arith) p

good-from : (frames : List (List ℕ)) (group w : ℕ) (es : List Entry) → AllByRecursion AreBytes frames → AreGood w (given_from frames group w es)
good-from frames group w [] bytes = (tt, tt, refl)
good-from frames group w (e ∷ es) bytes =
    good-entry frames group w e (given_from frames group (w + 1) es) bytes
    (subst (λ n. AreGood n (given_from frames group (w + 1) es)) (let z : w + 1 ≡ suc w = omega arith in z) (good-from frames group (w + 1) es bytes))

-- ## Whole plays
in-range : (conf : Conf) → IsInRange (cfg_of (settings_of conf))
in-range conf =
    record {
      window = conf.window_range;
      mss_least = conf.mss_range.0;
      mss_most = conf.mss_range.1;
      rto_least = conf.rto_range.0;
      rto_most = conf.rto_range.1;
      retries_least = conf.retries_range.0;
      retries_most = conf.retries_range.1;
      time_wait_least = conf.time_wait_range.0;
      time_wait_most = conf.time_wait_range.1;
    }

pub takers_are_sound : GroupLaws → AnswersGrow → TakersAreSound
takers_are_sound laws grow conf frames asked cs taken left is same rise each =
    sound-group laws grow (setting_of_play (settings_of conf) frames) (settings_of conf) refl (in-range conf) asked cs taken left is same rise each

pub records_are_told : FramesFit → JournalsAreWhole → RecordsAreTold
records_are_told fit whole conf frames entries records are group d lt =
    let s : Settings = settings_of conf in
    subst CanBeTold (sym (are.each group d lt)) (told-of (setting_of_play s frames) (connects_in s group) (group_entries frames group entries) (in-range conf) fit whole)

pub records_are_sound : GroupLaws → AnswersGrow → RecordsAreSound
records_are_sound laws grow conf frames entries records bytes are group d lt =
    let s : Settings = settings_of conf in
    let env : Setting = setting_of_play s frames in
    let good = good-from frames group 0 entries bytes in
    sound-group laws grow env s refl (in-range conf) (connects_in s group) (cycles_of core0 (group_entries frames group entries)) (frames_given (group_entries frames group entries)) (get_or records group d)
    (are.each group d (omega (arith, lt, are.count))) good.2 good.0 good.1
