-- A whole play of a configuration on the plain stacks, and its report: docs/SETTLES.md.
use Rattle.std.specs.Prelude.{◌≡◌, ℕ, true, List, ◌∷◌, length, map}
use Rattle.std.specs.List.{AllByRecursion, list_all, range_with_len}
use Rattle.ix_base.specs.declared.id.GroupId.{GroupId}
use Rattle.ix_base.specs.declared.id.TheConstants.{FLOW_GROUPS}
use Rattle.ix_base.specs.declared.id.WireNo.{WireNo}
use Rattle.ix_mbuf.specs.Buffers.{Buffer}
use Rattle.ix_mbuf.specs.declared.name.Name.{Name}
use Rattle.ix_desk.specs.Views.{View}
use Rattle.ix_stack.specs.declared.work.Work.{Work}
use Rattle.ix_appdef.specs.declared.application.Application.{Application}
use Rattle.ix_groupdef.specs.declared.env.Env.{Env}
use Rattle.ix_groupdef.specs.Env.{setting_of}
use Rattle.ix_groupdef.specs.Group.{Cycle}
use Rattle.ix_groupdef.specs.Record.{record_of}
use Rattle.ix_conf.specs.Settings.{Settings, settings_of}
use Rattle.ix_conf.specs.declared.settings.Conf.{Conf}
use Rattle.ix_playdef.specs.Order.{numbers_among}
use Rattle.ix_playdef.specs.Own.{local_of}
use Rattle.ix_playdef.specs.Replies.{by_opening}
use Rattle.ix_playdef.specs.Setting.{setting_of_play}
use Rattle.ix_playdef.specs.Sound.{AreBytes}
use Rattle.ix_playdef.specs.declared.order.Reply.{Reply}
use Rattle.ix_trace.specs.declared.sheet.Sheet.{Sheet}
use Rattle.ix_wire.specs.Entries.{IsWireSoFar, Terms}
use Rattle.ix_wire.specs.declared.entry.Entry.{Entry}
use Rattle.ix_core.specs.Closing.{AllFinished, units_below}
use Rattle.ix_core.specs.declared.turning.Core.{Core}
use Rattle.ix_fits.specs.Card.{are_closed, fit_all, is_whole}
use Rattle.ix_fits.specs.Connects.{answers_of}
use Rattle.ix_fits.specs.Fits.{Fits}
use Rattle.ix_fits.specs.Replies.{AreReplies, reply_file}
use Rattle.ix_plainstack.specs.Stack.{Finishes, Stack}
use Rattle.ix_sheet.specs.Outcome.{CanBeReported}
use Rattle.ix_sheet.specs.Play.{IsPlay}
use Rattle.ix_sheet.specs.Sheet.{IsSheetOf, head_of}
use Rattle.ix_sheet.specs.declared.outcome.Outcome.{Outcome}
use Rattle.ix_settled.specs.Moments.{Moment, lines_of}
use Rattle.ix_owned.specs.Owned.{HasDesks}
use Rattle.ix_worked.specs.Worked.{IsPlayed}

-- The records of an outcome are those of the stacks that the close of the cores hands out at the last settle.
pub record IsClosed (s : Settings) (env : Env Application) (m : Moment) (o : Outcome) : Type 0 where
  pub cores : List (Core Stack (Env Application))
  pub has : HasDesks s.cores m.desks cores
  pub groups : List (GroupId × Stack)
  pub out : List Buffer
  pub all : AllFinished Finishes (units_below cores FLOW_GROUPS) groups out
  pub records : o.groups ≡ map (λ (x : GroupId × Stack). record_of (setting_of env) x.1.owning.group) groups

-- An outcome is what a play leaves: its entries are those that are carried out, and its settles those of the play, with whatever report; card and
-- settles fit the wire list, the connects have their answers, and all buffers are home in the end.
pub record IsWhole (s : Settings) (frames : List (List ℕ)) (wire : List Entry) (env : Env Application) (name : WireNo → Name) (unit : ℕ → Stack) (desks : ℕ → View Stack Work) (m : Moment) (ms : List Moment) (o : Outcome) : Type 0 where
  pub played : (r : Sheet) → r.entries ≡ m.done → r.settles ≡ lines_of (m ∷ ms) → IsPlayed s frames r env name unit desks m ms
  pub entries : o.entries ≡ m.done
  pub settles : o.settles ≡ lines_of (m ∷ ms)
  pub card : fit_all s frames wire o.entries o.settles ≡ true
  pub whole : list_all (is_whole s.cores s.buffers) o.settles ≡ true
  pub connects : o.connects ≡ answers_of (setting_of_play s frames) s
  pub records : IsClosed s env m o
  pub closed : are_closed s o.closed ≡ true

-- ## Laws
-- It is what a play of the wire list leaves, in some cycles.
pub record HasCycles (s : Settings) (frames : List (List ℕ)) (wire : List Entry) (o : Outcome) : Type 0 where
  pub cycles : ℕ → List Cycle
  pub play : IsPlay s frames wire cycles o

abbrev pub WholesArePlays : Type 0
WholesArePlays =
    (s : Settings) (frames : List (List ℕ)) (wire : List Entry) (env : Env Application) (name : WireNo → Name) (unit : ℕ → Stack) (desks : ℕ → View Stack Work) (m : Moment) (ms : List Moment) (o : Outcome)
    → IsWhole s frames wire env name unit desks m ms o → HasCycles s frames wire o

-- So it can be reported. A hardware address has six bytes, and a capture has bytes.
abbrev pub WholesAreReported : Type 0
WholesAreReported =
    (conf : Conf) (frames : List (List ℕ)) (x : Terms) (wire : List Entry) (env : Env Application) (name : WireNo → Name) (unit : ℕ → Stack) (desks : ℕ → View Stack Work) (m : Moment) (ms : List Moment) (o : Outcome)
    → length (settings_of conf).mac ≡ 6 → AllByRecursion AreBytes frames → IsWireSoFar x wire → IsWhole (settings_of conf) frames wire env name unit desks m ms o
    → CanBeReported (settings_of conf).cores o

-- And its report fits, with the file of its replies.
abbrev pub WholesFit : Type 0
WholesFit =
    (conf : Conf) (frames : List (List ℕ)) (x : Terms) (wire : List Entry) (env : Env Application) (name : WireNo → Name) (unit : ℕ → Stack) (desks : ℕ → View Stack Work) (m : Moment) (ms : List Moment) (o : Outcome)
    → length (settings_of conf).mac ≡ 6 → AllByRecursion AreBytes frames → IsWireSoFar x wire → IsWhole (settings_of conf) frames wire env name unit desks m ms o
    → (replies : List Reply) (r : Sheet) → AreReplies by_opening (local_of (settings_of conf)) o.groups replies → numbers_among replies replies ≡ range_with_len 0 (length replies)
    → IsSheetOf (head_of (settings_of conf)) o replies r → Fits (settings_of conf) frames wire r (reply_file wire replies)
