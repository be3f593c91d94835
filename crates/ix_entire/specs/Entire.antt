-- A run of the card and the cores and its close are a whole play: docs/COURSE.md.
use Rattle.std.specs.Prelude.{◌≡◌, ℕ, List}
use Rattle.ix_base.specs.declared.id.WireNo.{WireNo}
use Rattle.ix_mbuf.specs.declared.name.Name.{Name}
use Rattle.ix_desk.specs.Views.{View}
use Rattle.ix_stack.specs.declared.work.Work.{Work}
use Rattle.ix_appdef.specs.declared.application.Application.{Application}
use Rattle.ix_groupdef.specs.declared.env.Env.{Env}
use Rattle.ix_groupdef.specs.declared.types.GroupRecord.{GroupRecord}
use Rattle.ix_conf.specs.Settings.{Settings}
use Rattle.ix_lines.specs.declared.types.ConnectLine.{ConnectLine}
use Rattle.ix_lines.specs.declared.types.SettleLine.{SettleLine}
use Rattle.ix_nic.specs.Cards.{CardView}
use Rattle.ix_wire.specs.declared.entry.Entry.{Entry}
use Rattle.ix_core.specs.Closing.{CanClose}
use Rattle.ix_plainstack.specs.Stack.{Stack}
use Rattle.ix_sheet.specs.declared.outcome.Outcome.{Outcome}
use Rattle.ix_engine.specs.Courses.{HasRun, IsWireFor}
use Rattle.ix_engine.specs.Openings.{StackCore}
use Rattle.ix_engine.specs.Steps.{Engine, HaveMet, IsClosedBy}
use Rattle.ix_settled.specs.Moments.{Moment}
use Rattle.ix_worked.specs.Worked.{IsEnvOf}
use Rattle.ix_whole.specs.Whole.{IsWhole}
use Rattle.ix_begun.specs.Begun.{IsInRange}

-- what a run and its close leave
abbrev pub outcome_of : List ConnectLine → List SettleLine → Engine → List GroupRecord → List ℕ → Outcome
outcome_of connects settles y groups pools =
    record { settles = settles; connects = connects; entries = y.replay.lines; groups = groups; closed = pools }

-- It is what a whole play leaves.
pub record IsEntire (s : Settings) (frames : List (List ℕ)) (entries : List Entry) (env : Env Application) (o : Outcome) : Type 0 where
  pub name : WireNo → Name
  pub unit : ℕ → Stack
  pub desks : ℕ → View Stack Work
  pub m : Moment
  pub ms : List Moment
  pub whole : IsWhole s frames entries env name unit desks m ms o

-- ## Laws
-- After a run and a meeting the card and the cores can be closed.
abbrev pub RunsCanClose : Type 0
RunsCanClose =
    (s : Settings) (frames : List (List ℕ)) (entries : List Entry) (env : Env Application) (connects : List ConnectLine) (settles : List SettleLine) (y : Engine) (card : CardView) (cores : List StackCore)
    → IsInRange s → IsEnvOf s frames env → IsWireFor s frames entries → HasRun s frames entries env connects settles y → HaveMet y.card card y.cores cores → CanClose card cores

-- And where they are closed, it was a whole play.
abbrev pub RunsAreWhole : Type 0
RunsAreWhole =
    (s : Settings) (frames : List (List ℕ)) (entries : List Entry) (env : Env Application) (connects : List ConnectLine) (settles : List SettleLine) (y : Engine) (card card' : CardView) (cores cores' : List StackCore)
    (groups : List GroupRecord) (pools : List ℕ)
    → IsInRange s → IsEnvOf s frames env → IsWireFor s frames entries → HasRun s frames entries env connects settles y → HaveMet y.card card y.cores cores
    → IsClosedBy env groups pools card card' cores cores' → IsEntire s frames entries env (outcome_of connects settles y groups pools)
