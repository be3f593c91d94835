-- A run of the card and the cores, settle by settle, is a play of the plain stacks: docs/COURSE.md.
use Rattle.std.specs.Prelude.{◌≡◌, ◌<◌, ◌≤◌, ℕ, List, ◌∷◌, length}
use Rattle.ix_base.specs.declared.id.WireNo.{WireNo}
use Rattle.ix_mbuf.specs.declared.name.Name.{Name}
use Rattle.ix_desk.specs.Views.{View}
use Rattle.ix_stack.specs.declared.work.Work.{Work}
use Rattle.ix_appdef.specs.declared.application.Application.{Application}
use Rattle.ix_groupdef.specs.declared.env.Env.{Env}
use Rattle.ix_conf.specs.Settings.{Settings}
use Rattle.ix_lines.specs.declared.types.ConnectLine.{ConnectLine}
use Rattle.ix_lines.specs.declared.types.SettleLine.{SettleLine}
use Rattle.ix_trace.specs.declared.sheet.Sheet.{Sheet}
use Rattle.ix_wire.specs.declared.entry.Entry.{Entry}
use Rattle.ix_plainstack.specs.Stack.{Stack}
use Rattle.ix_engine.specs.Courses.{HasRun, IsWireFor}
use Rattle.ix_engine.specs.Steps.{Engine, EpochStep}
use Rattle.ix_course.specs.Course.{with_names}
use Rattle.ix_settled.specs.Moments.{Moment, Opening, lines_of}
use Rattle.ix_worked.specs.Worked.{IsEnvOf, IsPlayed, opening_of}
use Rattle.ix_begun.specs.Begun.{IsInCourse, IsInRange}

-- ## One epoch
-- The next settle of a play's course. The frames of its epoch that were accepted have buffers.
pub record IsNext (s : Settings) (p : Opening) (y : Engine) (line : SettleLine) (m : Moment) (ms : List Moment) : Type 0 where
  pub name : WireNo → Name
  pub same : (w : WireNo) → w.0 < length m.done → name w ≡ p.name w
  pub next : Moment
  pub line_is : next.line ≡ line
  pub goes : IsInCourse s (with_names p name) y next (m ∷ ms)

abbrev pub EpochsGoOn : Type 0
EpochsGoOn =
    (s : Settings) (frames : List (List ℕ)) (entries : List Entry) (p : Opening) (x y : Engine) (line : SettleLine) (m : Moment) (ms : List Moment)
    → IsInRange s → IsWireFor s frames entries → x.replay.entries ≡ entries → p.cores ≡ s.cores → p.live ≡ s.live → p.batch ≡ s.batch → p.frames ≡ frames
    → IsInCourse s p x m ms → EpochStep p.env x y line → IsNext s p y line m ms

-- ## A whole run
-- The moments of a run: what it is played as, with any report of its entries and settles.
pub record HasMoments (s : Settings) (frames : List (List ℕ)) (env : Env Application) (settles : List SettleLine) (y : Engine) : Type 0 where
  pub name : WireNo → Name
  pub unit : ℕ → Stack
  pub desks : ℕ → View Stack Work
  pub m : Moment
  pub ms : List Moment
  pub played : (r : Sheet) → r.entries ≡ m.done → r.settles ≡ lines_of (m ∷ ms) → IsPlayed s frames r env name unit desks m ms
  pub settles_are : settles ≡ lines_of (m ∷ ms)
  pub goes : IsInCourse s (opening_of s frames env name unit desks) y m ms

abbrev pub RunsArePlayed : Type 0
RunsArePlayed =
    (s : Settings) (frames : List (List ℕ)) (entries : List Entry) (env : Env Application) (connects : List ConnectLine) (settles : List SettleLine) (y : Engine)
    → IsInRange s → IsEnvOf s frames env → IsWireFor s frames entries → HasRun s frames entries env connects settles y → HasMoments s frames env settles y
