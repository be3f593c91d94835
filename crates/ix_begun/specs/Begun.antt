-- A play on the plain stacks behind its last settle so far, and how it begins: docs/COURSE.md.
use Rattle.std.specs.Prelude.{◌≡◌, ◌<◌, ◌≤◌, ◌^◌, ℕ, true, List, [], ◌∷◌, length, slice_index_or}
use Rattle.std.specs.List.{AllByRecursion, list_all}
use Rattle.ix_base.specs.declared.id.WireNo.{WireNo}
use Rattle.ix_mbuf.specs.declared.name.Name.{Name}
use Rattle.ix_desk.specs.Views.{View}
use Rattle.ix_stack.specs.declared.work.Work.{Work}
use Rattle.ix_appdef.specs.declared.application.Application.{Application}
use Rattle.ix_groupdef.specs.declared.env.Env.{Env}
use Rattle.ix_conf.specs.Settings.{Settings}
use Rattle.ix_playdef.specs.Setting.{setting_of_play}
use Rattle.ix_lines.specs.declared.types.ConnectLine.{ConnectLine}
use Rattle.ix_lines.specs.declared.types.SettleLine.{SettleLine}
use Rattle.ix_wire.specs.declared.entry.Entry.{Entry}
use Rattle.ix_feed.specs.Replays.{feed_view}
use Rattle.ix_fits.specs.Card.{is_whole}
use Rattle.ix_fits.specs.Connects.{answers_of}
use Rattle.ix_plainstack.specs.Stack.{Drains, Stack, stack_weight}
use Rattle.ix_carried.specs.Laws.{HasOwnBuffer, IsOpening}
use Rattle.ix_engine.specs.Courses.{HasBegun, IsWireFor}
use Rattle.ix_engine.specs.Openings.{StackCore}
use Rattle.ix_engine.specs.Steps.{Engine}
use Rattle.ix_homes.specs.Homes.{IsHome}
use Rattle.ix_tells.specs.Wholes.{HaveSlots}
use Rattle.ix_course.specs.Course.{IsAt}
use Rattle.ix_settled.specs.Moments.{IsOpened, Moment, Opening, lines_of}
use Rattle.ix_owned.specs.Owned.{AreNotPrinted, TellsOwners}
use Rattle.ix_worked.specs.Worked.{IsEnvOf, opening_of}

-- the settings of a configuration
pub record IsInRange (s : Settings) : Type 0 where
  pub some : 1 ≤ s.live
  pub live : s.live ≤ s.cores
  pub cores : s.cores ≤ 8
  pub buffers : s.buffers < 2 ^ 32

-- ## Behind a settle
-- each core's pool has buffers of its own
abbrev pub HaveNumbers : List StackCore → Type 0
HaveNumbers cores = (c : ℕ) (d : StackCore) → c < length cores → (slice_index_or cores c d).pool.home.0 ≡ c

-- Behind its settle m, and those of ms before it, a play has come so far: its cores played the entries that are carried out; each buffer is in its
-- place; the settles tell where the buffers are; and accepted frames lie in buffers of their core.
pub record IsInCourse (s : Settings) (p : Opening) (x : Engine) (m : Moment) (ms : List Moment) : Type 0 where
  pub at : IsAt p (feed_view x.card x.replay) x.cores m ms
  pub home : IsHome Drains stack_weight x.card x.cores
  pub slots : HaveSlots s.buffers x.cores
  pub numbers : HaveNumbers x.cores
  pub tells : AllByRecursion (TellsOwners p) (m ∷ ms)
  pub kept : AreNotPrinted p (m ∷ ms)
  pub whole : list_all (is_whole s.cores s.buffers) (lines_of (m ∷ ms)) ≡ true
  pub own : AllByRecursion (HasOwnBuffer s.buffers) m.done

-- ## The beginning
-- A play that began is in its course behind its first settle, and has its answers to connects.
pub record IsBegun (s : Settings) (frames : List (List ℕ)) (env : Env Application) (connects : List ConnectLine) (line : SettleLine) (x : Engine) : Type 0 where
  pub unit : ℕ → Stack
  pub desks : ℕ → View Stack Work
  pub opened : (name : WireNo → Name) → IsOpened (opening_of s frames env name unit desks)
  pub answers : connects ≡ answers_of (setting_of_play s frames) s
  pub card : IsOpening s line x.card
  pub name : WireNo → Name
  pub first : Moment
  pub line_is : first.line ≡ line
  pub goes : IsInCourse s (opening_of s frames env name unit desks) x first []

abbrev pub PlaysBegin : Type 0
PlaysBegin =
    (s : Settings) (frames : List (List ℕ)) (entries : List Entry) (env : Env Application) (connects : List ConnectLine) (line : SettleLine) (x : Engine)
    → IsInRange s → IsEnvOf s frames env → IsWireFor s frames entries → HasBegun s frames entries env connects line x → IsBegun s frames env connects line x
