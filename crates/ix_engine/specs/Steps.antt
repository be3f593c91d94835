-- What the parts of a play make of the card and the cores: connects, settles, epochs, and the close.
use Rattle.std.specs.Prelude.{◌≡◌, ◌<◌, ℕ, false, List, [], ◌∷◌, length, map, slice_index_or, slice_set}
use Rattle.ix_base.specs.declared.id.GroupId.{GroupId}
use Rattle.ix_base.specs.declared.segment.Ret.{Ret}
use Rattle.ix_appdef.specs.declared.application.Application.{Application}
use Rattle.ix_groupdef.specs.declared.env.Env.{Env}
use Rattle.ix_groupdef.specs.declared.types.GroupRecord.{GroupRecord}
use Rattle.ix_groupdef.specs.Env.{setting_of}
use Rattle.ix_groupdef.specs.Record.{record_of}
use Rattle.ix_lines.specs.declared.types.ConnectLine.{ConnectLine}
use Rattle.ix_lines.specs.declared.types.HomeLine.{HomeLine}
use Rattle.ix_lines.specs.declared.types.RingLine.{RingLine}
use Rattle.ix_lines.specs.declared.types.SettleLine.{SettleLine}
use Rattle.ix_nic.specs.declared.offer.Counts.{Counts}
use Rattle.ix_nic.specs.Cards.{CardView}
use Rattle.ix_feed.specs.Replays.{ReplayView, feed_view}
use Rattle.ix_core.specs.declared.closing.Closed.{Closed}
use Rattle.ix_core.specs.declared.counting.Home.{Home}
use Rattle.ix_core.specs.declared.settling.SettleReport.{SettleReport}
use Rattle.ix_core.specs.Closing.{Closes}
use Rattle.ix_core.specs.Meeting.{AllAreTold, AreInOrder, CardLearned, CoresLearned}
use Rattle.ix_core.specs.Settling.{Settles}
use Rattle.ix_epochs.specs.Epochs.{EpochRan}
use Rattle.ix_plainstack.specs.Batches.{is_frame_work, work_number}
use Rattle.ix_plainstack.specs.Stack.{Advances, Drains, Finishes, Stack, owners_at, stack_weight}
use Rattle.ix_dials.specs.Dials.{Dials, connect_line}
use Rattle.ix_engine.specs.Openings.{StackCore}

-- the card, what it is fed, and the cores
pub record Engine : Type 0 where
  pub card : CardView
  pub replay : ReplayView
  pub cores : List StackCore

-- ## Connects
-- A core connected to these peers, and what became of each connect is told.
pub record IsDialed (env : Env Application) (peers : List (ℕ × ℕ)) (told : List ConnectLine) (x y : StackCore) : Type 0 where
  pub rets : List Ret
  pub dials : Dials env 0 peers rets x y
  pub lines : told ≡ map connect_line rets

-- so did the first core, and the others are as they were
pub record FirstDials (env : Env Application) (peers : List (ℕ × ℕ)) (told : List ConnectLine) (old new : List StackCore) : Type 0 where
  pub first : StackCore
  pub is : (d : StackCore) → IsDialed env peers told (slice_index_or old 0 d) first
  pub cores : new ≡ slice_set old 0 first

-- ## Settles
abbrev pub ring_line : Counts → RingLine
ring_line c = record { posted = c.posted; frames = c.frames; items = c.items }

abbrev pub home_line : Home → HomeLine
home_line h = record { pool = h.pool; posted = h.posted; desk = h.desk; held = h.held; app = h.app; queue = h.queue }

-- A settle was made, and is told.
pub record IsSettledBy (line : SettleLine) (card card' : CardView) (cores cores' : List StackCore) : Type 0 where
  pub report : SettleReport
  pub settles : Settles owners_at report card card' cores cores'
  pub rings : line.rings ≡ map ring_line report.rings.items
  pub homes : line.homes ≡ map home_line report.homes.items

-- Both ends of each ring were told what stands in it.
pub record HaveMet (card card' : CardView) (cores cores' : List StackCore) : Type 0 where
  pub order : AreInOrder card' cores'
  pub told : AllAreTold card' cores'
  pub card_is : CardLearned card card'
  pub cores_are : CoresLearned cores cores'

-- They met, and were settled.
pub record MeetAndSettle (line : SettleLine) (old new : CardView) (before after : List StackCore) : Type 0 where
  pub card : CardView
  pub cores : List StackCore
  pub met : HaveMet old card before cores
  pub settled : IsSettledBy line card new cores after

-- ## Epochs
-- the next epoch, of which an entry is left
abbrev pub begun : ReplayView → ReplayView
begun r = record r { ended = false }

-- An epoch ran, and was settled.
pub record EpochStep (env : Env Application) (x y : Engine) (line : SettleLine) : Type 0 where
  pub more : length x.replay.lines < length x.replay.entries
  pub card : CardView
  pub cores : List StackCore
  pub ran : EpochRan is_frame_work work_number (λ s. s.steps) Advances Drains env (feed_view x.card (begun x.replay)) (feed_view card y.replay) x.cores cores
  pub settled : IsSettledBy line card y.card cores y.cores

-- epoch after epoch, each with what is told of its settle
abbrev pub EpochSteps : Env Application → Engine → List SettleLine → Engine → Type 0
EpochSteps env x [] y = y ≡ x
EpochSteps env x (line ∷ lines) y = (mid : Engine) × (EpochStep env x mid line × EpochSteps env mid lines y)

-- ## The close
-- what units leave, group by group
abbrev pub records_of : Env Application → List (GroupId × Stack) → List GroupRecord
records_of env groups = map (λ g. record_of (setting_of env) g.1.owning.group) groups

pub record IsClosedBy (env : Env Application) (groups : List GroupRecord) (pools : List ℕ) (card card' : CardView) (cores cores' : List StackCore) : Type 0 where
  pub closed : Closed Stack (Env Application)
  pub closes : Closes Finishes stack_weight closed card card' cores cores'
  pub records : groups ≡ records_of env closed.groups.items
  pub pools_are : pools ≡ closed.pools.items
