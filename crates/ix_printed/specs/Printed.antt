-- Which buffers are printed between two settles of a play on the plain stacks: docs/COURSE.md.
use Rattle.std.specs.Prelude.{◌≡◌, ◌<◌, ◌*◌, ◌^◌, List, length}
use Rattle.std.specs.List.{AllByRecursion}
use Rattle.ix_appdef.specs.declared.application.Application.{Application}
use Rattle.ix_groupdef.specs.declared.env.Env.{Env}
use Rattle.ix_nic.specs.Cards.{CardView}
use Rattle.ix_core.specs.declared.settling.SettleReport.{SettleReport}
use Rattle.ix_core.specs.declared.turning.Core.{Core}
use Rattle.ix_core.specs.Settling.{Settles}
use Rattle.ix_feed.specs.Replays.{FeedView}
use Rattle.ix_epochs.specs.Epochs.{EpochRan}
use Rattle.ix_homes.specs.Homes.{IsHome}
use Rattle.ix_slots.specs.Slots.{HasRing}
use Rattle.ix_plainstack.specs.Batches.{is_frame_work, work_number}
use Rattle.ix_plainstack.specs.Stack.{Stack, Advances, Drains, owners_at, stack_weight}
use Rattle.ix_settled.specs.Moments.{Moment, Opening, stack_steps}
use Rattle.ix_owned.specs.Owned.{HasDesks, NotPrinted}

-- An epoch and the settle behind it lead from one moment of a play to the next. Before them each buffer is in its place, and the epoch has fewer
-- than 2^32 chances to fill one: an entry for each core. Then no buffer that is out at both moments, in the same use, is printed in an entry
-- between them: it would have been filled, and be in another use.
abbrev pub UsesAreNotPrinted : Type 0
UsesAreNotPrinted =
    (p : Opening) (env : Env Application) (before m : Moment) (feed feed' : FeedView) (card : CardView) (report : SettleReport) (cores cores' after : List (Core Stack (Env Application)))
    → IsHome Drains stack_weight feed.card cores → (ran : EpochRan is_frame_work work_number stack_steps Advances Drains env feed feed' cores cores')
    → Settles owners_at report feed'.card card cores' after
    → HasDesks p.cores before.desks cores → HasDesks p.cores m.desks after → before.done ≡ feed.replay.lines → m.done ≡ feed'.replay.lines
    → AllByRecursion (HasRing (length cores)) ran.feed.told → length cores * length ran.feed.told < 2 ^ 32
    → NotPrinted p before m
