-- What a settle tells of the owners of buffers: docs/SETTLES.md, "Where the buffers are".
use Rattle.std.specs.Prelude.{◌<◌, ◌^◌, ℕ, List}
use Rattle.ix_appdef.specs.declared.application.Application.{Application}
use Rattle.ix_groupdef.specs.declared.env.Env.{Env}
use Rattle.ix_nic.specs.Cards.{CardView}
use Rattle.ix_core.specs.declared.settling.SettleReport.{SettleReport}
use Rattle.ix_core.specs.declared.turning.Core.{Core}
use Rattle.ix_core.specs.Settling.{Settles}
use Rattle.ix_plainstack.specs.Stack.{Drains, Stack, owners_at, stack_weight}
use Rattle.ix_settled.specs.Moments.{Moment, Opening}
use Rattle.ix_homes.specs.Homes.{IsHome}
use Rattle.ix_tells.specs.Wholes.{HaveSlots, LineTells}
use Rattle.ix_owned.specs.Owned.{HasDesks, TellsOwners}

-- At a settle of a play on the plain stacks, with each buffer in its place, the line tells the owners.
abbrev pub OwnersAreTold : Type 0
OwnersAreTold =
    (p : Opening) (buffers : ℕ) (m : Moment) (report : SettleReport) (card card' : CardView) (cores cores' : List (Core Stack (Env Application))) → buffers < 2 ^ 32
    → HaveSlots buffers cores' → IsHome Drains stack_weight card' cores' → Settles owners_at report card card' cores cores' → LineTells m.line report → HasDesks p.cores m.desks cores'
    → TellsOwners p m
