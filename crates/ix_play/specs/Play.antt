-- What a play leaves that ran.
use Rattle.std.specs.Prelude.{◌≡◌, ℕ, List}
use Rattle.ix_appdef.specs.declared.application.Application.{Application}
use Rattle.ix_groupdef.specs.declared.env.Env.{Env}
use Rattle.ix_groupdef.specs.declared.types.GroupRecord.{GroupRecord}
use Rattle.ix_lines.specs.declared.types.ConnectLine.{ConnectLine}
use Rattle.ix_lines.specs.declared.types.SettleLine.{SettleLine}
use Rattle.ix_nic.specs.Cards.{CardView}
use Rattle.ix_sheet.specs.declared.outcome.Outcome.{Outcome}
use Rattle.ix_engine.specs.Openings.{StackCore}
use Rattle.ix_engine.specs.Steps.{Engine, HaveMet, IsClosedBy}
use Rattle.ix_entire.specs.Entire.{outcome_of}

-- After the last settle the card and the cores met and were closed, and this is what is left.
pub record Leaves (env : Env Application) (connects : List ConnectLine) (settles : List SettleLine) (y : Engine) (o : Outcome) : Type 0 where
  pub card : CardView
  pub cores : List StackCore
  pub met : HaveMet y.card card y.cores cores
  pub groups : List GroupRecord
  pub pools : List ℕ
  pub card_closed : CardView
  pub cores_closed : List StackCore
  pub closed : IsClosedBy env groups pools card card_closed cores cores_closed
  pub is : o ≡ outcome_of connects settles y groups pools
