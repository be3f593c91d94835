-- What is true of a connection that ran from its beginning.
use Rattle.std.specs.Prelude.{◌≡◌, ℕ, Bool, true, false, List, [], Option, None}
use Rattle.std.specs.List.{All}
use Rattle.ix_base.specs.declared.id.Flow.{Flow}
use Rattle.ix_tcpdef.specs.Connection.{is_closed}
use Rattle.ix_tcpdef.specs.Onward.{knows_peer}
use Rattle.ix_tcpdef.specs.Sound.{IsKept, HasOpened}
use Rattle.ix_tcpdef.specs.Step.{Moment, listening, step, last}
use Rattle.ix_tcpdef.specs.declared.types.Cfg.{Cfg}
use Rattle.ix_tcpdef.specs.declared.types.State.{State}
use Rattle.ix_tcpdef.specs.declared.types.Connection.{Connection}
use Rattle.ix_tcpdef.specs.declared.types.HeldSegment.{HeldSegment}
use Rattle.ix_tcpdef.specs.declared.types.Input.{Input}
use Rattle.ix_tcpdef.specs.declared.types.Piece.{Piece}

-- the application was told of all parts, or of none
abbrev pub AreTold : Bool → List Piece → Type 0
AreTold accepted pieces = All (λ p. p.told ≡ accepted) pieces

pub record Lived (state : State) (accepted : Bool) (pieces : List Piece) (waiting : List HeldSegment) (due : Option ℕ) : Type 0 where
  -- of an accepted connection all parts were told, of another none
  pub told : AreTold accepted pieces
  -- where the peer's initial number is unknown nothing came
  pub none : knows_peer state ≡ false → pieces ≡ []
  -- a connection that has ended holds nothing and waits for nothing
  pub held : is_closed state ≡ true → waiting ≡ []
  pub deadline : is_closed state ≡ true → due ≡ None

abbrev pub HasLived : Connection → Type 0
HasLived w = Lived w.state w.accepted w.pieces w.held w.deadline

-- ## Laws
-- A connection before its opening keeps what connections keep, opens in order, and has lived.
pub record Begins (cfg : Cfg) (w : Connection) : Type 0 where
  pub kept : IsKept cfg w
  pub opened : HasOpened w
  pub lived : HasLived w

abbrev pub AllBegin : Type 0
AllBegin = (cfg : Cfg) (flow : Flow) (peer_mac : List ℕ) (iss : ℕ) → Begins cfg (listening flow peer_mac iss)

abbrev pub StepsLive : Type 0
StepsLive = (cfg : Cfg) (w : Connection) (input : Input) (now : ℕ) → HasLived w → HasLived (step cfg w input now).connection

abbrev pub RunsLive : Type 0
RunsLive = (cfg : Cfg) (flow : Flow) (peer_mac : List ℕ) (iss : ℕ) (ms : List Moment) → HasLived (last cfg (listening flow peer_mac iss) ms)
