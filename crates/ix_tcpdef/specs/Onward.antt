-- Where the positions of a connection go.
use Rattle.std.specs.Prelude.{◌≡◌, ℕ, ◌+◌, ◌^◌, ◌<◌, ◌≤◌, Bool, true, false}
use Rattle.ix_base.specs.Sequence.{number, ahead}
use Rattle.ix_tcpdef.specs.Connection.{is_listen}
use Rattle.ix_tcpdef.specs.Sound.{IsInRange, IsKept, IsWritten, HasWindow}
use Rattle.ix_tcpdef.specs.Step.{step}
use Rattle.ix_tcpdef.specs.declared.types.Cfg.{Cfg}
use Rattle.ix_tcpdef.specs.declared.types.State.{State}
use Rattle.ix_tcpdef.specs.declared.types.State.TheVariants as st
use Rattle.ix_tcpdef.specs.declared.types.Connection.{Connection}
use Rattle.ix_tcpdef.specs.declared.types.Input.{Input}

-- the states in which the peer's initial number is known, and CLOSED
abbrev pub knows_peer : State → Bool
knows_peer st.Listen = false
knows_peer st.SynSent = false
knows_peer _ = true

-- A position moves from p to q: forward, by less than 2^32.
pub record MovesOn (p q : ℕ) : Type 0 where
  pub from : p ≤ q
  pub to : q < p + 2 ^ 32

-- How a step moves the positions of a connection that was opened. What they are counted from stays.
pub record GoesOnward (old new : Connection) : Type 0 where
  pub iss : new.iss ≡ old.iss
  pub una : is_listen old.state ≡ false → MovesOn old.una new.una
  pub nxt : is_listen old.state ≡ false → MovesOn old.nxt new.nxt
  pub irs : knows_peer old.state ≡ true → new.irs ≡ old.irs
  pub rcv : knows_peer old.state ≡ true → MovesOn old.rcv new.rcv

-- ## Laws
abbrev pub StepsGoOnward : Type 0
StepsGoOnward =
    (cfg : Cfg) (w : Connection) (input : Input) (now : ℕ) → cfg.window < 2 ^ 16 → IsInRange cfg → IsWritten input → HasWindow input → IsKept cfg w → GoesOnward w (step cfg w input now).connection

-- So a position follows from the one before it and from its number.
abbrev pub FollowsNumbers : Type 0
FollowsNumbers = (start p q : ℕ) → MovesOn p q → q ≡ p + ahead (number start p) (number start q)
