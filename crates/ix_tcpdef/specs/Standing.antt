-- Numbers stand for a connection from its beginning on.
use Rattle.std.specs.Prelude.{◌≡◌, ℕ, List}
use Rattle.ix_base.specs.declared.id.Flow.{Flow}
use Rattle.ix_tcpdef.specs.Sound.{IsInRange, IsWritten, HasWindow}
use Rattle.ix_tcpdef.specs.Stands.{tcb_of, StandsFor}
use Rattle.ix_tcpdef.specs.Step.{listening, step}
use Rattle.ix_tcpdef.specs.declared.types.Cfg.{Cfg}
use Rattle.ix_tcpdef.specs.declared.types.Connection.{Connection}
use Rattle.ix_tcpdef.specs.declared.types.Input.{Input}
use Rattle.ix_tcpdef.specs.declared.types.Tcb.{Tcb}

abbrev pub StandsFirst : Type 0
StandsFirst =
    (cfg : Cfg) (flow : Flow) (peer_mac : List ℕ) (iss : ℕ) → IsInRange cfg → StandsFor cfg (tcb_of (listening flow peer_mac iss)) (listening flow peer_mac iss)

-- A call that leaves the numbers of the connection after its step leaves numbers that stand for it.
abbrev pub StandsOn : Type 0
StandsOn =
    (cfg : Cfg) (t u : Tcb) (w : Connection) (input : Input) (now : ℕ) → IsWritten input → HasWindow input → StandsFor cfg t w → u ≡ tcb_of (step cfg w input now).connection → StandsFor cfg u (step cfg w input now).connection
