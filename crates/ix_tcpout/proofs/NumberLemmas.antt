-- Numbers against positions.
use Rattle.std.proofs.Common.{arith}
use Rattle.ix_tcpdef.specs.Positions.{CountsAhead, GoesOn}

pub counts_ahead : CountsAhead
counts_ahead start p q from near = omega arith

pub goes_on : GoesOn
goes_on start p n = omega arith
