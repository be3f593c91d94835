-- What callers are told of a connection.
use Rattle.std.specs.Prelude.{ℕ, Option, Some, None, slice_get}
use Rattle.ix_base.specs.declared.id.WireNo.{WireNo}
use Rattle.ix_tcpdef.specs.declared.types.Connection.{Connection}
use Rattle.ix_tcpdef.specs.declared.types.HeldSegment.{HeldSegment}
use Rattle.ix_tcpdef.specs.declared.types.Left.{Left}

abbrev pub left_of : Connection → Left
left_of w =
    record { state = w.state; una = w.una; nxt = w.nxt; rcv = w.rcv; cwnd = w.cwnd; ssthresh = w.ssthresh }

abbrev pub number_of : Option HeldSegment → Option WireNo
number_of (Some s) = Some s.w
number_of None = None

-- the wire number of the i-th held segment
abbrev pub held_number : Connection → ℕ → Option WireNo
held_number w i = number_of (slice_get w.held i)
