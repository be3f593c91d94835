use Rattle.std.proofs.Common.{◌≡◌, ◌++◌, take, map}
use Rattle.ix_tcpdef.specs.Calls.{recv_of}
use Rattle.ix_tcpdef.proofs.calls.tell_pieces.Given as goal

abbrev pub invariant-loop-piece : goal.invariant-loop-piece
invariant-loop-piece l = l.outputs ≡ l.fn.outputs ++ map recv_of (take l.piece-index l.pieces)
