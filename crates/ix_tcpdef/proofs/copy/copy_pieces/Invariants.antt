use Rattle.std.proofs.Common.{◌≡◌, take}
use Rattle.ix_tcpdef.proofs.copy.copy_pieces.Given as goal

abbrev pub invariant-loop-piece : goal.invariant-loop-piece
invariant-loop-piece l = l.copies ≡ take l.piece-index l.pieces
