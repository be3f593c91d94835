use Rattle.std.proofs.Common.{◌≡◌, ◌++◌, drop}
use Rattle.ix_groupdef.specs.Owners.{ended_from, told_parts}
use Rattle.ix_out.specs.Out.{told_out}
use Rattle.ix_out.proofs.frames_out.push_told.Given as goal

abbrev pub invariant-loop-piece : goal.invariant-loop-piece
invariant-loop-piece l =
    l.outs.items ++ told_out l.connection (ended_from l.end (drop l.piece-index l.piece-items))
    ≡ l.fn.outs.items ++ told_out l.connection (told_parts l.connection)
