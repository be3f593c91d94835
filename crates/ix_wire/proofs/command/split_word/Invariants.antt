use Rattle.ix_wire.proofs.WordLaws.{NoBlank}
use Rattle.ix_wire.proofs.command.split_word.Given as goal

abbrev pub invariant-loop-i : goal.invariant-loop-i
invariant-loop-i l = NoBlank l.bytes l.i
