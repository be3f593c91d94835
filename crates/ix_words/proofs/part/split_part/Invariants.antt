use Rattle.ix_words.proofs.SplitLaws.{NoMark}
use Rattle.ix_words.proofs.part.split_part.Given as goal

abbrev pub invariant-loop-i : goal.invariant-loop-i
invariant-loop-i l = NoMark l.mark l.bytes l.i
