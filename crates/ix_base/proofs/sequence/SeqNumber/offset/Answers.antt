use Rattle.std.proofs.Common.{arith}
use Rattle.std.proofs.lemmas.Int.{ints}
use Rattle.ix_base.proofs.OffsetLaws.{congruent-ahead, congruent-back}
use Rattle.ix_base.proofs.sequence.SeqNumber.offset.Goals as goal

pub returns-then-ahead-lt2147483648-clause-congruent :
    goal.returns-then-ahead-lt2147483648-clause-congruent
returns-then-ahead-lt2147483648-clause-congruent c = congruent-ahead c.args.self.0 c.args.other.0 _ (omega arith) (omega arith) (omega (arith, ints))

pub returns-else-ahead-lt2147483648-clause-congruent :
    goal.returns-else-ahead-lt2147483648-clause-congruent
returns-else-ahead-lt2147483648-clause-congruent c = congruent-back c.args.self.0 c.args.other.0 _ (omega arith) (omega arith) (omega (arith, ints))
