use Rattle.std.proofs.Common.{arith}
use Rattle.ix_ip.specs.SumLaws.{next_word, last_word, no_word}
use Rattle.ix_ip.proofs.sum.ones_sum.Goals as goal

pub loop-rest-preserved : goal.loop-rest-preserved
loop-rest-preserved c =
    (omega arith, next_word c.loop-rest.sum c.from_be_bytes.result _ c.loop-rest.rest.now _ (omega arith) (omega arith) c.ones_added-sum.ensures c.loop-rest.invariant.1)

pub returns-in-empty : goal.returns-in-empty
returns-in-empty c = no_word c.loop-rest.sum c.loop-rest.rest.now _ (omega arith) (omega arith) c.loop-rest.invariant.1

pub returns-in-len1-up : goal.returns-in-len1-up
returns-in-len1-up c =
    last_word c.loop-rest.sum c.from_be_bytes-in-len1-up.result _ c.loop-rest.rest.now _ (omega arith) (omega arith) (omega arith) c.ones_added.ensures c.loop-rest.invariant.1
