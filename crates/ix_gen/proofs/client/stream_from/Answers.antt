use Rattle.std.proofs.Common.{◌∙◌, arith}
use Rattle.ix_gen.proofs.StreamLaws.{stream_step, stream_whole}
use Rattle.ix_gen.proofs.client.stream_from.Goals as goal

pub loop-preserved : goal.loop-preserved
loop-preserved c =
    stream_step c.loop.bytes c.push.new.self c.loop.next c.args.len c.loop.counter c.in_ok-push.ensures.ok (omega arith) ∙ c.loop.invariant

pub returns-clause-len : goal.returns-clause-len
returns-clause-len c = stream_whole c.loop.bytes c.args.byte c.loop.next c.args.len c.loop.counter (omega arith) c.loop.invariant
