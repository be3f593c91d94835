use Rattle.std.proofs.Common.{ap, arith, rules}
use Rattle.ix_core.proofs.Postings.{posts_more}
use Rattle.ix_core.proofs.posting.post.Goals as goal

pub loop-i-preserved : goal.loop-i-preserved
loop-i-preserved c = record {
  ring = search rules;
  so = posts_more c.loop-i._i c.args.pool.now c.loop-i.pool c.take.new.self c.args.posted.now c.loop-i.posted c.put.new.self c.reserve.new.self.items c.loop-i.returns.items c.in-Some.buf (ap (λ r. r.items) c.loop-i.invariant.returns) c.in-Some.ensures.0 c.in-Some.ensures.1 (search rules) (λ id. omega (arith, c.free-free.ensures.together id)) c.loop-i.invariant.so;
  returns = c.loop-i.invariant.returns;
  room = c.loop-i.invariant.room;
}
