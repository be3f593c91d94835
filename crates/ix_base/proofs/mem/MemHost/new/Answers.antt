use Rattle.std.proofs.Common.{[]}
use Rattle.ix_base.proofs.mem.MemHost.new.Goals as goal

pub returns : goal.returns
returns c = c.fill.ensures.fresh (λ _. []) c.args.room c.args.fail.items c.in_ok-host.ensures
