use Rattle.std.proofs.Common.{List, ℕ, subst}
use Rattle.ix_base.specs.Host.{Writes}
use Rattle.ix_base.specs.Mem.{mem_state}
use Rattle.ix_top.proofs.Fronts.{front-of-front}
use Rattle.ix_top.proofs.tests.short.ShortHostHost.write.Goals as goal

pub returns-clause-state : goal.returns-clause-state
returns-clause-state c =
    subst (λ (bytes : List ℕ). Writes c.args.role bytes (mem_state c.args.self.now.memory) (mem_state c.write.new.self))
    (front-of-front c.write.result c.min.result c.args.bytes.now c.write.ensures.bound) c.write.ensures.state
