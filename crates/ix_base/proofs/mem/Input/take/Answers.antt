use Rattle.std.proofs.Common.{arith}
use Rattle.std.proofs.lemmas.Grind.{common_steps}
use Rattle.ix_base.proofs.Bytes.{front_taken}
use Rattle.ix_base.proofs.mem.Input.take.Goals as goal

pub returns-clause-bytes : goal.returns-clause-bytes
returns-clause-bytes c =
    front_taken c.args.self.now.bytes c.copy_from_slice.new.self _ c.args.self.now.at c.min-count.result
    (grind (arith, common_steps)) (grind (arith, common_steps))
