use Rattle.std.proofs.Common.{◌∙◌, ap, map}
use Rattle.ix_groupdef.specs.Env.{setting_of}
use Rattle.ix_groupdef.specs.Owners.{sends_parts}
use Rattle.ix_plainstack.specs.Batches.{accepted_as}
use Rattle.ix_plainstack.proofs.CycleSteps.{batch_is}
use Rattle.ix_plainstack.proofs.owning.OwningGroup.step_batch.Goals as goal

pub returns-clause-batch : goal.returns-clause-batch
returns-clause-batch c =
    rw (← c.self.view_is)
    (λ r. batch_is (sends_parts c.args.env.now.app) (setting_of c.args.env.now) c.args.core c.args.frames.items c.in_ok-accepted.accepted
    (record { group = c.self.inside.group; buffers = c.self.inside.buffers }) c.settle.new.self c.step_batch.new.self r
    (c.in_ok-accepted.ensures.same ∙ ap (map accepted_as) c.as_slice.ensures.value)
    (c.in_ok-step_batch.ensures.cutting r.asked r.cs r.is) c.in_ok-settle.ensures.same)
