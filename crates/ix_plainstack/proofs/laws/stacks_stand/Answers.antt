use Rattle.ix_plainstack.proofs.StackStands.{stands_first, connects_stand, steps_stand, drains_stand}
use Rattle.ix_plainstack.proofs.laws.stacks_stand.Goals as goal

pub returns : goal.returns
returns c =
    record { first = stands_first; connects = connects_stand; steps = steps_stand c.answers_grow.ensures.first c.groups_own_what_is_out.ensures.stands; drains = drains_stand }
