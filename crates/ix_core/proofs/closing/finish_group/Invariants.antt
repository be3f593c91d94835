use Rattle.ix_core.specs.Closing.{GroupEnds}
use Rattle.ix_core.proofs.closing.finish_group.Given as goal

abbrev pub invariant-loop-place : goal.invariant-loop-place
invariant-loop-place g l = GroupEnds g.G.GroupStack.finished l.g.0 l.place l.initial.cores l.cores l.initial.groups.items l.groups.items l.initial.bufs.items l.bufs.items
