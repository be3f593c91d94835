use Rattle.ix_core.specs.Closing.{GroupsEnd}
use Rattle.ix_core.proofs.closing.finish_all.Given as goal

abbrev pub invariant-loop-g : goal.invariant-loop-g
invariant-loop-g g l = GroupsEnd g.G.GroupStack.finished l.g l.initial.cores l.cores l.initial.groups.items l.groups.items l.initial.bufs.items l.bufs.items
