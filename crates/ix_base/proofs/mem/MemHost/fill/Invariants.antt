use Rattle.ix_base.proofs.Files.{Filling}
use Rattle.ix_base.proofs.mem.MemHost.fill.Given as goal

abbrev pub invariant-loop-role : goal.invariant-loop-role
invariant-loop-role l = Filling l.fn.files.items l.rest.items l.initial.self l.self

abbrev pub decreases-loop-role : goal.decreases-loop-role
decreases-loop-role l = goal.left-loop-role l
