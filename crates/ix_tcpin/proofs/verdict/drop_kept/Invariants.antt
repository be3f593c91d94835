use Rattle.std.proofs.Common.{◌≡◌, map, take}
use Rattle.ix_tcpin.specs.Work.{dropped}
use Rattle.ix_tcpin.proofs.verdict.drop_kept.Given as goal

abbrev pub invariant-loop-held_use : goal.invariant-loop-held_use
invariant-loop-held_use l = l.after.items ≡ map dropped (take l.held_use-index l.held_use-items)
