use Rattle.std.proofs.Common.{◌≡◌, ◌++◌, map, take}
use Rattle.ix_tcpin.specs.Work.{keep as keep_of}
use Rattle.ix_tcpin.proofs.verdict.keep.Given as goal

abbrev pub invariant-loop-head : goal.invariant-loop-head
invariant-loop-head l = l.uses.items ≡ l.fn.uses.items ++ map keep_of (take l._head-index l.held)
