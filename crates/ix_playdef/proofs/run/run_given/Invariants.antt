use Rattle.std.proofs.Common.{◌≡◌, List, ◌++◌}
use Rattle.ix_groupdef.specs.Env.{setting_of}
use Rattle.ix_groupdef.specs.Group.{Cycle, Connect, run}
use Rattle.ix_playdef.specs.Wire.{cycles_of}
use Rattle.ix_playdef.proofs.run.run_given.Given as goal

abbrev pub invariant-loop-one : goal.invariant-loop-one
invariant-loop-one l =
    (asked : List Connect) (cs : List Cycle) → l.fn.group ≡ run (setting_of l.env) asked cs
    → l.group ≡ run (setting_of l.env) asked (cs ++ cycles_of l.core l.yielded)
