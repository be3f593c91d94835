use Rattle.std.proofs.Common.{◌≡◌, List, [], map, take}
use Rattle.ix_groupdef.specs.Env.{setting_of}
use Rattle.ix_groupdef.specs.Group.{Connect, run}
use Rattle.ix_told.specs.Reading.{cycle_of}
use Rattle.ix_told.proofs.running.run_cycles.Given as goal

abbrev pub invariant-loop-cycle : goal.invariant-loop-cycle
invariant-loop-cycle l =
    (asked : List Connect) → l.fn.plain ≡ run (setting_of l.env) asked [] → l.plain ≡ run (setting_of l.env) asked (map cycle_of (take l.cycle-index l.cycles))
