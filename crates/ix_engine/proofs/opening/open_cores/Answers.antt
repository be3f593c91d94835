use Rattle.std.proofs.Common.{rules, arith, length}
use Rattle.std.proofs.lemmas.Grind.{common_steps}
use Rattle.ix_conf.specs.Settings.{settings_of}
use Rattle.ix_engine.specs.Openings.{CoreIsOpen}
use Rattle.ix_engine.proofs.Cores.{cores_more}
use Rattle.ix_engine.proofs.opening.open_cores.Goals as goal

-- src/opening.rt:80:5
pub loop-core_ends-preserved : goal.loop-core_ends-preserved
loop-core_ends-preserved c =
    let is : CoreIsOpen (settings_of c.args.conf.now) c.args.table.now (length c.loop-core_ends.cores.items) c.in-Some.core_ends c.in_ok-core.core = search rules in
    let more = cores_more (settings_of c.args.conf.now) c.args.table.now c.loop-core_ends.yielded c.loop-core_ends.cores.items c.in-Some.core_ends c.in_ok-core.core c.loop-core_ends.invariant.cores is in
    record { split = grind (arith, common_steps); cores = search (rules, more) }
