use Rattle.std.proofs.Common.{rules}
use Rattle.ix_core.specs.LinkRuns.{same_links, same_links_join}
use Rattle.ix_core.proofs.LinkLaws.{drains_all, drains_more, drains_none}
use Rattle.ix_core.proofs.mesh.drain_all.Goals as goal

pub loop-g-init : goal.loop-g-init
loop-g-init g c = record { same = same_links _; so = drains_none _ _ _ _ _ _ _ _ _ }

pub loop-g-preserved : goal.loop-g-preserved
loop-g-preserved g c = record {
  same = same_links_join _ _ _ c.loop-g.invariant.same c.in_ok-bring_all.ensures.same;
  so = drains_more _ _ _ _ _ _ c.loop-g.g c.in_ok-bufs.bufs.items _ _ _ _ _ _ _ _ _ c.loop-g.invariant.so c.in_ok-bufs.ensures c.in_ok-bring_all.ensures.brought;
}

pub returns-clause-drained : goal.returns-clause-drained
returns-clause-drained g c = drains_all _ _ _ _ _ _ c.loop-g.g _ _ _ _ _ _ (search rules) c.loop-g.invariant.so
