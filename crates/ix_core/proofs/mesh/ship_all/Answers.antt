use Rattle.std.proofs.Common.{ap, refl, ◌∙◌}
use Rattle.ix_core.specs.LinkRuns.{same_links, same_links_join}
use Rattle.ix_core.proofs.Leavings.{ships-shrink}
use Rattle.ix_core.proofs.LinkLaws.{leaves_more, leaves_none}
use Rattle.ix_core.proofs.mesh.ship_all.Goals as goal

pub loop-ship-init : goal.loop-ship-init
loop-ship-init g c = record { same = same_links _; so = leaves_none _ _ _ _ _ _ _ _ _; failed = refl }

pub loop-ship-smaller : goal.loop-ship-smaller
loop-ship-smaller g c = ships-shrink _ _ _ _ _ _ _ c.in-Some.ensures.ships

pub loop-ship-preserved : goal.loop-ship-preserved
loop-ship-preserved g c = record {
  same = same_links_join _ _ _ c.loop-ship.invariant.same c.in_ok-depart.ensures.same;
  so = leaves_more _ _ _ _ _ _ c.in-Some.ship _ _ _ _ _ _ _ _ _ c.loop-ship.invariant.so c.in-Some.ensures.ships c.in_ok-depart.ensures.departs;
  failed = ap (λ v. v.failed) c.in-Some.ensures.ships.over ∙ c.loop-ship.invariant.failed;
}
