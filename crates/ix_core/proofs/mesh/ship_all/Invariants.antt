use Rattle.std.proofs.Common.{◌≡◌, length, sum_by}
use Rattle.ix_core.specs.Links.{Leaves, SameLinks}
use Rattle.ix_core.proofs.mesh.ship_all.Given as goal

abbrev pub invariant-loop-ship : goal.invariant-loop-ship
invariant-loop-ship g l = record {
  same : SameLinks l.initial.links.items l.links.items;
  so : Leaves g.G.Unit.counted g.G.Unit.name g.G.Unit.stepped g.G.Unit.advanced g.G.GroupStack.drained l.env l.initial.links.items l.links.items l.initial.desks l.desks l.initial.lost.items l.lost.items;
  failed : l.desks.failed ≡ l.initial.desks.failed;
}

abbrev pub decreases-loop-ship : goal.decreases-loop-ship
decreases-loop-ship g l = sum_by (λ x. length x.cut) l.desks.groups
