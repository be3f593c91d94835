use Rattle.ix_core.specs.Links.{DrainsSome, SameLinks}
use Rattle.ix_core.proofs.mesh.drain_all.Given as goal

abbrev pub invariant-loop-g : goal.invariant-loop-g
invariant-loop-g g l = record {
  same : SameLinks l.initial.links.items l.links.items;
  so : DrainsSome g.G.Unit.counted g.G.Unit.name g.G.Unit.stepped g.G.Unit.advanced g.G.GroupStack.drained l.env l.g l.initial.links.items l.links.items l.initial.desks l.desks l.initial.returns.items l.returns.items;
}
