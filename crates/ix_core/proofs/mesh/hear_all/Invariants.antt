use Rattle.ix_core.specs.Links.{HearsSome, SameLinks}
use Rattle.ix_core.proofs.mesh.hear_all.Given as goal

abbrev pub invariant-loop-place : goal.invariant-loop-place
invariant-loop-place g l = record {
  same : SameLinks l.initial.links.items l.links.items;
  so : HearsSome g.G.Unit.counted g.G.Unit.name g.G.Unit.stepped g.G.Unit.advanced g.G.GroupStack.drained l.env l.place l.some l.initial.links.items l.links.items l.initial.desks l.desks l.initial.returns.items l.returns.items;
}
