use Rattle.std.proofs.Common.{rules, arith, ◌<◌, ◌∙◌, ap, length, sym}
use Rattle.ix_core.specs.declared.link.Link.{Link}
use Rattle.ix_core.specs.Links.{cores_of}
use Rattle.ix_core.proofs.LinkLaws.{first_found, first_known, known_none}
use Rattle.ix_core.proofs.mesh.place_of.Goals as goal

pub returns-then-link-core-clause-found : goal.returns-then-link-core-clause-found
returns-then-link-core-clause-found g c =
    let lt : c.loop-i.i < length c.args.links.now = search rules in
    let is = ap (λ (l : Link g.row.G.Denot g.row.G-Env.Denot). l.core.0) (sym c.index-links-i.is) ∙ c.if-link-core.true in
    (lt, first_found c.args.links.now c.loop-i.i c.args.core.0 c.index-links-i.result lt is c.loop-i.invariant)

pub returns-then-link-core-clause-known : goal.returns-then-link-core-clause-known
returns-then-link-core-clause-known g c = first_known (cores_of c.args.links.now) c.loop-i.i c.args.core.0 (returns-then-link-core-clause-found g c).1

pub returns-clause-none : goal.returns-clause-none
returns-clause-none g c = known_none c.args.links.now c.args.core.0 (λ k e lt. c.loop-i.invariant k e (omega arith))
