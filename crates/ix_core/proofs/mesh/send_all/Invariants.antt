use Rattle.std.proofs.Common.{◌≡◌, ◌<◌, ℕ, [], get_or}
use Rattle.ix_core.specs.declared.link.Link.{Link}
use Rattle.ix_core.specs.Links.{IsBehind, LinksRan, SameLinks, all_out, takes_of}
use Rattle.ix_core.proofs.mesh.send_all.Given as goal

abbrev pub invariant-loop-place : goal.invariant-loop-place
invariant-loop-place g l = record {
  same : SameLinks l.initial.links.items l.links.items;
  sent : LinksRan [] [] [] l.initial.links.items l.links.items;
  takes : takes_of l.links.items ≡ takes_of l.initial.links.items;
  whole : all_out l.links.items ≡ all_out l.initial.links.items;
  behind : (i : ℕ) (d : Link g.row.G.Denot g.row.G-Env.Denot) → i < l.place → IsBehind (get_or l.links.items i d);
}
