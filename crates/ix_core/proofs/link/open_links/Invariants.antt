use Rattle.std.proofs.Common.{◌≡◌, ◌≤◌, ◌+◌, ◌++◌, length, vec_len, vec_capacity}
use Rattle.ix_core.specs.Links.{AreOpened}
use Rattle.ix_core.proofs.link.open_links.Given as goal

abbrev pub invariant-loop-end : goal.invariant-loop-end
invariant-loop-end g l = record {
  so : AreOpened l.yielded l.links.items;
  whole : l.yielded ++ l.end-iterator.rest.items ≡ l.fn.mesh.items;
  room : vec_len l.links + length l.end-iterator.rest.items ≤ vec_capacity l.links;
}
