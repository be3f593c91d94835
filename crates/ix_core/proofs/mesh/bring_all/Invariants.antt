use Rattle.std.proofs.Common.{◌≡◌, ◌++◌}
use Rattle.ix_core.specs.Links.{Brings, SameLinks}
use Rattle.ix_core.proofs.mesh.bring_all.Given as goal

abbrev pub invariant-loop-buf : goal.invariant-loop-buf
invariant-loop-buf g l = record {
  same : SameLinks l.initial.links.items l.links.items;
  brought : Brings l.yielded l.initial.links.items l.links.items l.initial.returns.items l.returns.items;
  whole : l.yielded ++ l.buf-iterator.rest.items ≡ l.fn.bufs.items;
}
