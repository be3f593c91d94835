use Rattle.std.proofs.Common.{◌≡◌, ◌+◌, ◌≤◌, vec_capacity, vec_len}
use Rattle.ix_ring.specs.Ends.{SamePutEnd}
use Rattle.ix_core.specs.Posting.{Posts}
use Rattle.ix_core.proofs.posting.post.Given as goal

abbrev pub invariant-loop-i : goal.invariant-loop-i
invariant-loop-i l = record {
  ring : SamePutEnd l.initial.posted l.posted;
  so : Posts l._i l.initial.pool l.pool l.initial.posted l.posted l.initial.returns.items l.returns.items;
  returns : l.returns ≡ l.initial.returns;
  room : vec_len l.returns + 1 ≤ vec_capacity l.returns;
}
