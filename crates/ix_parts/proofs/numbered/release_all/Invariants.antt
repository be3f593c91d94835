use Rattle.std.proofs.Common.{◌≡◌, ◌≤◌, ◌+◌, ◌++◌, ℕ, reverse, vec_len, vec_capacity}
use Rattle.ix_mbuf.specs.declared.name.Name.{Name}
use Rattle.ix_mbuf.specs.Buffers.{buffers_weight}
use Rattle.ix_parts.specs.Numbered.{numbered_weight, numbered_buffers}
use Rattle.ix_parts.proofs.numbered.release_all.Given as goal

abbrev pub invariant-loop-last : goal.invariant-loop-last
invariant-loop-last l = record {
  freed : l.freed.items ++ reverse (numbered_buffers l.parts.items) ≡ l.initial.freed.items ++ reverse (numbered_buffers l.initial.parts.items);
  weight : (f : Name → ℕ) → buffers_weight f l.freed.items + numbered_weight f l.parts.items ≡ buffers_weight f l.initial.freed.items + numbered_weight f l.initial.parts.items;
  fits : vec_len l.freed + vec_len l.parts ≤ vec_capacity l.freed;
  capacity : vec_capacity l.freed ≡ vec_capacity l.initial.freed;
  room : vec_capacity l.parts ≡ vec_capacity l.initial.parts;
}

abbrev pub decreases-loop-last : goal.decreases-loop-last
decreases-loop-last l = vec_len l.parts
