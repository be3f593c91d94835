use Rattle.std.proofs.Common.{◌≡◌, ◌≤◌, ◌+◌, ◌++◌, length, vec_len, vec_capacity}
use Rattle.ix_parts.specs.Division.{front_of, rest_of, copied_of}
use Rattle.ix_parts.proofs.division.place_all.Given as goal

abbrev pub invariant-loop-chunk : goal.invariant-loop-chunk
invariant-loop-chunk l = record {
  front : l.front.items ++ front_of l.left l.chunk-iterator.rest.items ≡ l.initial.front.items ++ front_of l.initial.left l.initial.chunk-iterator.rest.items;
  rest : l.rest.items ++ rest_of l.left l.chunk-iterator.rest.items ≡ l.initial.rest.items ++ rest_of l.initial.left l.initial.chunk-iterator.rest.items;
  copied : l.copied ≡ copied_of l.left l.chunk-iterator.rest.items;
  front_room : vec_len l.front + length l.chunk-iterator.rest.items ≤ vec_capacity l.front;
  rest_room : vec_len l.rest + length l.chunk-iterator.rest.items ≤ vec_capacity l.rest;
}
