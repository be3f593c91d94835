use Rattle.std.proofs.Common.{◌≡◌, ℕ, [], length, slice_index_or, take}
use Rattle.ix_time.proofs.DueLemmas.{so_far}
use Rattle.ix_time.proofs.due.moved.Given as goal

abbrev pub invariant-loop-key : goal.invariant-loop-key
invariant-loop-key l = record {
  places : (p : ℕ) → slice_index_or l.places.items p [] ≡ so_far l.next l.now p (take l.key-index l.entries);
  len : length l.places.items ≡ 1408;
}
