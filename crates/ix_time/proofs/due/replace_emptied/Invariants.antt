use Rattle.std.proofs.Common.{◌≡◌, ◌≤◌, ℕ, [], length, slice_index_or, take, vec_len}
use Rattle.ix_time.proofs.DueLemmas.{replaced_from}
use Rattle.ix_time.proofs.due.replace_emptied.Given as goal

abbrev pub invariant-loop-slot : goal.invariant-loop-slot
invariant-loop-slot l = record {
  new : l.new.items ≡ take (length l.new.items) l.initial.new.items;
  all : length l.initial.new.items ≡ length l.initial.places.items;
  few : length l.new.items ≤ length l.initial.new.items;
  len : length l.places.items ≡ length l.initial.places.items;
  places : (p : ℕ) → slice_index_or l.places.items p [] ≡ replaced_from l.clock l.now (length l.new.items) l.initial.places.items l.initial.new.items p;
}

abbrev pub decreases-loop-slot : goal.decreases-loop-slot
decreases-loop-slot l = vec_len l.new
