use Rattle.std.proofs.Common.{◌≡◌, ◌++◌, ◌<◌, ℕ, All, drop, length}
use Rattle.std.specs.Prelude.{slice_index_or}
use Rattle.ix_groupdef.specs.declared.types.GroupRecord.{GroupRecord}
use Rattle.ix_playdef.specs.Placed.{placed}
use Rattle.ix_playdef.specs.Replies.{IsShort, all_replies, by_opening, group_replies}
use Rattle.ix_places.specs.Told.{all_numbers, group_numbers}
use Rattle.ix_places.proofs.gather.gather.Given as goal

abbrev pub invariant-loop-i : goal.invariant-loop-i
invariant-loop-i l = record {
  replies : l.replies.items ++ placed (group_replies by_opening l.local) l.i (drop l.i l.records) ≡ all_replies by_opening l.local l.records;
  numbers : l.numbers.items ++ placed (λ g left. group_numbers l.report g) l.i (drop l.i l.records) ≡ all_numbers l.report l.records;
  long : length l.replies.items ≡ length l.numbers.items;
  each : (g : ℕ) (d : GroupRecord) → g < l.i → length (group_replies by_opening l.local g (slice_index_or l.records g d)) ≡ length (group_numbers l.report g);
  short : All IsShort l.replies.items;
}
