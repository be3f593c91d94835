use Rattle.std.proofs.Common.{◌≡◌, ◌<◌, ℕ, length, take}
use Rattle.std.specs.Prelude.{slice_index}
use Rattle.ix_wire.specs.Records.{others_from}
use Rattle.ix_wire.proofs.records.Records.new.Given as goal

abbrev pub invariant-loop-rec : goal.invariant-loop-rec
invariant-loop-rec l = record {
  others : l.others.items ≡ others_from 0 (take l.rec l.own);
  count : length l.before.items ≡ l.rec;
  each : (n : ℕ) → n < l.rec → slice_index l.before.items n ≡ length (others_from 0 (take n l.own));
}
