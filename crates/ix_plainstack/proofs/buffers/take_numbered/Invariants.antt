use Rattle.std.proofs.Common.{◌≡◌, ◌≤◌, ◌++◌, length, drop}
use Rattle.ix_plainstack.specs.Kept.{kept_of, left_of}
use Rattle.ix_plainstack.proofs.buffers.take_numbered.Given as goal

abbrev pub invariant-loop-number : goal.invariant-loop-number
invariant-loop-number l =
    record {
      kept : l.kept.items ++ kept_of (drop l.number-index l.numbers) l.from.items ≡ kept_of l.fn.numbers l.fn.from.items;
      left : left_of (drop l.number-index l.numbers) l.from.items ≡ left_of l.fn.numbers l.fn.from.items;
      few : length l.kept.items ≤ l.number-index;
    }
