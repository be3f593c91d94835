use Rattle.std.proofs.Common.{◌≡◌, ◌++◌, drop}
use Rattle.std.specs.List.{flat_map}
use Rattle.ix_fits.specs.Replies.{input_numbers, output_number}
use Rattle.ix_places.proofs.numbers.push_input.Given as goal

abbrev pub invariant-loop-output : goal.invariant-loop-output
invariant-loop-output l = l.numbers.items ++ flat_map output_number (drop l.output-index l.outputs) ≡ l.fn.numbers.items ++ input_numbers l.line
