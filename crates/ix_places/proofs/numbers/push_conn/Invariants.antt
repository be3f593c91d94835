use Rattle.std.proofs.Common.{◌≡◌, ◌++◌, drop}
use Rattle.std.specs.List.{flat_map}
use Rattle.ix_fits.specs.Replies.{conn_numbers, input_numbers}
use Rattle.ix_places.proofs.numbers.push_conn.Given as goal

abbrev pub invariant-loop-input : goal.invariant-loop-input
invariant-loop-input l = l.numbers.items ++ flat_map input_numbers (drop l.input-index l.inputs) ≡ l.fn.numbers.items ++ conn_numbers l.line
