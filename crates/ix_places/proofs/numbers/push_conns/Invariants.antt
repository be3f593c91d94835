use Rattle.std.proofs.Common.{◌≡◌, ◌++◌, drop}
use Rattle.std.specs.List.{flat_map}
use Rattle.ix_fits.specs.Replies.{conn_numbers}
use Rattle.ix_places.proofs.numbers.push_conns.Given as goal

abbrev pub invariant-loop-line : goal.invariant-loop-line
invariant-loop-line l = l.numbers.items ++ flat_map conn_numbers (drop l.line-index l.lines) ≡ l.fn.numbers.items ++ flat_map conn_numbers l.lines
