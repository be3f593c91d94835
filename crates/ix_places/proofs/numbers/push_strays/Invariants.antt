use Rattle.std.proofs.Common.{◌≡◌, ◌++◌, drop}
use Rattle.std.specs.List.{flat_map}
use Rattle.ix_fits.specs.Replies.{stray_number}
use Rattle.ix_places.proofs.numbers.push_strays.Given as goal

abbrev pub invariant-loop-line : goal.invariant-loop-line
invariant-loop-line l = l.numbers.items ++ flat_map stray_number (drop l.line-index l.lines) ≡ l.fn.numbers.items ++ flat_map stray_number l.lines
