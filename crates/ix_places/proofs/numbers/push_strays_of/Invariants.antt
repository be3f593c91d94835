use Rattle.std.proofs.Common.{◌≡◌, ◌++◌, drop}
use Rattle.std.specs.List.{flat_map}
use Rattle.ix_fits.specs.Journals.{strays_of}
use Rattle.ix_fits.specs.Replies.{stray_number}
use Rattle.ix_places.proofs.numbers.push_strays_of.Given as goal

abbrev pub invariant-loop-line : goal.invariant-loop-line
invariant-loop-line l = l.numbers.items ++ flat_map stray_number (strays_of l.group.0 l.entries (drop l.line-index l.lines)) ≡ l.fn.numbers.items ++ flat_map stray_number (strays_of l.group.0 l.entries l.lines)
