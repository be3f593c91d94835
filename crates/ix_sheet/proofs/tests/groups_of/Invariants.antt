use Rattle.std.proofs.Common.{◌≡◌, ◌∷◌}
use Rattle.std.specs.Prelude.{replicate}
use Rattle.ix_sheet.proofs.TestLaws.{nothing}
use Rattle.ix_sheet.proofs.tests.groups_of.Given as goal

abbrev pub invariant-loop : goal.invariant-loop
invariant-loop l = l.groups.items ≡ l.fn.first ∷ replicate l.counter nothing
