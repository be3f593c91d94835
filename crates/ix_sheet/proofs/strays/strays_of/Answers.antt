use Rattle.std.proofs.Common.{rules}
use Rattle.std.proofs.lemmas.List.Sorted.{answers_always}
use Rattle.ix_sheet.specs.Strays.{wire_of}
use Rattle.ix_sheet.proofs.strays.strays_of.Goals as goal

pub returns-clause-rising : goal.returns-clause-rising
returns-clause-rising c = c.in_ok-sort_by_key.ensures.sorted wire_of (answers_always _ _ _ (λ f a r q k. search rules))
