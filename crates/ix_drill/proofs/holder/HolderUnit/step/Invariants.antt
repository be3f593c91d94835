use Rattle.std.proofs.Common.{◌≡◌, ◌++◌, map}
use Rattle.ix_drill.specs.Steps.{number_of, kept_of, spent_of}
use Rattle.ix_drill.proofs.holder.HolderUnit.step.Given as goal

abbrev pub invariant-loop-item : goal.invariant-loop-item
invariant-loop-item l = record {
  keeps : kept_of l.env l.self.held.items l.item-iterator.rest.items ≡ kept_of l.env l.initial.self.held.items l.fn.items.items;
  spends : l.self.spent.items ++ spent_of l.env l.self.held.items l.item-iterator.rest.items ≡ l.initial.self.spent.items ++ spent_of l.env l.initial.self.held.items l.fn.items.items;
  names : l.self.seen.items ++ map (λ x. (number_of x, l.core.0)) l.item-iterator.rest.items ≡ l.initial.self.seen.items ++ map (λ x. (number_of x, l.core.0)) l.fn.items.items;
}
