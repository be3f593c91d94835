use Rattle.std.proofs.Common.{◌≡◌, ◌++◌, map}
use Rattle.ix_travel.specs.Things.{number_of}
use Rattle.ix_travel.proofs.tally.TallyUnit.step.Given as goal

abbrev pub invariant-loop-item : goal.invariant-loop-item
invariant-loop-item l = record {
  seen : l.self.seen.items ≡ l.initial.self.seen.items ++ map (λ x. (number_of x, l.core.0)) l.yielded;
  rest : l.yielded ++ l.item-iterator.rest.items ≡ l.fn.items.items;
}
