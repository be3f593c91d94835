use Rattle.std.proofs.Common.{◌≡◌, ◌++◌, All, map}
use Rattle.ix_nic.specs.Cards.{IsUnused, opened}
use Rattle.ix_nic.proofs.nic.Nic.new.Given as goal

abbrev pub invariant-loop-end : goal.invariant-loop-end
invariant-loop-end l = record {
  made : l.ports.items ≡ map opened l.yielded;
  rest : l.yielded ++ l.end-iterator.rest.items ≡ l.fn.ends.items;
  unused : All IsUnused l.end-iterator.rest.items;
}
