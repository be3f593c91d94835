use Rattle.std.proofs.Common.{◌≡◌, drop}
use Rattle.std.specs.Option.{option_or}
use Rattle.ix_base.specs.declared.id.Flow.{Flow}
use Rattle.ix_groupdef.specs.Setting.{isn_of, number_in}
use Rattle.ix_groupdef.proofs.numbers.FlowNumbers.of.Given as goal

abbrev pub invariant-loop-pair : goal.invariant-loop-pair
invariant-loop-pair l = (q : Flow) → option_or (number_in l.numbers q) (isn_of q (drop l.pair-index l.pairs)) ≡ isn_of q l.fn.pairs
