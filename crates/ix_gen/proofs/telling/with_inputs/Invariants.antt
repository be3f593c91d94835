use Rattle.std.proofs.Common.{◌≡◌, ◌+◌, ◌<◌, ◌^◌, drop}
use Rattle.ix_gen.specs.Summary.{told_in, capped, total}
use Rattle.ix_gen.proofs.telling.with_inputs.Given as goal

abbrev pub invariant-loop-input : goal.invariant-loop-input
invariant-loop-input l = (capped (l.told + total told_in (drop l.input-index l.inputs)) ≡ capped (l.sum + total told_in l.inputs)) × (l.told < 2 ^ 64)
