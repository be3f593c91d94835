use Rattle.std.proofs.Common.{◌≡◌, ◌+◌, ◌<◌, ◌^◌, drop}
use Rattle.ix_gen.specs.Summary.{told_by, capped, total}
use Rattle.ix_gen.proofs.telling.with_outputs.Given as goal

abbrev pub invariant-loop-output : goal.invariant-loop-output
invariant-loop-output l = (capped (l.told + total told_by (drop l.output-index l.outputs)) ≡ capped (l.sum + total told_by l.outputs)) × (l.told < 2 ^ 64)
