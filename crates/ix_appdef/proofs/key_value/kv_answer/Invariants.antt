use Rattle.std.proofs.Common.{◌≡◌, drop}
use Rattle.ix_appdef.specs.KeyValue.{answers_with, answers_to}
use Rattle.ix_appdef.proofs.key_value.kv_answer.Given as goal

abbrev pub invariant-loop-b : goal.invariant-loop-b
invariant-loop-b l = answers_with l.session (drop l.b-index l.told) ≡ answers_to l.fn.told
