use Rattle.std.proofs.Common.{◌≡◌, ℕ, List, ◌++◌, drop}
use Rattle.ix_appdef.specs.KeyValue.{answers_with}
use Rattle.ix_apps.proofs.kv.take_all.Given as goal

abbrev pub invariant-loop-b : goal.invariant-loop-b
invariant-loop-b l = (rest : List ℕ) → answers_with l.session (drop l.b-index l.bytes ++ rest) ≡ answers_with l.initial.session (l.bytes ++ rest)
