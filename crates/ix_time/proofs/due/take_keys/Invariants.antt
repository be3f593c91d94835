use Rattle.std.proofs.Common.{◌≡◌, ℕ, drop}
use Rattle.ix_time.specs.Standings.{standing_of}
use Rattle.ix_time.specs.Due.{without_keys}
use Rattle.ix_time.proofs.due.take_keys.Given as goal

abbrev pub invariant-loop-key : goal.invariant-loop-key
invariant-loop-key l =
    (q : ℕ) → without_keys q (drop l.key-index l.keys) (standing_of q l.standings) ≡ without_keys q l.keys (standing_of q l.initial.standings)
