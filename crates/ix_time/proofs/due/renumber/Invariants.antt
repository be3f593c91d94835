use Rattle.std.proofs.Common.{◌≡◌, ℕ, drop}
use Rattle.ix_time.specs.Standings.{standing_of}
use Rattle.ix_time.specs.Due.{renumbered}
use Rattle.ix_time.proofs.due.renumber.Given as goal

abbrev pub invariant-loop-slot : goal.invariant-loop-slot
invariant-loop-slot l =
    (q : ℕ) → renumbered q (drop l.slot-index l.places) (standing_of q l.standings) ≡ renumbered q l.places (standing_of q l.initial.standings)
