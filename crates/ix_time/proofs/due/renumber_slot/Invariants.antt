use Rattle.std.proofs.Common.{◌≡◌, ℕ, drop}
use Rattle.ix_time.specs.Standings.{standing_of}
use Rattle.ix_time.specs.Due.{renumbered_from}
use Rattle.ix_time.proofs.due.renumber_slot.Given as goal

abbrev pub invariant-loop-index : goal.invariant-loop-index
invariant-loop-index l =
    (q : ℕ)
    → renumbered_from q l.index (drop l.index l.entries) (standing_of q l.standings) ≡ renumbered_from q 0 l.entries (standing_of q l.initial.standings)
