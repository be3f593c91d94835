use Rattle.std.proofs.Common.{◌≡◌, ℕ, [], take}
use Rattle.ix_playdef.specs.Connects.{connects_from, AreApart}
use Rattle.ix_playdef.proofs.connects.connects_to.Given as goal

abbrev pub invariant-loop-i : goal.invariant-loop-i
invariant-loop-i l = record {
  made : l.connects.items ≡ connects_from [] (take l.i l.peers);
  apart : (ip : ℕ) → AreApart ip l.connects.items;
}
