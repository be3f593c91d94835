use Rattle.std.proofs.Common.{◌≡◌, ℕ, ◌<◌, ◌^◌, All, length, get_or, take}
use Rattle.ix_playdef.specs.Clock.{clock_from, clock_of}
use Rattle.ix_playdef.proofs.clock.clocks_of.Given as goal

abbrev pub invariant-loop-entry : goal.invariant-loop-entry
invariant-loop-entry l = record {
  count : length l.clocks.items ≡ l.entry-index;
  clock : l.clock ≡ clock_from 0 (take l.entry-index l.entries);
  each : (w : ℕ) → w < l.entry-index → get_or l.clocks.items w 0 ≡ clock_of l.entries w;
  now : l.clock < 2 ^ 32;
  below : All (λ (c : ℕ). c < 2 ^ 32) l.clocks.items;
}
