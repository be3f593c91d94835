use Rattle.std.proofs.Common.{rules, ℕ, ◌<◌, ◌^◌, [], All, subst, sym}
use Rattle.std.proofs.lemmas.List.Elements.{All-append, All-cons, All-nil}
use Rattle.ix_playdef.proofs.Loops.{for_clocks}
use Rattle.ix_playdef.proofs.clock.clocks_of.Goals as goal

pub loop-entry-preserved : goal.loop-entry-preserved
loop-entry-preserved c = record {
  count = search rules;
  clock = search (rules, for_clocks);
  each = search (rules, for_clocks);
  now = c.clock_after-clock.ensures.below;
  below = subst (All (λ (t : ℕ). t < 2 ^ 32)) (sym c.in_ok-push.ensures.items)
      (All-append (λ (t : ℕ). t < 2 ^ 32) c.loop-entry.clocks.items _ c.loop-entry.invariant.below (All-cons (λ (t : ℕ). t < 2 ^ 32) _ [] c.clock_after-clock.ensures.below (All-nil _)));
}
