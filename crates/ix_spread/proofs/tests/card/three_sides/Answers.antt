use Rattle.std.proofs.Common.{◌≡◌, ◌++◌, ◌∷◌, [], length, ap, sym, subst, length-append, arith}
use Rattle.std.proofs.lemmas.Grind.{common_steps}
use Rattle.std.proofs.lemmas.List.Elements.{All-push}
use Rattle.std.specs.Prelude.{All}
use Rattle.ix_nic.specs.Cards.{IsUnused}
use Rattle.ix_spread.proofs.tests.card.three_sides.Goals as goal

pub loop-core-preserved : goal.loop-core-preserved
loop-core-preserved c =
    let pushed : c.push.new.self.items ≡ c.loop-core.ends.items ++ c.in_ok-end.end ∷ [] = grind (arith, common_steps) in
    record {
      count = omega (arith, ap length pushed, length-append c.loop-core.ends.items (c.in_ok-end.end ∷ []), c.loop-core.invariant.count);
      unused = subst (All IsUnused) (sym pushed) (All-push IsUnused c.loop-core.ends.items c.in_ok-end.end c.loop-core.invariant.unused c.in_ok-end.ensures.unused.0);
    }
