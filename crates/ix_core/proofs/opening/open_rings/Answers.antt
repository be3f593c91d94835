use Rattle.std.proofs.Common.{◌≡◌, ◌++◌, ◌∷◌, [], All, arith, subst, sym}
use Rattle.std.proofs.lemmas.Grind.{common_steps}
use Rattle.std.proofs.lemmas.List.Elements.{All-push}
use Rattle.ix_nic.specs.Cards.{IsUnused}
use Rattle.ix_core.specs.Opening.{EndsAreNew}
use Rattle.ix_core.specs.Order.{EndsAreInOrder}
use Rattle.ix_core.proofs.Openings.{in_order_more, new_more, size}
use Rattle.ix_core.proofs.opening.open_rings.Goals as goal

pub loop-number-preserved : goal.loop-number-preserved
loop-number-preserved g c =
    let pushed : c.push.new.self.items ≡ c.loop-number.card.items ++ c.in_ok-nic_end.nic_end ∷ [] = grind (arith, common_steps) in
    let i = c.loop-number.invariant in
    let port = c.in_ok-nic_end.ensures.port in
    let joins = c.in_ok-join.ensures in
    record {
      count = omega (arith, size _ _ _ _ _ _ i.order i.fresh port joins, i.count);
      order = subst (λ (l : _). EndsAreInOrder l c.join.new.cores.items) (sym pushed) (in_order_more _ _ _ _ _ _ i.order i.fresh port joins);
      fresh = subst (λ (l : _). EndsAreNew c.args.places l c.join.new.cores.items) (sym pushed) (new_more _ _ _ _ _ _ i.order i.fresh port joins);
      unused = subst (λ (l : _). All IsUnused l) (sym pushed) (All-push IsUnused _ _ i.unused (record { none = port.items_put.none; room = port.items_put.room }));
    }
