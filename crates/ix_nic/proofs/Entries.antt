-- Entries that are carried out one after the other.
use Rattle.std.proofs.Common.{◌≡◌, ◌<◌, ◌++◌, ◌∷◌, [], ℕ, suc, List, get_or, refl, ap, sym, subst, ◌∙◌, append_assoc, append-nil, arith}
use mathlib.Core.Path.{fun_ext}
use Rattle.ix_order.specs.Wire.{Entry, put_by, put_on, turned, RingsAre}
use Rattle.ix_order.specs.Wire as order
use Rattle.ix_nic.specs.Cards.{CardView}
use Rattle.ix_nic.specs.Entries.{CarryOut, turned_by, AreCarriedOut}
use Rattle.ix_nic.specs.Words.{CarriesOut, seats, words_on}

none_carried : (w : ℕ) (card : CardView) → AreCarriedOut [] w card card
none_carried w card = record {
  count = refl;
  rings = λ r d lt. sym (append-nil (words_on (get_or card.ports r d)));
  placed = tt;
  table = λ g. refl;
  buffers = record { same = λ f r d lt. refl };
}

one_carried : (e : Entry) (es : List Entry) (w : ℕ) (old mid new : CardView) → CarriesOut e w old mid → AreCarriedOut es (suc w) mid new
    → AreCarriedOut (e ∷ es) w old new
one_carried e es w old mid new first rest =
    let table : seats mid.table ≡ turned (seats old.table) e = fun_ext first.table in
    record {
      count = rest.count ∙ first.count;
      rings = λ r d lt.
          rest.rings r d (subst (λ n. r < n) (sym first.count) lt)
          ∙ ap (λ (xs : List order.Item). xs ++ put_on r (seats mid.table) (suc w) es) (first.rings r d lt)
          ∙ append_assoc (words_on (get_or old.ports r d)) (put_by r (seats old.table) w e) (put_on r (seats mid.table) (suc w) es)
          ∙ ap (λ (t : order.Table). words_on (get_or old.ports r d) ++ (put_by r (seats old.table) w e ++ put_on r t (suc w) es)) table;
      placed = (first.placed, subst (λ (t : order.Table). RingsAre t es) table rest.placed);
      table = λ g. rest.table g ∙ ap (λ (t : order.Table). turned_by t es g) table;
      buffers = record {
        same = λ f r d lt.
            let before = first.buffers.same f r d lt in
            let after = rest.buffers.same f r d (subst (λ n. r < n) (sym first.count) lt) in
            omega arith;
      };
    }

pub carried_out : (es : List Entry) (w : ℕ) (old new : CardView) → CarryOut es w old new → AreCarriedOut es w old new
carried_out [] w old new c = subst (λ (card : CardView). AreCarriedOut [] w old card) (sym c) (none_carried w old)
carried_out (e ∷ es) w old new c = one_carried e es w old c.0 new c.1.0 (carried_out es (suc w) c.0 new c.1.1)
