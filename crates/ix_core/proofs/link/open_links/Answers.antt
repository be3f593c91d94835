use Rattle.std.proofs.Common.{rules, ◌≡◌, ◌∷◌, ◌++◌, ◌∙◌, [], ap, append_assoc, refl, sym}
use Rattle.ix_core.proofs.LinkLaws.{opened_more}
use Rattle.ix_core.proofs.link.open_links.Goals as goal

pub loop-end-preserved : goal.loop-end-preserved
loop-end-preserved g c =
    let next : c.loop-end.end-iterator.rest.items ≡ c.in-Some.end ∷ c.next.new.self.rest.items = search rules in
    record {
      so = rw c.push_reserved.ensures.items (opened_more _ _ _ _ c.loop-end.invariant.so (record { core = refl; take = refl; put = refl; ships = search rules; waiting = search rules }));
      whole = append_assoc c.loop-end.yielded (c.in-Some.end ∷ []) c.next.new.self.rest.items ∙ ap (λ r. c.loop-end.yielded ++ r) (sym next) ∙ c.loop-end.invariant.whole;
      room = search rules;
    }
