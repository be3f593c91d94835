use Rattle.std.proofs.Common.{rules, ◌≡◌, ◌∷◌, ◌++◌, ◌∙◌, [], ap, append_assoc, length, subst, sym}
use Rattle.ix_core.specs.Order.{IsOpenedAs}
use Rattle.ix_drill.proofs.Starts.{opened_more, opened_none}
use Rattle.ix_drill.proofs.tests.opening.open_cores.Goals as goal

pub loop-end-init : goal.loop-end-init
loop-end-init c = record { so = opened_none _ (search rules); whole = search rules }

pub loop-end-preserved : goal.loop-end-preserved
loop-end-preserved c =
    let next : c.loop-end.end-iterator.rest.items ≡ c.in-Some.end ∷ c.next.new.self.rest.items = search rules in
    let number : c.len.result ≡ length c.loop-end.cores.items = search rules in
    record {
      so = opened_more _ _ _ _ _ c.in_ok-push.ensures.items (subst (λ n. IsOpenedAs n c.in-Some.end c.in_ok-core.core) number c.in_ok-core.ensures) c.loop-end.invariant.so;
      whole = append_assoc c.loop-end.yielded (c.in-Some.end ∷ []) c.next.new.self.rest.items ∙ ap (λ r. c.loop-end.yielded ++ r) (sym next) ∙ c.loop-end.invariant.whole;
    }
