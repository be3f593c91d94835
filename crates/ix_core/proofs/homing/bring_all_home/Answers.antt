use Rattle.std.proofs.Common.{rules, ◌≡◌, ◌∷◌, ◌++◌, ◌∙◌, ap, append_assoc, [], sym}
use Rattle.ix_core.proofs.Homings.{homed_more, homed_none, order_homed}
use Rattle.ix_core.proofs.homing.bring_all_home.Goals as goal

pub loop-buf-init : goal.loop-buf-init
loop-buf-init g c = record { so = homed_none _; whole = search rules }

pub bring_home-requires-clause-order : goal.bring_home-requires-clause-order
bring_home-requires-clause-order g c = order_homed _ _ _ c.requires.order c.loop-buf.invariant.so

pub loop-buf-preserved : goal.loop-buf-preserved
loop-buf-preserved g c =
    let next : c.loop-buf.buf-iterator.rest.items ≡ c.in-Some.buf ∷ c.next.new.self.rest.items = search rules in
    record {
      so = homed_more _ _ _ _ _ c.loop-buf.invariant.so c.in_ok-bring_home.ensures;
      whole = append_assoc c.loop-buf.yielded (c.in-Some.buf ∷ []) c.next.new.self.rest.items ∙ ap (λ r. c.loop-buf.yielded ++ r) (sym next)
          ∙ c.loop-buf.invariant.whole;
    }
