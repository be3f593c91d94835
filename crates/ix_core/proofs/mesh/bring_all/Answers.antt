use Rattle.std.proofs.Common.{rules, ◌≡◌, ◌∷◌, ◌++◌, ◌∙◌, ap, append_assoc, [], sym}
use Rattle.ix_core.specs.LinkRuns.{same_links, same_links_join}
use Rattle.ix_core.proofs.LinkLaws.{brings_more, brings_none}
use Rattle.ix_core.proofs.mesh.bring_all.Goals as goal

pub loop-buf-init : goal.loop-buf-init
loop-buf-init g c = record { same = same_links _; brought = brings_none _ _; whole = search rules }

pub loop-buf-preserved : goal.loop-buf-preserved
loop-buf-preserved g c =
    let next : c.loop-buf.buf-iterator.rest.items ≡ c.in-Some.buf ∷ c.next.new.self.rest.items = search rules in
    record {
      same = same_links_join _ _ _ c.loop-buf.invariant.same c.in_ok-bring.ensures.same;
      brought = brings_more _ _ _ _ _ _ _ _ c.loop-buf.invariant.brought c.in_ok-bring.ensures.brought;
      whole = append_assoc c.loop-buf.yielded (c.in-Some.buf ∷ []) c.next.new.self.rest.items ∙ ap (λ r. c.loop-buf.yielded ++ r) (sym next)
          ∙ c.loop-buf.invariant.whole;
    }
