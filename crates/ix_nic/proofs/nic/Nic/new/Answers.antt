use Rattle.std.proofs.Common.{◌≡◌, ◌∷◌, ◌++◌, [], List, All, ap, sym, subst, ◌∙◌, append_assoc, arith}
use Rattle.std.proofs.lemmas.Grind.{common_steps}
use Rattle.std.proofs.lemmas.List.{map-append}
use Rattle.std.proofs.lemmas.List.Elements.{All-tail}
use Rattle.ix_nic.specs.declared.port.NicEnd.{NicEnd}
use Rattle.ix_nic.specs.Cards.{IsUnused, opened}
use Rattle.ix_nic.specs.Ports.{PortView}
use Rattle.ix_nic.proofs.nic.Nic.new.Goals as goal

pub loop-end-preserved : goal.loop-end-preserved
loop-end-preserved c =
    let next = c.in-Some.ensures.steps.0 in
    let pushed : c.push.new.self.items ≡ c.loop-end.ports.items ++ c.in_ok-new.field-0 ∷ [] = grind (arith, common_steps) in
    record {
      made = pushed
          ∙ ap (λ (p : PortView). c.loop-end.ports.items ++ p ∷ []) c.in_ok-new.ensures
          ∙ ap (λ (ps : List PortView). ps ++ opened c.in-Some.end ∷ []) c.loop-end.invariant.made
          ∙ sym (map-append opened c.loop-end.yielded (c.in-Some.end ∷ []));
      rest = append_assoc c.loop-end.yielded (c.in-Some.end ∷ []) c.next.new.self.rest.items
          ∙ ap (λ (r : List NicEnd). c.loop-end.yielded ++ r) (sym next) ∙ c.loop-end.invariant.rest;
      unused = All-tail IsUnused c.in-Some.end c.next.new.self.rest.items (subst (All IsUnused) next c.loop-end.invariant.unused);
    }
