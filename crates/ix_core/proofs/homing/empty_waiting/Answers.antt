use Rattle.std.proofs.Common.{rules, arith, ◌≡◌, ◌∷◌, ◌++◌, ◌∙◌, [], ap, sym}
use Rattle.std.proofs.lemmas.Grind.{common_steps}
use Rattle.ix_desk.specs.Pieces.{joined}
use Rattle.ix_core.specs.Landing.{home_in, ship_in}
use Rattle.ix_core.proofs.Homings.{waits_first, waits_more, waits_rest}
use Rattle.ix_core.proofs.homing.empty_waiting.Goals as goal

pub into_buffer-buf-requires : goal.into_buffer-buf-requires
into_buffer-buf-requires g c =
    let next : c.loop-message.waiting.items ≡ c.in-Some.message ∷ c.pop_front.new.self.items = search rules in
    waits_first c.in-Some.message c.pop_front.new.self.items (ap (joined ship_in) (sym next) ∙ c.loop-message.invariant.none)

pub loop-message-preserved : goal.loop-message-preserved
loop-message-preserved g c =
    let next : c.loop-message.waiting.items ≡ c.in-Some.message ∷ c.pop_front.new.self.items = search rules in
    let pushed : c.push.new.self.items ≡ c.loop-message.bufs.items ++ c.into_buffer-buf.result ∷ [] = grind (arith, common_steps) in
    record {
      none = waits_rest c.in-Some.message c.pop_front.new.self.items (ap (joined ship_in) (sym next) ∙ c.loop-message.invariant.none);
      whole = rw pushed (waits_more c.loop-message.bufs.items c.in-Some.message c.pop_front.new.self.items c.into_buffer-buf.result c.into_buffer-buf.ensures
          ∙ ap (λ m. c.loop-message.bufs.items ++ joined home_in m) (sym next) ∙ c.loop-message.invariant.whole);
    }
