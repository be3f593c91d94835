use Rattle.std.proofs.Common.{◌≡◌, [], length, subst, sym, arith}
use Rattle.std.proofs.lemmas.Grind.{common_steps}
use Rattle.std.specs.Prelude.{Option}
use Rattle.ix_mbuf.specs.Buffers.{Buffer}
use Rattle.ix_ring.specs.Ends.{known}
use Rattle.ix_nic.specs.Ports.{IsBacked, kept_count}
use Rattle.ix_nic.specs.contracts.port.Port.{the_view}
use Rattle.ix_nic.proofs.PortLemmas.{room_after, room_kept, takes_one, backed_after, backed_again, accepts_is}
use Rattle.ix_nic.proofs.port.Port.offer.Goals as goal

pub invariant_of-self-in-Ok : goal.invariant_of-self-in-Ok
invariant_of-self-in-Ok c =
    let one = takes_one _ _ _ _ c.in-Some.ensures.some in (
      room_after _ _ _ _ _ _ _ c.self.invariant.0 c.in-Ok.ensures.ok.1 c.saturating_add-self-inside.ensures,
      subst (λ (k : Option Buffer). IsBacked (length (known c.next_buffer.new.posts)) (kept_count k) c.saturating_add-self-inside-in-Ok.result c.self.inside.posted)
          (sym c.next_buffer.ensures.kept) (backed_after _ _ _ _ _ _ c.self.invariant.1 one c.saturating_add-self-inside-in-Ok.ensures),
    )

pub invariant_of-self-in-Err-Frame : goal.invariant_of-self-in-Err-Frame
invariant_of-self-in-Err-Frame c =
    let one = takes_one _ _ _ _ c.in-Some.ensures.some in
    (room_kept _ _ _ _ _ _ c.self.invariant.0 (omega (arith, c.in-Err-Frame.ensures.back.2)), backed_again _ _ _ _ _ c.self.invariant.1 one)

pub returns-in-Ok-clause-ok : goal.returns-in-Ok-clause-ok
returns-in-Ok-clause-ok c =
    let none : c.self.inside.behind.items ≡ [] = grind (arith, common_steps) in
    rw (← c.self.view_is)
    (accepts_is c.args.w c.args.group c.args.frame.now c.id-id.result (the_view c.self.inside) c.put.new.self c.next_buffer.new.posts c.next_buffer.new.kept
    c.saturating_add-self-inside.result c.saturating_add-self-inside-in-Ok.result c.in-Some.buf c.fill.new.self none c.in-Some.ensures.some c.id-id.ensures c.fill.ensures
    c.put.ensures.ring c.in-Ok.ensures.ok.0 c.next_buffer.ensures.kept c.saturating_add-self-inside.ensures c.saturating_add-self-inside-in-Ok.ensures)
