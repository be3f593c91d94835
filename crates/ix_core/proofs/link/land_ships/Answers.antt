use Rattle.std.proofs.Common.{rules, ◌≡◌, ◌∷◌, true}
use Rattle.ix_desk.specs.Desks.{welcome_at}
use Rattle.ix_core.proofs.Landings.{lands-none, lands-one}
use Rattle.ix_core.proofs.link.land_ships.Goals as goal

pub loop-ship-preserved : goal.loop-ship-preserved
loop-ship-preserved g c =
    let s = c.in-Some.ship in
    let fit : welcome_at c.loop-ship.desks s.group.0 s.tenure s.to.0 ≡ true = search rules in
    let next : c.loop-ship.ships.items ≡ s ∷ c.pop_front.new.self.items = search rules in
    lands-one _ _ _ _ _ _ _ _ _ _ _ _ _ s c.loop-ship.invariant next fit c.in_ok-arrive.ensures.ok

pub loop-ship-init : goal.loop-ship-init
loop-ship-init g c = lands-none _ _ _ _ _ _ _ _ _
