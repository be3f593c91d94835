use Rattle.std.proofs.Common.{length}
use Rattle.ix_core.specs.Landing.{Landed}
use Rattle.ix_core.proofs.link.land_ships.Given as goal

abbrev pub invariant-loop-ship : goal.invariant-loop-ship
invariant-loop-ship g l =
    Landed g.G.Unit.counted g.G.Unit.name g.G.Unit.stepped g.G.Unit.advanced g.G.GroupStack.drained l.env l.place l.initial.desks l.desks l.initial.ships.items l.ships.items

abbrev pub decreases-loop-ship : goal.decreases-loop-ship
decreases-loop-ship g l = length l.ships.items
