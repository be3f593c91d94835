use Rattle.std.proofs.Common.{refl, sym, ◌∙◌}
use Rattle.ix_core.proofs.LinkLaws.{came_so, stops_so}
use Rattle.ix_core.proofs.link.hear.Goals as goal

pub returns-clause-heard : goal.returns-clause-heard
returns-clause-heard g c = record {
  messages = c.in_ok-count.ensures.took.so.messages;
  landed = c.in_ok-land_ships.ensures.landed.ships;
  heard = c.in_ok-count.ensures.took.so.took;
  ships = sym c.in_ok-count.ensures.took.so.shipments ∙ c.in_ok-land_ships.ensures.landed.whole;
  waits = c.in_ok-land_ships.ensures.waits;
  run = c.in_ok-land_ships.ensures.landed.run;
  homes = c.in_ok-count.ensures.took.so.homes;
  stops = stops_so _ _ _ c.in_ok-count.ensures.took.so.number c.in_ok-count.ensures.took.stops;
  came = came_so _ _ c.in_ok-count.ensures.took.so.number;
  put = refl;
  waiting = refl;
}
