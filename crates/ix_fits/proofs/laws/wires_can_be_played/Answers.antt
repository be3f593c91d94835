use Rattle.ix_fits.proofs.WireLaws.{items_are_counted, reports_are_plays, wires_are_playable, wires_can_be_joined}
use Rattle.ix_fits.proofs.laws.wires_can_be_played.Goals as goal

pub returns : goal.returns
returns c = record { playable = wires_are_playable; joined = wires_can_be_joined; plays = reports_are_plays; items = items_are_counted }
