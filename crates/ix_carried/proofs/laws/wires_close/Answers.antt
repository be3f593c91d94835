use Rattle.ix_carried.proofs.Closes.{reaches_all, wires_close}
use Rattle.ix_carried.proofs.laws.wires_close.Goals as goal

pub returns : goal.returns
returns c = record { closed = wires_close; reached = reaches_all }
