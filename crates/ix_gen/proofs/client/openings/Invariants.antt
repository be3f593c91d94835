use Rattle.std.proofs.Common.{◌≡◌}
use Rattle.ix_gen.specs.Clients.{openings}
use Rattle.ix_gen.proofs.client.openings.Given as goal

abbrev pub invariant-loop-client : goal.invariant-loop-client
invariant-loop-client l = l.clients.items ≡ openings l.client
