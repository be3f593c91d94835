use Rattle.std.proofs.Common.{◌≡◌, ◌++◌, drop}
use Rattle.ix_gen.specs.Rounds.{acks_of}
use Rattle.ix_gen.proofs.rounds.acks.Given as goal

abbrev pub invariant-loop-client : goal.invariant-loop-client
invariant-loop-client l = l.recording ++ acks_of (drop l.client-index l.clients) ≡ l.fn.recording ++ acks_of l.clients
