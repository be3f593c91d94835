use Rattle.std.proofs.Common.{◌≡◌, ◌++◌, drop}
use Rattle.ix_gen.specs.Rounds.{syns_of}
use Rattle.ix_gen.proofs.rounds.syns.Given as goal

abbrev pub invariant-loop-client : goal.invariant-loop-client
invariant-loop-client l = l.recording ++ syns_of (drop l.client-index l.clients) ≡ l.fn.recording ++ syns_of l.clients
