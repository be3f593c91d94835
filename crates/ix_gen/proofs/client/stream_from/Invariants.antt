use Rattle.std.proofs.Common.{◌≡◌, ◌++◌, ◌-◌}
use Rattle.ix_gen.specs.Clients.{stream_from}
use Rattle.ix_gen.proofs.client.stream_from.Given as goal

abbrev pub invariant-loop : goal.invariant-loop
invariant-loop l = l.bytes ++ stream_from l.next (l.len - l.counter) ≡ stream_from l.byte l.len
