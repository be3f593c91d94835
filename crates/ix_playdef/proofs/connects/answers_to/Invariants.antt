use Rattle.std.proofs.Common.{◌≡◌, map, take}
use Rattle.ix_playdef.specs.Connects.{answer_to_peer}
use Rattle.ix_playdef.proofs.connects.answers_to.Given as goal

abbrev pub invariant-loop-peer : goal.invariant-loop-peer
invariant-loop-peer l = l.answers.items ≡ map (answer_to_peer l.neighbours) (take l.peer-index l.peers)
