use Rattle.std.proofs.Common.{◌≡◌, ◌≤◌, ◌++◌, drop, map, length, All}
use Rattle.ix_plainstack.specs.Batches.{accepted_as}
use Rattle.ix_plainstack.proofs.owning.all_accepted.Given as goal

abbrev pub invariant-loop-taken : goal.invariant-loop-taken
invariant-loop-taken l =
    record {
      same : l.accepted ++ map accepted_as (drop l.taken-index l.frames) ≡ map accepted_as l.frames;
      size : All (λ t. length t.frame ≤ 2048) l.accepted;
    }
