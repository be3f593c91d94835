use Rattle.std.proofs.Common.{◌≡◌, ◌<◌, ℕ, true, get_or}
use Rattle.ix_core.specs.declared.turning.Core.{Core}
use Rattle.ix_core.proofs.settling.fail_all.Given as goal

abbrev pub invariant-loop-core : goal.invariant-loop-core
invariant-loop-core g l = (c : ℕ) (d : Core g.row.G.Denot g.row.G-Env.Denot) → c < l.core-index → (get_or l.cores c d).failed ≡ true
