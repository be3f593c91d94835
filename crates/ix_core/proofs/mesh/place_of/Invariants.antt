use Rattle.std.proofs.Common.{◌≢◌, ◌<◌, ℕ, get_or}
use Rattle.ix_core.specs.declared.link.Link.{Link}
use Rattle.ix_core.proofs.mesh.place_of.Given as goal

abbrev pub invariant-loop-i : goal.invariant-loop-i
invariant-loop-i g l = (k : ℕ) (d : Link g.row.G.Denot g.row.G-Env.Denot) → k < l.i → (get_or l.links k d).core.0 ≢ l.core.0
