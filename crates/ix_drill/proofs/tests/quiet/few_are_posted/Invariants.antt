use Rattle.std.proofs.Common.{ℕ, ◌<◌, ◌≤◌, get_or}
use Rattle.ix_nic.specs.Ports.{PortView}
use Rattle.ix_core.specs.Renewing.{posted_count}
use Rattle.ix_drill.proofs.tests.quiet.few_are_posted.Given as goal

abbrev pub invariant-loop-core : goal.invariant-loop-core
invariant-loop-core l = (c : ℕ) (p : PortView) → c < l.core → posted_count (get_or l.nic.ports c p) ≤ 512
