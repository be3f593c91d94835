use Rattle.std.proofs.Common.{◌≡◌, ℕ, ◌+◌, ◌-◌, ◌≤◌, length}
use Rattle.ix_tcpdef.specs.Body.{filled}
use Rattle.ix_tcpdef.specs.Needs.{EndsBy, LiesInFrames}
use Rattle.ix_tcpdef.proofs.body.fill.Given as goal

abbrev pub invariant-loop-first : goal.invariant-loop-first
invariant-loop-first l =
    let top : ℕ = l.fn.job.connection.rcv + 65535 - l.fn.job.connection.unread in
    record {
      same : filled l.job.connection.held l.fin l.job ≡ filled l.fn.job.connection.held l.fn.own_fin l.fn.job;
      held : EndsBy top l.job.connection.held;
      frames : LiesInFrames l.job.connection.held;
      unread : top + l.job.connection.unread ≤ l.job.connection.rcv + 65535;
      rcv : l.job.connection.rcv ≤ top;
    }

abbrev pub decreases-loop-first : goal.decreases-loop-first
decreases-loop-first l = length l.job.connection.held
