use Rattle.std.proofs.Common.{arith, ◌+◌, ◌-◌}
use Rattle.ix_tcpdef.proofs.BodyLemmas.{EndsBy-mono}
use Rattle.ix_tcpdef.proofs.body.receive.Goals as goal

pub fill-requires-clause-held : goal.fill-requires-clause-held
fill-requires-clause-held c =
    EndsBy-mono (c.args.job.now.connection.rcv + (c.args.cfg.now.window - c.args.job.now.connection.unread)) _ _ (omega (arith, c.in_ok-deliver.ensures.rcv, c.in_ok-deliver.ensures.unread, c.requires.within, c.requires.unread, c.if-o-job.true))
    (rw c.in_ok-deliver.ensures.held c.requires.held)
