use Rattle.std.proofs.Common.{rules}
use Rattle.ix_seg.proofs.written.tcp_header.Goals as goal

pub returns-clause-fits : goal.returns-clause-fits
returns-clause-fits c =
    record { local_port = search rules; remote_port = search rules; seq = search rules; ack = search rules; window = search rules }
