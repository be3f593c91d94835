use Rattle.ix_trace.proofs.Exact.{AreExact}
use Rattle.ix_trace.proofs.ReadTrace.{one}
use Rattle.ix_trace.proofs.reader.one_text.Goals as goal

pub returns : goal.returns
returns c =
    let exact : AreExact = record { again = c.lines_are_exact.ensures.read_again; takes = c.lines_are_exact.ensures.written_so; no_feed = c.lines_are_exact.ensures.one_line } in
    one exact c.args.one.now c.args.other.now c.head-one.ensures.facts c.head-other.ensures.facts
