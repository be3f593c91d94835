use Rattle.std.proofs.Common.{◌∙◌, ap, sym, Ok, Err}
use Rattle.ix_trace.proofs.Exact.{AreExact}
use Rattle.ix_trace.proofs.ReadTrace.{value, found, only, line}
use Rattle.ix_trace.proofs.reader.read_trace.Goals as goal

pub new-requires : goal.new-requires
new-requires c = let exact : AreExact = record { again = c.lines_are_exact.ensures.read_again; takes = c.lines_are_exact.ensures.written_so; no_feed = c.lines_are_exact.ensures.one_line } in value exact c.args.bytes.now c.in-Ok.sheet c.in-Ok.ensures

pub returns-in-Ok-clause-found : goal.returns-in-Ok-clause-found
returns-in-Ok-clause-found c = let exact : AreExact = record { again = c.lines_are_exact.ensures.read_again; takes = c.lines_are_exact.ensures.written_so; no_feed = c.lines_are_exact.ensures.one_line } in found exact c.args.bytes.now (Ok c.new.result) (c.in-Ok.ensures ∙ ap Ok (sym c.new.ensures))

pub returns-in-Ok-clause-only : goal.returns-in-Ok-clause-only
returns-in-Ok-clause-only c = let exact : AreExact = record { again = c.lines_are_exact.ensures.read_again; takes = c.lines_are_exact.ensures.written_so; no_feed = c.lines_are_exact.ensures.one_line } in only exact c.args.bytes.now (Ok c.new.result) (c.in-Ok.ensures ∙ ap Ok (sym c.new.ensures))

pub returns-in-Err-clause-only : goal.returns-in-Err-clause-only
returns-in-Err-clause-only c = let exact : AreExact = record { again = c.lines_are_exact.ensures.read_again; takes = c.lines_are_exact.ensures.written_so; no_feed = c.lines_are_exact.ensures.one_line } in only exact c.args.bytes.now (Err c.in-Err.fault) c.in-Err.ensures

pub returns-in-Err-clause-line : goal.returns-in-Err-clause-line
returns-in-Err-clause-line c = let exact : AreExact = record { again = c.lines_are_exact.ensures.read_again; takes = c.lines_are_exact.ensures.written_so; no_feed = c.lines_are_exact.ensures.one_line } in line exact c.args.bytes.now (Err c.in-Err.fault) c.in-Err.ensures
