use Rattle.ix_report.proofs.lines.push_input.Goals as goal

pub input_kind-requires-clause-end : goal.input_kind-requires-clause-end
input_kind-requires-clause-end c = rw c.end_at-end.ensures c.requires.end
