use Rattle.std.proofs.Common.{◌≡◌, ◌++◌, drop}
use Rattle.ix_sheet.specs.Lines.{by_place, input_line, present}
use Rattle.ix_sheet.proofs.inputs.inputs_of.Given as goal

abbrev pub invariant-loop-i : goal.invariant-loop-i
invariant-loop-i l =
    present l.lines.items ++ by_place (input_line l.source.entries.now l.source.replies.now l.place.group.0 l.place.opening l.ends) l.i (drop l.i l.journal)
    ≡ by_place (input_line l.source.entries.now l.source.replies.now l.place.group.0 l.place.opening l.ends) 0 l.journal
