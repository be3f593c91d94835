use Rattle.std.proofs.Common.{◌≡◌, ◌++◌, drop}
use Rattle.ix_groupdef.specs.Journal.{seen_input}
use Rattle.ix_playdef.specs.Replies.{by_opening, key_at}
use Rattle.ix_sheet.specs.Lines.{by_place, given_lines, output_line, present}
use Rattle.ix_sheet.proofs.outputs.outputs_of.Given as goal

abbrev pub invariant-loop-i : goal.invariant-loop-i
invariant-loop-i l =
    present l.lines.items ++ by_place (λ i o. output_line l.source.entries.now l.source.replies.now (key_at by_opening l.place.group.0 l.place.opening l.at (seen_input l.view.input) l.end i) o) l.i (drop l.i l.outputs)
    ≡ given_lines l.source.entries.now l.source.replies.now l.place.group.0 l.place.opening l.at (seen_input l.view.input) l.end l.outputs
