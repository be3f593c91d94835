use Rattle.std.proofs.Common.{◌≡◌, ◌++◌, [], ◌∷◌, drop}
use Rattle.ix_groupdef.specs.Journal.{seen_entry, seen_input}
use Rattle.ix_playdef.specs.Placed.{placed}
use Rattle.ix_playdef.specs.Replies.{by_opening, key_at}
use Rattle.ix_report.specs.Lines.{given_line, input_lines, present}
use Rattle.ix_report.proofs.lines.push_input.Given as goal

abbrev pub invariant-loop-i : goal.invariant-loop-i
invariant-loop-i l =
    present l.lines.items ++ placed (λ output o. given_line l.replies (key_at by_opening l.group.0 l.opening l.at (seen_input l.view.input) l.end output) o ∷ []) l.i (drop l.i l.outputs)
    ≡ present l.fn.lines.items ++ input_lines by_opening l.replies l.group.0 l.opening l.ends l.at (seen_entry l.view)
