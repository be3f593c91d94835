use Rattle.std.proofs.Common.{◌≡◌, ◌++◌, drop}
use Rattle.ix_playdef.specs.Placed.{placed}
use Rattle.ix_sheet.specs.Lines.{all_conns, group_conns, present}
use Rattle.ix_sheet.proofs.conns.conns_of.Given as goal

abbrev pub invariant-loop-i : goal.invariant-loop-i
invariant-loop-i l =
    present l.lines.items ++ placed (group_conns l.source.entries.now l.source.replies.now) l.i (drop l.i l.groups) ≡ all_conns l.source.entries.now l.source.replies.now l.groups
