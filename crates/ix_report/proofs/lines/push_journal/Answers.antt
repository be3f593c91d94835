use Rattle.std.proofs.Common.{◌+◌, ◌<◌, ◌++◌, ℕ, All, List, sym, ap, subst, ◌∙◌, length, drop, arith}
use Rattle.std.specs.Prelude.{Option}
use Rattle.ix_groupdef.specs.declared.types.JournalEntry.{JournalEntry}
use Rattle.ix_groupdef.specs.Journal.{seen_entry}
use Rattle.ix_groupdef.specs.Sent.{CanBeWritten}
use Rattle.ix_groupdef.specs.Whole.{HasCore, HasEnd}
use Rattle.ix_lines.specs.declared.line.Line.{Line}
use Rattle.ix_playdef.specs.Placed.{placed, placed-one}
use Rattle.ix_playdef.specs.Replies.{by_opening, end_at}
use Rattle.ix_report.specs.Lines.{input_lines, present}
use Rattle.ix_report.proofs.LineLaws.{whole-at}
use Rattle.ix_report.proofs.lines.push_journal.Goals as goal

pub push_input-requires-clause-core : goal.push_input-requires-clause-core
push_input-requires-clause-core c =
    let e : JournalEntry = seen_entry c.entry-view.result in
    let lt : c.loop-i.i < length c.args.journal.now = omega (arith, c.loop-i-test.true, c.len-i-end.ensures) in
    subst (λ (x : JournalEntry). HasCore x.input x.core) (sym (c.entry-view.ensures e)) (whole-at c.args.journal.now c.args.ends.now c.loop-i.i e c.requires.whole lt).0

pub push_input-requires-clause-end : goal.push_input-requires-clause-end
push_input-requires-clause-end c =
    let e : JournalEntry = seen_entry c.entry-view.result in
    let lt : c.loop-i.i < length c.args.journal.now = omega (arith, c.loop-i-test.true, c.len-i-end.ensures) in
    subst (λ (x : JournalEntry). HasEnd x.input (end_at c.args.ends.now c.loop-i.i)) (sym (c.entry-view.ensures e))
    (whole-at c.args.journal.now c.args.ends.now c.loop-i.i e c.requires.whole lt).1

pub push_input-requires-clause-written : goal.push_input-requires-clause-written
push_input-requires-clause-written c =
    let e : JournalEntry = seen_entry c.entry-view.result in
    let lt : c.loop-i.i < length c.args.journal.now = omega (arith, c.loop-i-test.true, c.len-i-end.ensures) in
    subst (λ (x : JournalEntry). All CanBeWritten x.outputs) (sym (c.entry-view.ensures e)) (c.requires.written c.loop-i.i e lt)

pub loop-i-preserved : goal.loop-i-preserved
loop-i-preserved c =
    let e : JournalEntry = seen_entry c.entry-view.result in
    let lt : c.loop-i.i < length c.args.journal.now = omega (arith, c.loop-i-test.true, c.len-i-end.ensures) in
    let f : ℕ → JournalEntry → List (Option Line) = input_lines by_opening c.args.replies.now c.args.group.0 c.args.opening c.args.ends.now in
    ap (λ ls. ls ++ placed f (c.loop-i.i + 1) (drop (c.loop-i.i + 1) c.args.journal.now)) c.in_ok-push_input.ensures
    ∙ placed-one f c.args.journal.now c.loop-i.i e (present c.loop-i.lines.items) (f c.loop-i.i e) lt (ap (f c.loop-i.i) (c.entry-view.ensures e))
    ∙ c.loop-i.invariant
