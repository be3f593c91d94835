use Rattle.std.proofs.Common.{◌≡◌, ◌+◌, ◌<◌, ◌++◌, [], ◌∷◌, ℕ, sym, ap, subst, ◌∙◌, length, drop, arith, rules}
use Rattle.std.specs.Prelude.{All, Option}
use Rattle.ix_groupdef.specs.Journal.{seen_entry}
use Rattle.ix_groupdef.specs.Sent.{CanBeWritten}
use Rattle.ix_groupdef.specs.Whole.{HasCore, HasEnd}
use Rattle.ix_groupdef.specs.declared.types.JournalEntry.{JournalEntry}
use Rattle.ix_lines.specs.declared.types.InputLine.{InputLine}
use Rattle.ix_playdef.specs.Replies.{end_at}
use Rattle.ix_sheet.specs.Lines.{by_place, input_line, present}
use Rattle.ix_sheet.specs.Outcome.{NamesBuffer}
use Rattle.ix_sheet.proofs.LineLaws.{present-step, whole-at}
use Rattle.ix_sheet.proofs.inputs.inputs_of.Goals as goal

pub input_line-requires-clause-core : goal.input_line-requires-clause-core
input_line-requires-clause-core c =
    let e : JournalEntry = seen_entry c.entry-view.result in
    let lt : c.loop-i.i < length c.args.journal.now = omega (arith, c.loop-i-test.true, c.len-i-end.ensures) in
    subst (λ (x : JournalEntry). HasCore x.input x.core) (sym (c.entry-view.ensures e)) (whole-at c.args.journal.now c.args.ends.now c.loop-i.i e c.requires.whole lt).0

pub input_line-requires-clause-end : goal.input_line-requires-clause-end
input_line-requires-clause-end c =
    let e : JournalEntry = seen_entry c.entry-view.result in
    let lt : c.loop-i.i < length c.args.journal.now = omega (arith, c.loop-i-test.true, c.len-i-end.ensures) in
    subst (λ (x : JournalEntry). HasEnd x.input (end_at c.args.ends.now c.loop-i.i)) (sym (c.entry-view.ensures e))
    (whole-at c.args.journal.now c.args.ends.now c.loop-i.i e c.requires.whole lt).1

pub input_line-requires-clause-written : goal.input_line-requires-clause-written
input_line-requires-clause-written c =
    let e : JournalEntry = seen_entry c.entry-view.result in
    let lt : c.loop-i.i < length c.args.journal.now = omega (arith, c.loop-i-test.true, c.len-i-end.ensures) in
    subst (λ (x : JournalEntry). All CanBeWritten x.outputs) (sym (c.entry-view.ensures e)) (c.requires.written c.loop-i.i e lt)

pub input_line-requires-clause-named : goal.input_line-requires-clause-named
input_line-requires-clause-named c =
    let e : JournalEntry = seen_entry c.entry-view.result in
    let lt : c.loop-i.i < length c.args.journal.now = omega (arith, c.loop-i-test.true, c.len-i-end.ensures) in
    subst (λ (x : JournalEntry). All (NamesBuffer c.args.source.now.entries.now) x.outputs) (sym (c.entry-view.ensures e)) (c.requires.named c.loop-i.i e lt)

pub loop-i-preserved : goal.loop-i-preserved
loop-i-preserved c =
    let e : JournalEntry = seen_entry c.entry-view.result in
    let lt : c.loop-i.i < length c.args.journal.now = omega (arith, c.loop-i-test.true, c.len-i-end.ensures) in
    let f : ℕ → JournalEntry → Option InputLine = input_line c.args.source.now.entries.now c.args.source.now.replies.now c.args.place.group.0 c.args.place.opening c.args.ends.now in
    let pushed : c.push.new.self.items ≡ c.loop-i.lines.items ++ c.in_ok-line.line ∷ [] = search rules in
    ap (λ ls. present ls ++ by_place f (c.loop-i.i + 1) (drop (c.loop-i.i + 1) c.args.journal.now)) pushed
    ∙ present-step f c.args.journal.now c.loop-i.i e c.loop-i.lines.items c.in_ok-line.line lt (c.in_ok-line.ensures ∙ ap (f c.loop-i.i) (c.entry-view.ensures e))
    ∙ c.loop-i.invariant
