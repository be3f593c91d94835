-- An entry of the journal is the one at its place.
use Rattle.std.proofs.Common.{◌≡◌, ◌<◌, sym, ◌∙◌, true, false, length, get_or, arith}
use Rattle.ix_groupdef.specs.declared.types.JournalEntry.{JournalEntry}
use Rattle.ix_groupdef.specs.Journal.{seen_entry}
use Rattle.ix_playdef.specs.Replies.{end_at}
use Rattle.ix_fits.specs.Journals.{is_input_line}
use Rattle.ix_fits.proofs.JournalLaws.{inputs-next, inputs-not}
use Rattle.ix_fits.proofs.journals.are_input_lines.Goals as goal

pub returns-then-not-is_input_line : goal.returns-then-not-is_input_line
returns-then-not-is_input_line c =
    let e : JournalEntry = seen_entry c.entry-view.result in
    let lt : c.loop-i.i < length c.args.lines.now = omega (arith, c.loop-i-test.true) in
    let result = c.is_input_line.ensures in
    let end = c.end_at.ensures in
    let line = c.index-lines-i.is in
    let fails = c.if-not-is_input_line.true in
    let no_line : is_input_line c.args.entries.now (end_at c.args.ends.now c.loop-i.i) e (get_or c.args.lines.now c.loop-i.i c.index-lines-i.result) ≡ false = cc in
    sym (inputs-not c.args.entries.now c.args.ends.now c.args.journal.now c.args.lines.now c.loop-i.i e e c.index-lines-i.result (omega (arith, c.loop-i.invariant.0, lt)) lt (c.entry-view.ensures e) no_line)
    ∙ c.loop-i.invariant.1

pub loop-i-preserved : goal.loop-i-preserved
loop-i-preserved c =
    let e : JournalEntry = seen_entry c.entry-view.result in
    let lt : c.loop-i.i < length c.args.lines.now = omega (arith, c.loop-i-test.true) in
    let result = c.is_input_line.ensures in
    let end = c.end_at.ensures in
    let line = c.index-lines-i.is in
    let fits = c.if-not-is_input_line.false in
    let is_line : is_input_line c.args.entries.now (end_at c.args.ends.now c.loop-i.i) e (get_or c.args.lines.now c.loop-i.i c.index-lines-i.result) ≡ true = cc in (
      c.loop-i.invariant.0,
      sym (inputs-next c.args.entries.now c.args.ends.now c.args.journal.now c.args.lines.now c.loop-i.i e e c.index-lines-i.result (omega (arith, c.loop-i.invariant.0, lt)) lt (c.entry-view.ensures e) is_line)
          ∙ c.loop-i.invariant.1,
    )
