use Rattle.std.proofs.Common.{sym, ap, ◌∙◌, arith, List, ◌++◌, map}
use Rattle.std.specs.Prelude.{option_to_list}
use Rattle.ix_pcap.specs.Capture.{frames_of}
use Rattle.ix_fits.specs.Card.{entry_of}
use Rattle.ix_fits.specs.Cutting.{due_of}
use Rattle.ix_lines.specs.declared.types.EntryLine.{EntryLine}
use Rattle.ix_order.specs.Steppers.{stepper}
use Rattle.ix_told.specs.Entries.{stage_of}
use Rattle.ix_told.proofs.EntryLaws.{dues-next, rest-is}
use Rattle.ix_told.proofs.group_entries.entries_of.Goals as goal

pub loop-w-preserved : goal.loop-w-preserved
loop-w-preserved c = record {
  tags = omega (arith, c.after-progress.ensures.few_tags, c.loop-w.invariant.tags);
  settles = omega (arith, c.after-progress.ensures.few_settles, c.loop-w.invariant.settles);
  rest = sym (dues-next (frames_of c.args.bytes.now c.args.spans.now) c.args.group.0 c.opening_core-opening.result.0 c.loop-w.w (stage_of c.loop-w.progress) (stage_of c.after-progress.result)
      c.args.lines.now _ c.loop-w.entries.items c.push_given.new.entries.items (option_to_list c.in_ok-given.given) c.loop-w-test.true c.in_ok-given.ensures.given (c.in_ok-push_given.ensures
      ∙ ap (λ (ls : List EntryLine). c.loop-w.entries.items ++ map (due_of (stepper c.args.group.0 c.opening_core-opening.result.0 (stage_of c.loop-w.progress).last (map entry_of ls)) (stage_of c.loop-w.progress)) (option_to_list c.in_ok-given.given)) (rest-is c.args.lines.now c.loop-w.w))
      c.after-progress.ensures.stage)
      ∙ c.loop-w.invariant.rest;
}
