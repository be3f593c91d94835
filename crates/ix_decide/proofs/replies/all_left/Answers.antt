use Rattle.std.proofs.Common.{sym, ◌∙◌, subst, List, [], ◌∷◌, arith}
use Rattle.std.specs.Prelude.{All}
use Rattle.std.proofs.lemmas.List.Elements.{All-append, All-cons, All-nil}
use Rattle.ix_groupdef.specs.declared.types.GroupRecord.{GroupRecord}
use Rattle.ix_fits.specs.Fits.{left_by}
use Rattle.ix_playdef.specs.Replies.{FitsGroup}
use Rattle.ix_decide.specs.Points.{cycles_in, frames_in, settings_in}
use Rattle.ix_decide.proofs.ReplyLaws.{records-next}
use Rattle.ix_decide.proofs.replies.all_left.Goals as goal

pub loop-group-preserved : goal.loop-group-preserved
loop-group-preserved c =
    let p = c.args.play.now in
    let records = c.loop-group.records.items in
    let left = c.in_ok-left_of.field-0 in
    record {
      records = sym {A = List GroupRecord} (records-next (left_by (settings_in p) (frames_in p) (cycles_in p)) c.loop-group.group records c.push.new.self.items left c.loop-group-test.true c.in_ok-left_of.ensures.left c.in_ok-push.ensures.items)
          ∙ c.loop-group.invariant.records;
      groups = omega (arith, c.in_ok-push.ensures.len, c.loop-group.invariant.groups);
      fit = subst (All FitsGroup) (sym {A = List GroupRecord} c.in_ok-push.ensures.items)
          (All-append FitsGroup records (left ∷ []) c.loop-group.invariant.fit (All-cons FitsGroup left [] c.in_ok-left_of.ensures.fit (All-nil FitsGroup)));
    }
