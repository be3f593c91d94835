use Rattle.std.proofs.Common.{◌+◌, ◌<◌, ◌++◌, ℕ, All, List, sym, ap, subst, ◌∙◌, length, drop, arith}
use Rattle.ix_groupdef.specs.declared.types.JournalEntry.{JournalEntry}
use Rattle.ix_groupdef.specs.Journal.{seen_entry}
use Rattle.ix_groupdef.specs.Sent.{CanBeWritten}
use Rattle.ix_playdef.specs.Placed.{placed}
use Rattle.ix_playdef.specs.Replies.{by_opening, input_replies}
use Rattle.ix_playdef.specs.declared.order.Reply.{Reply}
use Rattle.ix_playdef.specs.Placed.{placed-one}
use Rattle.ix_places.proofs.replies.push_conn.Goals as goal

pub push_input-requires : goal.push_input-requires
push_input-requires c =
    let e : JournalEntry = seen_entry c.entry-view.result in
    let lt : c.loop-i.i < length c.args.conn.now.journal = omega (arith, c.loop-i-test.true, c.len-i-end.ensures) in
    subst (λ (x : JournalEntry). All CanBeWritten x.outputs) (sym (c.entry-view.ensures e)) (c.requires c.loop-i.i e lt)

pub loop-i-preserved : goal.loop-i-preserved
loop-i-preserved c =
    let e : JournalEntry = seen_entry c.entry-view.result in
    let lt : c.loop-i.i < length c.args.conn.now.journal = omega (arith, c.loop-i-test.true, c.len-i-end.ensures) in
    let f : ℕ → JournalEntry → List Reply = input_replies by_opening c.args.local.now c.args.place.group.0 c.args.place.opening c.as_slice-ends.result.now in
    record {
      replies =
          ap (λ rs. rs ++ placed f (c.loop-i.i + 1) (drop (c.loop-i.i + 1) c.args.conn.now.journal)) c.in_ok-push_input.ensures.replies
          ∙ placed-one f c.args.conn.now.journal c.loop-i.i e c.loop-i.replies.items (f c.loop-i.i e) lt (ap (f c.loop-i.i) (c.entry-view.ensures e))
          ∙ c.loop-i.invariant.replies;
      short = λ all. c.in_ok-push_input.ensures.short (c.loop-i.invariant.short all);
    }
