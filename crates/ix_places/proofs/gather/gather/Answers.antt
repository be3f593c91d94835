use Rattle.std.proofs.Common.{◌≡◌, ◌∙◌, ◌++◌, ◌+◌, ap, drop, length, refl, subst, sym, arith}
use Rattle.ix_groupdef.specs.declared.types.GroupRecord.{GroupRecord}
use Rattle.ix_playdef.specs.Placed.{placed, placed-one}
use Rattle.ix_playdef.specs.Replies.{FitsGroup, by_opening, group_replies}
use Rattle.ix_places.specs.Told.{group_numbers}
use Rattle.ix_places.proofs.SetLaws.{each-more, grown}
use Rattle.ix_places.proofs.gather.gather.Goals as goal

pub push_group-requires : goal.push_group-requires
push_group-requires c = subst FitsGroup (sym c.index-records-i.is) (c.requires.fit c.loop-i.i c.index-records-i.result c.loop-i-test.true)

pub loop-i-preserved : goal.loop-i-preserved
loop-i-preserved c =
    let left : GroupRecord = c.index-records-i.result in
    let long : length c.push_group.new.replies.items ≡ length c.push_numbers.new.numbers.items = omega (arith, c.len.ensures, c.len-in-loop-i.ensures, c.if-len.false) in
    record {
      replies =
          ap (λ rs. rs ++ placed (group_replies by_opening c.args.local.now) (c.loop-i.i + 1) (drop (c.loop-i.i + 1) c.args.records.now)) c.in_ok-push_group.ensures.replies
          ∙ placed-one (group_replies by_opening c.args.local.now) c.args.records.now c.loop-i.i left c.loop-i.replies.items (group_replies by_opening c.args.local.now c.loop-i.i left) c.loop-i-test.true
          (ap (group_replies by_opening c.args.local.now c.loop-i.i) c.index-records-i.is)
          ∙ c.loop-i.invariant.replies;
      numbers =
          ap (λ ns. ns ++ placed (λ g (x : GroupRecord). group_numbers c.args.report.now g) (c.loop-i.i + 1) (drop (c.loop-i.i + 1) c.args.records.now)) c.in_ok-push_numbers.ensures
          ∙ placed-one (λ g (x : GroupRecord). group_numbers c.args.report.now g) c.args.records.now c.loop-i.i left c.loop-i.numbers.items (group_numbers c.args.report.now c.loop-i.i) c.loop-i-test.true refl
          ∙ c.loop-i.invariant.numbers;
      long = long;
      each =
          each-more (λ g (x : GroupRecord). length (group_replies by_opening c.args.local.now g x) ≡ length (group_numbers c.args.report.now g)) c.args.records.now c.loop-i.i left c.loop-i-test.true
          c.index-records-i.is
          (grown c.loop-i.replies.items c.loop-i.numbers.items (group_replies by_opening c.args.local.now c.loop-i.i left) (group_numbers c.args.report.now c.loop-i.i) c.push_group.new.replies.items
          c.push_numbers.new.numbers.items c.in_ok-push_group.ensures.replies c.in_ok-push_numbers.ensures c.loop-i.invariant.long long)
          c.loop-i.invariant.each;
      short = c.in_ok-push_group.ensures.short c.loop-i.invariant.short;
    }
