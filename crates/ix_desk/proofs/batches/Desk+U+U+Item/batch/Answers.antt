use Rattle.std.proofs.Common.{rules, ap, sym, ◌∙◌, ◌≡◌, ◌-◌, ◌++◌, ◌∷◌, [], Bool, append_assoc, length, arith}
use Rattle.std.specs.Prelude.{if◌then◌else◌}
use Rattle.ix_desk.specs.Pieces.{ready}
use Rattle.ix_desk.proofs.UpTo.{batch_done, batch_out, batch_more, count_more}
use Rattle.ix_desk.proofs.batches.Desk+U+U+Item.batch.Goals as goal
use Rattle.ix_desk.proofs.batches.Desk+U+U+Item.batch.Goals.{then-counts, else-counts, After-push_reserved}
use Rattle.ix_desk.proofs.batches.Desk+U+U+Item.batch.Goals.{else-loop-left-test, then-loop-left-test+in_default}

-- the budget goes down where the item counts
counts : (g : _) (c : After-push_reserved g) → c.if-counts.left ≡ (if g.U.Unit.counted c.in-Some.item then c.loop-left.left - 1 else c.loop-left.left)
counts g c =
    let pick = λ (b : Bool). if b then c.loop-left.left - 1 else c.loop-left.left in
    elim c.if-counts.branch [ then-counts w ↦ w.left-is ∙ ap pick w.if-counts.ensures | else-counts w ↦ w.left-is ∙ ap pick w.if-counts.ensures ]

-- the item stands last in the batch
pushed : (g : _) (c : After-push_reserved g) → c.push_reserved.new.self.items ≡ c.loop-left.batch.items ++ c.in-Some.item ∷ []
pushed g c = c.push_reserved.ensures.items

pub loop-left-preserved : goal.loop-left-preserved
loop-left-preserved g c =
    let inv = c.loop-left.invariant in
    record {
      count = rw (pushed g c) (count_more g.U.Unit.counted c.loop-left.left c.if-counts.left c.args.budget c.in-Some.item c.loop-left.batch.items inv.count c.loop-left-test.true (counts g c));
      taken = rw (pushed g c) (inv.taken ∙ ap (λ ws. c.loop-left.batch.items ++ ws) c.in-Some.ensures.item ∙ sym (append_assoc c.loop-left.batch.items _ _));
      batch = rw (pushed g c) (batch_more g.U.Unit.counted c.loop-left.left c.if-counts.left c.in-Some.item _ c.loop-left.batch.items (ready c.loop-left.self) (ready c.next_item.new.self) inv.batch c.in-Some.ensures.item c.loop-left-test.true (counts g c));
      room = let one = ap length c.in-Some.ensures.item in omega (arith, one);
      tenure = search rules;
      tagged = search rules;
      unit = search rules;
      behind = search rules;
    }

pub returns-clause-batch : goal.returns-clause-batch
returns-clause-batch g c =
    elim c.loop-left-test.branch [
      | else-loop-left-test w ↦
          batch_done g.U.Unit.counted c.loop-left.left _ c.loop-left.batch.items (ready c.loop-left.self) c.loop-left.invariant.batch w.loop-left-test.false
      | then-loop-left-test+in_default w ↦
          batch_out g.U.Unit.counted c.loop-left.left _ c.loop-left.batch.items (ready c.loop-left.self) c.loop-left.invariant.batch w.in_default.ensures.item.0
    ]
