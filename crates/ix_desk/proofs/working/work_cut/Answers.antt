use Rattle.std.proofs.Common.{◌∙◌, ◌<◌, length, arith, ap, sym}
use Rattle.std.proofs.lemmas.Result.{err_from_is_err_and}
use Rattle.std.proofs.lemmas.Grind.{common_steps}
use Rattle.ix_desk.specs.Steps.{cut_leaves, CutWorked}
use Rattle.ix_desk.specs.Failures.{CutFailed}
use Rattle.ix_desk.proofs.Each.{each-next, leave-next, rest-next, one-failed}
use Rattle.ix_desk.proofs.working.work_cut.Goals as goal

pub loop-i-preserved : goal.loop-i-preserved
loop-i-preserved g c =
    let inv = c.loop-i.invariant in
    let len = inv.len in
    let lt : c.loop-i.i < length c.loop-i.cut.items = omega (arith, len) in
    let leaves = cut_leaves g.U.Unit.counted in
    let worked = CutWorked g.U.Unit.counted g.U.Unit.name g.U.Unit.stepped g.U.Unit.advanced c.args.env.now c.args.core.0 in
    record {
      len = grind (arith, common_steps, len);
      each = each-next leaves worked c.args.cut.now.items c.loop-i.cut.items c.loop-i.i c.index_mut-here.result.now c.args.budget c.work.new.self len lt c.index_mut-here.ensures.value inv.rest inv.each (rw (← inv.left) c.in_ok-left.ensures.worked);
      left = c.in_ok-left.ensures.left ∙ ap (λ b. leaves b c.index_mut-here.result.now) inv.left ∙ sym (leave-next leaves worked c.args.cut.now.items c.loop-i.cut.items c.loop-i.i c.index_mut-here.result.now c.args.budget len lt c.index_mut-here.ensures.value inv.rest);
      rest = rest-next leaves worked c.args.cut.now.items c.loop-i.cut.items c.loop-i.i c.index_mut-here.result.now c.work.new.self len lt inv.rest;
    }

pub returns-in_err-left-clause-failed : goal.returns-in_err-left-clause-failed
returns-in_err-left-clause-failed g c =
    let inv = c.loop-i.invariant in
    let len = inv.len in
    let lt : c.loop-i.i < length c.loop-i.cut.items = omega (arith, len) in
    let leaves = cut_leaves g.U.Unit.counted in
    let worked = CutWorked g.U.Unit.counted g.U.Unit.name g.U.Unit.stepped g.U.Unit.advanced c.args.env.now c.args.core.0 in
    let p = err_from_is_err_and c.from_residual.result c.from_residual.ensures.1 in
    rw p.1 (one-failed leaves worked c.args.cut.now.items c.loop-i.cut.items c.loop-i.i c.index_mut-here.result.now (CutFailed g.U.Unit.counted) c.args.budget c.work.new.self len lt c.index_mut-here.ensures.value inv.rest inv.each (rw (← inv.left) c.in_err-left.ensures.failed))
