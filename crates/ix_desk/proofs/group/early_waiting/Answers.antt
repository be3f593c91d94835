use Rattle.std.proofs.Common.{◌<◌, ◌+◌, ◌-◌, ◌≡◌, length, arith, sym}
use Rattle.ix_desk.proofs.Joined.{found-at, next-at, none_past}
use Rattle.ix_desk.proofs.group.early_waiting.Goals as goal

pub returns-in-Some-clause-found : goal.returns-in-Some-clause-found
returns-in-Some-clause-found g c =
    let lt : c.loop-here.here-index < length c.args.early.now = omega arith in
    let v = c.here.view_is in let read = c.here-item.is in
    found-at (λ a. a.queue) c.args.early.now c.loop-here.here-index (record { tenure = c.here.inside.tenure; unit = c.here.inside.unit; queue = c.here.inside.queue }) c.loop-here.left c.args.i _ lt (cc) (sym c.in-Some.ensures.value) c.loop-here.invariant

pub overflow_sub-left : goal.overflow_sub-left
overflow_sub-left g c = rw c.len-left.ensures (none_past c.here.inside.queue c.loop-here.left (sym c.in-None.ensures.value))

pub loop-here-preserved : goal.loop-here-preserved
loop-here-preserved g c =
    let lt : c.loop-here.here-index < length c.args.early.now = omega arith in
    let v = c.here.view_is in let read = c.here-item.is in
    let past = none_past c.here.inside.queue c.loop-here.left (sym c.in-None.ensures.value) in
    let size = c.len-left.ensures in
    let rest : (c.loop-here.left - c.len-left.result) + length c.here.inside.queue ≡ c.loop-here.left = omega (arith, past, size) in
    next-at (λ a. a.queue) c.args.early.now c.loop-here.here-index (record { tenure = c.here.inside.tenure; unit = c.here.inside.unit; queue = c.here.inside.queue }) c.loop-here.left _ c.args.i lt (cc) rest c.loop-here.invariant
