use Rattle.std.proofs.Common.{rules, List, subst, sym}
use Rattle.ix_core.specs.Closing.{Closes}
use Rattle.ix_plainstack.specs.Stack.{Finishes, stack_weight}
use Rattle.ix_engine.specs.Openings.{StackCore}
use Rattle.ix_engine.specs.Steps.{IsClosedBy}
use Rattle.ix_engine.proofs.Cores.{written_back}
use Rattle.ix_engine.proofs.closing.close_cores.Goals as goal

-- src/closing.rt:36:1
pub returns : goal.returns
returns c =
    let closes : Closes Finishes stack_weight c.in_ok-closed.closed c.args.nic.now c.close.new.nic c.args.cores.now.items c.close.new.cores =
    subst (λ (old : List StackCore). Closes Finishes stack_weight c.in_ok-closed.closed c.args.nic.now c.close.new.nic old c.close.new.cores) c.as_mut_slice.ensures.value c.in_ok-closed.ensures.closes in
    let same = written_back c.args.cores.now.len c.close.new.cores c.args.cores.now.items closes.each.count (search rules) in
    subst (λ (cs : List StackCore). IsClosedBy c.args.env.now c.from_vec.result c.from_vec-2.result c.args.nic.now c.close.new.nic c.args.cores.now.items cs) (sym same)
    (record { closed = c.in_ok-closed.closed; closes = closes; records = search rules; pools_are = search rules })
