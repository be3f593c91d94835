use Rattle.std.proofs.Common.{rules, List, subst, sym}
use Rattle.ix_core.specs.Settling.{Settles}
use Rattle.ix_plainstack.specs.Stack.{owners_at}
use Rattle.ix_engine.specs.Openings.{StackCore}
use Rattle.ix_engine.specs.Steps.{IsSettledBy}
use Rattle.ix_engine.proofs.Cores.{written_back}
use Rattle.ix_engine.proofs.settling.settle_cores.Goals as goal

-- src/settling.rt:58:1
pub returns : goal.returns
returns c =
    let settles : Settles owners_at c.in_ok-report.report c.args.nic.now c.settle.new.nic c.args.cores.now.items c.settle.new.cores = search rules in
    let same = written_back c.args.cores.now.len c.settle.new.cores c.args.cores.now.items settles.count (search rules) in
    subst (λ (cs : List StackCore). IsSettledBy (record { rings = c.from_vec.result; homes = c.from_vec-2.result }) c.args.nic.now c.settle.new.nic c.args.cores.now.items cs) (sym same)
    (record { report = c.in_ok-report.report; settles = settles; rings = search rules; homes = search rules })
