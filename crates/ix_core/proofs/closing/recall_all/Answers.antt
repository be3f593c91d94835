use Rattle.std.proofs.Common.{rules, arith, ◌≡◌, ◌<◌, ◌∙◌, ap, length, refl}
use Rattle.ix_base.specs.declared.id.CoreId.{CoreId}
use Rattle.ix_core.specs.Closing.{Recalled, port_holds}
use Rattle.ix_core.proofs.Closings.{gathered_port, number_of}
use Rattle.ix_core.proofs.Homings.{gathered_none}
use Rattle.ix_core.proofs.Renewals.{any_port}
use Rattle.ix_core.proofs.closing.recall_all.Goals as goal

pub loop-core-init : goal.loop-core-init
loop-core-init g c = record { table = refl; so = gathered_none Recalled port_holds _ _ }

pub loop-core-preserved : goal.loop-core-preserved
loop-core-preserved g c =
    let lt : c.loop-core.core-index < length c.args.cores.now = search rules in
    let same : c.home.result.0 ≡ c.loop-core.core-index = ap (λ (i : CoreId). i.0) c.home.ensures ∙ number_of _ c.args.cores.now _ lt c.core-item.is c.requires.numbers in
    record {
      table = c.in_ok-recall.ensures.others.table ∙ c.loop-core.invariant.table;
      so = gathered_port _ c.loop-core.core-index c.args.nic.now c.loop-core.nic c.recall.new.nic _ _ _ (any_port c.core-item.result) same (omega (arith, lt, c.requires.count, c.loop-core.invariant.so.passed.count)) c.in_ok-recall.ensures.others
          c.in_ok-recall.ensures.recalled c.in_ok-recall.ensures.bufs c.loop-core.invariant.so;
    }
