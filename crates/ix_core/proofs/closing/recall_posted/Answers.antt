use Rattle.std.proofs.Common.{arith, ◌≡◌, ◌++◌, ◌∷◌, ◌∙◌, [], ap, length, get_or}
use Rattle.std.proofs.lemmas.Grind.{common_steps}
use Rattle.ix_ring.specs.Ends.{known}
use Rattle.ix_nic.specs.declared.offer.Counts.{Counts}
use Rattle.ix_core.proofs.Closings.{changes_none, count_known, head_of, recalls_all, recalls_bufs, recalls_known, recalls_more, recalls_none}
use Rattle.ix_core.proofs.Renewals.{changes_join}
use Rattle.ix_core.proofs.closing.recall_posted.Goals as goal

pub loop-i-init : goal.loop-i-init
loop-i-init c = record { others = changes_none _ _; so = λ p. recalls_none _ _ }

pub unreachable-requires : goal.unreachable-requires
unreachable-requires c =
    let p = head_of c.args.nic.now.ports c.args.core.0 c.requires.core in
    let told : c.counts-counts.result.posted ≡ length (known (get_or c.args.nic.now.ports c.args.core.0 p).posts) =
    ap (λ (n : Counts). n.posted) (c.counts-counts.ensures p) ∙ count_known (get_or c.args.nic.now.ports c.args.core.0 p) (c.requires.few p) (c.requires.none p) in
    recalls_known _ _ _ _ _ (omega (arith, told)) (c.loop-i.invariant.so p) (c.in_default.ensures.taken p).1

pub returns-clause-recalled : goal.returns-clause-recalled
returns-clause-recalled c = λ p.
    let told : c.counts-counts.result.posted ≡ length (known (get_or c.args.nic.now.ports c.args.core.0 p).posts) =
    ap (λ (n : Counts). n.posted) (c.counts-counts.ensures p) ∙ count_known (get_or c.args.nic.now.ports c.args.core.0 p) (c.requires.few p) (c.requires.none p) in
    recalls_all c.loop-i._i _ _ _ _ (omega (arith, told)) (c.requires.none p) (c.loop-i.invariant.so p)

pub returns-clause-bufs : goal.returns-clause-bufs
returns-clause-bufs c = λ p.
    let told : c.counts-counts.result.posted ≡ length (known (get_or c.args.nic.now.ports c.args.core.0 p).posts) =
    ap (λ (n : Counts). n.posted) (c.counts-counts.ensures p) ∙ count_known (get_or c.args.nic.now.ports c.args.core.0 p) (c.requires.few p) (c.requires.none p) in
    recalls_bufs c.loop-i._i _ _ _ _ (omega (arith, told)) (c.loop-i.invariant.so p)

pub loop-i-preserved : goal.loop-i-preserved
loop-i-preserved c =
    let pushed : c.push.new.self.items ≡ c.loop-i.bufs.items ++ c.in-Some.buf ∷ [] = grind (arith, common_steps) in
    record {
      others = changes_join _ _ _ _ c.loop-i.invariant.others c.take_posted.ensures.others;
      so = λ p.
          let told : c.counts-counts.result.posted ≡ length (known (get_or c.args.nic.now.ports c.args.core.0 p).posts) =
          ap (λ (n : Counts). n.posted) (c.counts-counts.ensures p) ∙ count_known (get_or c.args.nic.now.ports c.args.core.0 p) (c.requires.few p) (c.requires.none p) in
          let t = c.in-Some.ensures.taken p in
          rw pushed (recalls_more _ _ _ _ _ _ _ (omega (arith, told)) (c.loop-i.invariant.so p) t.0 t.1 t.2 t.3);
    }
