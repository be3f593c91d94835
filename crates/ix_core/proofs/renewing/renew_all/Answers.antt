use Rattle.std.proofs.Common.{rules, arith, ◌≡◌, ◌<◌, ◌++◌, ◌∷◌, ◌∙◌, [], ap, length, refl}
use Rattle.std.proofs.lemmas.Grind.{common_steps}
use Rattle.ix_base.specs.declared.id.CoreId.{CoreId}
use Rattle.ix_core.proofs.Renewals.{counts_more, counts_none, number_at, renewed_all, renewed_more, renewed_none, resting_at}
use Rattle.ix_core.proofs.Homings.{read_self}
use Rattle.ix_core.proofs.renewing.renew_all.Goals as goal

pub loop-place-init : goal.loop-place-init
loop-place-init g c = record { so = renewed_none _ _; counts = counts_none _ _ (search rules) }

pub renew-requires-clause-within : goal.renew-requires-clause-within
renew-requires-clause-within g c =
    let lt : c.loop-place.place < length c.loop-place.cores = search rules in
    let same : c.home-id.result.0 ≡ c.loop-place.place = ap (λ (i : CoreId). i.0) c.home-id.ensures ∙ number_at _ _ _ _ _ _ lt (read_self c.loop-place.cores c.loop-place.place c.index-cores-place.result lt) c.requires c.loop-place.invariant.so in
    omega (arith, same, lt, c.requires.count, c.loop-place.invariant.so.count, c.loop-place.invariant.so.ports)

pub renew-requires-clause-resting : goal.renew-requires-clause-resting
renew-requires-clause-resting g c =
    let lt : c.loop-place.place < length c.loop-place.cores = search rules in
    let same : c.home-id.result.0 ≡ c.loop-place.place = ap (λ (i : CoreId). i.0) c.home-id.ensures ∙ number_at _ _ _ _ _ _ lt (read_self c.loop-place.cores c.loop-place.place c.index-cores-place.result lt) c.requires c.loop-place.invariant.so in
    λ p. resting_at _ c.loop-place.place _ _ _ _ _ p same lt (read_self c.loop-place.cores c.loop-place.place c.index-cores-place.result lt) c.requires c.loop-place.invariant.so

pub loop-place-preserved : goal.loop-place-preserved
loop-place-preserved g c =
    let lt : c.loop-place.place < length c.loop-place.cores = search rules in
    let same : c.home-id.result.0 ≡ c.loop-place.place = ap (λ (i : CoreId). i.0) c.home-id.ensures ∙ number_at _ _ _ _ _ _ lt (read_self c.loop-place.cores c.loop-place.place c.index-cores-place.result lt) c.requires c.loop-place.invariant.so in
    let pushed : c.push.new.self.items ≡ c.loop-place.rings.items ++ c.in_ok-counts.counts ∷ [] = grind (arith, common_steps) in
    record {
      so = renewed_more _ c.loop-place.place _ _ _ _ _ _ _ _ same c.requires.count lt (read_self c.loop-place.cores c.loop-place.place c.index-cores-place.result lt) refl c.in_ok-counts.ensures.others c.in_ok-counts.ensures.renewed c.loop-place.invariant.so;
      counts = counts_more _ c.loop-place.place _ _ _ _ _ same pushed c.in_ok-counts.ensures.others c.in_ok-counts.ensures.counts c.loop-place.invariant.counts;
    }

pub returns-clause-renewed : goal.returns-clause-renewed
returns-clause-renewed g c = renewed_all c.loop-place.place _ _ _ _ (search rules) c.loop-place.invariant.so
