use Rattle.std.proofs.Common.{rules, ◌<◌, length, refl}
use Rattle.ix_core.specs.LinkRuns.{same_links}
use Rattle.ix_core.proofs.LinkLaws.{hears_all, hears_more, hears_none, same_one}
use Rattle.ix_core.proofs.mesh.hear_all.Goals as goal

pub loop-place-init : goal.loop-place-init
loop-place-init g c = record { same = same_links _; so = hears_none _ _ _ _ _ _ _ _ _ }

pub loop-place-preserved : goal.loop-place-preserved
loop-place-preserved g c =
    let lt : c.loop-place.place < length c.loop-place.links.items = search rules in
    record {
      same = same_one _ _ _ c.loop-place.place _ _ lt c.index_mut-link.ensures.value refl c.in_ok-heard.ensures.same c.loop-place.invariant.same;
      so = rw c.either-some.ensures (hears_more _ _ _ _ _ _ c.loop-place.place _ _ _ _ _ _ _ _ _ _ _ _ _ lt c.index_mut-link.ensures.value refl c.in_ok-heard.ensures.same.core
          c.loop-place.invariant.so c.in_ok-heard.ensures.heard);
    }

pub returns-clause-heard : goal.returns-clause-heard
returns-clause-heard g c = hears_all _ _ _ _ _ _ c.loop-place.place _ _ _ _ _ _ _ (search rules) c.loop-place.invariant.so
