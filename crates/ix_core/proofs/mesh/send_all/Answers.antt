use Rattle.std.proofs.Common.{rules, arith, ◌<◌, ◌∙◌, length, refl}
use Rattle.ix_core.specs.LinkRuns.{links_join, links_stay, same_links}
use Rattle.ix_core.proofs.LinkLaws.{behind_more, out_one, same_one, sends_one, takes_one}
use Rattle.ix_core.proofs.mesh.send_all.Goals as goal

pub loop-place-init : goal.loop-place-init
loop-place-init g c = record { same = same_links _; sent = links_stay _; takes = refl; whole = refl; behind = λ i d h. absurd (omega arith) }

pub loop-place-preserved : goal.loop-place-preserved
loop-place-preserved g c =
    let lt : c.loop-place.place < length c.loop-place.links.items = search rules in
    let read = c.index_mut-link.ensures.value in
    record {
      same = same_one _ _ _ c.loop-place.place _ _ lt read refl c.send.ensures.same c.loop-place.invariant.same;
      sent = links_join _ _ _ _ _ _ _ _ _ c.loop-place.invariant.sent (sends_one _ _ c.loop-place.place _ _ lt read refl c.send.ensures.same.core c.send.ensures.sent);
      takes = takes_one _ _ c.loop-place.place _ _ read refl c.send.ensures.sent.take ∙ c.loop-place.invariant.takes;
      whole = out_one _ _ c.loop-place.place _ _ lt read refl c.send.ensures.sent ∙ c.loop-place.invariant.whole;
      behind = behind_more _ _ c.loop-place.place _ lt refl c.send.ensures.behind c.loop-place.invariant.behind;
    }
