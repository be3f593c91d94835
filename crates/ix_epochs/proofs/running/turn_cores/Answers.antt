use Rattle.std.proofs.Common.{◌<◌, ◌∙◌, length, refl, rules, sym}
use Rattle.ix_core.specs.Cores.{CoreBecame}
use Rattle.ix_core.specs.Laws.{core_stays}
use Rattle.ix_epochs.specs.Rest.{CoreRests}
use Rattle.ix_epochs.proofs.Places.{holds_more, passed_more, passed_so, read_self}
use Rattle.ix_epochs.proofs.Resting.{both_so, not_so, was_idle}
use Rattle.ix_epochs.proofs.Rounds.{found_so, turn_rests}
use Rattle.ix_epochs.proofs.running.turn_cores.Goals as goal

pub returns-in_err-turn-clause-became : goal.returns-in_err-turn-clause-became
returns-in_err-turn-clause-became g c =
    let lt : c.loop-place.place < length c.loop-place.cores = search rules in
    passed_so (CoreBecame g.G.Unit.counted g.G.Unit.name g.G.Unit.stepped g.G.Unit.advanced g.G.GroupStack.drained c.args.env.now)
    (core_stays g.G.Unit.counted g.G.Unit.name g.G.Unit.stepped g.G.Unit.advanced g.G.GroupStack.drained c.args.env.now) _ _ _
    (passed_more (CoreBecame g.G.Unit.counted g.G.Unit.name g.G.Unit.stepped g.G.Unit.advanced g.G.GroupStack.drained c.args.env.now) c.loop-place.place _ _ _ _ _ lt
    (read_self c.loop-place.cores c.loop-place.place c.index-cores-place.result lt) refl c.in_err-turn.ensures.own c.loop-place.invariant.passed)

pub loop-place-preserved : goal.loop-place-preserved
loop-place-preserved g c =
    let lt : c.loop-place.place < length c.loop-place.cores = search rules in
    record {
      passed = passed_more (CoreBecame g.G.Unit.counted g.G.Unit.name g.G.Unit.stepped g.G.Unit.advanced g.G.GroupStack.drained c.args.env.now) c.loop-place.place _ _ _ _ _ lt
          (read_self c.loop-place.cores c.loop-place.place c.index-cores-place.result lt) refl c.in_ok-turn.ensures.own c.loop-place.invariant.passed;
      rest = λ e.
          let all = both_so _ _ (sym c.still_rest-all_rest.ensures ∙ e) in
          let here = both_so _ _ all.1 in
          holds_more (CoreRests g.G.GroupStack.drained) c.loop-place.place _ _ _ lt refl (c.loop-place.invariant.rest all.0)
          (turn_rests g.G.Unit.counted g.G.Unit.name g.G.Unit.stepped g.G.Unit.advanced g.G.GroupStack.drained c.args.env.now _ _ (found_so _ _ c.in_ok-turn.ensures.failed c.in_ok-turn.ensures.again) c.in_ok-turn.ensures.own
          c.in_ok-turn.ensures.nothing (c.in_ok-turn.ensures.idle (was_idle _ here.0)) (c.in_ok-turn.ensures.drained (was_idle _ here.0)) (not_so _ here.1));
    }
