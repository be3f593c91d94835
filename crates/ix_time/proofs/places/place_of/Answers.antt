use Rattle.std.proofs.Common.{◌∙◌, sym, arith}
use Rattle.ix_time.proofs.PlaceLemmas.{place-over, place-ahead}
use Rattle.ix_time.proofs.places.place_of.Goals as goal

pub returns-then-tick-clock-clause-place : goal.returns-then-tick-clock-clause-place
returns-then-tick-clock-clause-place c = omega (arith, place-over c.args.clock c.args.tick c.if-tick-clock.true, c.place_in.ensures.place)

pub returns-clause-place : goal.returns-clause-place
returns-clause-place c = c.place_in-2.ensures.place ∙ sym (place-ahead c.args.clock c.args.tick c.if-tick-clock.false)
