use Rattle.std.proofs.Common.{◌≡◌, ◌<◌, ◌+◌, ◌-◌, arith}
use Rattle.ix_time.proofs.PlaceLemmas.{place-spot, spot-step_same, spot-step_apart, spot-end}
use Rattle.ix_time.proofs.places.place_in.Goals as goal

pub returns-then-clock_groups-tick_groups-clause-place : goal.returns-then-clock_groups-tick_groups-clause-place
returns-then-clock_groups-tick_groups-clause-place c =
    let more : 0 < 11 - c.loop.counter = omega arith in
    omega (
      arith,
      place-spot c.args.clock c.args.tick,
      spot-step_same (11 - c.loop.counter) c.loop.clock_groups c.loop.tick_groups more c.if-clock_groups-tick_groups.true,
    )

pub loop-preserved : goal.loop-preserved
loop-preserved c =
    let more : 0 < 11 - c.loop.counter = omega arith in
    let less : 11 - (c.loop.counter + 1) ≡ 11 - c.loop.counter - 1 = omega arith in
    record {
      first = omega arith;
      place = rw less (omega (arith, spot-step_apart (11 - c.loop.counter) c.loop.clock_groups c.loop.tick_groups more c.if-clock_groups-tick_groups.false));
      levels = omega arith;
    }

pub returns-clause-place : goal.returns-clause-place
returns-clause-place c =
    let none : 11 - c.loop.counter ≡ 0 = omega arith in
    omega (arith, place-spot c.args.clock c.args.tick, spot-end (11 - c.loop.counter) c.loop.clock_groups c.loop.tick_groups none)
