use Rattle.std.proofs.Common.{◌≡◌, ◌<◌, ◌+◌, ◌-◌, ◌/◌, ◌%◌, ◌==◌, ◌||◌, nat_le, not, sym, ◌∙◌, refl, arith}
use Rattle.std.proofs.lemmas.Bool.{le-leb, lt-leb, eq-eqb, ne_eqb}
use Rattle.ix_time.proofs.PlaceLemmas.{empties-step_low, empties-step_high, empties-end, or-first, or-last}
use Rattle.ix_time.proofs.places.empties_in.Goals as goal
use Rattle.ix_time.proofs.places.empties_in.Goals.{then-clock_groups-now_groups, else-clock_groups-now_groups}

pub returns-then-slot-now_groups : goal.returns-then-slot-now_groups
returns-then-slot-now_groups c =
    let more : 0 < 11 - c.loop.counter = omega arith in
    let low = empties-step_low (11 - c.loop.counter) c.loop.clock_groups c.loop.now_groups c.loop.slot more c.if-slot-lt-SLOTS.true in
    let first : c.if-clock_groups-now_groups.value ≡ (not (c.loop.clock_groups / 64 == c.loop.now_groups / 64) || nat_le c.loop.slot (c.loop.now_groups % 64)) =
    elim c.if-clock_groups-now_groups.branch [
      | then-clock_groups-now_groups w ↦ rw (w.value-is, ne_eqb (c.loop.clock_groups / 64) (c.loop.now_groups / 64) w.if-clock_groups-now_groups.true) refl
      | else-clock_groups-now_groups w ↦ rw (w.value-is, eq-eqb (c.loop.clock_groups / 64) (c.loop.now_groups / 64) w.if-clock_groups-now_groups.false) refl
    ] in
    or-first (not (c.loop.clock_groups / 64 == c.loop.now_groups / 64)) (nat_le c.loop.slot (c.loop.now_groups % 64)) (c.loop.slot == c.loop.clock_groups % 64)
    c.if-clock_groups-now_groups.value c.if-slot-now_groups.true first
    ∙ sym (c.loop.invariant.same ∙ low)

pub returns-else-slot-now_groups : goal.returns-else-slot-now_groups
returns-else-slot-now_groups c =
    let more : 0 < 11 - c.loop.counter = omega arith in
    let low = empties-step_low (11 - c.loop.counter) c.loop.clock_groups c.loop.now_groups c.loop.slot more c.if-slot-lt-SLOTS.true in
    let first : c.if-clock_groups-now_groups.value ≡ (not (c.loop.clock_groups / 64 == c.loop.now_groups / 64) || nat_le c.loop.slot (c.loop.now_groups % 64)) =
    elim c.if-clock_groups-now_groups.branch [
      | then-clock_groups-now_groups w ↦ rw (w.value-is, ne_eqb (c.loop.clock_groups / 64) (c.loop.now_groups / 64) w.if-clock_groups-now_groups.true) refl
      | else-clock_groups-now_groups w ↦ rw (w.value-is, eq-eqb (c.loop.clock_groups / 64) (c.loop.now_groups / 64) w.if-clock_groups-now_groups.false) refl
    ] in
    or-last (not (c.loop.clock_groups / 64 == c.loop.now_groups / 64)) (nat_le c.loop.slot (c.loop.now_groups % 64)) (c.loop.slot == c.loop.clock_groups % 64)
    c.if-clock_groups-now_groups.value c.if-slot-now_groups.false first
    ∙ sym (c.loop.invariant.same ∙ low)

pub loop-preserved : goal.loop-preserved
loop-preserved c =
    let more : 0 < 11 - c.loop.counter = omega arith in
    let less : 11 - (c.loop.counter + 1) ≡ 11 - c.loop.counter - 1 = omega arith in
    record {
      same =
          rw less (c.loop.invariant.same ∙ empties-step_high (11 - c.loop.counter) c.loop.clock_groups c.loop.now_groups c.loop.slot more c.if-slot-lt-SLOTS.false);
      levels = omega arith;
    }

pub returns-then-slot-now_groups-2 : goal.returns-then-slot-now_groups-2
returns-then-slot-now_groups-2 c =
    let none : 11 - c.loop.counter ≡ 0 = omega arith in
    rw (c.loop.invariant.same, empties-end (11 - c.loop.counter) c.loop.clock_groups c.loop.now_groups c.loop.slot none, le-leb c.loop.slot c.loop.now_groups c.if-slot-now_groups-2.true) refl

pub returns-else-slot-now_groups-2 : goal.returns-else-slot-now_groups-2
returns-else-slot-now_groups-2 c =
    let none : 11 - c.loop.counter ≡ 0 = omega arith in
    rw (c.loop.invariant.same, empties-end (11 - c.loop.counter) c.loop.clock_groups c.loop.now_groups c.loop.slot none, lt-leb c.loop.slot c.loop.now_groups c.if-slot-now_groups-2.false) refl
