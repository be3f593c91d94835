use Rattle.std.proofs.Common.{refl}
use Rattle.std.proofs.lemmas.Bool.{lt-ltb, le-ltb, le-leb, lt-leb}
use Rattle.ix_time.specs.Places.{empties}
use Rattle.ix_time.proofs.places.empties.Goals as goal

pub returns-then-clock-now : goal.returns-then-clock-now
unfolding empties
returns-then-clock-now c =
    rw (c.empties_in.ensures, lt-ltb c.args.place 704 c.if-place-lt-WHEEL.true, lt-ltb c.args.clock.latest c.args.now c.if-clock-now.true) refl

pub returns-else-clock-now : goal.returns-else-clock-now
unfolding empties
returns-else-clock-now c =
    rw (lt-ltb c.args.place 704 c.if-place-lt-WHEEL.true, le-ltb c.args.clock.latest c.args.now c.if-clock-now.false) refl

pub returns-then-clock-now-2 : goal.returns-then-clock-now-2
unfolding empties
returns-then-clock-now-2 c =
    rw (le-ltb c.args.place 704 c.if-place-lt-WHEEL.false, le-leb c.args.clock.latest c.args.now c.if-clock-now-2.true) refl

pub returns-else-clock-now-2 : goal.returns-else-clock-now-2
unfolding empties
returns-else-clock-now-2 c =
    rw (c.empties_in-else-clock-now-2.ensures, le-ltb c.args.place 704 c.if-place-lt-WHEEL.false, lt-leb c.args.clock.latest c.args.now c.if-clock-now-2.false) refl
