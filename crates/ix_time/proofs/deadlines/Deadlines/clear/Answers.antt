use Rattle.std.proofs.Common.{◌≡◌, ◌∙◌, Some, sym, arith}
use Rattle.ix_time.specs.Standings.{standing_of}
use Rattle.ix_time.proofs.WheelLemmas.{cleared-loose, cleared-absent, whole}
use Rattle.ix_time.proofs.ViewLemmas.{cleared-from, cleared-then, cleared-map, cleared-ticks}
use Rattle.ix_time.proofs.deadlines.Deadlines.clear.Goals as goal

pub take_out-requires-clause-place : goal.take_out-requires-clause-place
take_out-requires-clause-place c =
    let found : standing_of c.args.key c.self.inside.standings ≡ Some c.in-Some.old = sym c.remove.ensures.standing ∙ c.in-Some.is in
    omega (arith, whole c.self.inside.clock c.self.inside.standings c.self.inside.places.items c.args.key c.in-Some.old c.self.invariant found, c.place_of-place.ensures.within)

pub take_out-requires-clause-index : goal.take_out-requires-clause-index
take_out-requires-clause-index c =
    let found : standing_of c.args.key c.self.inside.standings ≡ Some c.in-Some.old = sym c.remove.ensures.standing ∙ c.in-Some.is in
    let loose =
    cleared-loose c.self.inside.clock c.self.inside.standings c.remove.new.self c.self.inside.places.items c.args.key c.in-Some.old c.self.invariant found c.remove.ensures.rest in
    rw c.place_of-place.ensures.place loose.there

pub invariant_of-self : goal.invariant_of-self
invariant_of-self c =
    let found : standing_of c.args.key c.self.inside.standings ≡ Some c.in-Some.old = sym c.remove.ensures.standing ∙ c.in-Some.is in
    let loose =
    cleared-loose c.self.inside.clock c.self.inside.standings c.remove.new.self c.self.inside.places.items c.args.key c.in-Some.old c.self.invariant found c.remove.ensures.rest in
    c.take_out.ensures.kept c.self.inside.clock (rw c.place_of-place.ensures.place loose)

pub invariant_of-self-in_default : goal.invariant_of-self-in_default
invariant_of-self-in_default c =
    cleared-absent c.self.inside.clock c.self.inside.standings c.remove.new.self c.self.inside.places.items c.args.key c.self.invariant
    (sym c.remove.ensures.standing ∙ c.in_default.is) c.remove.ensures.rest

pub returns-in-Some-clause-entries : goal.returns-in-Some-clause-entries
returns-in-Some-clause-entries c =
    let found : standing_of c.args.key c.self.inside.standings ≡ Some c.in-Some.old = sym c.remove.ensures.standing ∙ c.in-Some.is in
    let loose =
    cleared-loose c.self.inside.clock c.self.inside.standings c.remove.new.self c.self.inside.places.items c.args.key c.in-Some.old c.self.invariant found c.remove.ensures.rest in
    let same = c.take_out.ensures.ticks c.self.inside.clock (rw c.place_of-place.ensures.place loose) in
    let changed = cleared-from c.args.key c.self.inside.standings c.remove.new.self c.remove.ensures.rest in
    rw (← c.self.view_is)
    (cleared-map c.args.key c.self.inside.standings c.take_out.new.standings
    (cleared-then c.args.key c.self.inside.standings c.remove.new.self c.take_out.new.standings changed same))

pub returns-in-Some-clause-ticks : goal.returns-in-Some-clause-ticks
returns-in-Some-clause-ticks c =
    let found : standing_of c.args.key c.self.inside.standings ≡ Some c.in-Some.old = sym c.remove.ensures.standing ∙ c.in-Some.is in
    let loose =
    cleared-loose c.self.inside.clock c.self.inside.standings c.remove.new.self c.self.inside.places.items c.args.key c.in-Some.old c.self.invariant found c.remove.ensures.rest in
    let same = c.take_out.ensures.ticks c.self.inside.clock (rw c.place_of-place.ensures.place loose) in
    let changed = cleared-from c.args.key c.self.inside.standings c.remove.new.self c.remove.ensures.rest in
    rw (← c.self.view_is)
    (λ q.
    cleared-ticks c.args.key q c.self.inside.standings c.take_out.new.standings
    (cleared-then c.args.key c.self.inside.standings c.remove.new.self c.take_out.new.standings changed same))

pub returns-in_default-clause-entries : goal.returns-in_default-clause-entries
returns-in_default-clause-entries c =
    rw (← c.self.view_is)
    (cleared-map c.args.key c.self.inside.standings c.remove.new.self (cleared-from c.args.key c.self.inside.standings c.remove.new.self c.remove.ensures.rest))

pub returns-in_default-clause-ticks : goal.returns-in_default-clause-ticks
returns-in_default-clause-ticks c =
    rw (← c.self.view_is)
    (λ q.
    cleared-ticks c.args.key q c.self.inside.standings c.remove.new.self (cleared-from c.args.key c.self.inside.standings c.remove.new.self c.remove.ensures.rest))
