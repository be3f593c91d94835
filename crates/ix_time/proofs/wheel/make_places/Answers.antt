use Rattle.std.proofs.Common.{◌≡◌, [], refl, rules}
use Rattle.ix_time.proofs.WheelLemmas.{nothing-there}
use Rattle.ix_time.proofs.wheel.make_places.Goals as goal

pub returns-in_ok-places-clause-same : goal.returns-in_ok-places-clause-same
returns-in_ok-places-clause-same c =
    let none : c.args.places.now.items ≡ [] = search rules in
    λ p. rw (c.in_ok-places.ensures, nothing-there 1408 p, none) refl
