use Rattle.std.proofs.Common.{rules, ◌≡◌, ◌∷◌, ◌++◌, ◌<◌, [], false, length, refl, true}
use Rattle.ix_core.specs.Links.{cores_of, is_first, is_known}
use Rattle.ix_core.proofs.LinkLaws.{departs_away, departs_lost}
use Rattle.ix_core.proofs.mesh.depart.Goals as goal

pub returns-in_ok-keep-in-Some-clause-departs : goal.returns-in_ok-keep-in-Some-clause-departs
returns-in_ok-keep-in-Some-clause-departs g c =
    let lt : c.in-Some.place < length c.args.links.now.items = search rules in
    let first : is_first (cores_of c.args.links.now.items) c.in-Some.place c.args.ship.to.0 ≡ true = search rules in
    departs_away c.args.ship _ _ _ c.in-Some.place _ _ lt c.index_mut-link.ensures.value refl c.in_ok-keep-in-Some.ensures.same.core first
    c.in_ok-keep-in-Some.ensures.kept

pub returns-in_ok-push-in-None-clause-departs : goal.returns-in_ok-push-in-None-clause-departs
returns-in_ok-push-in-None-clause-departs g c =
    let none : is_known (cores_of c.args.links.now.items) c.args.ship.to.0 ≡ false = search rules in
    let pushed : c.push.new.self.items ≡ c.args.lost.now.items ++ c.args.ship ∷ [] = search rules in
    departs_lost c.args.ship _ _ _ none pushed
