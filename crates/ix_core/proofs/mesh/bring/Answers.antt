use Rattle.std.proofs.Common.{rules, ◌≡◌, ◌∷◌, ◌++◌, ◌<◌, [], false, length, refl, true}
use Rattle.ix_core.specs.Links.{cores_of, is_first, is_known}
use Rattle.ix_core.proofs.LinkLaws.{brings_away, brings_left}
use Rattle.ix_core.proofs.mesh.bring.Goals as goal

pub returns-in_ok-keep-in-Some-clause-brought : goal.returns-in_ok-keep-in-Some-clause-brought
returns-in_ok-keep-in-Some-clause-brought g c =
    let lt : c.in-Some.place < length c.args.links.now.items = search rules in
    let first : is_first (cores_of c.args.links.now.items) c.in-Some.place c.args.buf.name.id.home.0 ≡ true = search rules in
    brings_away c.args.buf _ _ _ c.in-Some.place _ _ lt c.index_mut-link.ensures.value refl c.in_ok-keep-in-Some.ensures.same.core first
    c.in_ok-keep-in-Some.ensures.kept

pub returns-in_ok-push-in-None-clause-brought : goal.returns-in_ok-push-in-None-clause-brought
returns-in_ok-push-in-None-clause-brought g c =
    let none : is_known (cores_of c.args.links.now.items) c.args.buf.name.id.home.0 ≡ false = search rules in
    let pushed : c.push.new.self.items ≡ c.args.returns.now.items ++ c.args.buf ∷ [] = search rules in
    brings_left c.args.buf _ _ _ none pushed
