use Rattle.std.proofs.Common.{◌≡◌, ◌<◌, ◌++◌, ◌∷◌, [], length, refl, arith}
use Rattle.std.proofs.lemmas.Grind.{common_steps}
use Rattle.ix_core.proofs.Openings.{joins_at, tied_at, tied_none}
use Rattle.ix_core.proofs.opening.join.Goals as goal

pub loop-lower-init : goal.loop-lower-init
loop-lower-init g c = tied_none _ _ _ _ c.requires.alone

pub loop-lower-preserved : goal.loop-lower-preserved
loop-lower-preserved g c =
    let lt : c.from.result < length c.loop-lower.cores.items = omega (arith, c.from.ensures, c.loop-lower.invariant.count, c.requires.number) in
    tied_at _ _ _ _ _ _ _ _ _ _ _ _ c.from.ensures lt c.index_mut-other.ensures.value refl c.in_ok-tie.ensures c.loop-lower.invariant

pub returns : goal.returns
returns g c =
    let pushed : c.push.new.self.items ≡ c.loop-lower.cores.items ++ c.loop-lower.core ∷ [] = grind (arith, common_steps) in
    let all : c.loop-lower.lower ≡ length c.args.cores.now.items = omega (arith, c.requires.number) in
    joins_at _ c.loop-lower.lower c.args.number _ c.loop-lower.cores.items _ _ c.loop-lower.core all c.requires.number pushed c.loop-lower.invariant
