use Rattle.std.proofs.Common.{◌≡◌, ◌∙◌, ap, arith}
use Rattle.std.specs.Prelude.{replicate}
use Rattle.ix_desk.specs.Groups.{empty}
use Rattle.ix_desk.proofs.all_groups.empty_groups.Goals as goal

pub returns : goal.returns
returns g c = let all : c.loop-i._i ≡ c.args.count = omega arith in c.loop-i.invariant ∙ ap (λ n. replicate n empty) all
