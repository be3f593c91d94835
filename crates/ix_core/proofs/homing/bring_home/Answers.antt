use Rattle.std.proofs.Common.{arith, ◌∙◌, ◌-◌, ◌<◌, ap, length, min}
use Rattle.ix_base.specs.declared.id.BufId.{BufId}
use Rattle.ix_core.proofs.Homings.{homed_one, read_self}
use Rattle.ix_core.proofs.homing.bring_home.Goals as goal

pub returns : goal.returns
returns g c =
    let lt : c.place_of_home-place.result < length c.args.cores.now = omega (arith, c.place_of_home-place.ensures, c.requires.some) in
    homed_one _ _ _ _ _ lt (read_self c.args.cores.now c.place_of_home-place.result c.index-cores-place.result lt) c.requires.order
    (c.place_of_home-place.ensures ∙ ap (λ (i : BufId). min i.home.0 (length c.args.cores.now - 1)) c.id.ensures) c.in_ok-take_back.ensures
