use Rattle.ix_plainstack.specs.Out.{AllTold, OutShrinks}
use Rattle.ix_plainstack.proofs.Pays.{out_shrinks}
use Rattle.ix_plainstack.proofs.Stands.{stands_on, owners_are_right}
use Rattle.ix_plainstack.proofs.Told.{all_told}
use Rattle.ix_plainstack.proofs.laws.groups_own_what_is_out.Goals as goal

pub returns : goal.returns
returns c =
    let told : AllTold = all_told c.groups_are_sound.ensures.all_rest in
    let shrinks : OutShrinks =
    out_shrinks c.runs_begin_and_end.ensures.begins c.runs_begin_and_end.ensures.steps c.runs_begin_and_end.ensures.runs c.groups_are_sound.ensures.runs c.groups_are_sound.ensures.none_lost told in
    record { told = told; shrinks = shrinks; stands = stands_on shrinks; owners = owners_are_right }
