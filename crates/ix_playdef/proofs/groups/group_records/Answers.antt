use Rattle.std.proofs.Common.{arith}
use Rattle.std.proofs.lemmas.Result.{IfOk-weaker}
use Rattle.ix_groupdef.specs.Env.{setting_of}
use Rattle.ix_playdef.proofs.FitLaws.{records-fit}
use Rattle.ix_playdef.proofs.groups.group_records.Goals as goal

pub returns-clause-fit : goal.returns-clause-fit
returns-clause-fit c =
    IfOk-weaker c.records_given.result _ _ (λ records given.
    records-fit (setting_of c.in_ok-env.env) c.as_slice.result.now c.in_ok-lists.lists.items records.items c.in_ok-env.ensures.range (omega (arith, c.in_ok-env.ensures.mac)) c.groups_are_sound.ensures.frames c.groups_are_sound.ensures.whole c.groups_are_sound.ensures.strays c.payloads_lie_within.ensures given)
    c.records_given.ensures
