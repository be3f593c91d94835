use Rattle.std.proofs.Common.{◌≡◌, subst, []}
use Rattle.std.specs.Prelude.{IfOk, filter}
use Rattle.ix_groupdef.specs.Env.{setting_of}
use Rattle.ix_groupdef.specs.Group.{Group}
use Rattle.ix_groupdef.specs.Record.{record_of}
use Rattle.ix_playdef.specs.Connects.{is_asked_in}
use Rattle.ix_playdef.proofs.groups.record_given.Goals as goal

-- From a group with these connects and no cycle.
pub returns : goal.returns
returns c =
    let env = setting_of c.args.env.now in
    subst (λ (g : Group). IfOk c.finish.result (λ left. left ≡ record_of env g))
    (c.in_ok-run_given.ensures (filter (is_asked_in env.local.ip c.args.group.0) c.args.connects.now) [] c.in_ok-connect_in.ensures)
    c.finish.ensures
