use Rattle.std.specs.Prelude.{nat_lt}
use Rattle.std.specs.List.{list_all}
use Rattle.std.proofs.lemmas.Bool.Decides.{Decides-at}
use Rattle.ix_base.specs.declared.id.TheConstants.{FLOW_GROUPS}
use Rattle.ix_lines.specs.declared.types.ConnLine.{ConnLine}
use Rattle.ix_decide.proofs.LineLaws.{groups-decided}
use Rattle.ix_decide.proofs.lines.all_in_groups.Goals as goal

pub returns : goal.returns
returns c =
    Decides-at c.are_in_groups.result (list_all (λ (l : ConnLine). nat_lt l.group.0 FLOW_GROUPS) c.args.conns.now) c.are_in_groups.ensures (groups-decided c.args.conns.now)
