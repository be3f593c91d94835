use Rattle.ix_owned.proofs.Report.{cores-summed, homes-right, settles-right}
use Rattle.ix_owned.proofs.laws.settles_tell_owners.Goals as goal

pub returns : goal.returns
returns c = record {
  sums = cores-summed;
  homes = homes-right c.units_go_on.ensures.stay c.groups_own_what_is_out.ensures.owners;
  settles = settles-right c.units_go_on.ensures.stay c.groups_own_what_is_out.ensures.owners;
}
