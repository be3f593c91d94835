use Rattle.std.proofs.Common.{◌∙◌}
use Rattle.ix_engine.specs.Courses.{engine_of}
use Rattle.ix_play.proofs.Whole.{left_with}
use Rattle.ix_play.proofs.closing.close.Goals as goal

pub close_cores-requires : goal.close_cores-requires
close_cores-requires c = c.requires.can _ _ c.meet_cores.ensures

pub returns : goal.returns
returns c = record {
  card = c.meet_cores.new.nic;
  cores = c.meet_cores.new.cores.items;
  met = c.meet_cores.ensures;
  groups = c.in_ok-left.left.groups;
  pools = c.in_ok-left.left.pools;
  card_closed = c.close_cores.new.nic;
  cores_closed = c.close_cores.new.cores.items;
  closed = c.in_ok-left.ensures;
  is = left_with c.args.ran.connects c.args.ran.settles (engine_of c.args.ran.machine) c.in_ok-left.left.groups c.in_ok-left.left.pools _ (c.from_vec.ensures ∙ c.into_lines.ensures);
}
