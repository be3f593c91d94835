use Rattle.ix_settled.proofs.Chain.{are-cut, groups-leave}
use Rattle.ix_settled.proofs.Renaming.{plays-renamed}
use Rattle.ix_settled.proofs.laws.plays_are_cut.Goals as goal

pub returns : goal.returns
returns c = record {
  cut = λ p m ms opened settled told.
      are-cut (record {
        ends = c.pieces_joined.ensures.ends;
        say = c.histories_join.ensures.words;
        join = c.cores_join.ensures;
        go = c.units_go_on.ensures.units;
        stay = c.units_go_on.ensures.stay;
        opens = c.units_go_on.ensures.pieces;
        rings = c.units_go_on.ensures.rings;
        naming = c.steps_are_named.ensures;
        steps = c.stacks_stand.ensures.steps;
        drains = c.stacks_stand.ensures.drains;
      }) c.cuttings_are_read.ensures.stepped p m ms opened settled told;
  renamed = plays-renamed;
  leave = groups-leave;
}
