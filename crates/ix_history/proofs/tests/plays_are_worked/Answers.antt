use Rattle.ix_history.proofs.Worked.{worked-plays}
use Rattle.ix_history.proofs.tests.plays_are_worked.Goals as goal

pub returns : goal.returns
returns c = record {
  frame_behind_the_tag = worked-plays.frame_behind_the_tag;
  two_moves_before_a_frame = worked-plays.two_moves_before_a_frame;
  no_shipment_before_its_cut = worked-plays.no_shipment_before_its_cut;
}
