use Rattle.ix_course.proofs.CourseLaws.{epochs-reach, openings-begin, settles-stay}
use Rattle.ix_course.proofs.laws.plays_take_their_course.Goals as goal

pub returns : goal.returns
returns c = record {
  begins = openings-begin c.wires_can_be_played.ensures.joined;
  reaches = epochs-reach c.entries_are_fed.ensures c.items_are_told.ensures c.wires_can_be_played.ensures.playable;
  stays = settles-stay;
}
