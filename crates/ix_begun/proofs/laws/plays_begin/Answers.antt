use Rattle.ix_begun.proofs.Beginning.{plays-begin}
use Rattle.ix_begun.proofs.laws.plays_begin.Goals as goal

pub returns : goal.returns
returns c = plays-begin c.dials_are_asked.ensures.first c.dials_are_asked.ensures.asked c.plays_take_their_course.ensures.begins c.openings_are_ready.ensures c.meetings_are_ready.ensures
    c.homes_stay.ensures.opening c.settles_are_told.ensures.whole c.settles_own.ensures
