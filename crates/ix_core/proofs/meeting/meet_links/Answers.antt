use Rattle.std.proofs.Common.{refl}
use Rattle.ix_core.proofs.meeting.meet_links.Goals as goal

pub returns-clause-a : goal.returns-clause-a
returns-clause-a g c = record {
  take = record { ring = c.meet-2.ensures.take.0; took = c.meet-2.ensures.take.1; more = c.meet-2.ensures.known };
  put = record { ring = c.meet.ensures.put.0; puts = c.meet.ensures.put.1; room = c.meet.ensures.put.2 };
  rest = refl;
}

pub returns-clause-b : goal.returns-clause-b
returns-clause-b g c = record {
  take = record { ring = c.meet.ensures.take.0; took = c.meet.ensures.take.1; more = c.meet.ensures.known };
  put = record { ring = c.meet-2.ensures.put.0; puts = c.meet-2.ensures.put.1; room = c.meet-2.ensures.put.2 };
  rest = refl;
}

pub returns-clause-told : goal.returns-clause-told
returns-clause-told g c = record {
  there = record { whole = c.meet.ensures.all; room = c.meet.ensures.room };
  back = record { whole = c.meet-2.ensures.all; room = c.meet-2.ensures.room };
}
