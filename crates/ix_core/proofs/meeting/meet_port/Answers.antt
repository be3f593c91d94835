use Rattle.std.proofs.Common.{refl}
use Rattle.ix_core.proofs.Meetings.{port_meets}
use Rattle.ix_core.proofs.meeting.meet_port.Goals as goal

pub meet_ends-requires-clause-core : goal.meet_ends-requires-clause-core
meet_ends-requires-clause-core g c = rw c.home-number.ensures c.requires.within

pub meet_ends-requires-clause-items : goal.meet_ends-requires-clause-items
meet_ends-requires-clause-items g c = λ p. rw c.home-number.ensures (c.requires.port p).items

pub meet_ends-requires-clause-posted : goal.meet_ends-requires-clause-posted
meet_ends-requires-clause-posted g c = λ p. rw c.home-number.ensures (c.requires.port p).posts

pub returns-clause-others : goal.returns-clause-others
returns-clause-others g c = rw c.home-number.ensures at c.meet_ends.ensures.others

pub returns-clause-met : goal.returns-clause-met
returns-clause-met g c = λ p. let m = rw c.home-number.ensures at (c.meet_ends.ensures.met p) in port_meets _ _ _ _ (c.requires.port p) refl m
