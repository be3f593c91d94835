use Rattle.std.proofs.Common.{refl}
use Rattle.ix_core.proofs.Meetings.{link_meets, linked_at, told_at}
use Rattle.ix_core.proofs.meeting.meet_cores.Goals as goal

pub meet_links-requires : goal.meet_links-requires
meet_links-requires g c = linked_at _ _ _ _ _ _ c.requires.lower c.requires.upper c.index_mut.ensures.value c.index_mut-2.ensures.value c.requires.linked

pub returns-clause-lower : goal.returns-clause-lower
returns-clause-lower g c = link_meets _ _ c.args.up _ _ c.requires.lower c.index_mut.ensures.value refl refl c.meet_links.ensures.a

pub returns-clause-upper : goal.returns-clause-upper
returns-clause-upper g c = link_meets _ _ c.args.down _ _ c.requires.upper c.index_mut-2.ensures.value refl refl c.meet_links.ensures.b

pub returns-clause-told : goal.returns-clause-told
returns-clause-told g c = λ e. told_at _ _ _ _ _ _ e c.requires.lower c.requires.upper c.meet_links.ensures.told
