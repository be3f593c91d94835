use Rattle.ix_core.proofs.Meetings.{all_told, cores_join, in_order_on, mesh_in_order, weighs_same}
use Rattle.ix_core.proofs.meeting.meet_all.Goals as goal

pub meet_card-requires : goal.meet_card-requires
meet_card-requires g c = mesh_in_order _ _ _ _ c.requires c.meet_mesh.ensures

pub returns-clause-order : goal.returns-clause-order
returns-clause-order g c = in_order_on _ _ _ _ c.requires c.meet_card.ensures.card (cores_join _ _ _ c.meet_mesh.ensures.learned c.meet_card.ensures.cores)

pub returns-clause-told : goal.returns-clause-told
returns-clause-told g c = all_told _ _ _ _ _ c.meet_mesh.ensures c.meet_card.ensures

pub returns-clause-card : goal.returns-clause-card
returns-clause-card g c = c.meet_card.ensures.card

pub returns-clause-cores : goal.returns-clause-cores
returns-clause-cores g c = cores_join _ _ _ c.meet_mesh.ensures.learned c.meet_card.ensures.cores

pub returns-clause-weights : goal.returns-clause-weights
returns-clause-weights g c = λ k d. weighs_same _ _ _ ((cores_join _ _ _ c.meet_mesh.ensures.learned c.meet_card.ensures.cores).each k d)
