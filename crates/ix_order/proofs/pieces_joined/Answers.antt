use Rattle.ix_order.proofs.Joined.{pieces_joined_lem, pieces_on_one_ring_lem}
use Rattle.ix_order.proofs.Ends.{pieces_end_lem}
use Rattle.ix_order.proofs.Labelled.{steppers_joined_lem}
use Rattle.ix_order.proofs.Stepped.{steps_joined_lem}
use Rattle.ix_order.proofs.Order.{rings_in_order_lem, pieces_begin_lem}
use Rattle.ix_order.proofs.pieces_joined.Goals as goal

pub returns : goal.returns
returns c = record { pieces = pieces_joined_lem; rings = pieces_on_one_ring_lem; steps = steps_joined_lem; steppers = steppers_joined_lem; ends = pieces_end_lem; order = rings_in_order_lem; begins = pieces_begin_lem }
