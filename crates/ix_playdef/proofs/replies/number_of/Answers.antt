use Rattle.std.proofs.Common.{rules, of_calls}
use Rattle.std.proofs.lemmas.Fn.{always_returns_same}
use Rattle.ix_playdef.specs.declared.order.Reply.{Reply}
use Rattle.ix_playdef.specs.Order.{is_before}
use Rattle.ix_playdef.proofs.Keys.{number-is, parted}
use Rattle.ix_playdef.proofs.replies.number_of.Goals as goal

pub returns-clause-number : goal.returns-clause-number
returns-clause-number c =
    number-is c.args.replies.now c.args.key.now c.partition_point.result c.partition_point.ensures.bound
    (c.partition_point.ensures.partitioned (λ (r : Reply). is_before r.key c.args.key.now) (always_returns_same _ _ _ (λ a r f k. search (rules, of_calls))) (parted c.args.replies.now c.args.key.now c.requires))
