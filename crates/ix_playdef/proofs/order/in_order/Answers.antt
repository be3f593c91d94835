use Rattle.std.proofs.Common.{rules, ◌+◌, ◌∙◌, ap, List, get_or, is_lt}
use Rattle.std.proofs.lemmas.List.Sorted.{answers_always}
use Rattle.std.specs.List.Sorted.{IsSortedByKey}
use Rattle.ix_playdef.specs.contracts.order.ReplyKeyOrd.TheImpl as key_ord
use Rattle.ix_playdef.specs.declared.order.Reply.{Reply}
use Rattle.ix_playdef.specs.Order.{key_of, key_cmp}
use Rattle.ix_playdef.proofs.Keys.{key-same}
use Rattle.ix_playdef.proofs.order.in_order.Goals as goal

sorted-same : (xs : List Reply) → IsSortedByKey key_of key_ord.ghosts.cmp xs → IsSortedByKey key_of key_cmp xs
sorted-same xs h k d low up = ap is_lt (key-same (get_or xs (k + 1) d).key (get_or xs k d).key) ∙ h k d low up

pub returns-clause-order : goal.returns-clause-order
returns-clause-order c = sorted-same _ (c.in_ok-sort_by_key.ensures.sorted key_of (answers_always _ _ _ (λ f a r q k. search rules)))
