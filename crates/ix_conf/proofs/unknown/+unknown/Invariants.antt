use Rattle.std.proofs.Common.{◌≡◌, drop}
use Rattle.toml.specs.View.{items_view, members_view}
use Rattle.ix_conf.specs.Unknown.{is_unknown_in_items, is_unknown_in_members}
use Rattle.ix_conf.proofs.unknown.+unknown.Given as goal

abbrev pub invariant-is_unknown_in_items-items : goal.invariant-is_unknown_in_items-items
invariant-is_unknown_in_items-items l =
    is_unknown_in_items l.place (items_view (drop l.item-index l.item-items)) ≡ is_unknown_in_items l.place (items_view l.item-items)

abbrev pub invariant-is_unknown_in_members-members : goal.invariant-is_unknown_in_members-members
invariant-is_unknown_in_members-members l =
    (goal.iterator-is_unknown_in_members-members).can_next l.key-iterator ×
    (goal.iterator-is_unknown_in_members-members).is_finite l.key-iterator ×
    (is_unknown_in_members l.place (members_view l.key-iterator) ≡ is_unknown_in_members l.place (members_view l.table.entries))
