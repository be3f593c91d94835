-- The items of a receive ring, as a core's desks take them.
use Rattle.std.specs.Prelude.{Bool, true}
use Rattle.ix_desk.specs.declared.unit.DeskItem.TheVariants as desk
use Rattle.ix_desk.specs.Views.{View}
use Rattle.ix_desk.specs.Groups.{taken}
use Rattle.ix_desk.specs.Desks.{fits_at, group_at, with_group}
use Rattle.ix_history.specs.Events.{RingItem, at_end, for_each, for_group, with_each}
use Rattle.ix_stack.specs.declared.item.Item.{Item}
use Rattle.ix_stack.specs.declared.item.Item.TheVariants as ring
use Rattle.ix_stack.specs.declared.work.Work.{Work}
use Rattle.ix_stack.specs.declared.work.Work.TheVariants as work

-- what an item is for the desks: an item of one flow group, a time for each, or the end
abbrev pub ring_item : Item → RingItem Work
ring_item (ring.Frame w g buf) = for_group g.0 (desk.Work (work.Frame (record { w = w; buf = buf })))
ring_item (ring.Tag g) = for_group g.0 desk.Tag
ring_item (ring.Cut g to) = for_group g.0 (desk.Cut to)
ring_item (ring.Start g k) = for_group g.0 (desk.Start k)
ring_item (ring.Time w t) = for_each (work.Time w t)
ring_item ring.End = at_end

module _ {U : Type 0} where
  abbrev pub fits_now : View U Work → RingItem Work → Bool
  fits_now v (for_group g it) = fits_at v g it
  fits_now v (for_each x) = true
  fits_now v at_end = true

  abbrev pub given_now : View U Work → RingItem Work → View U Work
  given_now v (for_group g it) = with_group v g (taken (group_at v g) it)
  given_now v (for_each x) = with_each v x
  given_now v at_end = v

  -- whether the desks take an item next
  abbrev pub item_fits : View U Work → Item → Bool
  item_fits v it = fits_now v (ring_item it)

  -- the desks with an item more
  abbrev pub with_item : View U Work → Item → View U Work
  with_item v it = given_now v (ring_item it)
