-- The control items of an entry, ring by ring.
use Rattle.std.specs.Prelude.{ℕ, ◌==◌, if◌then◌else◌, Option, Some, None}
use Rattle.ix_nic.specs.declared.control.Control.{Control}
use Rattle.ix_nic.specs.declared.control.Control.TheVariants as controls
use Rattle.ix_stack.specs.declared.item.Item.{Item}
use Rattle.ix_stack.specs.declared.item.Item.TheVariants.{Tag, Cut, Start, Time, End}

abbrev pub item_on : Control → ℕ → Option Item
item_on controls.Nothing r = None
item_on (controls.Tag group core) r = if r == core.0 then Some (Tag group) else None
item_on (controls.Turn group from to tenure) r =
    if r == from.0 then Some (Cut group to) else if r == to.0 then Some (Start group tenure) else None
item_on (controls.Time w t) r = Some (Time w t)
item_on controls.End r = Some End
