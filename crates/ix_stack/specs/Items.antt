-- The items of a receive ring.
use Rattle.std.specs.Prelude.{ℕ, Bool, true, false, List, sum_by}
use Rattle.ix_mbuf.specs.declared.name.Name.{Name}
use Rattle.ix_stack.specs.declared.item.Item.{Item}
use Rattle.ix_stack.specs.declared.item.Item.TheVariants.{Frame, Tag, Cut, Start, Time, End}

abbrev pub is_frame : Item → Bool
is_frame (Frame w g buf) = true
is_frame (Tag g) = false
is_frame (Cut g to) = false
is_frame (Start g k) = false
is_frame (Time w t) = false
is_frame End = false

abbrev pub is_end : Item → Bool
is_end (Frame w g buf) = false
is_end (Tag g) = false
is_end (Cut g to) = false
is_end (Start g k) = false
is_end (Time w t) = false
is_end End = true

-- the weight of the buffer of a frame; a control item has none
abbrev pub item_weight : (Name → ℕ) → Item → ℕ
item_weight f (Frame w g buf) = f buf.name
item_weight f (Tag g) = 0
item_weight f (Cut g to) = 0
item_weight f (Start g k) = 0
item_weight f (Time w t) = 0
item_weight f End = 0

-- the weights of these items, added up
abbrev pub items_weight : (Name → ℕ) → List Item → ℕ
items_weight f items = sum_by (item_weight f) items
