-- That the items on the rings stand right, by the wire list alone.
use Rattle.std.specs.Prelude.{◌≡◌, ℕ, false, List, fold, map, take}
use Rattle.std.specs.List.{AllByRecursion}
use Rattle.ix_desk.specs.declared.unit.DeskItem.{DeskItem}
use Rattle.ix_desk.specs.declared.unit.DeskItem.TheVariants.{Work, Tag, Cut, Start}
use Rattle.ix_order.specs.Wire.{Entry, Table, put_on}
use Rattle.ix_order.specs.Pieces.{opening}
use Rattle.ix_order.specs.Steppers.{TagsAlternate, tags_by}
use Rattle.ix_history.specs.Events.{RingItem, at_end, for_each, for_group}
use Rattle.ix_history.specs.Items.{told}
use Rattle.ix_deeds.specs.Right.{AreRight}

-- the tenure of the w-th entry for a group: how many tags of it stand before it
abbrev pub tenure_at : ℕ → List Entry → ℕ → ℕ
tenure_at g es w = fold (tags_by g) 0 (take w es)

module _ {I : Type 0} (name : I → ℕ) (named : ℕ → I) where
  -- an item is the one that its name names
  abbrev pub IsNamed : I → Type 0
  IsNamed x = x ≡ named (name x)

  abbrev pub IsDeskItemNamed : DeskItem I → Type 0
  IsDeskItemNamed (Work x) = IsNamed x
  IsDeskItemNamed Tag = Unit {0}
  IsDeskItemNamed (Cut to) = Unit {0}
  IsDeskItemNamed (Start k) = Unit {0}

  abbrev pub IsRingItemNamed : RingItem I → Type 0
  IsRingItemNamed (for_group g it) = IsDeskItemNamed it
  IsRingItemNamed (for_each x) = IsNamed x
  IsRingItemNamed at_end = Unit {0}

-- What the entries put on a ring stands right there for each group whose tags and moves alternate.
abbrev pub RingsAreRight : (I : Type 0) → (I → ℕ) → Type 0
RingsAreRight I name =
    (named : ℕ → I) (g c : ℕ) (t : Table) (es : List Entry) (items : List (RingItem I)) → (t g).tenure ≡ 0 → TagsAlternate g false es
    → map (told name) items ≡ put_on c t 0 es → AllByRecursion (IsRingItemNamed name named) items
    → AreRight name (tenure_at g es) named g (opening g c t) false items
