-- What a history took, shipped and landed, and which of the items on a ring are those of a piece.
use Rattle.std.specs.Prelude.{ℕ, ◌==◌, if◌then◌else◌, Bool, false, List, [], ◌∷◌, ◌++◌, Option, Some, None}
use Rattle.ix_desk.specs.declared.unit.DeskItem.{DeskItem}
use Rattle.ix_desk.specs.declared.unit.DeskItem.TheVariants.{Work, Tag, Cut, Start}
use Rattle.ix_order.specs.Wire.{Item, clock, cut, start, tagged, ended}
use Rattle.ix_order.specs.Wire as wire
use Rattle.ix_order.specs.Pieces.{opened_by}
use Rattle.ix_order.specs.Stages.{same, behind_by}
use Rattle.ix_history.specs.Events.{RingItem, for_group, for_each, at_end, Parcel, Event, took, came, worked, gone, lent}

module _ {U I O : Type 0} where
  -- the items that were taken from the ring
  abbrev pub taken_in : List (Event U I O) → List (RingItem I)
  taken_in [] = []
  taken_in (took x ∷ es) = x ∷ taken_in es
  taken_in (came c s ∷ es) = taken_in es
  taken_in (worked max ∷ es) = taken_in es
  taken_in (gone s ∷ es) = taken_in es
  taken_in (lent h u out v ∷ es) = taken_in es

  -- what was shipped to a core
  abbrev pub gone_to : ℕ → List (Event U I O) → List (Parcel U I)
  gone_to d [] = []
  gone_to d (took x ∷ es) = gone_to d es
  gone_to d (came c s ∷ es) = gone_to d es
  gone_to d (worked max ∷ es) = gone_to d es
  gone_to d (gone s ∷ es) = if s.to == d then s ∷ gone_to d es else gone_to d es
  gone_to d (lent h u out v ∷ es) = gone_to d es

  -- what came from a core
  abbrev pub came_from : ℕ → List (Event U I O) → List (Parcel U I)
  came_from c [] = []
  came_from c (took x ∷ es) = came_from c es
  came_from c (came b s ∷ es) = if b == c then s ∷ came_from c es else came_from c es
  came_from c (worked max ∷ es) = came_from c es
  came_from c (gone s ∷ es) = came_from c es
  came_from c (lent h u out v ∷ es) = came_from c es

  -- what units that were lent handed out
  abbrev pub handed_out : List (Event U I O) → List O
  handed_out [] = []
  handed_out (took x ∷ es) = handed_out es
  handed_out (came c s ∷ es) = handed_out es
  handed_out (worked max ∷ es) = handed_out es
  handed_out (gone s ∷ es) = handed_out es
  handed_out (lent h u out v ∷ es) = out ∷ handed_out es

-- whether tenure k is open
abbrev pub opens : ℕ → Option ℕ → Bool
opens k None = false
opens k (Some j) = j == k

module _ {I : Type 0} where
  abbrev pub adds_item : ℕ → Option ℕ → DeskItem I → List I
  adds_item k o (Work x) = if opens k o then x ∷ [] else []
  adds_item k o Tag = []
  adds_item k o (Cut c) = []
  adds_item k o (Start j) = []

  -- what an item of the ring adds to the piece of g with tenure k
  abbrev pub adds_items : ℕ → ℕ → Option ℕ → RingItem I → List I
  adds_items g k o (for_group h it) = if h == g then adds_item k o it else []
  adds_items g k o (for_each x) = if opens k o then x ∷ [] else []
  adds_items g k o at_end = []

module _ {I : Type 0} (name : I → ℕ) where
  abbrev pub told_item : ℕ → DeskItem I → Item
  told_item g (Work x) = wire.work g (name x)
  told_item g Tag = tagged g
  told_item g (Cut c) = cut g c.0
  told_item g (Start k) = start g k

  -- an item of the ring by its name alone
  abbrev pub told : RingItem I → Item
  told (for_group g it) = told_item g it
  told (for_each x) = clock (name x)
  told at_end = ended

  -- the items of the piece of g with tenure k that stand before its tag (false) or behind it (true)
  abbrev pub items_part : ℕ → ℕ → Bool → Option ℕ → Bool → List (RingItem I) → List I
  items_part g k b o f [] = []
  items_part g k b o f (x ∷ xs) = (if same b f then adds_items g k o x else []) ++ items_part g k b (opened_by g o (told x)) (behind_by g f (told x)) xs
