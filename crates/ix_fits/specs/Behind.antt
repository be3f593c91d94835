-- The card behind the entries of a report.
use Rattle.std.specs.Prelude.{ℕ, ◌+◌, ◌==◌, if◌then◌else◌, List, [], ◌∷◌, map, take, drop, slice_get, Option, Some, None}
use Rattle.ix_lines.specs.declared.types.EntryLine.{EntryLine}
use Rattle.ix_lines.specs.declared.types.EntryLine.TheVariants as lines
use Rattle.ix_lines.specs.declared.types.RingLine.{RingLine}
use Rattle.ix_lines.specs.declared.types.SettleLine.{SettleLine}
use Rattle.ix_order.specs.Wire.{Entry, Table, turned}
use Rattle.ix_fits.specs.declared.entries.Place.{Place}
use Rattle.ix_fits.specs.Card.{Card, carried_all, entry_of, is_put_on, one_more, opening_table, settled}

-- the table behind some entries
abbrev pub table_after : Table → List Entry → Table
table_after t [] = t
table_after t (x ∷ xs) = table_after (turned t x) xs

abbrev pub table_behind : ℕ → List EntryLine → Table
table_behind live done = table_after (opening_table live) (map entry_of done)

-- the core of a group, which was on this core before them
abbrev pub core_by : ℕ → ℕ → EntryLine → ℕ
core_by g c (lines.Move group to) = if g == group.0 then to.0 else c
core_by g c (lines.Frame rec at group ring fate) = c
core_by g c (lines.Time t) = c
core_by g c (lines.Tag group) = c
core_by g c lines.Settle = c

abbrev pub core_after : ℕ → ℕ → List EntryLine → ℕ
core_after g c [] = c
core_after g c (l ∷ ls) = core_after g (core_by g c l) ls

-- how many of them put an item on a ring
abbrev pub items_after : ℕ → Table → List EntryLine → ℕ
items_after r t [] = 0
items_after r t (l ∷ ls) = one_more (is_put_on r t (entry_of l)) (items_after r (turned t (entry_of l)) ls)

-- the cores that were live at the opening, the entries that are carried out, the number of those before the last settle and that settle
-- itself, and what it told of the rings
pub record Behind : Type 0 where
  pub live : ℕ
  pub done : List EntryLine
  pub from : ℕ
  pub rings : List RingLine

-- the card then
unfoldable pub card_of : Behind → Card
card_of b = carried_all (settled b.rings (table_behind b.live (take b.from b.done))) (map entry_of (drop b.from b.done))

-- ## From entry to entry
-- how many entries stand before the last settle and that settle itself, and the place of that settle among all
abbrev pub place_after : ℕ → Place → EntryLine → Place
place_after w p lines.Settle = record { from = w + 1; settle = p.settle + 1 }
place_after w p (lines.Frame rec at group ring fate) = p
place_after w p (lines.Time t) = p
place_after w p (lines.Tag group) = p
place_after w p (lines.Move group to) = p

abbrev pub rings_in : Option SettleLine → List RingLine
rings_in (Some l) = l.rings
rings_in None = []

abbrev pub rings_of : List SettleLine → ℕ → List RingLine
rings_of settles n = rings_in (slice_get settles n)

-- the card behind the first w entries
abbrev pub behind_at : ℕ → List EntryLine → List SettleLine → ℕ → Place → Behind
behind_at live entries settles w p = record { live = live; done = take w entries; from = p.from; rings = rings_of settles p.settle }
