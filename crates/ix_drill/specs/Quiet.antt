-- Whether anything is under way between a card and its cores.
use Rattle.std.specs.Prelude.{◌≡◌, ◌<◌, ℕ, Bool, not, ◌||◌, List, length, slice_index_or}
use Rattle.std.specs.List.{list_any}
use Rattle.ix_ring.specs.Ends.{known, places}
use Rattle.ix_desk.specs.Desks.{groups_wait}
use Rattle.ix_desk.specs.Pieces.{is_nil}
use Rattle.ix_nic.specs.Cards.{AreOpen, CardView}
use Rattle.ix_nic.specs.Ports.{PortView}
use Rattle.ix_core.specs.declared.link.Link.{Link}
use Rattle.ix_core.specs.declared.turning.Core.{Core}
use Rattle.ix_core.specs.Meeting.{AreInOrder}

module _ {U E : Type 0} where
  -- a message is known to be on the ring from the other core, or waits for the ring to it
  abbrev pub link_is_busy : Link U E → Bool
  link_is_busy l = not (is_nil (known l.take)) || not (is_nil l.waiting.items)

  -- so over one link, or an item is known to be on the receive ring
  abbrev pub core_is_busy : Core U E → Bool
  core_is_busy c = not (is_nil (known c.items)) || list_any link_is_busy c.links.items

  -- an item waits at a desk
  abbrev pub has_items : Core U E → Bool
  has_items c = not (is_nil (groups_wait c.desks))

  -- The rings between the card and each core have 512 places.
  abbrev pub ArePlaced : CardView → List (Core U E) → Type 0
  ArePlaced card cores = (c : ℕ) (p : PortView) (d : Core U E) → c < length cores → (places (slice_index_or card.ports c p).ring ≡ 512) × (places (slice_index_or cores c d).posted ≡ 512)

  -- A card over the same table and three cores, in order, to which no end was put.
  pub record IsReady (old new : CardView) (cores : List (Core U E)) : Type 0 where
    pub order : AreInOrder new cores
    pub placed : ArePlaced new cores
    pub three : length cores ≡ 3
    pub unended : AreOpen new.ports
    pub table : new.table ≡ old.table
