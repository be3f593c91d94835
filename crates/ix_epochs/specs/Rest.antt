-- Cores at rest: they have nothing to do, keep nothing aside, and no ring has anything for them.
use Rattle.std.specs.Prelude.{◌≡◌, ◌<◌, ◌||◌, nat_lt, ℕ, Bool, true, false, List, [], Some, All, length, slice_index_or}
use Rattle.std.specs.List.{list_any}
use Rattle.ix_mbuf.specs.Buffers.{Buffer}
use Rattle.ix_mbuf.specs.Pools.{is_out_of}
use Rattle.ix_ring.specs.Ends.{known}
use Rattle.ix_desk.specs.Groups.{unit_of}
use Rattle.ix_desk.specs.Desks.{group_at}
use Rattle.ix_history.specs.Join.{IsIdle}
use Rattle.ix_run.specs.declared.actors.Turn.{Turn}
use Rattle.ix_run.specs.declared.actors.Turn.TheVariants.{Ended, Idle, Worked}
use Rattle.ix_core.specs.declared.link.Link.{Link}
use Rattle.ix_core.specs.declared.turning.Core.{Core}
use Rattle.ix_core.specs.Links.{IsDrained}

abbrev pub is_idle : Turn → Bool
is_idle (Ended frames) = false
is_idle Idle = true
is_idle (Worked frames) = false

module _ {U E : Type 0} where
  -- ## What a core keeps aside
  -- a flow group that came over a link isn't awaited yet
  abbrev pub link_keeps : Link U E → Bool
  link_keeps l = nat_lt 0 (length l.ships.items)

  -- an item of the receive ring, or a flow group of a link, doesn't come next yet; or a flow group left for a core that isn't there
  abbrev pub keeps_aside : Core U E → Bool
  keeps_aside c = nat_lt 0 (length c.came.items) || (nat_lt 0 (length c.lost.items) || list_any link_keeps c.links.items)

  -- ## What stands on the rings
  abbrev pub link_has : Link U E → Bool
  link_has l = nat_lt 0 (length (known l.take))

  -- something is known to be on a ring that a core takes from
  abbrev pub ring_has : Core U E → Bool
  ring_has c = nat_lt 0 (length (known c.items)) || list_any link_has c.links.items

  abbrev pub rings_have : List (Core U E) → Bool
  rings_have cores = list_any ring_has cores

  -- ## Rest
  -- Nothing is kept of a link: no flow group that came over it, and no message that is to go over it.
  pub record LinkRests (l : Link U E) : Type 0 where
    pub ships : l.ships.items ≡ []
    pub waits : l.waiting.items ≡ []

  abbrev pub LinksRest : List (Link U E) → Type 0
  LinksRest links = (p : ℕ) (e : Link U E) → p < length links → LinkRests (slice_index_or links p e)

  -- A core that keeps nothing: no item that came, no flow group that came or left, and no message.
  pub record KeepsNothing (c : Core U E) : Type 0 where
    pub came : c.came.items ≡ []
    pub lost : c.lost.items ≡ []
    pub links : LinksRest c.links.items

  -- A core that has found memory and has nothing to do: nothing is to be stepped and no flow group is to leave; each flow group that is here has
  -- just handed out all that it doesn't need any more; nothing is kept, and no buffer that is kept aside is out of the pool.
  pub record CoreRests (drained : U → List Buffer → U → Type 0) (c : Core U E) : Type 0 where
    pub found : c.failed ≡ false
    pub idle : IsIdle c.desks
    pub clean : (g : ℕ) (u : U) → g < 512 → unit_of (group_at c.desks g) ≡ Some u → IsDrained drained u
    pub keeps : KeepsNothing c
    pub aside : All (λ b. is_out_of c.pool b.name.id ≡ false) c.returns.items

  abbrev pub AllRest : (U → List Buffer → U → Type 0) → List (Core U E) → Type 0
  AllRest drained cores = (c : ℕ) (d : Core U E) → c < length cores → CoreRests drained (slice_index_or cores c d)

  -- Nothing is known to be on a ring that a core takes from.
  pub record NothingComes (c : Core U E) : Type 0 where
    pub items : known c.items ≡ []
    pub links : (p : ℕ) (e : Link U E) → p < length c.links.items → known (slice_index_or c.links.items p e).take ≡ []

  abbrev pub NothingIsOnRings : List (Core U E) → Type 0
  NothingIsOnRings cores = (c : ℕ) (d : Core U E) → c < length cores → NothingComes (slice_index_or cores c d)
