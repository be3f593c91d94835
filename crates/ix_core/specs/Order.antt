-- The order of a card and all its cores: it holds at the opening, and stays.
use Rattle.std.specs.Prelude.{◌≡◌, ◌<◌, ◌+◌, ◌-◌, ℕ, List, length, map, slice_index_or}
use Rattle.ix_base.specs.declared.id.CoreId.{CoreId}
use Rattle.ix_base.specs.declared.id.GroupId.{GroupId}
use Rattle.ix_mbuf.specs.Pools.{Stock}
use Rattle.ix_ring.specs.Ends.{IsRing, SamePutEnd, SameTakeEnd}
use Rattle.ix_nic.specs.Cards.{CardView, opened}
use Rattle.ix_nic.specs.Ports.{PortView}
use Rattle.ix_nic.specs.declared.port.NicEnd.{NicEnd}
use Rattle.ix_core.specs.declared.message.CoreEnds.{CoreEnds}
use Rattle.ix_core.specs.declared.message.MeshEnd.{MeshEnd}
use Rattle.ix_core.specs.declared.turning.Core.{Core}
use Rattle.ix_core.specs.Cores.{IsOpened, SameEnds}
use Rattle.ix_core.specs.Meeting.{AreInOrder, other_core}

-- The card has the same ends of the same rings.
pub record SameRings (old new : CardView) : Type 0 where
  pub count : length new.ports ≡ length old.ports
  pub items : (c : ℕ) (p : PortView) → SamePutEnd (slice_index_or old.ports c p).ring (slice_index_or new.ports c p).ring
  pub posts : (c : ℕ) (p : PortView) → SameTakeEnd (slice_index_or old.ports c p).posts (slice_index_or new.ports c p).posts

module _ {U E : Type 0} where
  -- a core's end of the mesh at a place
  abbrev pub end_at : List (CoreEnds U E) → ℕ → ℕ → CoreEnds U E → MeshEnd U E → MeshEnd U E
  end_at cores c p d e = slice_index_or (slice_index_or cores c d).mesh.items p e

  -- Each core has an end of a ring to and from each other one, by rising number, and between each two cores there are two rings.
  pub record EndsAreMeshed (cores : List (CoreEnds U E)) : Type 0 where
    pub links : (c : ℕ) (d : CoreEnds U E) → c < length cores → length (slice_index_or cores c d).mesh.items + 1 ≡ length cores
    pub others : (c p : ℕ) (d : CoreEnds U E) (e : MeshEnd U E) → c < length cores → p + 1 < length cores → (end_at cores c p d e).core.0 ≡ other_core c p
    pub there : (a b : ℕ) (d : CoreEnds U E) (e : MeshEnd U E) → a < b → b < length cores → IsRing (end_at cores a (b - 1) d e).put (end_at cores b a d e).take
    pub back : (a b : ℕ) (d : CoreEnds U E) (e : MeshEnd U E) → a < b → b < length cores → IsRing (end_at cores b a d e).put (end_at cores a (b - 1) d e).take

  -- The ends of the card and of all cores, in order: both ends of each ring are there.
  pub record EndsAreInOrder (card : List NicEnd) (cores : List (CoreEnds U E)) : Type 0 where
    pub count : length card ≡ length cores
    pub items : (c : ℕ) (p : NicEnd) (d : CoreEnds U E) → c < length cores → IsRing (slice_index_or card c p).items (slice_index_or cores c d).items
    pub posts : (c : ℕ) (p : NicEnd) (d : CoreEnds U E) → c < length cores → IsRing (slice_index_or cores c d).posted (slice_index_or card c p).posted
    pub mesh : EndsAreMeshed cores

  -- the core of this number at the opening, over these ends
  pub record IsOpenedAs (number : ℕ) (ends : CoreEnds U E) (core : Core U E) : Type 0 where
    pub id : CoreId
    pub pool : Stock
    pub home : List (GroupId × U)
    pub batch : ℕ
    pub own : pool.home.0 ≡ number
    pub is : IsOpened id pool home ends batch core

  -- one core over each of these ends
  pub record AreOpenedAs (ends : List (CoreEnds U E)) (cores : List (Core U E)) : Type 0 where
    pub count : length cores ≡ length ends
    pub each : (c : ℕ) (e : CoreEnds U E) (d : Core U E) → c < length cores → IsOpenedAs c (slice_index_or ends c e) (slice_index_or cores c d)

  -- so have all cores
  pub record SameCores (old new : List (Core U E)) : Type 0 where
    pub count : length new ≡ length old
    pub each : (c : ℕ) (d : Core U E) → SameEnds (slice_index_or old c d) (slice_index_or new c d)

-- ## The two laws
abbrev pub OpeningIsInOrder : Type 0 → Type 0 → Type 0
OpeningIsInOrder U E = (x : CardView) (card : List NicEnd) (ends : List (CoreEnds U E)) (cores : List (Core U E)) → x.ports ≡ map opened card → EndsAreInOrder card ends
    → AreOpenedAs ends cores → AreInOrder x cores

abbrev pub OrderStays : Type 0 → Type 0 → Type 0
OrderStays U E = (x y : CardView) (old new : List (Core U E)) → AreInOrder x old → SameRings x y → SameCores old new → AreInOrder y new
