-- The card and all cores: which ends of rings belong together, what the ends learn where they meet, and that nothing else changes.
use Rattle.std.specs.Prelude.{◌≡◌, ◌≢◌, ◌<◌, ◌≤◌, ◌+◌, ◌-◌, ◌⊎◌, ◌++◌, nat_lt, if◌then◌else◌, ℕ, List, length, slice_index_or}
use mathlib.Core.List.{IsPrefix}
use Rattle.ix_ring.specs.Views.{PutView, TakeView}
use Rattle.ix_ring.specs.Ends.{IsRing, SamePutEnd, SameTakeEnd, known, places, put_list, spare, taken}
use Rattle.ix_nic.specs.Cards.{CardView}
use Rattle.ix_nic.specs.Ports.{PortView}
use Rattle.ix_core.specs.declared.link.Link.{Link}
use Rattle.ix_core.specs.declared.turning.Core.{Core}

-- ## The two ends of one ring
-- Both ends know what stands in the ring: what was put is what was taken and then what is known, and every other place is free.
pub record AreTold {T : Type 0} (p : PutView T) (t : TakeView T) : Type 0 where
  pub whole : put_list p ≡ taken t ++ known t
  pub room : spare p + length (known t) ≡ places p

-- An end that puts knows of as many free places as before, or more; what it put stays.
pub record PutEndLearned {T : Type 0} (old new : PutView T) : Type 0 where
  pub ring : SamePutEnd old new
  pub puts : put_list new ≡ put_list old
  pub room : spare old ≤ spare new

-- An end that takes knows of the same items, and of others behind them; what it took stays.
pub record TakeEndLearned {T : Type 0} (old new : TakeView T) : Type 0 where
  pub ring : SameTakeEnd old new
  pub took : taken new ≡ taken old
  pub more : IsPrefix (known old) (known new)

-- ## The card
-- A port of the card learned what stands in its rings, and nothing else changed.
pub record PortLearned (old new : PortView) : Type 0 where
  pub ring : PutEndLearned old.ring new.ring
  pub posts : TakeEndLearned old.posts new.posts
  pub rest : new ≡ record old { ring = new.ring; posts = new.posts }

-- The card learned what stands in its rings, and nothing else changed.
pub record CardLearned (old new : CardView) : Type 0 where
  pub table : new.table ≡ old.table
  pub count : length new.ports ≡ length old.ports
  pub each : (c : ℕ) (p : PortView) → PortLearned (slice_index_or old.ports c p) (slice_index_or new.ports c p)

-- the number of the core at a place among the others of a core, by rising number
abbrev pub other_core : ℕ → ℕ → ℕ
other_core c place = if nat_lt place c then place else place + 1

module _ {U E : Type 0} where
  -- ## Which ends belong together
  -- The two rings between a core and the card: the card puts what the core takes, and takes the buffers that the core posts.
  pub record IsAtPort (p : PortView) (c : Core U E) : Type 0 where
    pub items : IsRing p.ring c.items
    pub posts : IsRing c.posted p.posts

  -- The two rings between two cores: what one puts the other takes.
  pub record AreLinked (a b : Link U E) : Type 0 where
    pub there : IsRing a.put b.take
    pub back : IsRing b.put a.take

  -- the link of a core at a place among its links
  abbrev pub link_at : List (Core U E) → ℕ → ℕ → Core U E → Link U E → Link U E
  link_at cores c p d e = slice_index_or (slice_index_or cores c d).links.items p e

  -- Each core has a link to each other one, by rising number: to those below it at their own number, to those above it at one less.
  pub record AreMeshed (cores : List (Core U E)) : Type 0 where
    pub links : (c : ℕ) (d : Core U E) → c < length cores → length (slice_index_or cores c d).links.items + 1 ≡ length cores
    pub others : (c p : ℕ) (d : Core U E) (e : Link U E) → c < length cores → p + 1 < length cores → (link_at cores c p d e).core.0 ≡ other_core c p
    pub rings : (a b : ℕ) (d : Core U E) (e : Link U E) → a < b → b < length cores → AreLinked (link_at cores a (b - 1) d e) (link_at cores b a d e)

  -- A card and all its cores, in order: each core has its own number and is at the port of this number, and has the rings to all others.
  pub record AreInOrder (card : CardView) (cores : List (Core U E)) : Type 0 where
    pub count : length card.ports ≡ length cores
    pub numbers : (c : ℕ) (d : Core U E) → c < length cores → (slice_index_or cores c d).pool.home.0 ≡ c
    pub ports : (c : ℕ) (p : PortView) (d : Core U E) → c < length cores → IsAtPort (slice_index_or card.ports c p) (slice_index_or cores c d)
    pub mesh : AreMeshed cores

  -- ## What is known after a meeting
  pub record PortIsTold (p : PortView) (c : Core U E) : Type 0 where
    pub items : AreTold p.ring c.items
    pub posts : AreTold c.posted p.posts

  pub record LinksAreTold (a b : Link U E) : Type 0 where
    pub there : AreTold a.put b.take
    pub back : AreTold b.put a.take

  -- Both ends of each ring know what stands in it: of the two rings between the card and each core, and of the two between each two cores.
  pub record AllAreTold (card : CardView) (cores : List (Core U E)) : Type 0 where
    pub ports : (c : ℕ) (p : PortView) (d : Core U E) → c < length cores → PortIsTold (slice_index_or card.ports c p) (slice_index_or cores c d)
    pub mesh : (a b : ℕ) (d : Core U E) (e : Link U E) → a < b → b < length cores → LinksAreTold (link_at cores a (b - 1) d e) (link_at cores b a d e)

  -- ## What a meeting changes
  -- A link learned what stands in its rings, and nothing else changed.
  pub record LinkLearned (old new : Link U E) : Type 0 where
    pub take : TakeEndLearned old.take new.take
    pub put : PutEndLearned old.put new.put
    pub rest : new ≡ record old { take = new.take; put = new.put }

  -- A core learned what stands in its rings, and nothing else changed.
  pub record CoreLearned (old new : Core U E) : Type 0 where
    pub items : TakeEndLearned old.items new.items
    pub posted : PutEndLearned old.posted new.posted
    pub count : length new.links.items ≡ length old.links.items
    pub links : (p : ℕ) (e : Link U E) → LinkLearned (slice_index_or old.links.items p e) (slice_index_or new.links.items p e)
    pub rest : new ≡ record old { items = new.items; posted = new.posted; links = new.links }

  -- the same of all cores
  pub record CoresLearned (old new : List (Core U E)) : Type 0 where
    pub count : length new ≡ length old
    pub each : (c : ℕ) (d : Core U E) → CoreLearned (slice_index_or old c d) (slice_index_or new c d)

  -- a core learned what stands in the rings of its link at one place alone
  pub record LinkMeets (p : ℕ) (old new : Core U E) : Type 0 where
    pub learned : CoreLearned old new
    pub others : (k : ℕ) (e : Link U E) → k ≢ p → slice_index_or new.links.items k e ≡ slice_index_or old.links.items k e

  -- one pair of cores met
  pub record PairMeets (a b : ℕ) (old new : List (Core U E)) : Type 0 where
    pub learned : CoresLearned old new
    pub others : (c p : ℕ) (d : Core U E) (e : Link U E) → (c ≢ a) ⊎ (p ≢ b - 1) → (c ≢ b) ⊎ (p ≢ a) → link_at new c p d e ≡ link_at old c p d e
    pub told : (d : Core U E) (e : Link U E) → LinksAreTold (link_at new a (b - 1) d e) (link_at new b a d e)

  -- a core met those of the cores before it that stand before a place, and the pairs of cores before it know what they knew
  pub record RowMeets (a b : ℕ) (old new : List (Core U E)) : Type 0 where
    pub learned : CoresLearned old new
    pub kept : (i j : ℕ) (d : Core U E) (e : Link U E) → i < j → j < b → LinksAreTold (link_at old i (j - 1) d e) (link_at old j i d e) → LinksAreTold (link_at new i (j - 1) d e) (link_at new j i d e)
    pub told : (i : ℕ) (d : Core U E) (e : Link U E) → i < a → LinksAreTold (link_at new i (b - 1) d e) (link_at new b i d e)

  -- the first cores met each other
  pub record FirstMeet (b : ℕ) (old new : List (Core U E)) : Type 0 where
    pub learned : CoresLearned old new
    pub told : (i j : ℕ) (d : Core U E) (e : Link U E) → i < j → j < b → LinksAreTold (link_at new i (j - 1) d e) (link_at new j i d e)

  -- ## The card and the cores
  -- the card and a core met, over the two rings between them alone
  pub record PortMeets (p p' : PortView) (c c' : Core U E) : Type 0 where
    pub port : PortLearned p p'
    pub core : CoreLearned c c'
    pub links : c'.links ≡ c.links
    pub told : PortIsTold p' c'

  -- the card met the first cores; what all cores know of one another stays
  pub record CardMeets (n : ℕ) (x y : CardView) (old new : List (Core U E)) : Type 0 where
    pub card : CardLearned x y
    pub cores : CoresLearned old new
    pub links : (c : ℕ) (d : Core U E) → (slice_index_or new c d).links ≡ (slice_index_or old c d).links
    pub told : (c : ℕ) (p : PortView) (d : Core U E) → c < n → PortIsTold (slice_index_or y.ports c p) (slice_index_or new c d)
