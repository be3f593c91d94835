-- A core's side of the rings between it and the others.
use Rattle.std.specs.Prelude.{◌≡◌, ◌≢◌, Some, ◌+◌, ◌<◌, ◌≤◌, ◌⊎◌, ◌==◌, ◌&&◌, nat_lt, ℕ, zero, suc, Bool, false, not, if◌then◌else◌, List, [], ◌∷◌, ◌++◌, length, map, slice_index_or, sum_by}
use Rattle.std.specs.List.{list_any}
use Rattle.ix_mbuf.specs.declared.name.Name.{Name}
use Rattle.ix_mbuf.specs.Buffers.{Buffer, buffers_weight}
use Rattle.ix_ring.specs.Views.{PutView, TakeView}
use Rattle.ix_ring.specs.Ends.{known, put_list, spare, taken, SamePutEnd, SameTakeEnd}
use Rattle.ix_desk.specs.declared.unit.Shipment.{Shipment}
use Rattle.ix_desk.specs.Views.{View}
use Rattle.ix_desk.specs.Pieces.{joined}
use Rattle.ix_desk.specs.Groups.{unit_of}
use Rattle.ix_desk.specs.Desks.{group_at}
use Rattle.ix_stack.specs.declared.work.Work.{Work}
use Rattle.ix_core.specs.declared.message.Message.{Message}
use Rattle.ix_core.specs.declared.message.MeshEnd.{MeshEnd}
use Rattle.ix_core.specs.declared.link.Link.{Link}
use Rattle.ix_history.specs.Events.{Parcel}
use Rattle.ix_core.specs.Runs.{Calm}
use Rattle.ix_core.specs.Landing.{FirstUnawaited, home_in, landing_of, parcel_of, ship_in}

-- a unit that just handed out all that it doesn't need any more
pub record IsDrained {U : Type 0} (drained : U → List Buffer → U → Type 0) (unit : U) : Type 0 where
  pub before : U
  pub bufs : List Buffer
  pub so : drained before bufs unit

-- the same rings from and to the same core
pub record SameLink {U E : Type 0} (old new : Link U E) : Type 0 where
  pub core : new.core ≡ old.core
  pub take : SameTakeEnd old.take new.take
  pub put : SamePutEnd old.put new.put

-- messages wait only where the ring gave one back
abbrev pub IsBehind : {U E : Type 0} → Link U E → Type 0
IsBehind l = (l.waiting.items ≡ []) ⊎ (spare l.put ≡ 0)

-- a message waits behind those that wait
pub record Keeps {U E : Type 0} (m : Message U E) (old new : Link U E) : Type 0 where
  pub take : new.take ≡ old.take
  pub ships : new.ships ≡ old.ships
  pub put : new.put ≡ old.put
  pub waiting : new.waiting.items ≡ old.waiting.items ++ m ∷ []

-- messages that waited were put
pub record Sends {U E : Type 0} (old new : Link U E) : Type 0 where
  pub take : new.take ≡ old.take
  pub ships : new.ships ≡ old.ships
  pub sent : List (Message U E)
  pub put : put_list new.put ≡ put_list old.put ++ sent
  pub waited : old.waiting.items ≡ sent ++ new.waiting.items

module _ {U E : Type 0} (counted : Work → Bool) (name : Work → ℕ) (stepped : U → List (ℕ × ℕ)) (advanced : U → E → ℕ → List Work → U → Type 0) (drained : U → List Buffer → U → Type 0) (env : E) where
  -- Messages of the core at a place were taken, up to 256 or all that there were; the flow groups that were awaited went to the desks, in
  -- order, and the buffers are to be given back.
  pub record Hears (place : ℕ) (some : Bool) (old new : Link U E) (x y : View U Work) (before after : List Buffer) : Type 0 where
    pub messages : List (Message U E)
    pub landed : List (Shipment U Work E)
    pub heard : taken new.take ≡ taken old.take ++ messages
    pub ships : old.ships.items ++ joined ship_in messages ≡ landed ++ new.ships.items
    pub waits : FirstUnawaited y new.ships.items
    pub run : Calm counted name stepped advanced drained env x y [] (map (landing_of place) landed) [] []
    pub homes : after ≡ before ++ joined home_in messages
    pub came : some ≡ nat_lt 0 (length messages)
    pub stops : (length messages ≡ 256) ⊎ ((length messages < 256) × (known new.take ≡ []))
    pub put : new.put ≡ old.put
    pub waiting : new.waiting.items ≡ old.waiting.items

-- a link at the opening: over these ends, with nothing kept
pub record IsOpenedLink {U E : Type 0} (ends : MeshEnd U E) (new : Link U E) : Type 0 where
  pub core : new.core ≡ ends.core
  pub take : new.take ≡ ends.take
  pub put : new.put ≡ ends.put
  pub ships : new.ships.items ≡ []
  pub waiting : new.waiting.items ≡ []

-- one link for each
abbrev pub AreOpened : {U E : Type 0} → List (MeshEnd U E) → List (Link U E) → Type 0
AreOpened [] [] = Unit {0}
AreOpened (e ∷ ends) (l ∷ links) = IsOpenedLink e l × AreOpened ends links
AreOpened [] (l ∷ links) = ⊥
AreOpened (e ∷ ends) [] = ⊥

-- Messages were taken over a link in one turn: 256, or all that there were.
pub record HeardUp {U E : Type 0} (old new : Link U E) : Type 0 where
  pub messages : List (Message U E)
  pub heard : taken new.take ≡ taken old.take ++ messages
  pub stops : (length messages ≡ 256) ⊎ ((length messages < 256) × (known new.take ≡ []))

-- where flow groups are kept of a link, the first of them isn't awaited
abbrev pub AllUnawaited : {U E : Type 0} → View U Work → List (Link U E) → Type 0
AllUnawaited {U} {E} v links = (i : ℕ) (d : Link U E) → i < length links → FirstUnawaited v (slice_index_or links i d).ships.items

-- the ends of links that take, and those that put
abbrev pub takes_of : {U E : Type 0} → List (Link U E) → List (TakeView (Message U E))
takes_of links = map (λ l. l.take) links

abbrev pub puts_of : {U E : Type 0} → List (Link U E) → List (PutView (Message U E))
puts_of links = map (λ l. l.put) links

-- how many messages were ever taken over links
abbrev pub all_taken : {U E : Type 0} → List (Link U E) → ℕ
all_taken links = sum_by (λ l. length (taken l.take)) links

-- how many were ever put on their rings, and with those that wait for a place
abbrev pub all_put : {U E : Type 0} → List (Link U E) → ℕ
all_put links = sum_by (λ l. length (put_list l.put)) links

abbrev pub all_out : {U E : Type 0} → List (Link U E) → ℕ
all_out links = sum_by (λ l. length (put_list l.put) + length l.waiting.items) links

-- a message waits
abbrev pub link_waits : {U E : Type 0} → Link U E → Bool
link_waits l = nat_lt 0 (length l.waiting.items)

-- the cores of links
abbrev pub cores_of : {U E : Type 0} → List (Link U E) → List ℕ
cores_of links = map (λ l. l.core.0) links

-- these lists of buffers, one behind the other
abbrev pub all_of : List (List Buffer) → List Buffer
all_of lists = joined (λ bufs. bufs) lists

-- whether a core stands in a list of cores first at a place
abbrev pub is_first : List ℕ → ℕ → ℕ → Bool
is_first [] place core = false
is_first (c ∷ cores) zero core = c == core
is_first (c ∷ cores) (suc place) core = not (c == core) && is_first cores place core

-- whether a core stands there at all
abbrev pub is_known : List ℕ → ℕ → Bool
is_known cores core = list_any (λ c. c == core) cores

-- the landings from the core at a place
abbrev pub from_place : {U : Type 0} → ℕ → ℕ × Parcel U Work → List (Parcel U Work)
from_place place x = if x.0 == place then x.1 ∷ [] else []

-- the flow groups, and the buffers, that go to the core at a place
abbrev pub parcel_to : {U : Type 0} → List ℕ → ℕ → Parcel U Work → List (Parcel U Work)
parcel_to cores place s = if is_first cores place s.to then s ∷ [] else []

abbrev pub buffer_to : List ℕ → ℕ → Buffer → List Buffer
buffer_to cores place b = if is_first cores place b.name.id.home.0 then b ∷ [] else []

-- the flow groups, and the buffers, that go to no core of the list
abbrev pub parcel_lost : {U : Type 0} → List ℕ → Parcel U Work → List (Parcel U Work)
parcel_lost cores s = if is_known cores s.to then [] else s ∷ []

abbrev pub buffer_left : List ℕ → Buffer → List Buffer
buffer_left cores b = if is_known cores b.name.id.home.0 then [] else b ∷ []

-- What turns make of a link: messages that were heard, of which flow groups landed, and messages that are put or wait, which are the flow
-- groups that left for its core and the buffers whose home is there.
pub record LinkRan {U E : Type 0} (cores : List ℕ) (place : ℕ) (ins : List (ℕ × Parcel U Work)) (bufs : List Buffer) (outs : List (Parcel U Work)) (old new : Link U E) : Type 0 where
  pub messages : List (Message U E)
  pub landed : List (Shipment U Work E)
  pub sent : List (Message U E)
  pub heard : taken new.take ≡ taken old.take ++ messages
  pub ships : old.ships.items ++ joined ship_in messages ≡ landed ++ new.ships.items
  pub landings : map parcel_of landed ≡ joined (from_place place) ins
  pub puts : List (Message U E)
  pub grown : put_list new.put ≡ put_list old.put ++ puts
  pub put : put_list new.put ++ new.waiting.items ≡ put_list old.put ++ (old.waiting.items ++ sent)
  pub shipments : map parcel_of (joined ship_in sent) ≡ joined (parcel_to cores place) outs
  pub homes : joined home_in sent ≡ joined (buffer_to cores place) bufs

-- what turns make of all links
pub record LinksRan {U E : Type 0} (ins : List (ℕ × Parcel U Work)) (bufs : List Buffer) (outs : List (Parcel U Work)) (old new : List (Link U E)) : Type 0 where
  pub cores : cores_of new ≡ cores_of old
  pub count : length new ≡ length old
  pub each : (i : ℕ) (d : Link U E) → i < length old → LinkRan (cores_of old) i ins bufs outs (slice_index_or old i d) (slice_index_or new i d)
  -- nothing lands from elsewhere
  pub none : (i : ℕ) → length old ≤ i → joined (from_place {U = U} i) ins ≡ []

-- the same rings to and from the same cores
pub record SameLinks {U E : Type 0} (old new : List (Link U E)) : Type 0 where
  pub count : length new ≡ length old
  pub each : (i : ℕ) (d : Link U E) → SameLink (slice_index_or old i d) (slice_index_or new i d)

-- what the buffers weigh that ever came back over these links
abbrev pub homes_weight : {U E : Type 0} → (Name → ℕ) → List (Link U E) → ℕ
homes_weight f links = sum_by (λ l. buffers_weight f (joined home_in (taken l.take))) links

module _ {U E : Type 0} (counted : Work → Bool) (name : Work → ℕ) (stepped : U → List (ℕ × ℕ)) (advanced : U → E → ℕ → List Work → U → Type 0) (drained : U → List Buffer → U → Type 0) (env : E) where
  -- the messages of the other cores were heard
  pub record HearsAll (some : Bool) (old new : List (Link U E)) (x y : View U Work) (before after : List Buffer) : Type 0 where
    pub ins : List (ℕ × Parcel U Work)
    pub run : Calm counted name stepped advanced drained env x y [] ins [] []
    pub links : LinksRan ins [] [] old new
    pub puts : puts_of new ≡ puts_of old
    pub stops : (i : ℕ) (d : Link U E) → i < length old → HeardUp (slice_index_or old i d) (slice_index_or new i d)
    pub aside : AllUnawaited y new
    pub came : some ≡ nat_lt (all_taken old) (all_taken new)
    pub weight : (f : Name → ℕ) → buffers_weight f after + homes_weight f old ≡ buffers_weight f before + homes_weight f new

  -- those of the first cores were heard
  pub record HearsSome (n : ℕ) (some : Bool) (old new : List (Link U E)) (x y : View U Work) (before after : List Buffer) : Type 0 where
    pub ins : List (ℕ × Parcel U Work)
    pub run : Calm counted name stepped advanced drained env x y [] ins [] []
    pub cores : cores_of new ≡ cores_of old
    pub count : length new ≡ length old
    pub done : (i : ℕ) (d : Link U E) → i < n → LinkRan (cores_of old) i ins [] [] (slice_index_or old i d) (slice_index_or new i d)
    pub rest : (i : ℕ) (d : Link U E) → n ≤ i → slice_index_or new i d ≡ slice_index_or old i d
    pub puts : puts_of new ≡ puts_of old
    pub stops : (i : ℕ) (d : Link U E) → i < n → HeardUp (slice_index_or old i d) (slice_index_or new i d)
    pub aside : (i : ℕ) (d : Link U E) → i < n → FirstUnawaited y (slice_index_or new i d).ships.items
    pub more : all_taken old ≤ all_taken new
    pub came : some ≡ nat_lt (all_taken old) (all_taken new)
    pub none : (i : ℕ) → n ≤ i → joined (from_place {U = U} i) ins ≡ []
    pub weight : (f : Name → ℕ) → buffers_weight f after + homes_weight f old ≡ buffers_weight f before + homes_weight f new

  -- What units gave free: a buffer whose home is another core waits to go there, and any other is to be given to the pool.
  pub record Drains (old new : List (Link U E)) (x y : View U Work) (before after : List Buffer) : Type 0 where
    pub frees : List (List Buffer)
    pub run : Calm counted name stepped advanced drained env x y [] [] frees []
    pub links : LinksRan [] (all_of frees) [] old new
    pub takes : takes_of new ≡ takes_of old
    pub puts : puts_of new ≡ puts_of old
    pub kept : after ≡ before ++ joined (buffer_left (cores_of old)) (all_of frees)
    pub clean : (g : ℕ) (u : U) → g < 512 → unit_of (group_at y g) ≡ Some u → IsDrained drained u

  -- the same of the first flow groups
  pub record DrainsSome (n : ℕ) (old new : List (Link U E)) (x y : View U Work) (before after : List Buffer) : Type 0 where
    pub frees : List (List Buffer)
    pub run : Calm counted name stepped advanced drained env x y [] [] frees []
    pub links : LinksRan [] (all_of frees) [] old new
    pub takes : takes_of new ≡ takes_of old
    pub puts : puts_of new ≡ puts_of old
    pub kept : after ≡ before ++ joined (buffer_left (cores_of old)) (all_of frees)
    pub clean : (g : ℕ) (u : U) → g < n → unit_of (group_at y g) ≡ Some u → IsDrained drained u

  -- Flow groups that left: each waits to go to its core, and one for a core that isn't there is kept.
  pub record Leaves (old new : List (Link U E)) (x y : View U Work) (before after : List (Shipment U Work E)) : Type 0 where
    pub outs : List (Parcel U Work)
    pub run : Calm counted name stepped advanced drained env x y [] [] [] outs
    pub links : LinksRan [] [] outs old new
    pub takes : takes_of new ≡ takes_of old
    pub puts : puts_of new ≡ puts_of old
    pub lost : map parcel_of after ≡ map parcel_of before ++ joined (parcel_lost (cores_of old)) outs

-- a buffer waits to go home, or is to be given to the pool
pub record Brings {U E : Type 0} (bufs : List Buffer) (old new : List (Link U E)) (before after : List Buffer) : Type 0 where
  pub links : LinksRan [] bufs [] old new
  pub takes : takes_of new ≡ takes_of old
  pub puts : puts_of new ≡ puts_of old
  pub kept : after ≡ before ++ joined (buffer_left (cores_of old)) bufs

-- a flow group waits to go to its core, or is kept
pub record Departs {U E : Type 0} (ship : Shipment U Work E) (old new : List (Link U E)) (before after : List (Shipment U Work E)) : Type 0 where
  pub links : LinksRan [] [] (parcel_of ship ∷ []) old new
  pub takes : takes_of new ≡ takes_of old
  pub puts : puts_of new ≡ puts_of old
  pub lost : map parcel_of after ≡ map parcel_of before ++ parcel_lost (cores_of old) (parcel_of ship)

-- messages wait only where their ring gave one back
abbrev pub AllBehind : {U E : Type 0} → List (Link U E) → Type 0
AllBehind {U} {E} links = (i : ℕ) (d : Link U E) → i < length links → IsBehind (slice_index_or links i d)

module _ {U E : Type 0} (counted : Work → Bool) (name : Work → ℕ) (stepped : U → List (ℕ × ℕ)) (advanced : U → E → ℕ → List Work → U → Type 0) (drained : U → List Buffer → U → Type 0) (env : E) where
  -- a flow group that is here gave these buffers free, and one that isn't gave none
  pub record Frees (g : ℕ) (bufs : List Buffer) (x y : View U Work) : Type 0 where
    pub frees : List (List Buffer)
    pub run : Calm counted name stepped advanced drained env x y [] [] frees []
    pub all : all_of frees ≡ bufs
    pub clean : (u : U) → unit_of (group_at y g) ≡ Some u → IsDrained drained u
    pub others : (h : ℕ) → h ≢ g → group_at y h ≡ group_at x h
