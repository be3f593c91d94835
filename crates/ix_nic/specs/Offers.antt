-- What becomes of one ring where a frame is offered, and where its ends meet or are made anew.
use Rattle.std.specs.Prelude.{◌≡◌, ◌≤◌, ◌<◌, ◌+◌, ◌-◌, ◌++◌, ◌⊎◌, ℕ, List, [], ◌∷◌, length, Option, Some, None}
use mathlib.Core.List.{IsPrefix}
use Rattle.ix_base.specs.declared.id.BufId.{BufId}
use Rattle.ix_base.specs.declared.id.CoreId.{CoreId}
use Rattle.ix_base.specs.declared.id.GroupId.{GroupId}
use Rattle.ix_base.specs.declared.id.WireNo.{WireNo}
use Rattle.ix_base.specs.declared.id.TheConstants.{BUFFER_BYTES}
use Rattle.ix_mbuf.specs.Buffers.{Buffer, next_use}
use Rattle.ix_ring.specs.Views.{PutView, TakeView}
use Rattle.ix_ring.specs.Ends.{SamePutEnd, SameTakeEnd, IsRing, put_list, spare, places, taken, known}
use Rattle.ix_stack.specs.declared.item.Item.{Item}
use Rattle.ix_stack.specs.declared.item.Item.TheVariants.{Frame}
use Rattle.ix_nic.specs.declared.offer.Offer.{Offer}
use Rattle.ix_nic.specs.declared.offer.Offer.TheVariants.{TooLong, RingFull, NoBuffer, Accepted}
use Rattle.ix_nic.specs.declared.port.Refusal.{Refusal}
use Rattle.ix_nic.specs.declared.port.Refusal.TheVariants as refusals
use Rattle.ix_nic.specs.Ports.{PortView, whole, one_more, kept_count, PutsOn, Puts, TakesNext}

-- the buffer with a frame in it
abbrev pub filled : Buffer → List ℕ → Buffer
filled buf frame = record { name = next_use buf.name; bytes = frame }

-- ## The answers
-- A frame stands on the ring behind all else, in the buffer that was taken for it.
pub record Accepts (w : WireNo) (group : GroupId) (frame : List ℕ) (id : BufId) (old new : PortView) : Type 0 where
  pub buf : Buffer
  pub takes : TakesNext old.kept old.posts buf new.posts
  pub id_is : id ≡ buf.name.id
  pub ring : PutsOn old.ring new.ring
  pub whole : whole new ≡ whole old ++ Frame w group (filled buf frame) ∷ []
  pub rest : new ≡ record old { ring = new.ring; behind = []; posts = new.posts; kept = None; items = one_more old.items; frames = one_more old.frames }

-- Items stand behind the ring, since it gave the first of them back; a frame would pass them.
pub record StandsBehind (old new : PortView) : Type 0 where
  pub ring : PutsOn old.ring new.ring
  pub whole : whole new ≡ whole old
  pub behind : 0 < length new.behind
  pub full : spare new.ring ≡ 0
  pub rest : new ≡ record old { ring = new.ring; behind = new.behind }

-- The ring gave the frame back, and its buffer is kept.
pub record GivesBack (frame : List ℕ) (old new : PortView) : Type 0 where
  pub buf : Buffer
  pub takes : TakesNext old.kept old.posts buf new.posts
  pub ring : PutsOn old.ring new.ring
  pub whole : whole new ≡ whole old
  pub full : spare new.ring ≡ 0
  pub rest : new ≡ record old { ring = new.ring; behind = []; posts = new.posts; kept = Some (filled buf frame) }

-- A ring is full only with 512 items or more since the last settle.
pub record IsFull (frame : List ℕ) (old new : PortView) : Type 0 where
  pub items : 512 ≤ old.items
  pub cause : StandsBehind old new ⊎ GivesBack frame old new

-- There is no buffer, only after as many frames since the last settle as buffers were posted at it.
pub record LacksBuffer (old new : PortView) : Type 0 where
  pub frames : old.posted ≤ old.frames
  pub none_kept : old.kept ≡ None
  pub none_known : known old.posts ≡ []
  pub ring : PutsOn old.ring new.ring
  pub whole : whole new ≡ whole old
  pub rest : new ≡ record old { ring = new.ring; behind = [] }

-- why the ring takes no frame
abbrev pub Refuses : List ℕ → Refusal → PortView → PortView → Type 0
Refuses frame refusals.RingFull old new = IsFull frame old new
Refuses frame refusals.NoBuffer old new = LacksBuffer old new

-- what an answer about a frame of this group says of the ring of its core
abbrev pub Answers : WireNo → ℕ → CoreId → List ℕ → Offer → PortView → PortView → Type 0
Answers w g core frame (TooLong len) old new = (len ≡ length frame) × (BUFFER_BYTES < length frame) × Puts None old new
Answers w g core frame (RingFull ring group items) old new =
    (ring ≡ core) × (group.0 ≡ g) × (length frame ≤ BUFFER_BYTES) × (items ≡ old.items) × IsFull frame old new
Answers w g core frame (NoBuffer ring group frames) old new =
    (ring ≡ core) × (group.0 ≡ g) × (length frame ≤ BUFFER_BYTES) × (frames ≡ old.frames) × LacksBuffer old new
Answers w g core frame (Accepted ring group buf) old new =
    (ring ≡ core) × (group.0 ≡ g) × (length frame ≤ BUFFER_BYTES) × Accepts w group frame buf old new

-- ## Buffers that are handed out
abbrev pub TakesPosted : Option Buffer → PortView → PortView → Type 0
TakesPosted None old new = (new ≡ old) × (known old.posts ≡ [])
TakesPosted (Some buf) old new =
    (new ≡ record old { posts = new.posts; posted = old.posted - 1 }) × SameTakeEnd old.posts new.posts
    × (taken new.posts ≡ taken old.posts ++ buf ∷ []) × IsPrefix (known old.posts) (buf ∷ known new.posts)

-- the ring without the buffer that it kept
abbrev pub unkept : PortView → PortView
unkept p = record p { kept = None; posted = p.posted - kept_count p.kept }

-- ## Both ends of both rings
-- what a meeting tells the two ends of a ring
pub record Meets {T : Type 0} (put : PutView T) (take : TakeView T) (put' : PutView T) (take' : TakeView T) : Type 0 where
  pub pair : IsRing put' take'
  pub ring : SamePutEnd put put'
  pub put_same : put_list put' ≡ put_list put
  pub taken_same : taken take' ≡ taken take
  pub known_more : IsPrefix (known take) (known take')
  pub all : put_list put' ≡ taken take' ++ known take'
  pub room : spare put' + length (known take') ≡ places put'
  pub no_less : spare put ≤ spare put'

-- a ring that is made anew: it has the items that were left, and its put end knows all of the room
pub record Freshens {T : Type 0} (put : PutView T) (take : TakeView T) (put' : PutView T) (take' : TakeView T) : Type 0 where
  pub pair : IsRing put' take'
  pub places_same : places put' ≡ places put
  pub left : put_list put ≡ taken take ++ put_list put'
  pub none_taken : taken take' ≡ []
  pub all_known : known take' ≡ put_list put'
  pub room : spare put' + length (known take') ≡ places put'

-- both rings of a core
pub record BothMeet (old new : PortView) (items items' : TakeView Item) (posted posted' : PutView Buffer) : Type 0 where
  pub items_meet : Meets old.ring items new.ring items'
  pub posts_meet : Meets posted old.posts posted' new.posts
  pub rest : new ≡ record old { ring = new.ring; posts = new.posts }

pub record BothFreshen (old new : PortView) (items items' : TakeView Item) (posted posted' : PutView Buffer) : Type 0 where
  pub items_fresh : Freshens old.ring items new.ring items'
  pub posts_fresh : Freshens posted old.posts posted' new.posts
  pub rest : new ≡ record old { ring = new.ring; posts = new.posts }

-- for want of memory: the ends are those of rings of as many places, with the items that they had
pub record BothKeep (old new : PortView) (items items' : TakeView Item) (posted posted' : PutView Buffer) : Type 0 where
  pub items_pair : IsRing new.ring items'
  pub items_places : places new.ring ≡ places old.ring
  pub items_empty : put_list new.ring ≡ taken items'
  pub items_spare : spare old.ring ≤ spare new.ring
  pub posts_pair : IsRing posted' new.posts
  pub posts_places : places posted' ≡ places posted
  pub posts_put : put_list posted' ≡ put_list posted
  pub posts_taken : taken new.posts ≡ taken old.posts
  pub posts_spare : spare posted ≤ spare posted'
  pub rest : new ≡ record old { ring = new.ring; posts = new.posts }
