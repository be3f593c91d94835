-- What one core did in one tenure of a group.
use Rattle.std.specs.Prelude.{◌≡◌, ◌⊎◌, ℕ, suc, Bool, true, false, if◌then◌else◌, List, [], ◌++◌, Option, Some, None}
use Rattle.ix_desk.specs.Views.{Piece, CutPiece, Arrival, View}
use Rattle.ix_desk.specs.Pieces.{ready}
use Rattle.ix_desk.specs.Desks.{group_at}
use Rattle.ix_history.specs.Events.{Parcel, Event, came, gone, arrival_of}
use Rattle.ix_history.specs.Items.{taken_in, items_part}
use Rattle.ix_history.specs.Pieces.{Chain, Done}
use Rattle.ix_history.specs.Join.{In}

-- the piece that is open at the opening
abbrev pub open_first : Bool → Option ℕ
open_first home = if home then Some 0 else None

-- the unit was at home from the opening on, with nothing that it brought along
pub record WasHome {U I : Type 0} (home : Bool) (unit : U) (k : ℕ) (first : Arrival U I) : Type 0 where
  pub home_is : home ≡ true
  pub tenure : k ≡ 0
  pub is : first ≡ record { tenure = 0; unit = unit; queue = [] }

module _ {U I O : Type 0} where
  -- the unit came from a core
  pub record CameFrom (g k : ℕ) (history : List (Event U I O)) (first : Arrival U I) : Type 0 where
    pub core : ℕ
    pub parcel : Parcel U I
    pub event : In (came core parcel) history
    pub group : parcel.group ≡ g
    pub tenure : parcel.tenure ≡ k
    pub is : first ≡ arrival_of parcel

  abbrev pub CameSomehow : ℕ → ℕ → Bool → U → List (Event U I O) → Arrival U I → Type 0
  CameSomehow g k home unit history first = WasHome home unit k first ⊎ CameFrom g k history first

  -- the piece of tenure k in what this core took, before its tag and behind it
  abbrev pub own_part : (I → ℕ) → ℕ → ℕ → Bool → Bool → List (Event U I O) → List I
  own_part name g k home b history = items_part name g k b (open_first home) false (taken_in history)

module _ {U I O E : Type 0} (counted : I → Bool) (name : I → ℕ) (stepped : U → List (ℕ × ℕ)) (advanced : U → E → ℕ → List I → U → Type 0) (lends : U → O → U → Type 0) (env : E) (here g k : ℕ) (home : Bool) (unit : U) (history : List (Event U I O)) where
  -- A unit that was shipped at the end of tenure k has stepped the remote queue that it came with, and then its piece up to the tag. Its next
  -- remote queue is the rest of the piece.
  pub record ShippedLaw (s : Parcel U I) : Type 0 where
    pub first : Arrival U I
    pub came_so : CameSomehow g k home unit history first
    pub stepped_all : Chain counted name stepped advanced lends env here first.unit (first.queue ++ own_part name g k home false history) s.unit
    pub queue : s.queue ≡ own_part name g k home true history

  -- A unit that is here in tenure k has stepped the first of these, and the others are ready. What stands behind the tag waits.
  pub record HereLaw (p : Piece U I) (u : U) : Type 0 where
    pub first : Arrival U I
    pub came_so : CameSomehow g k home unit history first
    pub so_far : Done counted name stepped advanced lends env here first.queue (own_part name g k home false history) (ready p) first.unit u
    pub behind : p.behind ≡ own_part name g k home true history

  -- Where the unit isn't here, all that was taken waits.
  pub record AwayLaw (p : Piece U I) : Type 0 where
    pub remote : p.remote ≡ []
    pub local : p.local ≡ own_part name g k home false history
    pub behind : p.behind ≡ own_part name g k home true history

  abbrev pub PieceIs : Piece U I → Option U → Type 0
  PieceIs p (Some u) = HereLaw p u
  PieceIs p None = AwayLaw p

  pub record TenureLaw (y : View U I) : Type 0 where
    pub shipped : (s : Parcel U I) → In (gone s) history → s.group ≡ g → s.tenure ≡ suc k → ShippedLaw s
    -- of a piece that was cut, and of the one to which items come
    pub cut : (c : CutPiece U I) → In c (group_at y g).cut → c.piece.tenure ≡ k → PieceIs c.piece c.piece.unit
    pub current : (p : Piece U I) → (group_at y g).current ≡ Some p → p.tenure ≡ k → PieceIs p p.unit
