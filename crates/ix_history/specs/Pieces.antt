-- What a core's history says of one tenure of a group, and what the group's desks must then hold of it.
use Rattle.std.specs.Prelude.{◌≡◌, ◌≤◌, ◌⊎◌, ℕ, suc, ◌==◌, Bool, true, false, not, ◌&&◌, nat_lt, if◌then◌else◌, List, [], ◌∷◌, ◌++◌, Option, Some, None}
use Rattle.ix_desk.specs.declared.unit.DeskItem.{DeskItem}
use Rattle.ix_desk.specs.declared.unit.DeskItem.TheVariants.{Work, Tag, Cut, Start}
use Rattle.ix_desk.specs.Views.{Piece, CutPiece, Arrival, Group}
use Rattle.ix_desk.specs.Pieces.{joined}
use Rattle.ix_desk.specs.Tenures.{has_arrived}
use Rattle.ix_desk.specs.Steps.{UnitStepped}
use Rattle.ix_history.specs.Runs.{Runs}
use Rattle.ix_history.specs.Events.{Parcel, Part, nothing, item, common, arrival, work, parcel, loan}

-- what was heard of tenure k so far
pub record Account (U I : Type 0) : Type 0 where
  -- whether its piece began, whether that is open, and whether it was tagged
  pub begun : Bool
  pub is_open : Bool
  pub tagged : Bool
  -- the items of the piece before the tag and behind it
  pub before : List I
  pub behind : List I
  -- the cores that its cuts name
  pub to : List ℕ
  -- the units that arrived for it
  pub came : List (Arrival U I)
  -- what was shipped at its end
  pub gone : List (Parcel U I)

module _ {U I : Type 0} where
  abbrev pub item_noted : ℕ → Account U I → DeskItem I → Account U I
  item_noted k a (Work x) = if a.is_open then record {
    begun = a.begun;
    is_open = a.is_open;
    tagged = a.tagged;
    before = if a.tagged then a.before else a.before ++ x ∷ [];
    behind = if a.tagged then a.behind ++ x ∷ [] else a.behind;
    to = a.to;
    came = a.came;
    gone = a.gone;
  } else a
  item_noted k a Tag = if a.is_open then record { begun = a.begun; is_open = a.is_open; tagged = true; before = a.before; behind = a.behind; to = a.to; came = a.came; gone = a.gone } else a
  item_noted k a (Cut c) = if a.is_open then record { begun = a.begun; is_open = false; tagged = a.tagged; before = a.before; behind = a.behind; to = a.to ++ c.0 ∷ []; came = a.came; gone = a.gone } else a
  item_noted k a (Start j) = if j == k then record { begun = true; is_open = true; tagged = false; before = a.before; behind = a.behind; to = a.to; came = a.came; gone = a.gone } else record { begun = a.begun; is_open = false; tagged = a.tagged; before = a.before; behind = a.behind; to = a.to; came = a.came; gone = a.gone }

  -- nothing was heard yet
  abbrev pub no_news : Account U I
  no_news = record { begun = false; is_open = false; tagged = false; before = []; behind = []; to = []; came = []; gone = [] }

  -- the unit was at home
  abbrev pub home_news : U → Account U I
  home_news u = record { begun = true; is_open = true; tagged = false; before = []; behind = []; to = []; came = record { tenure = 0; unit = u; queue = [] } ∷ []; gone = [] }

  -- what a group holds of tenure k alone
  abbrev pub cut_at : ℕ → List (CutPiece U I) → List (CutPiece U I)
  cut_at k [] = []
  cut_at k (c ∷ cs) = if c.piece.tenure == k then c ∷ cut_at k cs else cut_at k cs

  abbrev pub current_at : ℕ → Option (Piece U I) → Option (Piece U I)
  current_at k None = None
  current_at k (Some p) = if p.tenure == k then Some p else None

  abbrev pub early_at : ℕ → List (Arrival U I) → List (Arrival U I)
  early_at k [] = []
  early_at k (a ∷ rest) = if a.tenure == k then a ∷ early_at k rest else early_at k rest

module _ {U I O : Type 0} where
  abbrev pub noted : ℕ → Account U I → Part U I O → Account U I
  noted k a nothing = a
  noted k a (item it) = item_noted k a it
  noted k a (common x) = item_noted k a (Work x)
  noted k a (arrival x) = if x.tenure == k then record { begun = a.begun; is_open = a.is_open; tagged = a.tagged; before = a.before; behind = a.behind; to = a.to; came = a.came ++ x ∷ []; gone = a.gone } else a
  noted k a work = a
  noted k a (loan u out v) = a
  noted k a (parcel s) = if s.tenure == suc k then record { begun = a.begun; is_open = a.is_open; tagged = a.tagged; before = a.before; behind = a.behind; to = a.to; came = a.came; gone = a.gone ++ s ∷ [] } else a

  abbrev pub account : ℕ → Account U I → List (Part U I O) → Account U I
  account k a [] = a
  account k a (p ∷ ps) = account k (noted k a p) ps

-- what was done to a unit: a step of items, or a loan and what it handed out
pub data Deed (I O : Type 0) : Type 0 where
  batch : List I → Deed I O
  loaned : O → Deed I O

abbrev pub items_in : {I O : Type 0} → Deed I O → List I
items_in (batch items) = items
items_in (loaned out) = []

-- a unit after steps of items, batch after batch, and loans between them
module _ {U I O E : Type 0} (counted : I → Bool) (name : I → ℕ) (stepped : U → List (ℕ × ℕ)) (advanced : U → E → ℕ → List I → U → Type 0) (lends : U → O → U → Type 0) (env : E) (here : ℕ) where
  abbrev pub Did : U → Deed I O → U → Type 0
  Did x (batch items) y = UnitStepped counted name stepped advanced env here items (Some x) (Some y)
  Did x (loaned out) y = lends x out y

  pub record Chain (x : U) (items : List I) (y : U) : Type 0 where
    pub deeds : List (Deed I O)
    pub whole : joined items_in deeds ≡ items
    pub runs : Runs Did x deeds y

  pub record Done (queue before waits : List I) (x y : U) : Type 0 where
    pub done : List I
    pub whole : queue ++ before ≡ done ++ waits
    pub chain : Chain x done y

  -- the unit of a piece, what waits before its tag, and what came of it
  abbrev pub Lived : List (Arrival U I) → Option U → List I → List I → List I → Type 0
  Lived [] None remote local before = (remote ≡ []) × (local ≡ before)
  Lived [] (Some u) remote local before = ⊥
  Lived (a ∷ []) None remote local before = ⊥
  Lived (a ∷ []) (Some u) remote local before = Done a.queue before (remote ++ local) a.unit u
  Lived (a ∷ b ∷ rest) None remote local before = ⊥
  Lived (a ∷ b ∷ rest) (Some u) remote local before = ⊥

  pub record Holds (k : ℕ) (a : Account U I) (p : Piece U I) : Type 0 where
    pub tenure : p.tenure ≡ k
    pub tagged : p.tagged ≡ a.tagged
    pub behind : p.behind ≡ a.behind
    pub lived : Lived a.came p.unit p.remote p.local a.before

  -- a unit of this tenure can only come where none came
  abbrev pub Once : ℕ → Account U I → Bool → Type 0
  Once k a arrived = (nat_lt 0 k && not arrived) ≡ true → a.came ≡ []

  -- the piece has not begun
  pub record Unbegun (k : ℕ) (a : Account U I) (g : Group U I) : Type 0 where
    pub begun : a.begun ≡ false
    pub is_open : a.is_open ≡ false
    pub tagged : a.tagged ≡ false
    pub before : a.before ≡ []
    pub behind : a.behind ≡ []
    pub to : a.to ≡ []
    pub gone : a.gone ≡ []
    pub no_cut : cut_at k g.cut ≡ []
    pub no_current : current_at k g.current ≡ None
    pub early : early_at k g.early ≡ a.came
    pub few : (a.came ≡ []) ⊎ ((b : Arrival U I) × (a.came ≡ b ∷ []))
    pub once : Once k a (has_arrived k g.arrived)

  -- items come to it
  pub record Opened (k : ℕ) (a : Account U I) (g : Group U I) : Type 0 where
    pub piece : Piece U I
    pub is : current_at k g.current ≡ Some piece
    pub holds : Holds k a piece
    pub begun : a.begun ≡ true
    pub is_open : a.is_open ≡ true
    pub to : a.to ≡ []
    pub gone : a.gone ≡ []
    pub no_cut : cut_at k g.cut ≡ []
    pub no_early : early_at k g.early ≡ []
    pub last : k ≤ g.last
    pub once : Once k a (has_arrived k g.arrived)

  -- it was cut
  pub record WasCut (k : ℕ) (a : Account U I) (g : Group U I) : Type 0 where
    pub piece : CutPiece U I
    pub is : cut_at k g.cut ≡ piece ∷ []
    pub holds : Holds k a piece.piece
    pub begun : a.begun ≡ true
    pub is_open : a.is_open ≡ false
    pub to : a.to ≡ piece.to ∷ []
    pub gone : a.gone ≡ []
    pub no_current : current_at k g.current ≡ None
    pub no_early : early_at k g.early ≡ []
    pub last : k ≤ g.last
    pub once : Once k a (has_arrived k g.arrived)

  -- What was shipped: the unit after its remote queue and its piece up to the tag, and as the next remote queue the rest of the piece.
  pub record Went (k : ℕ) (a : Account U I) : Type 0 where
    pub first : Arrival U I
    pub parcel : Parcel U I
    pub came : a.came ≡ first ∷ []
    pub gone : a.gone ≡ parcel ∷ []
    pub to : a.to ≡ parcel.to ∷ []
    pub next : parcel.tenure ≡ suc k
    pub queue : parcel.queue ≡ a.behind
    pub chain : Chain first.unit (first.queue ++ a.before) parcel.unit

  -- its unit has left
  pub record Over (k : ℕ) (a : Account U I) (g : Group U I) : Type 0 where
    pub went : Went k a
    pub begun : a.begun ≡ true
    pub is_open : a.is_open ≡ false
    pub no_cut : cut_at k g.cut ≡ []
    pub no_current : current_at k g.current ≡ None
    pub no_early : early_at k g.early ≡ []
    pub last : k ≤ g.last
    pub once : Once k a (has_arrived k g.arrived)

  pub data Stands (k : ℕ) (a : Account U I) (g : Group U I) : Type 0 where
    unbegun : Unbegun k a g → Stands k a g
    opened : Opened k a g → Stands k a g
    was_cut : WasCut k a g → Stands k a g
    over : Over k a g → Stands k a g
