-- From one moment to the next: the unit of a group at the second is that at the first, after some acts.
use Rattle.std.specs.Prelude.{◌≡◌, ◌<◌, ◌≤◌, ℕ, Bool, List, [], length, Option, Some, None}
use Rattle.ix_desk.specs.Desks.{group_at}
use Rattle.ix_desk.specs.Views.{Piece, View}
use Rattle.ix_history.specs.Events.{Event, Happened, Parcel, came, worked}
use Rattle.ix_history.specs.Items.{came_from, gone_to, taken_in}
use Rattle.ix_history.specs.Join.{In}
use Rattle.ix_history.specs.Runs.{Runs}
use Rattle.ix_deeds.specs.Acts.{Act, DidAct}
use Rattle.ix_deeds.specs.Right.{AreRight, IsOpen, WaitsRight, open_behind, tagged_behind}

-- The unit of g is this one, on this core of n alone, in the piece to which items come, and what waits there is right.
pub record IsSeated {U I : Type 0} (name : I → ℕ) (tenure_of : ℕ → ℕ) (named : ℕ → I) (n g : ℕ) (y : ℕ → View U I) (core : ℕ) (unit : U) : Type 0 where
  pub within : core < n
  pub piece : Piece U I
  pub is : (group_at (y core) g).current ≡ Some piece
  pub there : piece.unit ≡ Some unit
  pub waits : WaitsRight name tenure_of named piece
  pub no_cut : (c : ℕ) → c < n → (group_at (y c) g).cut ≡ []
  pub no_early : (c : ℕ) → c < n → (group_at (y c) g).early ≡ []
  pub no_current : (c : ℕ) → c < n → (c ≡ core → ⊥) → (group_at (y c) g).current ≡ None

-- no work of these events is of more than so many items that count
abbrev pub AreBounded : {U I O : Type 0} → ℕ → List (Event U I O) → Type 0
AreBounded bound events = (max : ℕ) → In (worked max) events → max ≤ bound

module _ {U I O E : Type 0} (counted : I → Bool) (name : I → ℕ) (stepped : U → List (ℕ × ℕ)) (advanced : U → E → ℕ → List I → U → Type 0) (lends : U → O → U → Type 0) where
  -- n cores went on from x to y, within a bound: each took items that stand right behind what it took before, and what one shipped to another
  -- came there from it.
  pub record WentOn (env : E) (tenure_of : ℕ → ℕ) (named : ℕ → I) (bound n g : ℕ) (x y : ℕ → View U I) (more : ℕ → List (Event U I O)) (o : ℕ → Option ℕ) (f : ℕ → Bool) : Type 0 where
    pub size : (c : ℕ) → c < n → length (x c).groups ≡ 512
    pub here : (c : ℕ) → c < n → (x c).core ≡ c
    pub runs : (c : ℕ) → c < n → Runs (Happened counted name stepped advanced lends env) (x c) (more c) (y c)
    pub bounds : (c : ℕ) → c < n → AreBounded bound (more c)
    pub mesh : (c d : ℕ) → c < n → d < n → gone_to d (more c) ≡ came_from c (more d)
    pub from : (c d : ℕ) (s : Parcel U I) → d < n → In (came c s) (more d) → c < n
    pub is_open : (c : ℕ) → c < n → IsOpen (o c) (f c) (group_at (x c) g).current
    pub right : (c : ℕ) → c < n → AreRight name tenure_of named g (o c) (f c) (taken_in (more c))

  -- What was done to a unit, and what waits at its piece.
  pub record WasDone (env : E) (tenure_of : ℕ → ℕ) (named : ℕ → I) (bound : ℕ) (u : U) (p : Piece U I) (v : U) : Type 0 where
    pub acts : List (Act I O)
    pub runs : Runs (DidAct counted name stepped advanced lends env tenure_of named bound) u acts v
    pub waits : WaitsRight name tenure_of named p

  -- The unit in a group's open piece at the second moment is that of the first after some acts, each on items of one tenure and within the
  -- bound.
  abbrev pub UnitsGoOn : Type 0
  UnitsGoOn =
      (env : E) (tenure_of : ℕ → ℕ) (named : ℕ → I) (bound n g : ℕ) (x y : ℕ → View U I) (more : ℕ → List (Event U I O)) (o : ℕ → Option ℕ) (f : ℕ → Bool)
      → g < 512 → WentOn env tenure_of named bound n g x y more o f
      → (core : ℕ) (unit : U) → IsSeated name tenure_of named n g x core unit
      → (c : ℕ) (p : Piece U I) (v : U) → c < n → (group_at (y c) g).current ≡ Some p → p.unit ≡ Some v
      → WasDone env tenure_of named bound unit p v

  -- Behind a history the open piece of a group is the one that the items of the ring open.
  abbrev pub PiecesAreOpen : Type 0
  PiecesAreOpen =
      (env : E) (g : ℕ) (x y : View U I) (history : List (Event U I O)) (o : Option ℕ) (f : Bool) → length x.groups ≡ 512 → g < 512
      → Runs (Happened counted name stepped advanced lends env) x history y → IsOpen o f (group_at x g).current
      → IsOpen (open_behind name g o (taken_in history)) (tagged_behind name g f (taken_in history)) (group_at y g).current

  -- A core keeps its number, and has desks for as many groups.
  pub record DesksStay (x y : View U I) : Type 0 where
    pub core : y.core ≡ x.core
    pub size : length y.groups ≡ length x.groups

  abbrev pub AllDesksStay : Type 0
  AllDesksStay = (env : E) (x y : View U I) (history : List (Event U I O)) → Runs (Happened counted name stepped advanced lends env) x history y → DesksStay x y
