-- What contracts see of a core's desks, group by group and tenure by tenure.
use Rattle.std.specs.Prelude.{ℕ, Bool, List, Option}

-- A tenure whose piece began here and whose unit hasn't left. Its unit is there once it arrived.
pub record Piece (U I : Type 0) : Type 0 where
  pub tenure : ℕ
  -- whether its tag was taken
  pub tagged : Bool
  pub unit : Option U
  -- what came with its unit, and then its items up to the tag: what is to be stepped
  pub remote : List I
  pub local : List I
  -- its items behind the tag
  pub behind : List I

-- a piece that was cut, and the core that its unit goes to
pub record CutPiece (U I : Type 0) : Type 0 where
  pub to : ℕ
  pub piece : Piece U I

-- a unit whose tenure's piece hasn't begun yet, with its remote queue
pub record Arrival (U I : Type 0) : Type 0 where
  pub tenure : ℕ
  pub unit : U
  pub queue : List I

-- one group
pub record Group (U I : Type 0) : Type 0 where
  -- the pieces that were cut, oldest first
  pub cut : List (CutPiece U I)
  -- the piece to which items come
  pub current : Option (Piece U I)
  -- what arrived before its piece began
  pub early : List (Arrival U I)
  -- the tenures that have arrived here
  pub arrived : List ℕ
  -- the tenure of the last piece that began here, 0 where there was none
  pub last : ℕ

-- all desks of a core
pub record View (U I : Type 0) : Type 0 where
  pub core : ℕ
  -- whether work has answered NoMemory
  pub failed : Bool
  pub groups : List (Group U I)
