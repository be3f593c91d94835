-- What work does: batches of items, each stepped at once, within a budget of items that count.
use Rattle.std.specs.Prelude.{◌≡◌, ℕ, zero, suc, ◌-◌, Bool, false, if◌then◌else◌, List, [], ◌∷◌, ◌++◌, Option, Some, None, is_some, count_by, map}
use Rattle.ix_desk.specs.Views.{Piece, CutPiece, Group, View}
use Rattle.ix_desk.specs.Pieces.{ready}

-- the first items, until n of them count or none is left
abbrev pub up_to : {I : Type 0} → (I → Bool) → ℕ → List I → List I
up_to counted zero xs = []
up_to counted (suc n) [] = []
up_to counted (suc n) (x ∷ xs) = x ∷ up_to counted (if counted x then n else suc n) xs

-- what is left of a budget after a list, each of which leaves something
abbrev pub leave : {X : Type 0} → (ℕ → X → ℕ) → ℕ → List X → ℕ
leave leaves budget [] = budget
leave leaves budget (x ∷ xs) = leave leaves (leaves budget x) xs

-- each was worked on, with the budget that those before it left
abbrev pub EachWorked : {X : Type 0} → (ℕ → X → ℕ) → (ℕ → X → X → Type 0) → ℕ → List X → List X → Type 0
EachWorked leaves Worked budget [] [] = Unit {0}
EachWorked leaves Worked budget (x ∷ xs) (y ∷ ys) = Worked budget x y × EachWorked leaves Worked (leaves budget x) xs ys
EachWorked leaves Worked budget [] (y ∷ ys) = ⊥
EachWorked leaves Worked budget (x ∷ xs) [] = ⊥

module _ {U I : Type 0} (counted : I → Bool) where
  -- what is stepped of a piece: nothing where its unit isn't here, and nothing behind its tag
  abbrev pub batch : ℕ → Piece U I → List I
  batch budget p = if is_some p.unit then up_to counted budget (ready p) else []

  abbrev pub piece_leaves : ℕ → Piece U I → ℕ
  piece_leaves budget p = budget - count_by counted (batch budget p)

  abbrev pub cut_leaves : ℕ → CutPiece U I → ℕ
  cut_leaves budget c = piece_leaves budget c.piece

  abbrev pub current_leaves : ℕ → Option (Piece U I) → ℕ
  current_leaves budget None = budget
  current_leaves budget (Some p) = piece_leaves budget p

  abbrev pub group_leaves : ℕ → Group U I → ℕ
  group_leaves budget g = current_leaves (leave cut_leaves budget g.cut) g.current

module _ {U I E : Type 0} (counted : I → Bool) (name : I → ℕ) (stepped : U → List (ℕ × ℕ)) (advanced : U → E → ℕ → List I → U → Type 0) (env : E) (here : ℕ) where
  -- what a step of items makes of a unit; without items there is no step
  abbrev pub UnitStepped : List I → Option U → Option U → Type 0
  UnitStepped [] x y = y ≡ x
  UnitStepped (i ∷ items) (Some x) (Some y) = (stepped y ≡ stepped x ++ map (λ j. (name j, here)) (i ∷ items)) × advanced x env here (i ∷ items) y
  UnitStepped (i ∷ items) None y = ⊥
  UnitStepped (i ∷ items) (Some x) None = ⊥

  -- the batch of a piece was stepped, in one step, and the rest still waits
  pub record PieceWorked (budget : ℕ) (old new : Piece U I) : Type 0 where
    pub tenure : new.tenure ≡ old.tenure
    pub tagged : new.tagged ≡ old.tagged
    pub behind : new.behind ≡ old.behind
    pub waited : ready old ≡ batch counted budget old ++ ready new
    pub unit : UnitStepped (batch counted budget old) old.unit new.unit
    -- where the unit isn't here, nothing becomes of the remote queue
    pub resting : is_some old.unit ≡ false → new.remote ≡ old.remote

  pub record CutWorked (budget : ℕ) (old new : CutPiece U I) : Type 0 where
    pub to : new.to ≡ old.to
    pub piece : PieceWorked budget old.piece new.piece

  abbrev pub CurrentWorked : ℕ → Option (Piece U I) → Option (Piece U I) → Type 0
  CurrentWorked budget None None = Unit {0}
  CurrentWorked budget (Some p) (Some q) = PieceWorked budget p q
  CurrentWorked budget None (Some q) = ⊥
  CurrentWorked budget (Some p) None = ⊥

  -- the pieces that were cut were worked on first, and then the one to which items come
  pub record GroupWorked (budget : ℕ) (old new : Group U I) : Type 0 where
    pub cut : EachWorked (cut_leaves counted) CutWorked budget old.cut new.cut
    pub current : CurrentWorked (leave (cut_leaves counted) budget old.cut) old.current new.current
    pub early : new.early ≡ old.early
    pub arrived : new.arrived ≡ old.arrived
    pub last : new.last ≡ old.last

  -- group after group
  pub record AllWorked (budget : ℕ) (old new : View U I) : Type 0 where
    pub core : new.core ≡ old.core
    pub failed : new.failed ≡ old.failed
    pub groups : EachWorked (group_leaves counted) GroupWorked budget old.groups new.groups
