-- What work leaves where it finds no memory.
use Rattle.std.specs.Prelude.{◌≡◌, ◌⊎◌, ℕ, Bool, true, false, List, ◌∷◌, ◌++◌, Option, Some, None, is_some}
use Rattle.ix_desk.specs.Views.{Piece, CutPiece, Group, View}
use Rattle.ix_desk.specs.Pieces.{ready, is_nil}
use Rattle.ix_desk.specs.Steps.{leave, EachWorked, batch, cut_leaves, CutWorked, group_leaves, GroupWorked}

-- Work failed at one of a list: those before it were worked on, and those behind it are as they were.
pub record OneFailed {X : Type 0} (leaves : ℕ → X → ℕ) (Worked Failed : ℕ → X → X → Type 0) (budget : ℕ) (old new : List X) : Type 0 where
  pub before : List X
  pub one : X
  pub behind : List X
  -- what became of those before it, and of it
  pub done : List X
  pub left : X
  pub was : old ≡ before ++ one ∷ behind
  pub is : new ≡ done ++ left ∷ behind
  pub worked : EachWorked leaves Worked budget before done
  pub failed : Failed (leave leaves budget before) one left

module _ {U I : Type 0} (counted : I → Bool) where
  -- The step of a batch found no memory: the batch is gone from what waits, and the unit is here, as that step left it.
  pub record StepFailed (budget : ℕ) (old new : Piece U I) : Type 0 where
    pub tenure : new.tenure ≡ old.tenure
    pub tagged : new.tagged ≡ old.tagged
    pub behind : new.behind ≡ old.behind
    pub waited : ready old ≡ batch counted budget old ++ ready new
    pub here : is_some new.unit ≡ true

  -- Work found no memory at a piece that has a batch. Where there was none for the batch itself, the piece is as it was.
  pub record PieceFailed (budget : ℕ) (old new : Piece U I) : Type 0 where
    pub has_batch : is_nil (batch counted budget old) ≡ false
    pub left : (new ≡ old) ⊎ StepFailed budget old new

  pub record CutFailed (budget : ℕ) (old new : CutPiece U I) : Type 0 where
    pub to : new.to ≡ old.to
    pub piece : PieceFailed budget old.piece new.piece

  abbrev pub CurrentFailed : ℕ → Option (Piece U I) → Option (Piece U I) → Type 0
  CurrentFailed budget (Some p) (Some q) = PieceFailed budget p q
  CurrentFailed budget None None = ⊥
  CurrentFailed budget None (Some q) = ⊥
  CurrentFailed budget (Some p) None = ⊥

module _ {U I E : Type 0} (counted : I → Bool) (name : I → ℕ) (stepped : U → List (ℕ × ℕ)) (advanced : U → E → ℕ → List I → U → Type 0) (env : E) (here : ℕ) where
  -- work failed at one of the pieces that were cut, and the one to which items come is as it was
  pub record FailedAtCut (budget : ℕ) (old new : Group U I) : Type 0 where
    pub cut : OneFailed (cut_leaves counted) (CutWorked counted name stepped advanced env here) (CutFailed counted) budget old.cut new.cut
    pub current : new.current ≡ old.current

  -- the pieces that were cut were worked on, and work failed at the one to which items come
  pub record FailedAtCurrent (budget : ℕ) (old new : Group U I) : Type 0 where
    pub cut : EachWorked (cut_leaves counted) (CutWorked counted name stepped advanced env here) budget old.cut new.cut
    pub current : CurrentFailed counted (leave (cut_leaves counted) budget old.cut) old.current new.current

  -- work failed at one piece of a group
  pub record GroupFailed (budget : ℕ) (old new : Group U I) : Type 0 where
    pub piece : FailedAtCut budget old new ⊎ FailedAtCurrent budget old new
    pub early : new.early ≡ old.early
    pub arrived : new.arrived ≡ old.arrived
    pub last : new.last ≡ old.last

  -- work failed at one group: those before it were worked on, and those behind it are as they were
  pub record AllFailed (budget : ℕ) (old new : View U I) : Type 0 where
    pub core : new.core ≡ old.core
    pub failed : new.failed ≡ true
    pub groups : OneFailed (group_leaves counted) (GroupWorked counted name stepped advanced env here) GroupFailed budget old.groups new.groups
