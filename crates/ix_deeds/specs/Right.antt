-- Which items stand right on a ring: each in the piece of its tenure, or behind the tag of the piece before.
use Rattle.std.specs.Prelude.{◌≡◌, ℕ, suc, Bool, if◌then◌else◌, List, [], ◌∷◌, Option, Some, None}
use Rattle.std.specs.List.{AllByRecursion}
use Rattle.ix_desk.specs.declared.unit.DeskItem.{DeskItem}
use Rattle.ix_desk.specs.declared.unit.DeskItem.TheVariants.{Work, Tag, Cut, Start}
use Rattle.ix_desk.specs.Views.{Piece}
use Rattle.ix_order.specs.Pieces.{opened_by}
use Rattle.ix_order.specs.Stages.{behind_by}
use Rattle.ix_history.specs.Events.{RingItem, at_end, for_each, for_group}
use Rattle.ix_history.specs.Items.{told}
use Rattle.ix_deeds.specs.Acts.{IsRight}

-- the open piece of a group is of this tenure, and is tagged or isn't
abbrev pub IsOpen : {U I : Type 0} → Option ℕ → Bool → Option (Piece U I) → Type 0
IsOpen None f None = Unit {0}
IsOpen None f (Some p) = ⊥
IsOpen (Some k) f None = ⊥
IsOpen (Some k) f (Some p) = (p.tenure ≡ k) × (p.tagged ≡ f)

module _ {I : Type 0} (name : I → ℕ) where
  -- the open piece behind some items, and whether it is tagged
  abbrev pub open_behind : ℕ → Option ℕ → List (RingItem I) → Option ℕ
  open_behind g o [] = o
  open_behind g o (x ∷ xs) = open_behind g (opened_by g o (told name x)) xs

  abbrev pub tagged_behind : ℕ → Bool → List (RingItem I) → Bool
  tagged_behind g f [] = f
  tagged_behind g f (x ∷ xs) = tagged_behind g (behind_by g f (told name x)) xs

module _ {I : Type 0} (name : I → ℕ) (tenure_of : ℕ → ℕ) (named : ℕ → I) where
  -- where the piece of tenure k is open, an item is of that tenure, and behind its tag of the next
  abbrev pub IsRightIn : Option ℕ → Bool → I → Type 0
  IsRightIn None f x = Unit {0}
  IsRightIn (Some k) f x = IsRight name tenure_of named (if f then suc k else k) x

  abbrev pub IsDeskItemRight : Option ℕ → Bool → DeskItem I → Type 0
  IsDeskItemRight o f (Work x) = IsRightIn o f x
  IsDeskItemRight o f Tag = Unit {0}
  IsDeskItemRight o f (Cut to) = Unit {0}
  IsDeskItemRight o f (Start k) = Unit {0}

  abbrev pub IsRingItemRight : ℕ → Option ℕ → Bool → RingItem I → Type 0
  IsRingItemRight g o f (for_group h it) = h ≡ g → IsDeskItemRight o f it
  IsRingItemRight g o f (for_each x) = IsRightIn o f x
  IsRingItemRight g o f at_end = Unit {0}

  -- the items that a ring has for a group, from an open piece on
  abbrev pub AreRight : ℕ → Option ℕ → Bool → List (RingItem I) → Type 0
  AreRight g o f [] = Unit {0}
  AreRight g o f (x ∷ xs) = IsRingItemRight g o f x × AreRight g (opened_by g o (told name x)) (behind_by g f (told name x)) xs

  -- what waits at a piece
  pub record WaitsRight {U : Type 0} (p : Piece U I) : Type 0 where
    pub remote : AllByRecursion (IsRight name tenure_of named p.tenure) p.remote
    pub local : AllByRecursion (IsRight name tenure_of named p.tenure) p.local
    pub behind : AllByRecursion (IsRight name tenure_of named (suc p.tenure)) p.behind
