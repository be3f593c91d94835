-- All desks of a core.
use Rattle.std.specs.Prelude.{◌≡◌, ℕ, ◌+◌, ◌<◌, ◌==◌, Bool, not, ◌&&◌, if◌then◌else◌, nat_lt, List, [], ◌∷◌, Some, None, slice_index_or, slice_set}
use Rattle.std.specs.List.{list_any}
use Rattle.ix_base.specs.declared.id.GroupId.{GroupId}
use Rattle.ix_desk.specs.declared.unit.DeskItem.{DeskItem}
use Rattle.ix_desk.specs.Views.{CutPiece, Group, View}
use Rattle.ix_desk.specs.Groups.{fits, waits, empty, at_home, done_of, shipped, group_has_work}
use Rattle.ix_desk.specs.Pieces.{joined}
use Rattle.ix_desk.specs.Tenures.{has_arrived}

module _ {U I : Type 0} where
  -- the desks of a group
  abbrev pub group_at : View U I → ℕ → Group U I
  group_at v g = slice_index_or v.groups g empty

  -- the desks with one group changed, and all others as they are
  abbrev pub with_group : View U I → ℕ → Group U I → View U I
  with_group v g x = record { core = v.core; failed = v.failed; groups = slice_set v.groups g x }

  -- a group of this number takes this item next, by the order of a ring
  abbrev pub fits_at : View U I → ℕ → DeskItem I → Bool
  fits_at v g it = nat_lt g 512 && fits (group_at v g) it

  -- a unit of this group and tenure that goes to this core is awaited
  abbrev pub welcome_at : View U I → ℕ → ℕ → ℕ → Bool
  welcome_at v g k to = (nat_lt g 512 && (to == v.core)) && (nat_lt 0 k && not (has_arrived k (group_at v g).arrived))

  -- something is to be stepped at a desk whose unit is here
  abbrev pub has_work : View U I → Bool
  has_work v = list_any group_has_work v.groups

  -- what waits, group after group
  abbrev pub groups_wait : View U I → List I
  groups_wait v = joined waits v.groups

  -- what is at the opening: the units that are at home here, each at its first piece
  abbrev pub opened : List (GroupId × U) → ℕ → Group U I
  opened [] g = empty
  opened (h ∷ hs) g = if h.0.0 == g then at_home h.1 else opened hs g

-- A unit leaves: its piece was cut, all before the tag is stepped, and what stands behind the tag is its remote queue. The tenure is over.
pub record Ships {U I : Type 0} (old new : View U I) (g tenure to : ℕ) (unit : U) (queue : List I) : Type 0 where
  pub within : g < 512
  pub piece : CutPiece U I
  pub done : done_of (group_at old g).cut ≡ Some piece
  pub to_core : piece.to ≡ to
  pub its_unit : piece.piece.unit ≡ Some unit
  pub rest : piece.piece.behind ≡ queue
  pub next : tenure ≡ piece.piece.tenure + 1
  pub over : new ≡ with_group old g (shipped (group_at old g))

-- no piece that was cut is done
abbrev pub NothingDone : {U I : Type 0} → View U I → Type 0
NothingDone v = (g : ℕ) → done_of (group_at v g).cut ≡ None

-- the same items fit, and the same units are awaited
pub record SameOrder {U I : Type 0} (old new : View U I) : Type 0 where
  pub fits : (g : ℕ) (it : DeskItem I) → fits_at new g it ≡ fits_at old g it
  pub welcome : (g k to : ℕ) → welcome_at new g k to ≡ welcome_at old g k to
