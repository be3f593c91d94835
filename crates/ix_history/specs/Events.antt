-- What happens at a core's desks, event by event, and what that is for one group.
use Rattle.std.specs.Prelude.{◌≡◌, ℕ, ◌+◌, ◌==◌, Bool, true, not, ◌&&◌, nat_lt, if◌then◌else◌, List, Some, is_some, map}
use Rattle.ix_desk.specs.declared.unit.DeskItem.{DeskItem}
use Rattle.ix_desk.specs.declared.unit.DeskItem.TheVariants.{Work}
use Rattle.ix_desk.specs.Views.{CutPiece, Arrival, Group, View}
use Rattle.ix_desk.specs.Tenures.{has_arrived}
use Rattle.ix_desk.specs.Groups.{fits, taken, landed, unit_of, changed, done_of, shipped}
use Rattle.ix_desk.specs.Steps.{AllWorked, GroupWorked}
use Rattle.ix_desk.specs.Desks.{group_at, with_group, fits_at, welcome_at, Ships}

-- what a core takes from its ring: an item of one group, an item for each group, as a time is, or the end of an epoch
pub data RingItem (I : Type 0) : Type 0 where
  for_group : ℕ → DeskItem I → RingItem I
  for_each : I → RingItem I
  at_end : RingItem I

-- a unit under way to its next tenure, with what is to be stepped first
pub record Parcel (U I : Type 0) : Type 0 where
  pub group : ℕ
  pub tenure : ℕ
  pub to : ℕ
  pub unit : U
  pub queue : List I

-- An item was taken from the ring; a parcel came from a core; work within a budget was done; a parcel is gone; a group's unit was lent,
-- handed something out, and came back changed.
pub data Event (U I O : Type 0) : Type 0 where
  took : RingItem I → Event U I O
  came : ℕ → Parcel U I → Event U I O
  worked : ℕ → Event U I O
  gone : Parcel U I → Event U I O
  lent : ℕ → U → O → U → Event U I O

-- what an event is for one group
pub data Part (U I O : Type 0) : Type 0 where
  nothing : Part U I O
  item : DeskItem I → Part U I O
  common : I → Part U I O
  arrival : Arrival U I → Part U I O
  work : Part U I O
  parcel : Parcel U I → Part U I O
  loan : U → O → U → Part U I O

module _ {U I : Type 0} where
  abbrev pub arrival_of : Parcel U I → Arrival U I
  arrival_of s = record { tenure = s.tenure; unit = s.unit; queue = s.queue }

  -- a parcel, as what a shipment has
  abbrev pub parcel_of : ℕ → ℕ → ℕ → U → List I → Parcel U I
  parcel_of g k to u queue = record { group = g; tenure = k; to = to; unit = u; queue = queue }

  -- an item for each group goes to the open piece; a group without one stays as it is
  abbrev pub given : I → Group U I → Group U I
  given x g = if is_some g.current then taken g (Work x) else g

  abbrev pub with_each : View U I → I → View U I
  with_each v x = record { core = v.core; failed = v.failed; groups = map (given x) v.groups }

module _ {U I O : Type 0} where
  abbrev pub part_of : ℕ → Event U I O → Part U I O
  part_of g (took (for_group h it)) = if h == g then item it else nothing
  part_of g (took (for_each x)) = common x
  part_of g (took at_end) = nothing
  part_of g (came c s) = if s.group == g then arrival (arrival_of s) else nothing
  part_of g (worked max) = work
  part_of g (gone s) = if s.group == g then parcel s else nothing
  part_of g (lent h u out v) = if h == g then loan u out v else nothing

-- a group gives away a piece that is done
pub record GroupShips {U I : Type 0} (old new : Group U I) (s : Parcel U I) : Type 0 where
  pub piece : CutPiece U I
  pub done : done_of old.cut ≡ Some piece
  pub to_core : piece.to ≡ s.to
  pub its_unit : piece.piece.unit ≡ Some s.unit
  pub rest : piece.piece.behind ≡ s.queue
  pub next : s.tenure ≡ piece.piece.tenure + 1
  pub over : new ≡ shipped old

module _ {U I O E : Type 0} (counted : I → Bool) (name : I → ℕ) (stepped : U → List (ℕ × ℕ)) (advanced : U → E → ℕ → List I → U → Type 0) (lends : U → O → U → Type 0) (env : E) where
  -- each event by its own call's clause
  abbrev pub Happened : View U I → Event U I O → View U I → Type 0
  Happened x (took (for_group g it)) y = (fits_at x g it ≡ true) × (y ≡ with_group x g (taken (group_at x g) it))
  Happened x (took (for_each w)) y = y ≡ with_each x w
  Happened x (took at_end) y = y ≡ x
  Happened x (came c s) y = (welcome_at x s.group s.tenure s.to ≡ true) × (y ≡ with_group x s.group (landed (group_at x s.group) (arrival_of s)))
  Happened x (worked max) y = AllWorked counted name stepped advanced env x.core max x y
  Happened x (gone s) y = Ships x y s.group s.tenure s.to s.unit s.queue
  Happened x (lent g u out v) y = (unit_of (group_at x g) ≡ Some u) × lends u out v × (y ≡ with_group x g (changed (group_at x g) v))

  -- a unit of g was lent, and handed this out
  pub record LentOne (x : View U I) (g : ℕ) (out : O) (y : View U I) : Type 0 where
    pub unit : U
    pub left : U
    pub happened : Happened x (lent g unit out left) y

  module _ (here : ℕ) where
    pub record Budgeted (x y : Group U I) : Type 0 where
      pub budget : ℕ
      pub worked : GroupWorked counted name stepped advanced env here budget x y

    abbrev pub GroupStep : Group U I → Part U I O → Group U I → Type 0
    GroupStep x nothing y = y ≡ x
    GroupStep x (item it) y = (fits x it ≡ true) × (y ≡ taken x it)
    GroupStep x (common w) y = y ≡ given w x
    GroupStep x (arrival a) y = ((nat_lt 0 a.tenure && not (has_arrived a.tenure x.arrived)) ≡ true) × (y ≡ landed x a)
    GroupStep x work y = Budgeted x y
    GroupStep x (parcel s) y = GroupShips x y s
    GroupStep x (loan u out v) y = (unit_of x ≡ Some u) × lends u out v × (y ≡ changed x v)
