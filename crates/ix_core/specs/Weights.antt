-- What desks and cores weigh: the buffers that they hold, for each weight of names.
use Rattle.std.specs.Prelude.{◌≡◌, ℕ, ◌+◌, Bool, false, List, length, map, sum_by}
use Rattle.ix_ring.specs.Ends.{put_list, taken}
use Rattle.ix_mbuf.specs.declared.name.Name.{Name}
use Rattle.ix_mbuf.specs.Buffers.{Buffer, buffers_weight}
use Rattle.ix_mbuf.specs.Owners.{maybe}
use Rattle.ix_desk.specs.Views.{Arrival, CutPiece, Group, Piece, View}
use Rattle.ix_desk.specs.declared.unit.Shipment.{Shipment}
use Rattle.ix_stack.specs.declared.work.Work.{Work}
use Rattle.ix_stack.specs.Works.{works_weight}
use Rattle.ix_stack.specs.Items.{items_weight}
use Rattle.ix_history.specs.Events.{Parcel}
use Rattle.ix_core.specs.declared.link.Link.{Link}
use Rattle.ix_core.specs.declared.message.Message.{Message}
use Rattle.ix_core.specs.declared.message.Message.TheVariants.{Ship, Home}
use Rattle.ix_core.specs.declared.turning.Core.{Core}
use Rattle.ix_core.specs.Landing.{parcel_of}
use Rattle.ix_core.specs.Cores.{CoreBecame}

module _ {U : Type 0} (w : U → ℕ) (f : Name → ℕ) where
  abbrev pub piece_weight : Piece U Work → ℕ
  piece_weight p = maybe w p.unit + (works_weight f p.remote + (works_weight f p.local + works_weight f p.behind))

  abbrev pub cut_weight : CutPiece U Work → ℕ
  cut_weight c = piece_weight c.piece

  abbrev pub arrival_weight : Arrival U Work → ℕ
  arrival_weight a = w a.unit + works_weight f a.queue

  abbrev pub group_weight : Group U Work → ℕ
  group_weight g = sum_by cut_weight g.cut + (maybe piece_weight g.current + sum_by arrival_weight g.early)

  abbrev pub desks_weight : View U Work → ℕ
  desks_weight v = sum_by group_weight v.groups

  abbrev pub parcel_weight : Parcel U Work → ℕ
  parcel_weight s = w s.unit + works_weight f s.queue

  abbrev pub parcels_weight : List (Parcel U Work) → ℕ
  parcels_weight ss = sum_by parcel_weight ss

module _ {U E : Type 0} (w : U → ℕ) (f : Name → ℕ) where
  abbrev pub ships_weight : List (Shipment U Work E) → ℕ
  ships_weight ss = parcels_weight w f (map parcel_of ss)

  abbrev pub message_weight : Message U E → ℕ
  message_weight (Ship s) = parcel_weight w f (parcel_of s)
  message_weight (Home b) = f b.name

  abbrev pub messages_weight : List (Message U E) → ℕ
  messages_weight ms = sum_by message_weight ms

  -- what is kept of a link: flow groups that came, and messages that wait
  abbrev pub link_weight : Link U E → ℕ
  link_weight l = ships_weight l.ships.items + messages_weight l.waiting.items

  -- what was ever put on the ring to the other core, and taken from the ring from it
  abbrev pub link_put : Link U E → ℕ
  link_put l = messages_weight (put_list l.put)

  abbrev pub link_taken : Link U E → ℕ
  link_taken l = messages_weight (taken l.take)

  -- what a core holds: its free buffers and those that are to be given to the pool, what came and waits, its desks, what is kept of its links,
  -- and flow groups for a core that isn't there
  abbrev pub core_weight : Core U E → ℕ
  core_weight c = (sum_by f c.pool.free + buffers_weight f c.returns.items) + (items_weight f c.came.items + (desks_weight w f c.desks + (sum_by link_weight c.links.items + ships_weight c.lost.items)))

  -- what it ever put on its rings, and what it ever took from them
  abbrev pub put_weight : Core U E → ℕ
  put_weight c = buffers_weight f (put_list c.posted) + sum_by link_put c.links.items

  abbrev pub taken_weight : Core U E → ℕ
  taken_weight c = items_weight f (taken c.items) + sum_by link_taken c.links.items

-- What a core holds and ever put grew by what it took, for every weight of buffers: none is lost, and none is there twice.
abbrev pub Conserves : {U E : Type 0} → ((Name → ℕ) → U → ℕ) → Core U E → Core U E → Type 0
Conserves weight old new = (f : Name → ℕ) → core_weight (weight f) f new + (put_weight (weight f) f new + taken_weight (weight f) f old)
    ≡ core_weight (weight f) f old + (put_weight (weight f) f old + taken_weight (weight f) f new)

-- What a core holds, what it ever put on its rings and what it ever took from them weighs the same as before, for every weight of buffers: no
-- buffer moved.
pub record WeighsTheSame {U E : Type 0} (weight : (Name → ℕ) → U → ℕ) (old new : Core U E) : Type 0 where
  pub held : (f : Name → ℕ) → core_weight (weight f) f new ≡ core_weight (weight f) f old
  pub put : (f : Name → ℕ) → put_weight (weight f) f new ≡ put_weight (weight f) f old
  pub took : (f : Name → ℕ) → taken_weight (weight f) f new ≡ taken_weight (weight f) f old

-- Turns of its own conserve every weight, where the core has desks for all 512 groups and didn't run out of memory, and it has them still.
abbrev pub TurnsConserve : {U E : Type 0} → (Work → Bool) → (Work → ℕ) → (U → List (ℕ × ℕ)) → (U → E → ℕ → List Work → U → Type 0) → (U → List Buffer → U → Type 0) → ((Name → ℕ) → U → ℕ) → Type 0
TurnsConserve {U} {E} counted name stepped advanced drained weight =
    (env : E) (old new : Core U E) → length old.desks.groups ≡ 512 → new.failed ≡ false → CoreBecame counted name stepped advanced drained env old new → (length new.desks.groups ≡ 512) × Conserves weight old new
