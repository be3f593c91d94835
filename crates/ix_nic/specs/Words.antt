-- What an entry puts on the rings, in the words of the law on pieces.
use Rattle.std.specs.Prelude.{◌≡◌, ◌<◌, ◌++◌, ℕ, List, Bool, true, length, map, slice_index_or}
use Rattle.ix_order.specs.Wire.{Entry, frame, accepted, dropped, work, clock, tagged, cut, start, ended, settle, put_by, turned, RingIs, Seat}
use Rattle.ix_order.specs.Wire as order
use Rattle.ix_reta.specs.Table.{Table, tenure_of}
use Rattle.ix_stack.specs.declared.item.Item.{Item}
use Rattle.ix_stack.specs.declared.item.Item.TheVariants.{Frame, Tag, Cut, Start, Time, End}
use Rattle.ix_nic.specs.declared.offer.Offer.{Offer}
use Rattle.ix_nic.specs.declared.offer.Offer.TheVariants.{TooLong, RingFull, NoBuffer, Accepted}
use Rattle.ix_nic.specs.Cards.{CardView, core_at}
use Rattle.ix_nic.specs.Held.{KeepsBuffers}
use Rattle.ix_nic.specs.Ports.{PortView, whole}

-- the item without its buffer and its clock
abbrev pub word : Item → order.Item
word (Frame w group buf) = work group.0 w.0
word (Tag group) = tagged group.0
word (Cut group to) = cut group.0 to.0
word (Start group tenure) = start group.0 tenure
word (Time w t) = clock w.0
word End = ended

-- what was put on a ring and stands behind it
abbrev pub words_on : PortView → List order.Item
words_on p = map word (whole p)

-- where each group is
abbrev pub seats : Table → ℕ → Seat
seats table g = record { core = (core_at table g).0; tenure = tenure_of table.turns g }

-- the entry of a frame of group g, with its verdict
abbrev pub offered : ℕ → Offer → Entry
offered g (Accepted ring group buf) = frame g (accepted ring.0)
offered g (RingFull ring group items) = frame g dropped
offered g (NoBuffer ring group frames) = frame g dropped
offered g (TooLong len) = frame g dropped

-- whether an end was put on a ring since the last settle, after one more entry
abbrev pub ended_after : Entry → Bool → Bool
ended_after settle b = true
ended_after e b = b

-- The entry in place w is carried out: each ring was given what the entry puts on it, a frame stands on the ring of its group's core, the
-- table is the one after the entry, and no buffer is lost.
pub record CarriesOut (entry : Entry) (w : ℕ) (old new : CardView) : Type 0 where
  pub count : length new.ports ≡ length old.ports
  pub rings : (r : ℕ) (d : PortView) → r < length old.ports
      → words_on (slice_index_or new.ports r d) ≡ words_on (slice_index_or old.ports r d) ++ put_by r (seats old.table) w entry
  pub ends : (r : ℕ) (d : PortView) → r < length old.ports
      → (slice_index_or new.ports r d).ended ≡ ended_after entry (slice_index_or old.ports r d).ended
  pub placed : RingIs (seats old.table) entry
  pub table : (g : ℕ) → seats new.table g ≡ turned (seats old.table) entry g
  pub buffers : KeepsBuffers old.ports new.ports
