-- The card: its table, and its side of each ring.
use Rattle.std.specs.Prelude.{◌≡◌, ◌≢◌, ◌≤◌, ◌<◌, ℕ, List, [], length, slice_index_or, sum_by, false, true, None, is_some}
use Rattle.ix_base.specs.declared.id.CoreId.{CoreId}
use Rattle.ix_base.specs.declared.id.WireNo.{WireNo}
use Rattle.ix_reta.specs.Table.{Table, core_of}
use Rattle.ix_ring.specs.Ends.{put_list, spare, known}
use Rattle.ix_steer.specs.Steering.{group_of_frame}
use Rattle.ix_nic.specs.declared.control.Control.{Control}
use Rattle.ix_nic.specs.declared.offer.Counts.{Counts}
use Rattle.ix_nic.specs.declared.offer.Offer.{Offer}
use Rattle.ix_nic.specs.declared.port.NicEnd.{NicEnd}
use Rattle.ix_nic.specs.Controls.{item_on}
use Rattle.ix_nic.specs.Ports.{PortView, Puts, capped, posted_now}
use Rattle.ix_nic.specs.Offers.{Answers}

pub record CardView : Type 0 where
  pub table : Table
  -- one for each core
  pub ports : List PortView

-- the core of a group
abbrev pub core_at : Table → ℕ → CoreId
core_at table group = core_of table.live table.turns group

-- One to eight cores, of which each group is on one.
pub record IsCard (table : Table) (cores : ℕ) : Type 0 where
  pub some : 1 ≤ cores
  pub few : cores ≤ 8
  pub within : (group : ℕ) → group < 512 → (core_at table group).0 < cores

-- the card's side of a ring at the opening
abbrev pub opened : NicEnd → PortView
opened e = record {
  ring = e.items;
  behind = [];
  posts = e.posted;
  kept = None;
  items = 0;
  frames = 0;
  posted = capped (length (known e.posted));
  ended = false;
}

-- a ring to which nothing was put, with 512 places that are known to be free
pub record IsUnused (e : NicEnd) : Type 0 where
  pub none : put_list e.items ≡ []
  pub room : spare e.items ≡ 512

-- the counts of a ring
abbrev pub counts_of : PortView → Counts
counts_of p = record { posted = posted_now p; frames = p.frames; items = p.items }

-- a ring whose counts begin anew
abbrev pub settled : PortView → PortView
settled p = record p { items = 0; frames = 0; posted = posted_now p; ended = false }

-- ## All rings
-- no end was put since the last settle
abbrev pub AreOpen : List PortView → Type 0
AreOpen ports = (r : ℕ) (d : PortView) → r < length ports → (slice_index_or ports r d).ended ≡ false

-- there is room for one more item behind each ring
abbrev pub HaveRoom : List PortView → Type 0
HaveRoom ports = (r : ℕ) (d : PortView) → r < length ports → length (slice_index_or ports r d).behind < 1024

-- the same behind each ring that this control entry has an item for
abbrev pub HaveRoomFor : Control → List PortView → Type 0
HaveRoomFor control ports =
    (r : ℕ) (d : PortView) → r < length ports → is_some (item_on control r) ≡ true → length (slice_index_or ports r d).behind < 1024

-- nothing stands behind a ring, and 512 of its places are free
pub record IsAtRest (p : PortView) : Type 0 where
  pub none : p.behind ≡ []
  pub room : 512 ≤ spare p.ring

abbrev pub AreAtRest : List PortView → Type 0
AreAtRest ports = (r : ℕ) (d : PortView) → r < length ports → IsAtRest (slice_index_or ports r d)

-- how many items stand behind the rings
abbrev pub all_waiting : List PortView → ℕ
all_waiting ports = sum_by (λ p. length p.behind) ports

-- ## What calls do with the rings
-- Each ring is given its item of a control entry, if there is one.
pub record Carries (control : Control) (old new : List PortView) : Type 0 where
  pub count : length new ≡ length old
  pub rings : (r : ℕ) (d : PortView) → r < length old → Puts (item_on control r) (slice_index_or old r d) (slice_index_or new r d)

-- A frame is offered: the ring of its group's core is as the answer says, and the others only have what stood behind them put.
pub record Offered (w : WireNo) (frame : List ℕ) (answer : Offer) (old new : CardView) : Type 0 where
  pub table : new.table ≡ old.table
  pub count : length new.ports ≡ length old.ports
  pub others : (r : ℕ) (d : PortView) → r < length old.ports → r ≢ (core_at old.table (group_of_frame frame)).0
      → Puts None (slice_index_or old.ports r d) (slice_index_or new.ports r d)
  pub ring : (d : PortView)
      → let core = core_at old.table (group_of_frame frame) in
      Answers w (group_of_frame frame) core frame answer (slice_index_or old.ports core.0 d) (slice_index_or new.ports core.0 d)

-- Only the ring of this core changes.
pub record ChangesOne (core : ℕ) (old new : CardView) : Type 0 where
  pub table : new.table ≡ old.table
  pub count : length new.ports ≡ length old.ports
  pub others : (r : ℕ) (d : PortView) → r ≢ core → slice_index_or new.ports r d ≡ slice_index_or old.ports r d

-- The counts of each ring begin anew.
pub record AreSettled (old new : List PortView) : Type 0 where
  pub count : length new ≡ length old
  pub rings : (r : ℕ) (d : PortView) → r < length old → slice_index_or new r d ≡ settled (slice_index_or old r d)
