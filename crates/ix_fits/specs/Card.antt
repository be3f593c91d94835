-- What the card makes of a wire list: where each group is at home, what stands on the rings since the last settle, and what becomes of each
-- frame.
use Rattle.std.specs.Prelude.{◌≡◌, ℕ, ◌+◌, ◌-◌, min, Bool, true, false, ◌==◌, not, ◌&&◌, ◌||◌, nat_lt, nat_le, if◌then◌else◌, List, [], ◌∷◌, length, slice_get, Option, Some, None}
use Rattle.std.specs.List.{list_all, enumerate_from, zip}
use Rattle.ix_base.specs.declared.id.CoreId.{CoreId}
use Rattle.ix_base.specs.declared.id.GroupId.{GroupId}
use Rattle.ix_base.specs.declared.id.TheConstants.{BUFFER_BYTES}
use Rattle.ix_conf.specs.Settings.{Settings}
use Rattle.ix_groupdef.specs.Calls.{is_empty}
use Rattle.ix_lines.specs.declared.types.EntryLine.{EntryLine}
use Rattle.ix_lines.specs.declared.types.EntryLine.TheVariants as lines
use Rattle.ix_lines.specs.declared.types.Fate.{Fate}
use Rattle.ix_lines.specs.declared.types.Fate.TheVariants as fates
use Rattle.ix_lines.specs.declared.types.Head.{Head}
use Rattle.ix_lines.specs.declared.types.HomeLine.{HomeLine}
use Rattle.ix_lines.specs.declared.types.RingLine.{RingLine}
use Rattle.ix_lines.specs.declared.types.SettleLine.{SettleLine}
use Rattle.ix_order.specs.Wire.{Verdict, accepted, dropped, Entry, frame, time, tag, move, settle, Table, turned, put_by}
use Rattle.ix_playdef.specs.Clock.{clock_after}
use Rattle.ix_reta.specs.Table.{opening_core}
use Rattle.ix_steer.specs.Steering.{group_of_frame}
use Rattle.ix_wire.specs.declared.entry.Entry.{Entry as WireEntry}
use Rattle.ix_wire.specs.declared.entry.Entry.TheVariants as wire
use Rattle.ix_fits.specs.declared.card.TheConstants.{RING_PLACES}

-- ## Entries as the rings see them
abbrev pub verdict_of : CoreId → Fate → Verdict
verdict_of ring (fates.Buf b) = accepted ring.0
verdict_of ring (fates.RingFull n) = dropped
verdict_of ring (fates.NoBuffer n) = dropped
verdict_of ring (fates.TooLong n) = dropped

abbrev pub entry_of : EntryLine → Entry
entry_of (lines.Frame rec at group ring fate) = frame group.0 (verdict_of ring fate)
entry_of (lines.Time t) = time
entry_of (lines.Tag group) = tag group.0
entry_of (lines.Move group to) = move group.0 to.0
entry_of lines.Settle = settle

-- ## The card between two settles
-- where each group is, and per ring the buffers that were posted at the last settle, and how many frames were accepted to it and how many
-- entries put an item on it since
pub record Card : Type 0 where
  pub table : Table
  pub posted : ℕ → ℕ
  pub frames : ℕ → ℕ
  pub items : ℕ → ℕ

-- each group at home on its opening core
abbrev pub opening_table : ℕ → Table
opening_table live = λ g. record { core = (opening_core live g).0; tenure = 0 }

abbrev pub posted_in : Option RingLine → ℕ
posted_in (Some l) = l.posted
posted_in None = 0

-- at a settle, with the buffers that its lines tell
abbrev pub settled : List RingLine → Table → Card
settled rings t = record { table = t; posted = λ r. posted_in (slice_get rings r); frames = λ r. 0; items = λ r. 0 }

abbrev pub is_ring : ℕ → Verdict → Bool
is_ring r (accepted s) = r == s
is_ring r dropped = false

abbrev pub is_accepted_on : ℕ → Entry → Bool
is_accepted_on r (frame g v) = is_ring r v
is_accepted_on r time = false
is_accepted_on r (tag g) = false
is_accepted_on r (move g c) = false
is_accepted_on r settle = false

-- an accepted frame of the ring, a tag of a group on it, a move from it or to it, and a time; the end of an epoch doesn't count
abbrev pub is_put_on : ℕ → Table → Entry → Bool
is_put_on r t (frame g v) = is_ring r v
is_put_on r t time = true
is_put_on r t (tag g) = r == (t g).core
is_put_on r t (move g c) = r == (t g).core || r == c
is_put_on r t settle = false

abbrev pub is_work : Entry → Bool
is_work settle = false
is_work (frame g v) = true
is_work time = true
is_work (tag g) = true
is_work (move g c) = true

abbrev pub one_more : Bool → ℕ → ℕ
one_more b n = if b then n + 1 else n

-- after one more entry
abbrev pub carried : Card → Entry → Card
carried c x =
    record {
      table = turned c.table x;
      posted = c.posted;
      frames = λ r. one_more (is_accepted_on r x) (c.frames r);
      items = λ r. one_more (is_put_on r c.table x) (c.items r);
    }

-- after some entries
abbrev pub carried_all : Card → List Entry → Card
carried_all c [] = c
carried_all c (x ∷ xs) = carried_all (carried c x) xs

-- ## Items on rings
-- What counts is what puts an item on the ring.
abbrev pub ItemsAreCounted : Type 0
ItemsAreCounted = (r w : ℕ) (t : Table) (x : Entry) → is_put_on r t x ≡ (is_work x && not (is_empty (put_by r t w x)))

-- ## What becomes of a frame
-- A frame that no buffer holds is dropped with its length. Another one is accepted, into a buffer of its ring's core, or dropped where the
-- ring may have been full, with the items on it, or where its buffers may have run out, with the frames that it took.
abbrev pub fits_long : ℕ → Fate → Bool
fits_long len (fates.Buf b) = false
fits_long len (fates.RingFull n) = false
fits_long len (fates.NoBuffer n) = false
fits_long len (fates.TooLong n) = n == len

abbrev pub fits_short : ℕ → Card → ℕ → Fate → Bool
fits_short buffers c ring (fates.Buf b) = b.home.0 == ring && nat_lt b.slot buffers
fits_short buffers c ring (fates.RingFull n) = n == c.items ring && nat_le RING_PLACES n
fits_short buffers c ring (fates.NoBuffer n) = n == c.frames ring && nat_le (c.posted ring) n
fits_short buffers c ring (fates.TooLong n) = false

abbrev pub fits_fate : ℕ → Card → ℕ → ℕ → Fate → Bool
fits_fate buffers c ring len fate = if nat_lt BUFFER_BYTES len then fits_long len fate else fits_short buffers c ring fate

-- its group is that of its flow, and its ring that of the core on which the group is
abbrev pub fits_bytes : ℕ → Card → ℕ → ℕ → Fate → Option (List ℕ) → Bool
fits_bytes buffers c group ring fate None = false
fits_bytes buffers c group ring fate (Some bytes) =
    (group == group_of_frame bytes && ring == (c.table group).core) && fits_fate buffers c ring (length bytes) fate

-- It has its record, and the clock.
abbrev pub fits_frame : Settings → List (List ℕ) → Card → ℕ → ℕ → ℕ → ℕ → ℕ → ℕ → Fate → Bool
fits_frame s frames c clock rec shown at group ring fate =
    (shown == rec && at == clock) && fits_bytes s.buffers c group ring fate (slice_get frames shown)

-- ## Each entry
abbrev pub fits_frame_line : Settings → List (List ℕ) → Card → ℕ → ℕ → EntryLine → Bool
fits_frame_line s frames c clock rec (lines.Frame shown at group ring fate) = fits_frame s frames c clock rec shown at group.0 ring.0 fate
fits_frame_line s frames c clock rec _ = false

abbrev pub is_time_line : ℕ → EntryLine → Bool
is_time_line t (lines.Time u) = u == t
is_time_line t _ = false

abbrev pub is_tag_line : GroupId → EntryLine → Bool
is_tag_line g (lines.Tag h) = h.0 == g.0
is_tag_line g _ = false

abbrev pub is_move_line : GroupId → CoreId → EntryLine → Bool
is_move_line g to (lines.Move h d) = h.0 == g.0 && d.0 == to.0
is_move_line g to _ = false

abbrev pub is_settle_line : EntryLine → Bool
is_settle_line lines.Settle = true
is_settle_line _ = false

abbrev pub fits_entry : Settings → List (List ℕ) → Card → ℕ → WireEntry → EntryLine → Bool
fits_entry s frames c clock (wire.Frame rec) l = fits_frame_line s frames c clock rec l
fits_entry s frames c clock (wire.Time t) l = is_time_line t l
fits_entry s frames c clock (wire.Tag g) l = is_tag_line g l
fits_entry s frames c clock (wire.Move g to) l = is_move_line g to l
fits_entry s frames c clock wire.Settle l = is_settle_line l

-- A settle tells of each ring the frames and the items since the last one.
abbrev pub fits_ring : Card → ℕ → RingLine → Bool
fits_ring c r l = l.frames == c.frames r && l.items == c.items r

abbrev pub fit_rings : Card → List RingLine → Bool
fit_rings c ls = list_all (λ (p : ℕ × RingLine). fits_ring c p.0 p.1) (enumerate_from 0 ls)

abbrev pub fits_settle : Card → EntryLine → List SettleLine → Bool
fits_settle c lines.Settle [] = false
fits_settle c lines.Settle (l ∷ ls) = fit_rings c l.rings
fits_settle c (lines.Frame rec at group ring fate) ls = true
fits_settle c (lines.Time t) ls = true
fits_settle c (lines.Tag group) ls = true
fits_settle c (lines.Move group to) ls = true

-- the card behind an entry, and the settles that are still to come
abbrev pub card_after : Card → EntryLine → List SettleLine → Card
card_after c lines.Settle (l ∷ ls) = settled l.rings c.table
card_after c y ls = carried c (entry_of y)

abbrev pub settles_after : EntryLine → List SettleLine → List SettleLine
settles_after lines.Settle (l ∷ ls) = ls
settles_after y ls = ls

-- The entries from this card and clock on are those of the wire list, with the settles that are printed among them.
abbrev pub fit_entries : Settings → List (List ℕ) → Card → ℕ → List WireEntry → List EntryLine → List SettleLine → Bool
fit_entries s frames c clock [] [] ls = is_empty ls
fit_entries s frames c clock [] (y ∷ ys) ls = false
fit_entries s frames c clock (x ∷ xs) [] ls = false
fit_entries s frames c clock (x ∷ xs) (y ∷ ys) ls =
    (fits_entry s frames c (clock_after clock x) x y && fits_settle c y ls)
    && fit_entries s frames (card_after c y ls) (clock_after clock x) xs ys (settles_after y ls)

-- from the settle before the first entry on
abbrev pub fit_all : Settings → List (List ℕ) → List WireEntry → List EntryLine → List SettleLine → Bool
fit_all s frames xs ys [] = false
fit_all s frames xs ys (l ∷ ls) =
    let opening : Card = settled l.rings (opening_table s.live) in fit_rings opening l.rings && fit_entries s frames opening 0 xs ys ls

-- ## Dropped frames
abbrev pub is_drop : Fate → Bool
is_drop (fates.Buf b) = false
is_drop (fates.RingFull n) = true
is_drop (fates.NoBuffer n) = true
is_drop (fates.TooLong n) = true

abbrev pub is_dropped : EntryLine → Bool
is_dropped (lines.Frame rec at group ring fate) = is_drop fate
is_dropped (lines.Time t) = false
is_dropped (lines.Tag group) = false
is_dropped (lines.Move group to) = false
is_dropped lines.Settle = false

-- ## Posted buffers
-- The numbers of a home add up to its buffers. As many are posted as a ring has places, or all that are not out where there are fewer; the
-- ring's line says the same.
abbrev pub out_of : HomeLine → ℕ
out_of h = h.desk + h.held + h.app + h.queue

abbrev pub adds_up : ℕ → RingLine → HomeLine → Bool
adds_up buffers r h = (h.pool + h.posted + out_of h == buffers && h.posted == min RING_PLACES (buffers - out_of h)) && r.posted == h.posted

-- a ring and a home for each core
abbrev pub is_whole : ℕ → ℕ → SettleLine → Bool
is_whole cores buffers l =
    (length l.rings == cores && length l.homes == cores) && list_all (λ (p : RingLine × HomeLine). adds_up buffers p.0 p.1) (zip l.rings l.homes)

-- ## The head, and the end
abbrev pub is_head : Settings → Head → Bool
is_head s h = (h.cores == s.cores && h.batch == s.batch) && h.buffers == s.buffers

-- In the end each core has all its buffers.
abbrev pub are_closed : Settings → List ℕ → Bool
are_closed s pools = length pools == s.cores && list_all (λ n. n == s.buffers) pools
