-- The places that the lines of a report tell: docs/FITS.md, "The places that a trace tells".
use Rattle.std.specs.Prelude.{ℕ, ◌+◌, Bool, if◌then◌else◌, List, [], ◌∷◌, Option, Some, None, unwrap_or}
use Rattle.std.specs.Map.{lookup}
use Rattle.std.specs.Option.{option_cmp}
use Rattle.std.specs.Ordering.{eq_by_cmp, nat_cmp, ordering_then}
use Rattle.std.specs.declared.cmp.Ordering.{Ordering}
use Rattle.ix_base.specs.declared.frame.Local.{Local}
use Rattle.ix_groupdef.specs.declared.types.GroupRecord.{GroupRecord}
use Rattle.ix_playdef.specs.Order.{rank, wire_cmp}
use Rattle.ix_playdef.specs.Placed.{placed}
use Rattle.ix_playdef.specs.Replies.{Places, all_replies, by_opening}
use Rattle.ix_playdef.specs.declared.order.Phase.TheVariants.{Connect, Taken, Timer, Flush}
use Rattle.ix_playdef.specs.declared.order.Reply.{Reply}
use Rattle.ix_playdef.specs.declared.order.ReplyKey.{ReplyKey}
use Rattle.ix_trace.specs.declared.sheet.Sheet.{Sheet}
use Rattle.ix_fits.specs.Journals.{conns_of, strays_of}
use Rattle.ix_fits.specs.Replies.{numbers_of}
use Rattle.ix_places.specs.declared.turn.Turn.{Turn}

-- ## The turns of connections
-- the turn in which a reply is given
abbrev pub turn_of : ReplyKey → Turn
turn_of k = record { entry = k.entry; group = k.group; phase = k.phase; opening = k.opening }

abbrev pub turn_cmp : Turn → Turn → Ordering
turn_cmp a b =
    ordering_then (option_cmp wire_cmp a.entry b.entry)
    (ordering_then (nat_cmp a.group.0 b.group.0)
    (ordering_then (nat_cmp (rank a.phase) (rank b.phase)) (nat_cmp a.opening b.opening)))

abbrev pub same_turn : Turn → Turn → Bool
same_turn a b = eq_by_cmp turn_cmp a b

-- ## The numbers that lines tell
-- the numbers that the lines of each group name, group by group
abbrev pub group_numbers : Sheet → ℕ → List ℕ
group_numbers r g = numbers_of (strays_of g r.entries r.strays) (conns_of g r.conns)

abbrev pub all_numbers : Sheet → List GroupRecord → List ℕ
all_numbers r records = placed (λ g left. group_numbers r g) 0 records

-- where these numbers are those of these replies, that of the first reply in a turn
abbrev pub told_number : List ℕ → List Reply → Turn → Option ℕ
told_number [] xs turn = None
told_number (n ∷ ns) [] turn = None
told_number (n ∷ ns) (x ∷ xs) turn = if same_turn (turn_of x.key) turn then Some n else told_number ns xs turn

-- ## The places
-- A connection stands where the number of its first reply in the turn does, and behind all numbers by the opening order where it has none there.
abbrev pub place_in : (Turn → Option ℕ) → ℕ → Turn → ℕ
place_in number end turn = unwrap_or (number turn) (end + turn.opening)

-- For timers and flushes; connects, and what is given for a frame, go by the opening order.
abbrev pub places_by : (Turn → Option ℕ) → ℕ → Places
places_by number end entry group Connect opening = opening
places_by number end entry group Taken opening = opening
places_by number end entry group Timer opening = place_in number end (record { entry = entry; group = record { 0 = group }; phase = Timer; opening = opening })
places_by number end entry group Flush opening = place_in number end (record { entry = entry; group = record { 0 = group }; phase = Flush; opening = opening })

-- of a report, where the groups leave these records
abbrev pub places_told : Local → List GroupRecord → Sheet → Places
places_told local records r = places_by (told_number (all_numbers r records) (all_replies by_opening local records)) r.replies

-- ## A reply with its connection at its place
abbrev pub key_with : Places → ReplyKey → ReplyKey
key_with places k = record k { place = places k.entry k.group.0 k.phase k.opening }

abbrev pub reply_with : Places → Reply → Reply
reply_with places x = record x { key = key_with places x.key }

-- ## In a program
-- the number that a turn has among these, of which it has one at most
abbrev pub number_in : List (Turn × ℕ) → Turn → Option ℕ
number_in numbers turn = lookup (same_turn turn) numbers

-- the same where this reply of a turn follows
abbrev pub number_of_one : Turn → ℕ → Turn → Option ℕ
number_of_one given n turn = if same_turn given turn then Some n else None
