-- The order of the replies of a play, and their ticks.
use Rattle.std.specs.Prelude.{ℕ, Bool, count_by, nat_lt, if◌then◌else◌, List, length, map, slice_index, Option, Some, None}
use Rattle.std.specs.Ordering.{eq_by_cmp, is_lt, nat_cmp, ordering_then}
use Rattle.std.specs.Option.{option_cmp}
use Rattle.std.specs.declared.cmp.Ordering.{Ordering}
use Rattle.ix_base.specs.declared.id.WireNo.{WireNo}
use Rattle.ix_pcap.specs.declared.writing.Sent.{Sent}
use Rattle.ix_wire.specs.declared.entry.Entry.{Entry}
use Rattle.ix_playdef.specs.Clock.{clock_of}
use Rattle.ix_playdef.specs.declared.order.Phase.{Phase}
use Rattle.ix_playdef.specs.declared.order.Phase.TheVariants.{Connect, Taken, Timer, Flush}
use Rattle.ix_playdef.specs.declared.order.Reply.{Reply}
use Rattle.ix_playdef.specs.declared.order.ReplyKey.{ReplyKey}

-- connects, then what is taken, then timers, then flushes
abbrev pub rank : Phase → ℕ
rank Connect = 0
rank Taken = 1
rank Timer = 2
rank Flush = 3

-- No entry comes before each.
abbrev pub wire_cmp : WireNo → WireNo → Ordering
wire_cmp v w = nat_cmp v.0 w.0

-- by the entry, then the group, the phase, the place of the connection there, the opening order, the input and the output
abbrev pub key_cmp : ReplyKey → ReplyKey → Ordering
key_cmp a b =
    ordering_then (option_cmp wire_cmp a.entry b.entry)
    (ordering_then (nat_cmp a.group.0 b.group.0)
    (ordering_then (nat_cmp (rank a.phase) (rank b.phase))
    (ordering_then (nat_cmp a.place b.place)
    (ordering_then (nat_cmp a.opening b.opening)
    (ordering_then (nat_cmp a.input b.input)
    (nat_cmp a.output b.output))))))

abbrev pub is_before : ReplyKey → ReplyKey → Bool
is_before a b = is_lt (key_cmp a b)

abbrev pub key_of : Reply → ReplyKey
key_of r = r.key

abbrev pub same_key : Reply → Reply → Bool
same_key a b = eq_by_cmp key_cmp a.key b.key

-- The number of a reply is how many replies come before it.
abbrev pub number_of : List Reply → ReplyKey → ℕ
number_of replies key = count_by (λ (r : Reply). is_before r.key key) replies

-- the numbers of some replies among all
abbrev pub numbers_among : List Reply → List Reply → List ℕ
numbers_among all some = map (λ (r : Reply). number_of all r.key) some

-- The tick of a reply is the clock of its entry, and 0 where it has none.
abbrev pub tick_at : List Entry → Option WireNo → ℕ
tick_at entries None = 0
tick_at entries (Some w) = if nat_lt w.0 (length entries) then clock_of entries w.0 else 0

-- a reply as it is written
abbrev pub sent_of : List Entry → Reply → Sent
sent_of entries r = record { at = tick_at entries r.key.entry; frame = r.frame }

-- clocks by wire number
abbrev pub tick_in : List ℕ → Option WireNo → ℕ
tick_in clocks None = 0
tick_in clocks (Some w) = slice_index clocks w.0
