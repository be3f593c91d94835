-- What a stored journal is seen as, and how many bytes it stores.
use Rattle.std.specs.Prelude.{◌≡◌, ℕ, ◌+◌, ◌-◌, ◌≤◌, Bool, true, false, nat_eq, if◌then◌else◌, List, [], ◌∷◌, length, take, drop, map, Option, Some, None, unwrap_or}
use Rattle.std.specs.List.{AllByRecursion, starts_with}
use Rattle.ix_base.specs.declared.id.WireNo.{WireNo}
use Rattle.ix_base.specs.declared.segment.Seg.{Seg}
use Rattle.ix_base.specs.declared.segment.Ret.TheVariants as rets
use Rattle.ix_tcpdef.specs.declared.types.Ask.TheVariants as asks
use Rattle.ix_tcpdef.specs.declared.types.Input.{Input}
use Rattle.ix_tcpdef.specs.declared.types.Input.TheVariants as inputs
use Rattle.ix_tcpdef.specs.declared.types.Output.{Output}
use Rattle.ix_tcpdef.specs.declared.types.Output.TheVariants as outputs
use Rattle.ix_groupdef.specs.declared.types.JournalEntry.{JournalEntry}
use Rattle.ix_groupdef.specs.declared.journal.Kept.{Kept}
use Rattle.ix_groupdef.specs.declared.journal.Kept.TheVariants as kept
use Rattle.ix_groupdef.specs.declared.journal.Stored.{Stored}
use Rattle.ix_groupdef.specs.declared.journal.EntryView.{EntryView}
use Rattle.ix_groupdef.specs.declared.journal.InputView.{InputView}
use Rattle.ix_groupdef.specs.declared.journal.InputView.TheVariants as views
use Rattle.ix_groupdef.specs.Life.{segment_in, first_of}

abbrev pub sendv_of : List ℕ → Input
sendv_of bytes = inputs.Call (asks.Sendv bytes)

abbrev pub is_sendv : Input → Bool
is_sendv (inputs.Call (asks.Sendv bytes)) = true
is_sendv _ = false

-- ## What is seen
abbrev pub range : List ℕ → ℕ → ℕ → List ℕ
range stream from to = take (to - from) (drop from stream)

abbrev pub input_of : List ℕ → Kept → Input
input_of stream (kept.Whole i) = i
input_of stream (kept.Sent from to) = sendv_of (range stream from to)

abbrev pub seen : List ℕ → Stored → JournalEntry
seen stream e = record { input = input_of stream e.kept; clock = e.clock; core = e.core; outputs = e.outputs }

abbrev pub entries_of : List ℕ → List Stored → List JournalEntry
entries_of stream es = map (seen stream) es

-- an entry as it is read
abbrev pub seen_input : InputView → Input
seen_input (views.Sendv bytes) = sendv_of bytes.now
seen_input (views.Other i) = i.now

abbrev pub seen_entry : EntryView → JournalEntry
seen_entry e = record { input = seen_input e.input; clock = e.clock; core = e.core; outputs = e.outputs.now }

abbrev pub segment_kept : WireNo → Kept → Option Seg
segment_kept w (kept.Whole i) = segment_in w i
segment_kept w (kept.Sent from to) = None

abbrev pub segment_stored : WireNo → List Stored → Option Seg
segment_stored w [] = None
segment_stored w (e ∷ es) = first_of (segment_kept w e.kept) (segment_stored w es)

-- ## What was left of the last call to send
-- how many bytes a call took, by its return
abbrev pub done_in : Output → Option ℕ
done_in (outputs.Ret (rets.Done n)) = Some n
done_in _ = None

abbrev pub taken_by : List Output → ℕ
taken_by [] = 0
taken_by (o ∷ os) = unwrap_or (done_in o) (taken_by os)

abbrev pub left_of : List ℕ → Input → List Output → List ℕ
left_of before (inputs.Call (asks.Sendv bytes)) os = drop (taken_by os) bytes
left_of before _ os = before

abbrev pub left_from : List ℕ → List JournalEntry → List ℕ
left_from before [] = before
left_from before (e ∷ es) = left_from (left_of before e.input e.outputs) es

-- ## How many bytes are stored: of a call to send those that were not left of the one before
abbrev pub given_new : List ℕ → List ℕ → ℕ
given_new left bytes = if starts_with nat_eq bytes left then length bytes - length left else length bytes

abbrev pub stored_for : List ℕ → Input → ℕ
stored_for left (inputs.Call (asks.Sendv bytes)) = given_new left bytes
stored_for left _ = 0

abbrev pub stored_from : List ℕ → List JournalEntry → ℕ
stored_from left [] = 0
stored_from left (e ∷ es) = stored_for left e.input + stored_from (left_of left e.input e.outputs) es

abbrev pub stored_of : List JournalEntry → ℕ
stored_of es = stored_from [] es

-- ## How it is stored
abbrev pub place_of : List ℕ → ℕ → List ℕ → ℕ
place_of stream left bytes = if starts_with nat_eq bytes (drop left stream) then left else length stream

-- a range lies within the stream
abbrev pub IsWithin : ℕ → Kept → Type 0
IsWithin n (kept.Whole i) = Unit {0}
IsWithin n (kept.Sent from to) = (from ≤ to) × (to ≤ n)

pub record IsStored (stream : List ℕ) (entries : List Stored) (left : ℕ) : Type 0 where
  pub ranges : AllByRecursion (λ e. IsWithin (length stream) e.kept) entries
  pub tail : drop left stream ≡ left_from [] (entries_of stream entries)
  pub within : left ≤ length stream
  pub stored : length stream ≡ stored_of (entries_of stream entries)
