-- What a trace prints of connections and strays. The numbers of their replies are left to the replies.
use Rattle.std.specs.Prelude.{◌≡◌, ℕ, ◌+◌, Bool, true, false, ◌==◌, ◌&&◌, List, [], ◌∷◌, length, filter, slice_get, is_some, Option, Some, None}
use Rattle.std.specs.List.{list_all, zip}
use Rattle.ix_base.specs.declared.id.BufId.{BufId}
use Rattle.ix_base.specs.declared.id.CoreId.{CoreId}
use Rattle.ix_base.specs.declared.id.WireNo.{WireNo}
use Rattle.ix_base.specs.declared.segment.Ret.{Ret}
use Rattle.ix_base.specs.declared.segment.Ret.TheVariants as returns
use Rattle.ix_groupdef.specs.declared.types.ConnEnd.{ConnEnd}
use Rattle.ix_groupdef.specs.declared.types.JournalEntry.{JournalEntry}
use Rattle.ix_groupdef.specs.declared.types.Stray.{Stray}
use Rattle.ix_lines.specs.declared.types.ConnLine.{ConnLine}
use Rattle.ix_lines.specs.declared.types.EntryLine.{EntryLine}
use Rattle.ix_lines.specs.declared.types.EntryLine.TheVariants as lines
use Rattle.ix_lines.specs.declared.types.Fate.{Fate}
use Rattle.ix_lines.specs.declared.types.Fate.TheVariants as fates
use Rattle.ix_lines.specs.declared.types.InputKind.{InputKind}
use Rattle.ix_lines.specs.declared.types.InputKind.TheVariants as kinds
use Rattle.ix_lines.specs.declared.types.InputLine.{InputLine}
use Rattle.ix_lines.specs.declared.types.OutputLine.{OutputLine}
use Rattle.ix_lines.specs.declared.types.OutputLine.TheVariants as given
use Rattle.ix_lines.specs.declared.types.RetLine.{RetLine}
use Rattle.ix_lines.specs.declared.types.RetLine.TheVariants as rets
use Rattle.ix_lines.specs.declared.types.StrayLine.{StrayLine}
use Rattle.ix_tcpdef.specs.declared.types.Ask.{Ask}
use Rattle.ix_tcpdef.specs.declared.types.Ask.TheVariants as asks
use Rattle.ix_tcpdef.specs.declared.types.Input.{Input}
use Rattle.ix_tcpdef.specs.declared.types.Input.TheVariants as inputs
use Rattle.ix_tcpdef.specs.declared.types.Output.{Output}
use Rattle.ix_tcpdef.specs.declared.types.Output.TheVariants as outputs
use Rattle.ix_tcpdef.specs.declared.types.Told.{Told}
use Rattle.ix_tcpdef.specs.declared.types.Told.TheVariants as told
use Rattle.ix_playdef.specs.Replies.{end_at}

-- ## Buffers
-- the buffer of an accepted frame
abbrev pub buffer_of_fate : Fate → Option BufId
buffer_of_fate (fates.Buf b) = Some b
buffer_of_fate (fates.RingFull n) = None
buffer_of_fate (fates.NoBuffer n) = None
buffer_of_fate (fates.TooLong n) = None

abbrev pub buffer_of_line : EntryLine → Option BufId
buffer_of_line (lines.Frame rec at group ring fate) = buffer_of_fate fate
buffer_of_line (lines.Time t) = None
buffer_of_line (lines.Tag group) = None
buffer_of_line (lines.Move group to) = None
buffer_of_line lines.Settle = None

abbrev pub buffer_in : Option EntryLine → Option BufId
buffer_in (Some l) = buffer_of_line l
buffer_in None = None

-- that of the entry with this number
abbrev pub buffer_of : List EntryLine → ℕ → Option BufId
buffer_of entries w = buffer_in (slice_get entries w)

abbrev pub same_id : BufId → BufId → Bool
same_id a b = a.home.0 == b.home.0 && a.slot == b.slot

abbrev pub is_buffer : BufId → Option BufId → Bool
is_buffer b None = false
is_buffer b (Some a) = same_id a b

-- ## What an input gave
-- The answers of connects alone are none of a journal's.
abbrev pub is_ret_line : Ret → RetLine → Bool
is_ret_line (returns.Done n) (rets.Done m) = m == n
is_ret_line returns.BadHandle rets.BadHandle = true
is_ret_line returns.NotKnocked rets.NotKnocked = true
is_ret_line returns.NotOpen rets.NotOpen = true
is_ret_line returns.TooMuch rets.TooMuch = true
is_ret_line _ _ = false

-- A part is printed with the buffer of the entry that it names.
abbrev pub is_recv_line : List EntryLine → WireNo → ℕ → ℕ → OutputLine → Bool
is_recv_line entries w from len (given.Recv buf place n) = is_buffer buf (buffer_of entries w.0) && (place == from && n == len)
is_recv_line entries w from len _ = false

abbrev pub is_sent_line : ℕ → ℕ → OutputLine → Bool
is_sent_line bytes window (given.Sent n room) = n == bytes && room == window
is_sent_line bytes window _ = false

abbrev pub is_told_line : List EntryLine → Told → OutputLine → Bool
is_told_line entries told.Knock given.Knock = true
is_told_line entries told.ConnectedUp given.ConnectedUp = true
is_told_line entries told.ConnectedRefused given.ConnectedRefused = true
is_told_line entries told.ConnectedTimeout given.ConnectedTimeout = true
is_told_line entries (told.Recv w from len) l = is_recv_line entries w from len l
is_told_line entries told.RecvEnd given.RecvEnd = true
is_told_line entries (told.Sent bytes window) l = is_sent_line bytes window l
is_told_line entries told.DeadReset given.DeadReset = true
is_told_line entries told.DeadTimeout given.DeadTimeout = true
is_told_line entries _ _ = false

abbrev pub is_reply_line : OutputLine → Bool
is_reply_line (given.Reply n) = true
is_reply_line _ = false

abbrev pub is_answer_line : Ret → OutputLine → Bool
is_answer_line r (given.Ret l) = is_ret_line r l
is_answer_line r _ = false

abbrev pub is_output_line : List EntryLine → Output → OutputLine → Bool
is_output_line entries (outputs.Frame seg) l = is_reply_line l
is_output_line entries (outputs.Told t) l = is_told_line entries t l
is_output_line entries (outputs.Ret r) l = is_answer_line r l

abbrev pub are_output_lines : List EntryLine → List Output → List OutputLine → Bool
are_output_lines entries os ls = length os == length ls && list_all (λ (p : Output × OutputLine). is_output_line entries p.0 p.1) (zip os ls)

-- ## An input
abbrev pub is_sendv_line : ℕ → InputKind → Bool
is_sendv_line len (kinds.Sendv n) = n == len
is_sendv_line len _ = false

abbrev pub is_done_line : ℕ → InputKind → Bool
is_done_line bytes (kinds.RecvDone n) = n == bytes
is_done_line bytes _ = false

abbrev pub is_call_line : Ask → InputKind → Bool
is_call_line asks.Connect kinds.Connect = true
is_call_line asks.Accept kinds.Accept = true
is_call_line (asks.Sendv bytes) kind = is_sendv_line (length bytes) kind
is_call_line (asks.RecvDone bytes) kind = is_done_line bytes kind
is_call_line asks.Close kinds.Close = true
is_call_line _ _ = false

abbrev pub is_core : ℕ → Option CoreId → Bool
is_core c None = false
is_core c (Some core) = core.0 == c

abbrev pub is_entry : ℕ → Option WireNo → Bool
is_entry w None = false
is_entry w (Some v) = v.0 == w

abbrev pub is_segment_line : WireNo → Option CoreId → InputKind → Bool
is_segment_line w core (kinds.Seg v c) = v.0 == w.0 && is_core c.0 core
is_segment_line w core _ = false

abbrev pub is_timer_line : ℕ → InputKind → Bool
is_timer_line clock (kinds.Timer t) = t == clock
is_timer_line clock _ = false

abbrev pub is_flush_line : Option WireNo → InputKind → Bool
is_flush_line end (kinds.Flush w) = is_entry w.0 end
is_flush_line end _ = false

-- A segment is printed with its core, a timer with the time, a flush with the last entry of its cycle.
abbrev pub is_kind : Input → ℕ → Option CoreId → Option WireNo → InputKind → Bool
is_kind (inputs.Segment w seg) clock core end kind = is_segment_line w core kind
is_kind inputs.Timer clock core end kind = is_timer_line clock kind
is_kind (inputs.Call ask) clock core end kind = is_call_line ask kind
is_kind inputs.Flush clock core end kind = is_flush_line end kind

abbrev pub is_input_line : List EntryLine → Option WireNo → JournalEntry → InputLine → Bool
is_input_line entries end e l = is_kind e.input e.clock e.core end l.kind && are_output_lines entries e.outputs l.outputs

-- a journal from this place on, where `ends` gives the last entry of each input's cycle
abbrev pub are_input_lines : List EntryLine → List (Option WireNo) → ℕ → List JournalEntry → List InputLine → Bool
are_input_lines entries ends at [] [] = true
are_input_lines entries ends at [] (l ∷ ls) = false
are_input_lines entries ends at (e ∷ es) [] = false
are_input_lines entries ends at (e ∷ es) (l ∷ ls) =
    is_input_line entries (end_at ends at) e l && are_input_lines entries ends (at + 1) es ls

-- ## Connections
abbrev pub is_journal : List EntryLine → ConnEnd → ConnLine → Bool
is_journal entries c l = are_input_lines entries c.ends 0 c.journal l.inputs

-- the journals, ..
abbrev pub are_journals : List EntryLine → List ConnEnd → List ConnLine → Bool
are_journals entries cs ls = length cs == length ls && list_all (λ (p : ConnEnd × ConnLine). is_journal entries p.0 p.1) (zip cs ls)

-- those of a group
abbrev pub is_conn_of : ℕ → ConnLine → Bool
is_conn_of g l = l.group.0 == g

abbrev pub conns_of : ℕ → List ConnLine → List ConnLine
conns_of g ls = filter (is_conn_of g) ls

-- .. and how each was opened and left, with the lengths of its answer
pub record IsConnLine (c : ConnEnd) (l : ConnLine) : Type 0 where
  pub remote : l.remote ≡ c.flow.remote
  pub remote_port : l.remote_port ≡ c.flow.remote_port
  pub local_port : l.local_port ≡ c.flow.local_port
  pub iss : l.iss ≡ c.iss
  pub left : l.left ≡ c.left
  pub wrote : l.wrote ≡ c.wrote
  pub taken : l.taken ≡ c.taken

abbrev pub AreConnLines : List ConnEnd → List ConnLine → Type 0
AreConnLines [] [] = Unit {0}
AreConnLines [] (l ∷ ls) = ⊥
AreConnLines (c ∷ cs) [] = ⊥
AreConnLines (c ∷ cs) (l ∷ ls) = IsConnLine c l × AreConnLines cs ls

-- ## Strays
pub record IsStrayLine (s : Stray) (l : StrayLine) : Type 0 where
  pub w : l.w ≡ s.w
  pub core : l.core ≡ s.core
  pub kind : l.kind ≡ s.kind
  pub answered : is_some l.reply ≡ is_some s.reply

abbrev pub AreStrayLines : List Stray → List StrayLine → Type 0
AreStrayLines [] [] = Unit {0}
AreStrayLines [] (l ∷ ls) = ⊥
AreStrayLines (s ∷ ss) [] = ⊥
AreStrayLines (s ∷ ss) (l ∷ ls) = IsStrayLine s l × AreStrayLines ss ls

-- those of the frames of a group
abbrev pub is_frame_of : ℕ → Option EntryLine → Bool
is_frame_of g (Some (lines.Frame rec at group ring fate)) = group.0 == g
is_frame_of g _ = false

abbrev pub is_stray_of : ℕ → List EntryLine → StrayLine → Bool
is_stray_of g entries l = is_frame_of g (slice_get entries l.w.0)

abbrev pub strays_of : ℕ → List EntryLine → List StrayLine → List StrayLine
strays_of g entries ls = filter (is_stray_of g entries) ls

-- each is an accepted frame
abbrev pub is_stray_line : List EntryLine → StrayLine → Bool
is_stray_line entries l = is_some (buffer_of entries l.w.0)
