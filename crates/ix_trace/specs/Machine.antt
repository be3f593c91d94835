-- Which line may stand next, as a deterministic machine over lines.
use Rattle.std.specs.Prelude.{◌≡◌, ℕ, ◌+◌, ◌-◌, List, [], ◌∷◌, ◌++◌, length, Bool, if◌then◌else◌, ◌==◌, ◌&&◌, nat_lt, nat_le, Option, Some, None, Result, Ok, Err}
use Rattle.ix_lines.specs.declared.line.Line.{Line}
use Rattle.ix_lines.specs.declared.line.Line.TheVariants as lines
use Rattle.ix_lines.specs.declared.types.Head.{Head}
use Rattle.ix_lines.specs.declared.types.RingLine.{RingLine}
use Rattle.ix_lines.specs.declared.types.HomeLine.{HomeLine}
use Rattle.ix_lines.specs.declared.types.SettleLine.{SettleLine}
use Rattle.ix_lines.specs.declared.types.ConnectLine.{ConnectLine}
use Rattle.ix_lines.specs.declared.types.EntryLine.{EntryLine}
use Rattle.ix_lines.specs.declared.types.EntryLine.TheVariants as entries
use Rattle.ix_lines.specs.declared.types.StrayLine.{StrayLine}
use Rattle.ix_lines.specs.declared.types.Opening.{Opening}
use Rattle.ix_lines.specs.declared.types.InputKind.{InputKind}
use Rattle.ix_lines.specs.declared.types.OutputLine.{OutputLine}
use Rattle.ix_lines.specs.declared.types.InputLine.{InputLine}
use Rattle.ix_lines.specs.declared.types.ConnLine.{ConnLine}
use Rattle.ix_tcpdef.specs.declared.types.Left.{Left}
use Rattle.ix_trace.specs.declared.sheet.Draft.{Draft}
use Rattle.ix_trace.specs.declared.progress.Progress.{Progress}
use Rattle.ix_trace.specs.declared.progress.Progress.TheVariants as states

abbrev pub when : Bool → Progress → Option Progress
when t s = if t then Some s else None

-- ## A settle
abbrev pub is_full : ℕ → SettleLine → Bool
is_full cores s = length s.rings == cores && length s.homes == cores

abbrev pub nothing_printed : SettleLine
nothing_printed = record { rings = []; homes = [] }

abbrev pub with_ring : SettleLine → RingLine → SettleLine
with_ring s r = record s { rings = s.rings ++ r ∷ [] }

abbrev pub with_home : SettleLine → HomeLine → SettleLine
with_home s h = record s { homes = s.homes ++ h ∷ [] }

-- a ring or a home line, where it is the next
abbrev pub settle_step : ℕ → SettleLine → (SettleLine → Progress) → Line → Option Progress
settle_step cores s go (lines.Ring core r) =
    when ((nat_lt (length s.rings) cores && core == length s.rings) && length s.homes == 0) (go (with_ring s r))
settle_step cores s go (lines.Home core h) =
    when ((length s.rings == cores && nat_lt (length s.homes) cores) && core == length s.homes) (go (with_home s h))
settle_step cores s go _ = None

-- ## What has been read so far, with one thing more
abbrev pub begun : Head → SettleLine → Draft
begun h s = record {
  sheet = record { head = h; settles = s ∷ []; connects = []; entries = []; strays = []; conns = []; closed = []; replies = 0; drops = 0 };
  group = 0;
  begin = 0;
  next = 0;
}

abbrev pub with_connect : Draft → ConnectLine → Draft
with_connect d a = record d { sheet = record d.sheet { connects = d.sheet.connects ++ a ∷ [] } }

abbrev pub with_entry : Draft → EntryLine → Draft
with_entry d e = record d { sheet = record d.sheet { entries = d.sheet.entries ++ e ∷ [] } }

abbrev pub with_settle : Draft → SettleLine → Draft
with_settle d s = record d { sheet = record d.sheet { settles = d.sheet.settles ++ s ∷ []; entries = d.sheet.entries ++ entries.Settle ∷ [] } }

abbrev pub with_stray : Draft → StrayLine → Draft
with_stray d s = record d { sheet = record d.sheet { strays = d.sheet.strays ++ s ∷ [] }; next = s.w.0 + 1 }

abbrev pub with_closed : Draft → ℕ → Draft
with_closed d n = record d { sheet = record d.sheet { closed = d.sheet.closed ++ n ∷ [] } }

-- the place of the first connection of a group, where the next one is of it
abbrev pub begin_of : Draft → ℕ → ℕ
begin_of d g = if d.group == g then d.begin else length d.sheet.conns

abbrev pub in_group : Draft → ℕ → Draft
in_group d g = record d { group = g; begin = begin_of d g }

abbrev pub conn_of : Opening → List InputLine → Left → ℕ → ℕ → ConnLine
conn_of o is f wrote taken = record {
  group = o.group;
  remote = o.remote;
  remote_port = o.remote_port;
  local_port = o.local_port;
  iss = o.iss;
  inputs = is;
  left = f;
  wrote = wrote;
  taken = taken;
}

abbrev pub with_conn : Draft → ConnLine → Draft
with_conn d c = record d { sheet = record d.sheet { conns = d.sheet.conns ++ c ∷ [] } }

-- ## Between whole things
abbrev pub no_closed : Draft → Bool
no_closed d = length d.sheet.closed == 0

abbrev pub no_conns : Draft → Bool
no_conns d = length d.sheet.conns == 0 && no_closed d

abbrev pub no_strays : Draft → Bool
no_strays d = length d.sheet.strays == 0 && no_conns d

abbrev pub no_entries : Draft → Bool
no_entries d = length d.sheet.entries == 0 && no_strays d

abbrev pub entry_read : Draft → EntryLine → Progress
entry_read d entries.Settle = states.InSettle d nothing_printed
entry_read d (entries.Frame rec at group ring fate) = states.Between (with_entry d (entries.Frame rec at group ring fate))
entry_read d (entries.Time t) = states.Between (with_entry d (entries.Time t))
entry_read d (entries.Tag group) = states.Between (with_entry d (entries.Tag group))
entry_read d (entries.Move group to) = states.Between (with_entry d (entries.Move group to))

-- whether a connection of this group, with this place in it, may come next
abbrev pub goes_on : Draft → ℕ → ℕ → Bool
goes_on d g order = nat_le d.group g && order == length d.sheet.conns - begin_of d g

abbrev pub between_step : Draft → Line → Option Progress
between_step d (lines.Connect peer a) = when (no_entries d && peer == length d.sheet.connects) (states.Between (with_connect d a))
between_step d (lines.Entry w e) = when (no_strays d && w == length d.sheet.entries) (entry_read d e)
between_step d (lines.Stray s) = when (no_conns d && nat_le d.next s.w.0) (states.Between (with_stray d s))
between_step d (lines.Conn order o) = when (no_closed d && goes_on d o.group.0 order) (states.InConn (in_group d o.group.0) o [])
between_step d (lines.Closed core pool) =
    when (nat_lt (length d.sheet.closed) d.sheet.head.cores && core == length d.sheet.closed) (states.Between (with_closed d pool))
between_step d (lines.End replies drops) =
    when (length d.sheet.closed == d.sheet.head.cores) (states.Done (record d.sheet { replies = replies; drops = drops }))
between_step d _ = None

-- ## In a connection
abbrev pub input_step : Draft → Opening → List InputLine → Line → Option Progress
input_step d o is (lines.Input k) = Some (states.InInput d o is k [])
input_step d o is (lines.Left f) = Some (states.AtAnswer d o is f)
input_step d o is _ = None

-- an input ends where a line comes that is no output
abbrev pub output_step : Draft → Opening → List InputLine → InputKind → List OutputLine → Line → Option Progress
output_step d o is k os (lines.Output x) = Some (states.InInput d o is k (os ++ x ∷ []))
output_step d o is k os l = input_step d o (is ++ record { kind = k; outputs = os } ∷ []) l

abbrev pub answer_step : Draft → Opening → List InputLine → Left → Line → Option Progress
answer_step d o is f (lines.Answer wrote taken) = Some (states.Between (with_conn d (conn_of o is f wrote taken)))
answer_step d o is f _ = None

-- ## The machine
abbrev pub head_step : Line → Option Progress
head_step (lines.Head h) = Some (states.AtOpen h)
head_step _ = None

abbrev pub open_step : Head → Line → Option Progress
open_step h lines.Open = Some (states.InFirst h nothing_printed)
open_step h _ = None

-- a settle ends where a line comes after it is full
unfoldable pub step : Progress → Line → Option Progress
step states.AtHead l = head_step l
step (states.AtOpen h) l = open_step h l
step (states.InFirst h s) l = if is_full h.cores s then between_step (begun h s) l else settle_step h.cores s (states.InFirst h) l
step (states.Between d) l = between_step d l
step (states.InSettle d s) l =
    if is_full d.sheet.head.cores s then between_step (with_settle d s) l else settle_step d.sheet.head.cores s (states.InSettle d) l
step (states.InConn d o is) l = input_step d o is l
step (states.InInput d o is k os) l = output_step d o is k os l
step (states.AtAnswer d o is f) l = answer_step d o is f l
step (states.Done s) l = None

abbrev pub then_run : (Progress → Option Progress) → Option Progress → Option Progress
then_run go None = None
then_run go (Some s) = go s

abbrev pub run : Progress → List Line → Option Progress
run s [] = Some s
run s (l ∷ ls) = then_run (λ t. run t ls) (step s l)

-- a settle with one line more, whatever state it stands in
abbrev pub SameSettle : Option SettleLine → ℕ → SettleLine → Line → Type 0
SameSettle None cores s l = (go : SettleLine → Progress) → settle_step cores s go l ≡ None
SameSettle (Some t) cores s l = (go : SettleLine → Progress) → settle_step cores s go l ≡ Some (go t)

abbrev pub GivesSettle : {E : Type 0} → Result (Option SettleLine) E → ℕ → SettleLine → Line → Type 0
GivesSettle (Ok t) cores s l = SameSettle t cores s l
GivesSettle (Err e) cores s l = Unit {0}
