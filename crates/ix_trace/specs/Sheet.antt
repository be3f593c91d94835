-- The lines of a report, in their order, and the facts that a report keeps (formats: docs/TRACE.md).
use Rattle.std.specs.Prelude.{◌≡◌, ℕ, ◌+◌, ◌≤◌, List, [], ◌∷◌, ◌++◌, length, if◌then◌else◌, ◌==◌}
use Rattle.std.specs.List.{AllByRecursion}
use Rattle.ix_lines.specs.declared.line.Line.{Line}
use Rattle.ix_lines.specs.declared.line.Line.TheVariants as lines
use Rattle.ix_lines.specs.declared.types.RingLine.{RingLine}
use Rattle.ix_lines.specs.declared.types.HomeLine.{HomeLine}
use Rattle.ix_lines.specs.declared.types.SettleLine.{SettleLine}
use Rattle.ix_lines.specs.declared.types.ConnectLine.{ConnectLine}
use Rattle.ix_lines.specs.declared.types.EntryLine.{EntryLine}
use Rattle.ix_lines.specs.declared.types.EntryLine.TheVariants as entries
use Rattle.ix_lines.specs.declared.types.StrayLine.{StrayLine}
use Rattle.ix_lines.specs.declared.types.Opening.{Opening}
use Rattle.ix_lines.specs.declared.types.OutputLine.{OutputLine}
use Rattle.ix_lines.specs.declared.types.InputLine.{InputLine}
use Rattle.ix_lines.specs.declared.types.ConnLine.{ConnLine}
use Rattle.ix_trace.specs.declared.sheet.Sheet.{Sheet}

abbrev pub ring_lines : ℕ → List RingLine → List Line
ring_lines core [] = []
ring_lines core (r ∷ rs) = lines.Ring core r ∷ ring_lines (core + 1) rs

abbrev pub home_lines : ℕ → List HomeLine → List Line
home_lines core [] = []
home_lines core (h ∷ hs) = lines.Home core h ∷ home_lines (core + 1) hs

-- all rings, rising, then all homes, rising
abbrev pub settle_lines : SettleLine → List Line
settle_lines s = ring_lines 0 s.rings ++ home_lines 0 s.homes

-- the settle before the first entry
abbrev pub open_lines : List SettleLine → List Line
open_lines [] = []
open_lines (s ∷ ss) = lines.Open ∷ settle_lines s

-- the settles of the entries
abbrev pub later : List SettleLine → List SettleLine
later [] = []
later (s ∷ ss) = ss

abbrev pub connect_lines : ℕ → List ConnectLine → List Line
connect_lines peer [] = []
connect_lines peer (a ∷ more) = lines.Connect peer a ∷ connect_lines (peer + 1) more

-- the entries from a wire number on, each settle with what it printed
abbrev pub entry_lines : ℕ → List EntryLine → List SettleLine → List Line
entry_lines w [] ss = []
entry_lines w (entries.Settle ∷ es) [] = []
entry_lines w (entries.Settle ∷ es) (s ∷ ss) = lines.Entry w entries.Settle ∷ settle_lines s ++ entry_lines (w + 1) es ss
entry_lines w (entries.Frame rec at group ring fate ∷ es) ss = lines.Entry w (entries.Frame rec at group ring fate) ∷ entry_lines (w + 1) es ss
entry_lines w (entries.Time t ∷ es) ss = lines.Entry w (entries.Time t) ∷ entry_lines (w + 1) es ss
entry_lines w (entries.Tag group ∷ es) ss = lines.Entry w (entries.Tag group) ∷ entry_lines (w + 1) es ss
entry_lines w (entries.Move group to ∷ es) ss = lines.Entry w (entries.Move group to) ∷ entry_lines (w + 1) es ss

abbrev pub stray_lines : List StrayLine → List Line
stray_lines [] = []
stray_lines (s ∷ ss) = lines.Stray s ∷ stray_lines ss

abbrev pub output_lines : List OutputLine → List Line
output_lines [] = []
output_lines (o ∷ os) = lines.Output o ∷ output_lines os

-- each input with what it gave
abbrev pub input_lines : List InputLine → List Line
input_lines [] = []
input_lines (i ∷ is) = lines.Input i.kind ∷ output_lines i.outputs ++ input_lines is

-- the group of the last connection, and the place of the next one among those of that group
pub record Last : Type 0 where
  pub group : ℕ
  pub next : ℕ

abbrev pub no_conn : Last
no_conn = record { group = 0; next = 0 }

abbrev pub order_of : Last → ℕ → ℕ
order_of p g = if p.group == g then p.next else 0

abbrev pub with_last : Last → ℕ → Last
with_last p g = record { group = g; next = order_of p g + 1 }

abbrev pub last_of : Last → List ConnLine → Last
last_of p [] = p
last_of p (c ∷ cs) = last_of (with_last p c.group.0) cs

abbrev pub opening_of : ConnLine → Opening
opening_of c = record { group = c.group; remote = c.remote; remote_port = c.remote_port; local_port = c.local_port; iss = c.iss }

abbrev pub conn_lines : Last → List ConnLine → List Line
conn_lines p [] = []
conn_lines p (c ∷ cs) =
    lines.Conn (order_of p c.group.0) (opening_of c) ∷ input_lines c.inputs ++ lines.Left c.left ∷ lines.Answer c.wrote c.taken
    ∷ conn_lines (with_last p c.group.0) cs

abbrev pub closed_lines : ℕ → List ℕ → List Line
closed_lines core [] = []
closed_lines core (n ∷ ns) = lines.Closed core n ∷ closed_lines (core + 1) ns

-- all lines but the last
abbrev pub body_lines : Sheet → List Line
body_lines s =
    lines.Head s.head ∷ open_lines s.settles ++ connect_lines 0 s.connects ++ entry_lines 0 s.entries (later s.settles) ++ stray_lines s.strays
    ++ conn_lines no_conn s.conns ++ closed_lines 0 s.closed

abbrev pub sheet_lines : Sheet → List Line
sheet_lines s = body_lines s ++ lines.End s.replies s.drops ∷ []

-- ## The facts that a report keeps

pub record IsFull (cores : ℕ) (s : SettleLine) : Type 0 where
  pub rings : length s.rings ≡ cores
  pub homes : length s.homes ≡ cores

abbrev pub count_settles : List EntryLine → ℕ
count_settles [] = 0
count_settles (entries.Settle ∷ es) = count_settles es + 1
count_settles (entries.Frame rec at group ring fate ∷ es) = count_settles es
count_settles (entries.Time t ∷ es) = count_settles es
count_settles (entries.Tag group ∷ es) = count_settles es
count_settles (entries.Move group to ∷ es) = count_settles es

-- the wire numbers rise, from a least one on
abbrev pub Rise : ℕ → List StrayLine → Type 0
Rise low [] = Unit {0}
Rise low (s ∷ ss) = (low ≤ s.w.0) × Rise (s.w.0 + 1) ss

-- no group is below the one before it
abbrev pub NeverFall : ℕ → List ConnLine → Type 0
NeverFall g [] = Unit {0}
NeverFall g (c ∷ cs) = (g ≤ c.group.0) × NeverFall c.group.0 cs

pub record IsReport (s : Sheet) : Type 0 where
  pub full : AllByRecursion (IsFull s.head.cores) s.settles
  pub count : length s.settles ≡ count_settles s.entries + 1
  pub rise : Rise 0 s.strays
  pub groups : NeverFall 0 s.conns
  pub closed : length s.closed ≡ s.head.cores
