-- Each number of a line fits its type.
use Rattle.std.specs.Prelude.{◌≤◌, ◌<◌, ◌^◌, ℕ, All, length}
use Rattle.ix_lines.specs.Words.{FitsEntry, FitsInput, FitsOutput, FitsReply, last_group, max16, max32, max64, max8}
use Rattle.ix_lines.specs.declared.types.ConnLine.{ConnLine}
use Rattle.ix_lines.specs.declared.types.Head.{Head}
use Rattle.ix_lines.specs.declared.types.HomeLine.{HomeLine}
use Rattle.ix_lines.specs.declared.types.InputLine.{InputLine}
use Rattle.ix_lines.specs.declared.types.RingLine.{RingLine}
use Rattle.ix_lines.specs.declared.types.SettleLine.{SettleLine}
use Rattle.ix_lines.specs.declared.types.StrayLine.{StrayLine}
use Rattle.ix_tcpdef.specs.declared.types.Left.{Left}
use Rattle.ix_trace.specs.declared.sheet.Sheet.{Sheet}

abbrev pub FitsHead : Head → Type 0
FitsHead h = (h.cores ≤ max8) × (h.batch ≤ max16) × (h.buffers ≤ max32)

pub record FitsRing (r : RingLine) : Type 0 where
  pub posted : r.posted ≤ max32
  pub frames : r.frames ≤ max32
  pub items : r.items ≤ max32

pub record FitsHome (h : HomeLine) : Type 0 where
  pub pool : h.pool ≤ max32
  pub posted : h.posted ≤ max32
  pub desk : h.desk ≤ max32
  pub held : h.held ≤ max32
  pub app : h.app ≤ max32
  pub queue : h.queue ≤ max32

pub record FitsSettle (s : SettleLine) : Type 0 where
  pub rings : All FitsRing s.rings
  pub homes : All FitsHome s.homes

abbrev pub FitsStray : StrayLine → Type 0
FitsStray s = (s.w.0 ≤ max32) × (s.core.0 ≤ max8) × FitsReply s.reply

pub record FitsInputLine (l : InputLine) : Type 0 where
  pub kind : FitsInput l.kind
  pub outputs : All FitsOutput l.outputs

abbrev pub FitsLeft : Left → Type 0
FitsLeft l = (l.una ≤ max64) × (l.nxt ≤ max64) × (l.rcv ≤ max64) × (l.cwnd ≤ max32) × (l.ssthresh ≤ max32)

pub record FitsConn (c : ConnLine) : Type 0 where
  pub group : c.group.0 ≤ last_group
  pub remote : c.remote < 2 ^ 32
  pub remote_port : c.remote_port ≤ max16
  pub local_port : c.local_port ≤ max16
  pub iss : c.iss < 2 ^ 32
  pub inputs : All FitsInputLine c.inputs
  pub left : FitsLeft c.left
  pub wrote : c.wrote ≤ max64
  pub taken : c.taken ≤ max64

-- each connection's group is one of the flow groups
abbrev pub IsInGroup : ConnLine → Type 0
IsInGroup c = c.group.0 ≤ last_group

-- the numbers of a report, and the lengths of its lists, by which its lines count
pub record FitsSheet (r : Sheet) : Type 0 where
  pub head : FitsHead r.head
  pub settles : All FitsSettle r.settles
  pub connects : length r.connects ≤ max64
  pub entries : All FitsEntry r.entries
  pub entries_count : length r.entries ≤ max64
  pub strays : All FitsStray r.strays
  pub conns : All FitsConn r.conns
  pub conns_count : length r.conns ≤ max64
  pub closed : All (λ (n : ℕ). n ≤ max32) r.closed
  pub replies : r.replies ≤ max32
  pub drops : r.drops ≤ max32
