-- What an application is told of its peer's stream.
use Rattle.std.specs.Prelude.{◌≡◌, ℕ, ◌+◌, ◌-◌, ◌%◌, ◌^◌, ◌⊎◌, Bool, true, false, nat_lt, if◌then◌else◌, List, [], ◌∷◌, ◌++◌, length, drop, map}
use Rattle.ix_base.specs.declared.id.WireNo.{WireNo}
use Rattle.ix_base.specs.declared.id.Flow.{Flow}
use Rattle.ix_base.specs.declared.segment.Seg.{Seg}
use Rattle.ix_base.specs.Prefix.{IsPrefix}
use Rattle.ix_base.specs.Sequence.{number}
use Rattle.ix_base.specs.Flags.{has_flag}
use Rattle.ix_tcpdef.specs.Connection.{rcv_wnd, seq_of}
use Rattle.ix_tcpdef.specs.Body.{octets}
use Rattle.ix_tcpdef.specs.Calls.{recv_of}
use Rattle.ix_tcpdef.specs.Sound.{IsInRange}
use Rattle.ix_tcpdef.specs.Laws.{AreWritten}
use Rattle.ix_tcpdef.specs.Step.{Moment, listening, step, last, run_outputs}
use Rattle.ix_tcpdef.specs.declared.types.Cfg.{Cfg}
use Rattle.ix_tcpdef.specs.declared.types.Connection.{Connection}
use Rattle.ix_tcpdef.specs.declared.types.State.{State}
use Rattle.ix_tcpdef.specs.declared.types.State.TheVariants as st
use Rattle.ix_tcpdef.specs.declared.types.Octets.{Octets}
use Rattle.ix_tcpdef.specs.declared.types.Piece.{Piece}
use Rattle.ix_tcpdef.specs.declared.types.Input.{Input}
use Rattle.ix_tcpdef.specs.declared.types.Input.TheVariants as inputs
use Rattle.ix_tcpdef.specs.declared.types.Output.{Output}
use Rattle.ix_tcpdef.specs.declared.types.Output.TheVariants as outputs
use Rattle.ix_tcpdef.specs.declared.types.Told.{Told}
use Rattle.ix_tcpdef.specs.declared.types.Told.TheVariants as told
use Rattle.ix_base.specs.declared.segment.TheConstants.{SYN}

-- ## The events that name bytes, in order
abbrev pub recv_in : Told → List Output
recv_in (told.Recv w from len) = outputs.Told (told.Recv w from len) ∷ []
recv_in _ = []

abbrev pub recv_from : Output → List Output
recv_from (outputs.Told t) = recv_in t
recv_from _ = []

abbrev pub recvs : List Output → List Output
recvs [] = []
recvs (o ∷ os) = recv_from o ++ recvs os

-- those of a whole run
abbrev pub all_recvs : List (List Output) → List Output
all_recvs [] = []
all_recvs (os ∷ rest) = recvs os ++ all_recvs rest

-- the parts that were told: before a connection is accepted there are none
abbrev pub told_pieces : Connection → List Piece
told_pieces w = if w.accepted then w.pieces else []

-- ## Where bytes come from
-- the moments of a run, the last first
abbrev pub after : List Moment → List Moment → List Moment
after past [] = past
after past (m ∷ ms) = after (m ∷ past) ms

-- the segment with this wire number came
abbrev pub Arrived : List Moment → WireNo → Seg → Type 0
Arrived [] w seg = ⊥
Arrived (m ∷ past) w seg = (m.input ≡ inputs.Segment w seg) ⊎ Arrived past w seg

-- Bytes at a position are those that a segment which came carries there: they stand in its body behind k others, and their sequence number
-- and their place in the frame are so much further than the segment's.
pub record Came (past : List Moment) (irs at : ℕ) (w : WireNo) (from : ℕ) (bytes : List ℕ) : Type 0 where
  pub seg : Seg
  pub arrived : Arrived past w seg
  pub k : ℕ
  pub place : from ≡ seg.head.at + k
  pub seq : number irs at ≡ (seg.head.seq + k) % 2 ^ 32
  pub rest : List ℕ
  pub body : drop k seg.body ≡ bytes ++ rest

-- parts stand one behind another, from this position on
abbrev pub CameInOrder : List Moment → ℕ → ℕ → List Piece → Type 0
CameInOrder past irs at [] = Unit {0}
CameInOrder past irs at (p ∷ ps) = Came past irs at p.w p.from p.bytes × CameInOrder past irs (at + length p.bytes) ps

-- ## The law
-- What a connection is told from its opening on: the events are those of its parts, and the bytes of these are the bytes at the positions
-- 1, 2, .. of the peer's stream, each as the segment carries it that its event names.
pub record IsTold (past : List Moment) (given : List Output) (w : Connection) : Type 0 where
  pub events : map recv_of (told_pieces w) ≡ given
  pub bytes : CameInOrder past w.irs 1 w.pieces

abbrev pub RunsDeliver : Type 0
RunsDeliver =
    (cfg : Cfg) (flow : Flow) (peer_mac : List ℕ) (iss : ℕ) (ms : List Moment) → IsInRange cfg → AreWritten ms → IsTold (after [] ms) (all_recvs (run_outputs cfg (listening flow peer_mac iss) ms)) (last cfg (listening flow peer_mac iss) ms)

-- ## Where the peer agrees with itself
-- the bytes of parts, joined
abbrev pub bytes_of : List Piece → List ℕ
bytes_of [] = []
bytes_of (p ∷ ps) = p.bytes ++ bytes_of ps

-- a stream from this position on; its first byte stands at position 1, behind the SYN
abbrev pub from_position : ℕ → List ℕ → List ℕ
from_position at stream = if nat_lt 0 at then drop (at - 1) stream else []

-- these bytes are the stream's at this position
pub record AreOf (stream : List ℕ) (at : ℕ) (bytes : List ℕ) : Type 0 where
  pub rest : List ℕ
  pub here : from_position at stream ≡ bytes ++ rest

-- the states in which RCV.NXT is known
abbrev pub expects : State → Bool
expects st.Listen = false
expects st.SynSent = false
expects st.Closed = false
expects _ = true

-- the octets of a segment that lie in the window
abbrev pub in_window : Cfg → Connection → Seg → Octets
in_window cfg w seg = octets w.rcv (rcv_wnd cfg w) (seq_of w seg.head) seg.head.at seg.body

-- the octets that lie in the window when a segment arrives are the stream's at their positions
abbrev pub AgreesAt : Cfg → List ℕ → Connection → Input → Type 0
AgreesAt cfg stream w (inputs.Segment n seg) =
    expects w.state ≡ true → has_flag seg.head.flags SYN ≡ false → AreOf stream (in_window cfg w seg).at (in_window cfg w seg).bytes
AgreesAt cfg stream w _ = Unit {0}

-- the peer agrees with this stream over a whole run
abbrev pub PeerAgrees : Cfg → List ℕ → Connection → List Moment → Type 0
PeerAgrees cfg stream w [] = Unit {0}
PeerAgrees cfg stream w (m ∷ ms) =
    AgreesAt cfg stream w m.input × PeerAgrees cfg stream (step cfg w m.input m.clock).connection ms

-- Where it agrees with a stream, what an application was told begins that stream.
abbrev pub RunsAgree : Type 0
RunsAgree =
    (cfg : Cfg) (flow : Flow) (peer_mac : List ℕ) (iss : ℕ) (ms : List Moment) (stream : List ℕ) → IsInRange cfg → AreWritten ms → PeerAgrees cfg stream (listening flow peer_mac iss) ms → IsPrefix (bytes_of (told_pieces (last cfg (listening flow peer_mac iss) ms))) stream
