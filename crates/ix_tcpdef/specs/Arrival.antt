-- Arrival of a segment in the other states, up to its acknowledgement: RFC 9293, section 3.10.7.4.
use Rattle.std.specs.Prelude.{ℕ, ◌+◌, ◌-◌, Bool, true, false, nat_lt, ◌&&◌, ◌||◌, ◌==◌, not, if◌then◌else◌, Some, ℤ, pos, ◌+ℤ◌}
use Rattle.ix_base.specs.declared.segment.SegHead.{SegHead}
use Rattle.ix_base.specs.Sequence.{is_next, lies_in}
use Rattle.ix_base.specs.Flags.{has_flag}
use Rattle.ix_tcpdef.specs.Ticks.{later}
use Rattle.ix_tcpdef.specs.Connection.{seq_of, rcv_wnd, rcv_nxt, is_syn_received, is_time_wait, on, gives, tells, ended}
use Rattle.ix_tcpdef.specs.Frames.{ack_frame}
use Rattle.ix_tcpdef.specs.declared.types.Cfg.{Cfg}
use Rattle.ix_tcpdef.specs.declared.types.Job.{Job}
use Rattle.ix_tcpdef.specs.declared.types.Told.TheVariants as told
use Rattle.ix_base.specs.declared.segment.TheConstants.{ACK, FIN, RST, SYN}

-- what a part of the arrival leaves: the segment goes on to the next part, or it is done with
pub data Next : Type 0 where
  Goes : Job → Next
  Stops : Job → Next

infixl 10 ◌>>=◌
abbrev pub ◌>>=◌ : Next → (Job → Next) → Next
Goes j >>= f = f j
Stops j >>= f = Stops j

-- what a function leaves that answers whether the segment is done with
abbrev pub next : Bool → Job → Next
next true j = Stops j
next false j = Goes j

abbrev pub job_of : Next → Job
job_of (Goes j) = j
job_of (Stops j) = j

-- everything that a segment takes up: its body, its SYN and its FIN
abbrev pub span : SegHead → ℕ
span h = h.len + (if has_flag h.flags SYN then 1 else 0) + (if has_flag h.flags FIN then 1 else 0)

-- ## First: check the sequence number
-- the four cases of the acceptability test; of a segment with octets, the first or the last lies in the window
abbrev pub is_acceptable : ℕ → ℕ → ℤ → Bool
is_acceptable octets window seq =
    if octets == 0
    then (if window == 0 then is_next seq else lies_in window seq)
    else nat_lt 0 window && (lies_in window seq || lies_in window (seq +ℤ pos (octets - 1)))

-- An unacceptable segment is answered by an acknowledgement, unless it is a RST. A repeated FIN begins TIME-WAIT anew.
unfoldable pub acceptability : Cfg → SegHead → ℕ → Job → Next
acceptability cfg h now j =
    if is_acceptable (span h) (rcv_wnd cfg j.connection) (seq_of j.connection h)
    then Goes j
    else if has_flag h.flags RST
    then Stops j
    else if has_flag h.flags FIN && is_time_wait j.connection.state
    then Stops (gives (on j (record j.connection { deadline = Some (later now cfg.time_wait) })) (ack_frame cfg j.connection))
    else Stops (gives j (ack_frame cfg j.connection))

-- ## Second: check the RST bit
-- A RST at RCV.NXT ends the connection. Another in the window is challenged (RFC 5961, section 3.2).
unfoldable pub reset : Cfg → SegHead → Job → Next
reset cfg h j =
    if not (has_flag h.flags RST)
    then Goes j
    else if h.seq == rcv_nxt j.connection
    then Stops (tells (on j (ended j.connection)) told.DeadReset)
    else Stops (gives j (ack_frame cfg j.connection))

-- ## Fourth: check the SYN bit
-- In SYN-RECEIVED it ends the connection; later it is challenged (RFC 5961, section 4.2).
unfoldable pub synchronize : Cfg → SegHead → Job → Next
synchronize cfg h j =
    if not (has_flag h.flags SYN)
    then Goes j
    else if is_syn_received j.connection.state
    then Stops (on j (ended j.connection))
    else Stops (gives j (ack_frame cfg j.connection))

-- ## Fifth: check the ACK field
unfoldable pub unacknowledged : SegHead → Job → Next
unacknowledged h j = if has_flag h.flags ACK then Goes j else Stops j
