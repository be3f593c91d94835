-- The first checks of a segment over numbers (RFC 9293, section 3.10.7.4).
use Rattle.std.specs.Prelude.{ℕ, ◌&&◌, ◌==◌, not, if◌then◌else◌, Some, ℤ}
use Rattle.ix_base.specs.declared.segment.SegHead.{SegHead}
use Rattle.ix_base.specs.Sequence.{offset}
use Rattle.ix_base.specs.Flags.{has_flag}
use Rattle.ix_tcpdef.specs.Ticks.{later}
use Rattle.ix_tcpdef.specs.Connection.{is_syn_received, is_time_wait}
use Rattle.ix_tcpdef.specs.Arrival.{span, is_acceptable}
use Rattle.ix_tcpdef.specs.declared.types.Cfg.{Cfg}
use Rattle.ix_tcpdef.specs.declared.types.Tcb.{Tcb}
use Rattle.ix_tcpdef.specs.declared.types.Told.TheVariants as told
use Rattle.ix_base.specs.declared.segment.TheConstants.{ACK, FIN, RST, SYN}
use Rattle.ix_tcpin.specs.Heads.{window, ack_head}
use Rattle.ix_tcpin.specs.Work.{Work, Course, Onward, Done, on, replies, tells, ends}

-- how far a segment begins past RCV.NXT
abbrev pub distance : Tcb → SegHead → ℤ
distance t h = offset t.rcv_nxt h.seq

-- ## First: check the sequence number
unfoldable pub acceptability_part : Cfg → SegHead → ℕ → Work → Course
acceptability_part cfg h now k =
    if is_acceptable (span h) (window cfg k.numbers) (distance k.numbers h)
    then Onward k
    else if has_flag h.flags RST
    then Done k
    else if has_flag h.flags FIN && is_time_wait k.numbers.state
    then Done (replies (on k (record k.numbers { deadline = Some (later now cfg.time_wait) })) (ack_head cfg k.numbers))
    else Done (replies k (ack_head cfg k.numbers))

-- ## Second: check the RST bit
unfoldable pub reset_part : Cfg → SegHead → Work → Course
reset_part cfg h k =
    if not (has_flag h.flags RST)
    then Onward k
    else if h.seq == k.numbers.rcv_nxt
    then Done (tells (ends k) told.DeadReset)
    else Done (replies k (ack_head cfg k.numbers))

-- ## Fourth: check the SYN bit
unfoldable pub synchronize_part : Cfg → SegHead → Work → Course
synchronize_part cfg h k =
    if not (has_flag h.flags SYN)
    then Onward k
    else if is_syn_received k.numbers.state
    then Done (ends k)
    else Done (replies k (ack_head cfg k.numbers))

-- ## Fifth: check the ACK field
unfoldable pub unacknowledged_part : SegHead → Work → Course
unacknowledged_part h k = if has_flag h.flags ACK then Onward k else Done k
