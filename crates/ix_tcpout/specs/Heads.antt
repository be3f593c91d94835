-- Segments over numbers: heads, and ranges of the send queue.
use Rattle.std.specs.Prelude.{ℕ, ◌+◌, ◌%◌, ◌^◌, ◌==◌, min, if◌then◌else◌, None, Some}
use Rattle.ix_base.specs.declared.segment.SegHead.{SegHead}
use Rattle.ix_base.specs.Sequence.{number, ahead}
use Rattle.ix_tcpdef.specs.Connection.{offered_window}
use Rattle.ix_tcpdef.specs.declared.types.Cfg.{Cfg}
use Rattle.ix_tcpdef.specs.declared.types.State.{State}
use Rattle.ix_tcpdef.specs.declared.types.State.TheVariants as st
use Rattle.ix_tcpdef.specs.declared.types.Tcb.{Tcb}
use Rattle.ix_base.specs.declared.segment.TheConstants.{ACK, FIN, PSH, SYN}
use Rattle.ix_tcpdef.specs.declared.types.TheConstants.{BEHIND_HEADER, BEHIND_SYN}
use Rattle.ix_tcpout.specs.declared.outs.OutSeg.{OutSeg}

-- the head of a segment that acknowledges what came
abbrev pub plain_head : Cfg → Tcb → ℕ → ℕ → ℕ → SegHead
plain_head cfg t seq flags len =
    record { flow = t.flow; peer_mac = t.peer_mac; seq = seq; ack = t.rcv_nxt; flags = flags; window = offered_window cfg t.unread; mss = None; len = len; at = BEHIND_HEADER }

-- a segment without a body
abbrev pub bare : Cfg → Tcb → ℕ → ℕ → OutSeg
bare cfg t seq flags = record { head = plain_head cfg t seq flags 0; from = 0; to = 0 }

-- n bytes of the send queue from this place on; PSH where they end it
abbrev pub bytes : Cfg → Tcb → ℕ → ℕ → OutSeg
bytes cfg t from n =
    record {
      head = plain_head cfg t ((t.una + from) % 2 ^ 32) (if from + n == t.queued then PSH + ACK else ACK) n;
      from = from;
      to = from + n;
    }

-- the SYN of an active opening, and the SYN-ACK of a passive one
abbrev pub syn : Cfg → Tcb → OutSeg
syn cfg t =
    record {
      head = record { flow = t.flow; peer_mac = t.peer_mac; seq = number t.iss 0; ack = 0; flags = SYN; window = offered_window cfg t.unread; mss = Some cfg.mss; len = 0; at = BEHIND_SYN };
      from = 0;
      to = 0;
    }

abbrev pub syn_ack : Cfg → Tcb → OutSeg
syn_ack cfg t =
    record {
      head = record { flow = t.flow; peer_mac = t.peer_mac; seq = number t.iss 0; ack = t.rcv_nxt; flags = SYN + ACK; window = offered_window cfg t.unread; mss = Some cfg.mss; len = 0; at = BEHIND_SYN };
      from = 0;
      to = 0;
    }

-- how many bytes were sent and are not acknowledged
abbrev pub sent_bytes : Tcb → ℕ
sent_bytes t = min (ahead t.una t.nxt) t.queued

-- the first of these bytes in one segment, or the FIN where there are none
abbrev pub first_again : Cfg → Tcb → ℕ → OutSeg
first_again cfg t n = if n == 0 then bare cfg t t.una (FIN + ACK) else bytes cfg t 0 (min t.mss n)

-- the first unacknowledged segment, once more
abbrev pub again_in : State → Cfg → Tcb → OutSeg
again_in st.SynSent cfg t = syn cfg t
again_in st.SynReceived cfg t = syn_ack cfg t
again_in _ cfg t = first_again cfg t (sent_bytes t)
