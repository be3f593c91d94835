-- The heads of segments that are sent at once, over numbers.
use Rattle.std.specs.Prelude.{ℕ, ◌+◌, Some, None}
use Rattle.ix_base.specs.declared.segment.SegHead.{SegHead}
use Rattle.ix_base.specs.Sequence.{number}
use Rattle.ix_tcpdef.specs.Connection.{offered_window}
use Rattle.ix_tcpdef.specs.declared.types.Cfg.{Cfg}
use Rattle.ix_tcpdef.specs.declared.types.Tcb.{Tcb}
use Rattle.ix_base.specs.declared.segment.TheConstants.{ACK, RST, SYN}
use Rattle.ix_tcpdef.specs.declared.types.TheConstants.{BEHIND_HEADER, BEHIND_SYN}

-- RCV.WND
abbrev pub window : Cfg → Tcb → ℕ
window cfg t = offered_window cfg t.unread

-- an acknowledgement of its own
abbrev pub ack_head : Cfg → Tcb → SegHead
ack_head cfg t =
    record { flow = t.flow; peer_mac = t.peer_mac; seq = t.nxt; ack = t.rcv_nxt; flags = ACK; window = window cfg t; mss = None; len = 0; at = BEHIND_HEADER }

-- the answer to an acknowledgement of what was not sent
abbrev pub reset_head : Tcb → SegHead → SegHead
reset_head t h =
    record { flow = t.flow; peer_mac = t.peer_mac; seq = h.ack; ack = 0; flags = RST; window = 0; mss = None; len = 0; at = BEHIND_HEADER }

-- the SYN-ACK of a passive opening
abbrev pub syn_ack_head : Cfg → Tcb → SegHead
syn_ack_head cfg t =
    record { flow = t.flow; peer_mac = t.peer_mac; seq = number t.iss 0; ack = t.rcv_nxt; flags = SYN + ACK; window = window cfg t; mss = Some cfg.mss; len = 0; at = BEHIND_SYN }
