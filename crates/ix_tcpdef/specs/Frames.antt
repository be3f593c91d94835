-- The segments that a connection sends.
use Rattle.std.specs.Prelude.{ℕ, ◌+◌, ◌==◌, if◌then◌else◌, List, [], length, Some, None}
use Rattle.ix_base.specs.declared.segment.SegHead.{SegHead}
use Rattle.ix_base.specs.Sequence.{number}
use Rattle.ix_tcpdef.specs.Connection.{snd_nxt, rcv_nxt, rcv_wnd}
use Rattle.ix_tcpdef.specs.declared.types.Cfg.{Cfg}
use Rattle.ix_tcpdef.specs.declared.types.Connection.{Connection}
use Rattle.ix_tcpdef.specs.declared.types.Output.{Output}
use Rattle.ix_tcpdef.specs.declared.types.Output.TheVariants as outputs
use Rattle.ix_base.specs.declared.segment.TheConstants.{ACK, FIN, PSH, RST, SYN}
use Rattle.ix_tcpdef.specs.declared.types.TheConstants.{BEHIND_HEADER, BEHIND_SYN}

-- a segment with ACK that stands at this sequence number
abbrev pub plain_frame : Cfg → Connection → ℕ → ℕ → List ℕ → Output
plain_frame cfg w seq flags body =
    outputs.Frame (record {
      head = record { flow = w.flow; peer_mac = w.peer_mac; seq = seq; ack = rcv_nxt w; flags = flags; window = rcv_wnd cfg w; mss = None; len = length body; at = BEHIND_HEADER };
      body = body;
    })

-- an acknowledgement of its own
abbrev pub ack_frame : Cfg → Connection → Output
ack_frame cfg w = plain_frame cfg w (snd_nxt w) ACK []

-- the answer to an acknowledgement of what was not sent
abbrev pub reset_frame : Connection → SegHead → Output
reset_frame w h =
    outputs.Frame (record {
      head = record { flow = w.flow; peer_mac = w.peer_mac; seq = h.ack; ack = 0; flags = RST; window = 0; mss = None; len = 0; at = BEHIND_HEADER };
      body = [];
    })

-- the SYN of an active opening
abbrev pub syn_frame : Cfg → Connection → Output
syn_frame cfg w =
    outputs.Frame (record {
      head = record { flow = w.flow; peer_mac = w.peer_mac; seq = number w.iss 0; ack = 0; flags = SYN; window = rcv_wnd cfg w; mss = Some cfg.mss; len = 0; at = BEHIND_SYN };
      body = [];
    })

-- the SYN-ACK of a passive opening
abbrev pub syn_ack_frame : Cfg → Connection → Output
syn_ack_frame cfg w =
    outputs.Frame (record {
      head = record { flow = w.flow; peer_mac = w.peer_mac; seq = number w.iss 0; ack = rcv_nxt w; flags = SYN + ACK; window = rcv_wnd cfg w; mss = Some cfg.mss; len = 0; at = BEHIND_SYN };
      body = [];
    })

-- bytes of the stream that stand at this position; PSH where they end the send queue
abbrev pub data_frame : Cfg → Connection → ℕ → List ℕ → Output
data_frame cfg w at bytes =
    plain_frame cfg w (number w.iss at) (if at + length bytes == length w.sent + 1 then PSH + ACK else ACK) bytes

-- the FIN at this position
abbrev pub fin_frame : Cfg → Connection → ℕ → Output
fin_frame cfg w at = plain_frame cfg w (number w.iss at) (FIN + ACK) []
