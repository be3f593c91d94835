-- Which frames of a capture the local side sent, and the initial sequence numbers that they name.
use Rattle.std.specs.Prelude.{ℕ, ◌/◌, List, [], ◌∷◌, ◌++◌, length, slice_index, slice_range, Bool, false, not, ◌&&◌, ◌||◌, ◌==◌, nat_lt, bit_and, if◌then◌else◌, Option, Some, None, option_to_list, Result, Ok, Err}
use Rattle.std.specs.Str.{bytes_eq}
use Rattle.ix_base.specs.declared.frame.Local.{Local}
use Rattle.ix_base.specs.declared.id.Flow.{Flow}
use Rattle.ix_conf.specs.Settings.{Settings}
use Rattle.ix_eth.specs.Ethernet.{Ethernet, ethernet_of}
use Rattle.ix_ip.specs.Packet.{Packet, header_len, total_len, fragment_bits, packet_parts}
use Rattle.ix_seg.specs.declared.segment.SegFault.{SegFault}
use Rattle.ix_seg.specs.Segment.{Segment, segment_of}

-- The Ethernet source of the frame, behind its destination of six bytes, is this hardware address.
abbrev pub own_frame : List ℕ → List ℕ → Bool
own_frame mac frame = if nat_lt (length frame) 14 then false else bytes_eq (slice_range frame 6 12) mac

-- The local side of a configuration
abbrev pub local_of : Settings → Local
local_of s = record { mac = s.mac; ip = s.ip; port = s.port }

-- The IPv4 packet that the bytes behind an Ethernet header are, whatever its header's checksum (RFC 791, section 3.1): a network card
-- may write the sums of what is sent after it is captured.
unfoldable pub sent_packet : List ℕ → Option Packet
sent_packet bytes =
    if nat_lt (length bytes) 20 then None
    else if not (slice_index bytes 0 / 16 == 4) then None
    else if nat_lt (header_len bytes) 20 || nat_lt (total_len bytes) (header_len bytes) || nat_lt (length bytes) (total_len bytes) then None
    else if not (fragment_bits bytes == 0) then None
    else Some (packet_parts bytes)

-- the same flow, seen from its other end
abbrev pub turned : Flow → Flow
turned f = record { remote = f.local; local = f.remote; remote_port = f.local_port; local_port = f.remote_port }

-- SYN is 02 and ACK is 10, in hexadecimal
abbrev pub is_syn_ack : ℕ → Bool
is_syn_ack flags = bit_and flags 18 == 18

-- the flow and the initial sequence number that a segment of the local side names: its sender is the local end
abbrev pub named_by : Result Segment SegFault → Option (Flow × ℕ)
named_by (Ok s) = if is_syn_ack s.flags then Some (turned s.flow, s.seq) else None
named_by (Err fault) = None

-- what a packet names that this address sent, whatever the checksum of its segment
unfoldable pub named_by_packet : ℕ → Packet → Option (Flow × ℕ)
named_by_packet ip p = if (p.src == ip) && (p.protocol == 6) then named_by (segment_of false p) else None

abbrev pub named_by_sent : ℕ → Option Packet → Option (Flow × ℕ)
named_by_sent ip None = None
named_by_sent ip (Some p) = named_by_packet ip p

unfoldable pub named_behind : ℕ → Ethernet → Option (Flow × ℕ)
named_behind ip e = if e.kind == 0x0800 then named_by_sent ip (sent_packet e.rest) else None

abbrev pub named_by_view : ℕ → Option Ethernet → Option (Flow × ℕ)
named_by_view ip None = None
named_by_view ip (Some e) = named_behind ip e

-- The flow and the initial sequence number that a frame names, where it is a SYN-ACK that the local side sent. Its destination and its
-- checksums are not tested.
unfoldable pub named_by_frame : Local → List ℕ → Option (Flow × ℕ)
named_by_frame local frame = if own_frame local.mac frame then named_by_view local.ip (ethernet_of frame) else None

-- those of all frames of a capture, in its order
abbrev pub initial_numbers : Local → List (List ℕ) → List (Flow × ℕ)
initial_numbers local [] = []
initial_numbers local (frame ∷ frames) = option_to_list (named_by_frame local frame) ++ initial_numbers local frames
