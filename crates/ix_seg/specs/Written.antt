-- The frame of a segment that is sent.
use Rattle.std.specs.Prelude.{◌≡◌, ℕ, ◌+◌, ◌<◌, ◌^◌, List, [], ◌∷◌, ◌++◌, length, Bool, Option, Some, None, Ok}
use Rattle.byteorder.specs.Endian.{big_bytes}
use Rattle.ix_base.specs.declared.frame.Local.{Local}
use Rattle.ix_base.specs.declared.frame.Disposition.{Disposition}
use Rattle.ix_base.specs.declared.id.Flow.{Flow}
use Rattle.ix_base.specs.declared.segment.Seg.{Seg}
use Rattle.ix_base.specs.declared.segment.SegHead.{SegHead}
use Rattle.ix_eth.specs.Ethernet.{ethernet_header}
use Rattle.ix_ip.specs.Header.{ip_header}
use Rattle.ix_ip.specs.Packet.{Packet}
use Rattle.ix_ip.specs.Sum.{transport_sum_of}
use Rattle.ix_seg.specs.Frame.{segment_of_frame}

-- the numbers of a head fit their fields, as the types of a head say
pub record IsInRange (h : SegHead) : Type 0 where
  pub local_port : h.flow.local_port < 65536
  pub remote_port : h.flow.remote_port < 65536
  pub seq : h.seq < 2 ^ 32
  pub ack : h.ack < 2 ^ 32
  pub window : h.window < 65536

-- the option of a maximum segment size, which a SYN has
abbrev pub mss_option : Option ℕ → List ℕ
mss_option None = []
mss_option (Some mss) = 2 ∷ 4 ∷ big_bytes 2 mss

-- the data offset in its byte: five words, or six with the option
abbrev pub offset_byte : Option ℕ → ℕ
offset_byte None = 0x50
offset_byte (Some mss) = 0x60

-- the TCP header with this checksum in it; the urgent pointer is 0
abbrev pub tcp_header_with : SegHead → ℕ → List ℕ
tcp_header_with h checksum =
    big_bytes 2 h.flow.local_port ++ big_bytes 2 h.flow.remote_port ++ big_bytes 4 h.seq ++ big_bytes 4 h.ack
    ++ offset_byte h.mss ∷ h.flags ∷ big_bytes 2 h.window ++ big_bytes 2 checksum ++ 0 ∷ 0 ∷ []

abbrev pub segment_with : SegHead → List ℕ → ℕ → List ℕ
segment_with h body checksum = tcp_header_with h checksum ++ mss_option h.mss ++ body

-- the segment with its checksum, which is taken over a zero in its place
unfoldable pub segment_bytes : SegHead → List ℕ → List ℕ
segment_bytes h body = segment_with h body (transport_sum_of h.flow.local h.flow.remote 6 (segment_with h body 0))

-- the frame, from the local to the remote end; it is not padded
unfoldable pub frame_bytes : SegHead → Local → List ℕ → List ℕ
frame_bytes h local body =
    ethernet_header h.peer_mac local.mac 0x0800
    ++ (ip_header h.flow.local h.flow.remote 6 (20 + length (segment_bytes h body)) ++ segment_bytes h body)

-- the machine that a segment is sent to
abbrev pub receiver : SegHead → Local
receiver h = record { mac = h.peer_mac; ip = h.flow.remote; port = h.flow.remote_port }

abbrev pub exchanged : Flow → Flow
exchanged f = record { remote = f.local; local = f.remote; remote_port = f.local_port; local_port = f.remote_port }

-- the segment as its receiver has it: the ends exchanged, the rest the same
abbrev pub received : SegHead → Local → List ℕ → Seg
received h local body = record {
  head = record h { flow = exchanged h.flow; peer_mac = local.mac; len = length body; at = 54 + length (mss_option h.mss) };
  body = body;
}

-- the receiver reads the frame as that segment, whether it tests checksums or not, and whatever it does with other protocols
abbrev pub IsReceived : SegHead → Local → List ℕ → List ℕ → Type 0
IsReceived h local body frame =
    (other : Packet → Disposition) (check : Bool) → segment_of_frame other (receiver h) check frame ≡ Ok (received h local body)
