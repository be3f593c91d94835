-- The TCP segment that a packet holds, or its first fault (RFC 9293, section 3.1).
use Rattle.std.specs.Prelude.{ℕ, ◌+◌, ◌*◌, ◌/◌, ◌-◌, List, length, take, drop, slice_index, Bool, Option, Result, Ok, Err, if◌then◌else◌, nat_lt, ◌==◌, not, ◌||◌, ◌&&◌}
use Rattle.byteorder.specs.Endian.{big_from}
use Rattle.ix_base.specs.declared.id.Flow.{Flow}
use Rattle.ix_base.specs.declared.segment.SegHead.{SegHead}
use Rattle.ix_ip.specs.Sum.{transport_sum_of}
use Rattle.ix_ip.specs.Packet.{Packet}
use Rattle.ix_seg.specs.declared.segment.SegFault.{SegFault}
use Rattle.ix_seg.specs.declared.segment.SegFault.TheVariants as faults
use Rattle.ix_seg.specs.Options.{mss_of}

-- The numbers of a segment and its body, which begins at place `at` of the frame. Its sender is the remote end of its flow.
pub record Segment : Type 0 where
  pub flow : Flow
  pub seq : ℕ
  pub ack : ℕ
  pub flags : ℕ
  pub window : ℕ
  pub mss : Option ℕ
  pub at : ℕ
  pub body : List ℕ

-- the head of a segment that came from this hardware address
abbrev pub head_of : List ℕ → Segment → SegHead
head_of mac s = record {
  flow = s.flow;
  peer_mac = mac;
  seq = s.seq;
  ack = s.ack;
  flags = s.flags;
  window = s.window;
  mss = s.mss;
  len = length s.body;
  at = s.at;
}

-- the header's length: the data offset, the high half of its byte, in words of four bytes
abbrev pub header_len : List ℕ → ℕ
header_len payload = 4 * (slice_index payload 12 / 16)

-- the segment whose body begins at a place of the packet's payload
unfoldable pub segment_at : Packet → ℕ → Segment
segment_at p start = record {
  flow = record { remote = p.src; local = p.dst; remote_port = big_from 0 2 p.payload; local_port = big_from 2 2 p.payload };
  seq = big_from 4 4 p.payload;
  ack = big_from 8 4 p.payload;
  flags = slice_index p.payload 13;
  window = big_from 14 2 p.payload;
  mss = mss_of (take (start - 20) (drop 20 p.payload));
  at = p.at + start;
  body = drop start p.payload;
}

-- the checksum is tested only where that is wanted
unfoldable pub segment_of : Bool → Packet → Result Segment SegFault
segment_of check p =
    if nat_lt (length p.payload) 20 then Err faults.Short
    else if nat_lt (header_len p.payload) 20 || nat_lt (length p.payload) (header_len p.payload) then Err faults.BadOffset
    else if check && not (transport_sum_of p.src p.dst 6 p.payload == 0) then Err faults.BadSum
    else Ok (segment_at p (header_len p.payload))
