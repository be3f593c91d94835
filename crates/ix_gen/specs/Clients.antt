-- The clients of a generated play, and the frames that they send. Formats: docs/GEN.md.
use Rattle.std.specs.Prelude.{ℕ, zero, suc, ◌+◌, ◌%◌, ◌^◌, List, [], ◌∷◌, ◌++◌, length, Some, None, Option}
use Rattle.ix_base.specs.declared.frame.Local.{Local}
use Rattle.ix_base.specs.declared.id.Flow.{Flow}
use Rattle.ix_base.specs.declared.segment.SegHead.{SegHead}
use Rattle.ix_hash.specs.Group.{hash_of_flow}
use Rattle.ix_seg.specs.Written.{exchanged, frame_bytes}
use Rattle.ix_gen.specs.declared.client.Client.{Client}

-- the hardware addresses of the server, which is played, and of the clients
abbrev pub server_mac : List ℕ
server_mac = 2 ∷ 0 ∷ 0 ∷ 0 ∷ 0 ∷ 1 ∷ []

abbrev pub client_mac : List ℕ
client_mac = 2 ∷ 0 ∷ 0 ∷ 0 ∷ 0 ∷ 2 ∷ []

-- client i sends from 10.0.(i / 256).(i mod 256), port 2000 + i, to 161.142.100.80, port 1766
unfoldable pub flow_of : ℕ → Flow
flow_of i = record { remote = 0xa18e6450; local = 0x0a000000 + i; remote_port = 1766; local_port = 2000 + i }

-- Before its SYN. The stream begins behind the initial number 4096; the server's initial number at clock 0 is the hash of the flow
-- as the server sees it.
unfoldable pub opening : ℕ → Client
opening i = record { flow = flow_of i; seq = 4097; ack = (hash_of_flow (exchanged (flow_of i)) + 1) % 2 ^ 32; byte = 0 }

-- the first so many clients
unfoldable pub openings : ℕ → List Client
openings zero = []
openings (suc n) = openings n ++ opening n ∷ []

-- byte k of a stream is k mod 251: so many bytes of it from one on
abbrev pub stream_from : ℕ → ℕ → List ℕ
stream_from byte zero = []
stream_from byte (suc n) = byte ∷ stream_from ((byte + 1) % 251) n

-- the client behind so many bytes, which the server echoes
unfoldable pub behind : ℕ → Client → Client
behind n c = record { flow = c.flow; seq = (c.seq + n) % 2 ^ 32; ack = (c.ack + n) % 2 ^ 32; byte = (c.byte + n) % 251 }

-- the head of a segment with these numbers
abbrev pub head_of : Flow → ℕ → ℕ → ℕ → Option ℕ → ℕ → SegHead
head_of flow seq ack flags mss len =
    record { flow = flow; peer_mac = server_mac; seq = seq; ack = ack; flags = flags; window = 65535; mss = mss; len = len; at = 0 }

abbrev pub side_of : Flow → Local
side_of flow = record { mac = client_mac; ip = flow.local; port = flow.local_port }

abbrev pub frame_of : Flow → ℕ → ℕ → ℕ → Option ℕ → List ℕ → List ℕ
frame_of flow seq ack flags mss body = frame_bytes (head_of flow seq ack flags mss (length body)) (side_of flow) body

-- the SYN, with an MSS of 1,460 bytes
unfoldable pub syn_frame : Client → List ℕ
syn_frame c = frame_of c.flow 4096 0 0x02 (Some 1460) []

-- an ACK of all that was echoed
unfoldable pub ack_frame : Client → List ℕ
ack_frame c = frame_of c.flow c.seq c.ack 0x10 None []

-- the next bytes of the stream, with PSH and ACK
unfoldable pub data_frame : Client → ℕ → List ℕ
data_frame c n = frame_of c.flow c.seq c.ack 0x18 None (stream_from c.byte n)
