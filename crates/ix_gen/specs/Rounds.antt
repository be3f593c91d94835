-- The frames of a generated play, round by round: each client's SYN, each one's ACK, four rounds of data of drawn lengths, and an ACK
-- of each. Formats: docs/GEN.md.
use Rattle.std.specs.Prelude.{ℕ, zero, suc, List, [], ◌∷◌, ◌++◌, map}
use Rattle.ix_pcap.specs.declared.writing.Sent.{Sent}
use Rattle.ix_gen.specs.declared.client.Client.{Client}
use Rattle.ix_gen.specs.Draws.{drawn, next}
use Rattle.ix_gen.specs.Clients.{ack_frame, behind, data_frame, openings, syn_frame}

-- a frame of the capture, at tick 0
abbrev pub at_start : List ℕ → Sent
at_start frame = record { at = 0; frame = frame }

-- a round of data, for each client one draw
abbrev pub data_of : ℕ → List Client → List Sent
data_of x [] = []
data_of x (c ∷ cs) = at_start (data_frame c (drawn (next x))) ∷ data_of (next x) cs

-- the state behind the draws of a round, and the clients behind its bytes
abbrev pub drawn_for : ℕ → List Client → ℕ
drawn_for x [] = x
drawn_for x (c ∷ cs) = drawn_for (next x) cs

abbrev pub behind_data : ℕ → List Client → List Client
behind_data x [] = []
behind_data x (c ∷ cs) = behind (drawn (next x)) c ∷ behind_data (next x) cs

abbrev pub syns_of : List Client → List Sent
syns_of cs = map (λ c. at_start (syn_frame c)) cs

abbrev pub acks_of : List Client → List Sent
acks_of cs = map (λ c. at_start (ack_frame c)) cs

-- so many rounds of data, and the ACKs behind them
abbrev pub rounds_of : ℕ → ℕ → List Client → List Sent
rounds_of zero x cs = acks_of cs
rounds_of (suc n) x cs = data_of x cs ++ rounds_of n (drawn_for x cs) (behind_data x cs)

-- the frames of the play of a number, between so many clients and the server
unfoldable pub frames_of : ℕ → ℕ → List Sent
frames_of number conns = syns_of (openings conns) ++ acks_of (openings conns) ++ rounds_of 4 number (openings conns)
