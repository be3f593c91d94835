-- No frame of a generated play is the server's own.
use Rattle.std.proofs.Common.{◌≡◌, ℕ, zero, suc, ◌+◌, ◌*◌, List, [], ◌∷◌, ◌++◌, length, map, refl, ap, ◌∙◌, arith, Bool, false, Option, Some, None}
use Rattle.std.specs.Prelude.{nat_lt}
use Rattle.std.proofs.lemmas.Bool.Decides.{nat_tests}
use Rattle.std.proofs.lemmas.List.{map-append}
use Rattle.ix_base.specs.Branches.{past}
use Rattle.ix_base.specs.declared.id.Flow.{Flow}
use Rattle.ix_ip.specs.Header.{ip_header}
use Rattle.ix_playdef.specs.Own.{own_frame}
use Rattle.ix_seg.specs.Written.{frame_bytes, segment_bytes}
use Rattle.ix_pcap.specs.declared.writing.Sent.{Sent}
use Rattle.ix_gen.specs.declared.client.Client.{Client}
use Rattle.ix_gen.specs.Draws.{drawn, next}
use Rattle.ix_gen.specs.Clients.{ack_frame, data_frame, frame_of, head_of, openings, server_mac, stream_from, syn_frame}
use Rattle.ix_gen.specs.Rounds.{acks_of, at_start, behind_data, data_of, drawn_for, frames_of, rounds_of, syns_of}
use Rattle.ix_gen.specs.Foreign.{FramesAreForeign, is_own}
use Rattle.ix_gen.specs.Wire.{none_own}
use Rattle.ix_gen.proofs.RoundLaws.{behind_length, openings_length}

-- a frame that begins with the two hardware addresses
addressed : (a b : ℕ) (rest : List ℕ) → own_frame server_mac (2 ∷ 0 ∷ 0 ∷ 0 ∷ 0 ∷ 1 ∷ 2 ∷ 0 ∷ 0 ∷ 0 ∷ 0 ∷ 2 ∷ a ∷ b ∷ rest) ≡ false
addressed a b rest =
    past (nat_lt (length (2 ∷ 0 ∷ 0 ∷ 0 ∷ 0 ∷ 1 ∷ 2 ∷ 0 ∷ 0 ∷ 0 ∷ 0 ∷ 2 ∷ a ∷ b ∷ rest)) 14) false _ false (grind (arith, nat_tests)) refl

frame_foreign : (flow : Flow) (seq ack flags : ℕ) (mss : Option ℕ) (body : List ℕ) → own_frame server_mac (frame_of flow seq ack flags mss body) ≡ false
unfolding frame_bytes
frame_foreign flow seq ack flags mss body =
    addressed 8 0
    (ip_header flow.local flow.remote 6 (20 + length (segment_bytes (head_of flow seq ack flags mss (length body)) body))
    ++ segment_bytes (head_of flow seq ack flags mss (length body)) body)

syn_foreign : (c : Client) → own_frame server_mac (syn_frame c) ≡ false
unfolding syn_frame
syn_foreign c = frame_foreign c.flow 4096 0 0x02 (Some 1460) []

ack_foreign : (c : Client) → own_frame server_mac (ack_frame c) ≡ false
unfolding ack_frame
ack_foreign c = frame_foreign c.flow c.seq c.ack 0x10 None []

data_foreign : (c : Client) (n : ℕ) → own_frame server_mac (data_frame c n) ≡ false
unfolding data_frame
data_foreign c n = frame_foreign c.flow c.seq c.ack 0x18 None (stream_from c.byte n)

-- ---- rounds
one_more : (a : Bool) (xs : List Bool) (n : ℕ) → a ≡ false → xs ≡ none_own n → a ∷ xs ≡ none_own (suc n)
one_more a xs n h k = ap (λ b. b ∷ xs) h ∙ ap (λ ys. false ∷ ys) k

none_append : (n m : ℕ) → none_own n ++ none_own m ≡ none_own (n + m)
none_append zero m = ap none_own (let e : m ≡ 0 + m = omega arith in e)
none_append (suc n) m = ap (λ ys. false ∷ ys) (none_append n m) ∙ ap none_own (let e : suc (n + m) ≡ suc n + m = omega arith in e)

joined : (xs ys : List Sent) (n m : ℕ) → map is_own xs ≡ none_own n → map is_own ys ≡ none_own m → map is_own (xs ++ ys) ≡ none_own (n + m)
joined xs ys n m h k =
    map-append is_own xs ys ∙ ap (λ a. a ++ map is_own ys) h ∙ ap (λ b. none_own n ++ b) k ∙ none_append n m

syns_foreign : (cs : List Client) → map is_own (syns_of cs) ≡ none_own (length cs)
syns_foreign [] = refl
syns_foreign (c ∷ cs) = one_more (is_own (at_start (syn_frame c))) (map is_own (syns_of cs)) (length cs) (syn_foreign c) (syns_foreign cs)

acks_foreign : (cs : List Client) → map is_own (acks_of cs) ≡ none_own (length cs)
acks_foreign [] = refl
acks_foreign (c ∷ cs) = one_more (is_own (at_start (ack_frame c))) (map is_own (acks_of cs)) (length cs) (ack_foreign c) (acks_foreign cs)

data_round_foreign : (x : ℕ) (cs : List Client) → map is_own (data_of x cs) ≡ none_own (length cs)
data_round_foreign x [] = refl
data_round_foreign x (c ∷ cs) =
    one_more (is_own (at_start (data_frame c (drawn (next x))))) (map is_own (data_of (next x) cs)) (length cs) (data_foreign c (drawn (next x)))
    (data_round_foreign (next x) cs)

rounds_foreign : (n x : ℕ) (cs : List Client) → map is_own (rounds_of n x cs) ≡ none_own (n * length cs + length cs)
rounds_foreign zero x cs = acks_foreign cs ∙ ap none_own (let e : length cs ≡ 0 * length cs + length cs = omega arith in e)
rounds_foreign (suc n) x cs =
    let same = behind_length x cs in
    let later : map is_own (rounds_of n (drawn_for x cs) (behind_data x cs)) ≡ none_own (n * length cs + length cs) =
    rounds_foreign n (drawn_for x cs) (behind_data x cs) ∙ ap (λ k. none_own (n * k + k)) same in
    joined (data_of x cs) (rounds_of n (drawn_for x cs) (behind_data x cs)) (length cs) (n * length cs + length cs) (data_round_foreign x cs) later
    ∙ ap none_own (let e : length cs + (n * length cs + length cs) ≡ suc n * length cs + length cs = omega arith in e)

pub frames_foreign : FramesAreForeign
unfolding frames_of
frames_foreign number conns =
    let cs = openings conns in
    joined (syns_of cs ++ acks_of cs) (rounds_of 4 number cs) (length cs + length cs) (4 * length cs + length cs)
    (joined (syns_of cs) (acks_of cs) (length cs) (length cs) (syns_foreign cs) (acks_foreign cs)) (rounds_foreign 4 number cs)
    ∙ ap none_own (let count = openings_length conns in let e : length cs + length cs + (4 * length cs + length cs) ≡ 7 * conns = omega (arith, count) in e)
