-- How many frames there are.
use Rattle.std.proofs.Common.{◌≡◌, ℕ, zero, suc, ◌+◌, ◌*◌, ◌≤◌, List, [], ◌∷◌, ◌++◌, length, refl, ap, subst, ◌∙◌, arith, length-append}
use Rattle.std.proofs.lemmas.List.{length-map}
use Rattle.ix_pcap.specs.declared.writing.Sent.{Sent}
use Rattle.ix_pcap.specs.Written.{ReadsBack}
use Rattle.ix_gen.specs.declared.client.Client.{Client}
use Rattle.ix_gen.specs.Draws.{next}
use Rattle.ix_gen.specs.Clients.{opening, openings}
use Rattle.ix_gen.specs.Rounds.{acks_of, behind_data, data_of, drawn_for, frames_of, rounds_of, syns_of}

pub openings_length : (n : ℕ) → length (openings n) ≡ n
unfolding openings
openings_length zero = refl
openings_length (suc n) =
    let parts = length-append (openings n) (opening n ∷ []) in
    let front = openings_length n in
    omega (arith, parts, front)

pub data_length : (x : ℕ) (cs : List Client) → length (data_of x cs) ≡ length cs
data_length x [] = refl
data_length x (c ∷ cs) = ap suc (data_length (next x) cs)

pub behind_length : (x : ℕ) (cs : List Client) → length (behind_data x cs) ≡ length cs
behind_length x [] = refl
behind_length x (c ∷ cs) = ap suc (behind_length (next x) cs)

pub rounds_length : (n x : ℕ) (cs : List Client) → length (rounds_of n x cs) ≡ n * length cs + length cs
rounds_length zero x cs = length-map cs _ ∙ (omega arith)
rounds_length (suc n) x cs =
    let parts = length-append (data_of x cs) (rounds_of n (drawn_for x cs) (behind_data x cs)) in
    let front = data_length x cs in
    let back = rounds_length n (drawn_for x cs) (behind_data x cs) in
    let same = behind_length x cs in
    let rest : length (rounds_of n (drawn_for x cs) (behind_data x cs)) ≡ n * length cs + length cs =
    back ∙ ap (λ k. n * k + k) same in
    let more : suc n * length cs ≡ n * length cs + length cs = omega arith in
    omega (arith, parts, front, rest, more)

frames_are : (number conns : ℕ)
    → frames_of number conns ≡ (syns_of (openings conns) ++ acks_of (openings conns)) ++ rounds_of 4 number (openings conns)
unfolding frames_of
frames_are number conns = refl

pub frames_length : (number conns : ℕ) → length (frames_of number conns) ≡ 7 * conns
frames_length number conns =
    let cs = openings conns in
    let is = ap length (frames_are number conns) in
    let all = length-append (syns_of cs ++ acks_of cs) (rounds_of 4 number cs) in
    let front = length-append (syns_of cs) (acks_of cs) in
    let syns : length (syns_of cs) ≡ length cs = length-map cs _ in
    let acks : length (acks_of cs) ≡ length cs = length-map cs _ in
    let rest = rounds_length 4 number cs in
    let count = openings_length conns in
    omega (arith, is, all, front, syns, acks, rest, count)

-- a capture of at most 512 clients reads back
pub made_reads : (sent : List Sent) (number conns : ℕ) (bytes : List ℕ) → sent ≡ frames_of number conns → conns ≤ 512
    → (length sent ≤ 262144 → ReadsBack sent bytes) → ReadsBack (frames_of number conns) bytes
made_reads sent number conns bytes is few reads =
    let count = frames_length number conns in
    let length_is : length sent ≡ length (frames_of number conns) = ap length is in
    subst (λ frames. ReadsBack frames bytes) is (reads (omega (arith, count, length_is)))
