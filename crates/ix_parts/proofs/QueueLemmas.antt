-- What leaves the send queue, and what joins it.
use Rattle.std.proofs.Common.{◌≡◌, ◌≤◌, ◌<◌, ℕ, ◌+◌, ◌-◌, Bool, true, false, nat_le, if◌then◌else◌, List, [], ◌∷◌, ◌++◌, length, drop, refl, ap, sym, ◌∙◌, arith, get_or, append_assoc, length-append, length-drop}
use Rattle.std.specs.Prelude.{nat_lt, ◌==◌, not, filter}
use Rattle.std.specs.Option.{option_to_list}
use Rattle.std.proofs.lemmas.Bool.{leb-true, leb-false, ltb-true, ltb-false}
use Rattle.std.proofs.lemmas.List.{drop-append-le, map-append, at_drop_more}
use Rattle.std.proofs.lemmas.List.Concat.{flat_map-append}
use Rattle.std.proofs.lemmas.List.Elements.{All-cons, All-head, All-tail, All-nil, All-append}
use Rattle.std.proofs.lemmas.List.Sums.{sum_by-cons, sum_by-append}
use Rattle.std.proofs.Math.Seq.{drop-append-add}
use Rattle.ix_mbuf.specs.declared.name.Name.{Name}
use Rattle.ix_mbuf.specs.Owners.{one_at}
use Rattle.ix_mbuf.specs.Buffers.{Buffer, buffers_weight}
use Rattle.ix_call.specs.declared.chunk.Chunk.{Chunk}
use Rattle.ix_call.specs.declared.chunk.Chunk.TheVariants.{Part, Own}
use Rattle.ix_call.specs.Chunks.{chunk_bytes, chunks_bytes, chunk_weight, chunks_weight, chunk_buffer, chunks_buffers}
use Rattle.ix_parts.specs.Division.{skip}
use Rattle.ix_parts.specs.declared.queue.Stored.{Stored}
use Rattle.ix_parts.specs.Queue.{seen, chunks_seen, AreFilled, is_filled, is_empty, after, gone}
use Rattle.ix_parts.proofs.ByteLemmas.{drop_nil}
use Rattle.ix_parts.proofs.DivisionLemmas.{bytes-skip, weight-skip}

-- ## The first n bytes leave
pub bytes-after : (n : ℕ) (cs : List Chunk) → chunks_bytes (after n cs) ≡ drop n (chunks_bytes cs)
bytes-after n [] = sym (drop_nil n)
bytes-after n (c ∷ cs) = by_test (bytes-after (n - length (chunk_bytes c)) cs) (nat_le (length (chunk_bytes c)) n) refl
  where
    by_test : chunks_bytes (after (n - length (chunk_bytes c)) cs) ≡ drop (n - length (chunk_bytes c)) (chunks_bytes cs)
        → (b : Bool) → nat_le (length (chunk_bytes c)) n ≡ b
        → chunks_bytes (if b then after (n - length (chunk_bytes c)) cs else skip n c ∷ cs) ≡ drop n (chunk_bytes c ++ chunks_bytes cs)
    by_test rest true e =
        let le : length (chunk_bytes c) ≤ n = leb-true (length (chunk_bytes c)) n e in
        let whole : n ≡ length (chunk_bytes c) + (n - length (chunk_bytes c)) = omega arith in
        rest
        ∙ sym (drop-append-add (chunk_bytes c) (chunks_bytes cs) (n - length (chunk_bytes c)))
        ∙ ap (λ (k : ℕ). drop k (chunk_bytes c ++ chunks_bytes cs)) (sym whole)
    by_test rest false e =
        let lt : n < length (chunk_bytes c) = leb-false (length (chunk_bytes c)) n e in
        let le : n ≤ length (chunk_bytes c) = omega arith in
        ap (λ (xs : List ℕ). xs ++ chunks_bytes cs) (bytes-skip n c le) ∙ sym (drop-append-le n (chunk_bytes c) (chunks_bytes cs) le)

buffer-weight : (f : Name → ℕ) (c : Chunk) → buffers_weight f (option_to_list (chunk_buffer c)) ≡ chunk_weight f c
buffer-weight f (Part p) = omega (arith, sum_by-cons (λ (b : Buffer). f b.name) p.buf [])
buffer-weight f (Own bytes) = refl

pub weight-after : (f : Name → ℕ) (n : ℕ) (cs : List Chunk) → chunks_weight f (after n cs) + buffers_weight f (gone n cs) ≡ chunks_weight f cs
weight-after f n [] = refl
weight-after f n (c ∷ cs) = by_test (weight-after f (n - length (chunk_bytes c)) cs) (nat_le (length (chunk_bytes c)) n)
  where
    by_test : chunks_weight f (after (n - length (chunk_bytes c)) cs) + buffers_weight f (gone (n - length (chunk_bytes c)) cs) ≡ chunks_weight f cs
        → (b : Bool)
        → chunks_weight f (if b then after (n - length (chunk_bytes c)) cs else skip n c ∷ cs)
        + buffers_weight f (if b then option_to_list (chunk_buffer c) ++ gone (n - length (chunk_bytes c)) cs else []) ≡ chunks_weight f (c ∷ cs)
    by_test rest true =
        omega (
          arith,
          rest,
          sum_by-append (λ (b : Buffer). f b.name) (option_to_list (chunk_buffer c)) (gone (n - length (chunk_bytes c)) cs),
          buffer-weight f c,
          sum_by-cons (chunk_weight f) c cs,
        )
    by_test rest false = omega (arith, sum_by-cons (chunk_weight f) c cs, sum_by-cons (chunk_weight f) (skip n c) cs, weight-skip f n c)

pub filled-after : (n : ℕ) (cs : List Chunk) → AreFilled cs → AreFilled (after n cs)
filled-after n [] all = all
filled-after n (c ∷ cs) all =
    by_test (filled-after (n - length (chunk_bytes c)) cs (All-tail (λ (d : Chunk). 0 < length (chunk_bytes d)) c cs all)) (nat_le (length (chunk_bytes c)) n) refl
  where
    by_test : AreFilled (after (n - length (chunk_bytes c)) cs) → (b : Bool) → nat_le (length (chunk_bytes c)) n ≡ b
        → AreFilled (if b then after (n - length (chunk_bytes c)) cs else skip n c ∷ cs)
    by_test rest true e = rest
    by_test rest false e =
        let lt : n < length (chunk_bytes c) = leb-false (length (chunk_bytes c)) n e in
        let le : n ≤ length (chunk_bytes c) = omega arith in
        let left : 0 < length (chunk_bytes (skip n c)) = rw (bytes-skip n c le) (omega (arith, length-drop n (chunk_bytes c))) in
        All-cons (λ (d : Chunk). 0 < length (chunk_bytes d)) (skip n c) cs left (All-tail (λ (d : Chunk). 0 < length (chunk_bytes d)) c cs all)

-- ## Chunks join
filled-part : (c : Chunk) (cs : List Chunk) (b : Bool) → nat_lt 0 (length (chunk_bytes c)) ≡ b → AreFilled cs → AreFilled (if b then c ∷ cs else cs)
filled-part c cs true e all = All-cons (λ (d : Chunk). 0 < length (chunk_bytes d)) c cs (ltb-true 0 (length (chunk_bytes c)) e) all
filled-part c cs false e all = all

pub filled-filter : (cs : List Chunk) → AreFilled (filter is_filled cs)
filled-filter [] = All-nil (λ (d : Chunk). 0 < length (chunk_bytes d))
filled-filter (c ∷ cs) = filled-part c (filter is_filled cs) (is_filled c) refl (filled-filter cs)

pub filled-join : (cs ds : List Chunk) → AreFilled cs → AreFilled (cs ++ filter is_filled ds)
filled-join cs ds all = All-append (λ (d : Chunk). 0 < length (chunk_bytes d)) cs (filter is_filled ds) all (filled-filter ds)

nothing_in : (xs : List ℕ) → length xs ≤ 0 → xs ≡ []
nothing_in [] le = refl
nothing_in (x ∷ xs) le = absurd (omega arith)

pub bytes-filter : (cs : List Chunk) → chunks_bytes (filter is_filled cs) ≡ chunks_bytes cs
bytes-filter [] = refl
bytes-filter (c ∷ cs) = by_test (bytes-filter cs) (is_filled c) refl
  where
    by_test : chunks_bytes (filter is_filled cs) ≡ chunks_bytes cs → (b : Bool) → nat_lt 0 (length (chunk_bytes c)) ≡ b
        → chunks_bytes (if b then c ∷ filter is_filled cs else filter is_filled cs) ≡ chunk_bytes c ++ chunks_bytes cs
    by_test rest true e = ap (λ (xs : List ℕ). chunk_bytes c ++ xs) rest
    by_test rest false e =
        rest ∙ ap (λ (xs : List ℕ). xs ++ chunks_bytes cs) (sym (nothing_in (chunk_bytes c) (ltb-false 0 (length (chunk_bytes c)) e)))

pub bytes-join : (cs ds : List Chunk) → chunks_bytes (cs ++ filter is_filled ds) ≡ chunks_bytes cs ++ chunks_bytes ds
bytes-join cs ds = flat_map-append chunk_bytes cs (filter is_filled ds) ∙ ap (λ (xs : List ℕ). chunks_bytes cs ++ xs) (bytes-filter ds)

-- those that join and those that are let go are all of them
pub weight-filter : (f : Name → ℕ) (cs : List Chunk) → chunks_weight f (filter is_filled cs) + buffers_weight f (chunks_buffers (filter is_empty cs)) ≡ chunks_weight f cs
weight-filter f [] = refl
weight-filter f (c ∷ cs) = by_test (weight-filter f cs) (is_filled c)
  where
    by_test : chunks_weight f (filter is_filled cs) + buffers_weight f (chunks_buffers (filter is_empty cs)) ≡ chunks_weight f cs → (b : Bool)
        → chunks_weight f (if b then c ∷ filter is_filled cs else filter is_filled cs)
        + buffers_weight f (chunks_buffers (if not b then c ∷ filter is_empty cs else filter is_empty cs)) ≡ chunks_weight f (c ∷ cs)
    by_test rest true = omega (arith, rest, sum_by-cons (chunk_weight f) c cs, sum_by-cons (chunk_weight f) c (filter is_filled cs))
    by_test rest false =
        omega (
          arith,
          rest,
          sum_by-cons (chunk_weight f) c cs,
          sum_by-append (λ (b : Buffer). f b.name) (option_to_list (chunk_buffer c)) (chunks_buffers (filter is_empty cs)),
          buffer-weight f c,
        )

pub weight-join : (f : Name → ℕ) (cs ds : List Chunk) (bufs : List Buffer)
    → chunks_weight f (cs ++ filter is_filled ds) + buffers_weight f (bufs ++ chunks_buffers (filter is_empty ds)) ≡ chunks_weight f cs + buffers_weight f bufs + chunks_weight f ds
weight-join f cs ds bufs =
    omega (
      arith,
      sum_by-append (chunk_weight f) cs (filter is_filled ds),
      sum_by-append (λ (b : Buffer). f b.name) bufs (chunks_buffers (filter is_empty ds)),
      weight-filter f ds,
    )

pub weight-leave : (f : Name → ℕ) (n : ℕ) (cs : List Chunk) (bufs : List Buffer)
    → chunks_weight f (after n cs) + buffers_weight f (bufs ++ gone n cs) ≡ chunks_weight f cs + buffers_weight f bufs
weight-leave f n cs bufs = omega (arith, sum_by-append (λ (b : Buffer). f b.name) bufs (gone n cs), weight-after f n cs)

pub weight-buffers : (f : Name → ℕ) (cs : List Chunk) → buffers_weight f (chunks_buffers cs) ≡ chunks_weight f cs
weight-buffers f [] = refl
weight-buffers f (c ∷ cs) =
    omega (
      arith,
      sum_by-append (λ (b : Buffer). f b.name) (option_to_list (chunk_buffer c)) (chunks_buffers cs),
      buffer-weight f c,
      weight-buffers f cs,
      sum_by-cons (chunk_weight f) c cs,
    )

pub weight-released : (f : Name → ℕ) (cs : List Chunk) (bufs : List Buffer) → buffers_weight f (bufs ++ chunks_buffers cs) ≡ buffers_weight f bufs + chunks_weight f cs
weight-released f cs bufs = omega (arith, sum_by-append (λ (b : Buffer). f b.name) bufs (chunks_buffers cs), weight-buffers f cs)

pub ruleset queue_laws = (bytes-after, filled-after, filled-join, bytes-join, weight-join, weight-leave, weight-released)

-- one more chunk, or its buffer
pub joined : (xs fs : List Chunk) (c : Chunk) (b : Bool) → (if b then xs ++ c ∷ [] else xs) ++ fs ≡ xs ++ (if b then c ∷ fs else fs)
joined xs fs c true = append_assoc xs (c ∷ []) fs
joined xs fs c false = refl

pub let_go : (bufs : List Buffer) (cs : List Chunk) (c : Chunk) (b : Bool)
    → (if b then bufs else bufs ++ option_to_list (chunk_buffer c)) ++ chunks_buffers cs ≡ bufs ++ chunks_buffers (if not b then c ∷ cs else cs)
let_go bufs cs c true = refl
let_go bufs cs c false = append_assoc bufs (option_to_list (chunk_buffer c)) (chunks_buffers cs)

-- ## Bytes of a range
-- the chunk that comes
pub bytes_at : (cs : List Stored) (i : ℕ) (c : Stored) (rest : List ℕ) → i < length cs → c ≡ get_or cs i c
    → chunks_bytes (chunks_seen (drop i cs)) ++ rest ≡ chunk_bytes (seen c) ++ (chunks_bytes (chunks_seen (drop (i + 1) cs)) ++ rest)
bytes_at cs i c rest lt read =
    at_drop_more (λ (ds : List Stored). chunks_bytes (chunks_seen ds) ++ rest) cs i c lt
    ∙ ap (λ (d : Stored). (chunk_bytes (seen d) ++ chunks_bytes (chunks_seen (drop (i + 1) cs))) ++ rest) (sym read)
    ∙ append_assoc (chunk_bytes (seen c)) (chunks_bytes (chunks_seen (drop (i + 1) cs))) rest

pub bytes-both : (xs ys : List Stored) → chunks_bytes (chunks_seen (xs ++ ys)) ≡ chunks_bytes (chunks_seen xs) ++ chunks_bytes (chunks_seen ys)
bytes-both xs ys = ap chunks_bytes (map-append seen xs ys) ∙ flat_map-append chunk_bytes (chunks_seen xs) (chunks_seen ys)

-- ## Counts
at_most_one : (home : ℕ) (c : Chunk) → chunk_weight (one_at home) c ≤ 1
at_most_one home (Part p) = by_test (p.buf.name.id.home.0 == home)
  where
    by_test : (b : Bool) → (if b then 1 else 0) ≤ 1
    by_test true = omega arith
    by_test false = omega arith
at_most_one home (Own bytes) = omega arith

-- no more parts than bytes
pub few-chunks : (home : ℕ) (cs : List Chunk) → AreFilled cs → chunks_weight (one_at home) cs ≤ length (chunks_bytes cs)
few-chunks home [] all = omega arith
few-chunks home (c ∷ cs) all =
    let one : chunk_weight (one_at home) c ≤ 1 = at_most_one home c in
    let here : 0 < length (chunk_bytes c) = All-head (λ (d : Chunk). 0 < length (chunk_bytes d)) c cs all in
    omega (
      arith,
      one,
      here,
      few-chunks home cs (All-tail (λ (d : Chunk). 0 < length (chunk_bytes d)) c cs all),
      sum_by-cons (chunk_weight (one_at home)) c cs,
      length-append (chunk_bytes c) (chunks_bytes cs),
    )
