-- Divided chunks carry the same bytes and hold the same buffers.
use Rattle.std.proofs.Common.{◌≡◌, ◌≤◌, ◌<◌, ℕ, ◌+◌, ◌-◌, Bool, true, false, nat_le, if◌then◌else◌, List, [], ◌∷◌, ◌++◌, length, take, drop, refl, ap, sym, ◌∙◌, arith, get_or, append-nil}
use Rattle.std.specs.Prelude.{◌==◌, ◌||◌}
use Rattle.std.proofs.lemmas.Bool.{eqb-true, leb-true, leb-false, le-leb, lt-leb, ne_eqb}
use Rattle.std.proofs.lemmas.List.{at_drop_more}
use Rattle.std.proofs.lemmas.List.Concat.{flat_map-append}
use Rattle.std.proofs.lemmas.List.Sums.{sum_by-cons, sum_by-append}
use Rattle.ix_mbuf.specs.declared.name.Name.{Name}
use Rattle.ix_call.specs.declared.chunk.Chunk.{Chunk}
use Rattle.ix_call.specs.declared.chunk.Chunk.TheVariants.{Part, Own}
use Rattle.ix_call.specs.Chunks.{chunk_bytes, chunks_bytes, chunk_weight, chunks_weight}
use Rattle.ix_parts.specs.Division.{skip, front_part, rest_part, front_of, rest_of, other_half, copied_part, copied_of}
use Rattle.ix_parts.proofs.ByteLemmas.{take_nil, drop_nil, take_all, drop_all, take_onto, drop_onto, skipped}

pub bytes-skip : (n : ℕ) (c : Chunk) → n ≤ length (chunk_bytes c) → chunk_bytes (skip n c) ≡ drop n (chunk_bytes c)
bytes-skip n (Part p) le = skipped p.buf.bytes p.from p.to n le
bytes-skip n (Own bytes) le = refl

pub weight-skip : (f : Name → ℕ) (n : ℕ) (c : Chunk) → chunk_weight f (skip n c) ≡ chunk_weight f c
weight-skip f n (Part p) = refl
weight-skip f n (Own bytes) = refl

-- ## Bytes
bytes-front_part : (n : ℕ) (c : Chunk) → chunks_bytes (front_part n c) ≡ take n (chunk_bytes c)
bytes-front_part n c = by_tests (n == 0) refl (nat_le (length (chunk_bytes c)) n) refl
  where
    by_tests : (a : Bool) → (n == 0) ≡ a → (b : Bool) → nat_le (length (chunk_bytes c)) n ≡ b
        → chunks_bytes (if a then [] else if b then c ∷ [] else Own (take n (chunk_bytes c)) ∷ []) ≡ take n (chunk_bytes c)
    by_tests true e b l = ap (λ (k : ℕ). take k (chunk_bytes c)) (sym (eqb-true n 0 e))
    by_tests false e true l = append-nil (chunk_bytes c) ∙ sym (take_all n (chunk_bytes c) (leb-true (length (chunk_bytes c)) n l))
    by_tests false e false l = append-nil (take n (chunk_bytes c))

bytes-rest_part : (n : ℕ) (c : Chunk) → chunks_bytes (rest_part n c) ≡ drop n (chunk_bytes c)
bytes-rest_part n c = by_tests (n == 0) refl (nat_le (length (chunk_bytes c)) n) refl
  where
    by_tests : (a : Bool) → (n == 0) ≡ a → (b : Bool) → nat_le (length (chunk_bytes c)) n ≡ b
        → chunks_bytes (if a then c ∷ [] else if b then [] else skip n c ∷ []) ≡ drop n (chunk_bytes c)
    by_tests true e b l = append-nil (chunk_bytes c) ∙ ap (λ (k : ℕ). drop k (chunk_bytes c)) (sym (eqb-true n 0 e))
    by_tests false e true l = sym (drop_all n (chunk_bytes c) (leb-true (length (chunk_bytes c)) n l))
    by_tests false e false l =
        let lt : n < length (chunk_bytes c) = leb-false (length (chunk_bytes c)) n l in
        append-nil (chunk_bytes (skip n c)) ∙ bytes-skip n c (omega arith)

pub bytes-front : (n : ℕ) (cs : List Chunk) → chunks_bytes (front_of n cs) ≡ take n (chunks_bytes cs)
bytes-front n [] = sym (take_nil n)
bytes-front n (c ∷ cs) =
    flat_map-append chunk_bytes (front_part n c) (front_of (n - length (chunk_bytes c)) cs)
    ∙ ap (λ (xs : List ℕ). xs ++ chunks_bytes (front_of (n - length (chunk_bytes c)) cs)) (bytes-front_part n c)
    ∙ ap (λ (xs : List ℕ). take n (chunk_bytes c) ++ xs) (bytes-front (n - length (chunk_bytes c)) cs)
    ∙ sym (take_onto n (chunk_bytes c) (chunks_bytes cs))

pub bytes-rest : (n : ℕ) (cs : List Chunk) → chunks_bytes (rest_of n cs) ≡ drop n (chunks_bytes cs)
bytes-rest n [] = sym (drop_nil n)
bytes-rest n (c ∷ cs) =
    flat_map-append chunk_bytes (rest_part n c) (rest_of (n - length (chunk_bytes c)) cs)
    ∙ ap (λ (xs : List ℕ). xs ++ chunks_bytes (rest_of (n - length (chunk_bytes c)) cs)) (bytes-rest_part n c)
    ∙ ap (λ (xs : List ℕ). drop n (chunk_bytes c) ++ xs) (bytes-rest (n - length (chunk_bytes c)) cs)
    ∙ sym (drop_onto n (chunk_bytes c) (chunks_bytes cs))

-- ## Weights
weight-parts : (f : Name → ℕ) (n : ℕ) (c : Chunk) → chunks_weight f (front_part n c) + chunks_weight f (rest_part n c) ≡ chunk_weight f c
weight-parts f n c = by_tests (n == 0) (nat_le (length (chunk_bytes c)) n)
  where
    by_tests : (a b : Bool)
        → chunks_weight f (if a then [] else if b then c ∷ [] else Own (take n (chunk_bytes c)) ∷ [])
        + chunks_weight f (if a then c ∷ [] else if b then [] else skip n c ∷ []) ≡ chunk_weight f c
    by_tests true b = omega (arith, sum_by-cons (chunk_weight f) c [])
    by_tests false true = omega (arith, sum_by-cons (chunk_weight f) c [])
    by_tests false false =
        omega (arith, sum_by-cons (chunk_weight f) (Own (take n (chunk_bytes c))) [], sum_by-cons (chunk_weight f) (skip n c) [], weight-skip f n c)

pub weight-divided : (f : Name → ℕ) (n : ℕ) (cs : List Chunk) → chunks_weight f (front_of n cs) + chunks_weight f (rest_of n cs) ≡ chunks_weight f cs
weight-divided f n [] = refl
weight-divided f n (c ∷ cs) =
    omega (
      arith,
      sum_by-append (chunk_weight f) (front_part n c) (front_of (n - length (chunk_bytes c)) cs),
      sum_by-append (chunk_weight f) (rest_part n c) (rest_of (n - length (chunk_bytes c)) cs),
      weight-parts f n c,
      weight-divided f (n - length (chunk_bytes c)) cs,
      sum_by-cons (chunk_weight f) c cs,
    )

pub ruleset division_laws = (bytes-front, bytes-rest, weight-divided)

-- ## What is copied
-- behind the place nothing is
pub copied-none : (cs : List Chunk) → copied_of 0 cs ≡ []
copied-none [] = refl
copied-none (c ∷ cs) =
    let none : 0 - length (chunk_bytes c) ≡ 0 = omega arith in
    ap (λ (k : ℕ). copied_of k cs) none ∙ copied-none cs

-- of the chunk that is cut inside, all that was copied
pub half_part : (n : ℕ) (c : Chunk) (cs : List Chunk) (copied : List ℕ) → copied ≡ copied_of n (c ∷ cs)
    → (if n == 0 || nat_le (length (chunk_bytes c)) n then [] else copied) ≡ copied_part n c
half_part n c cs copied is = by_tests (n == 0) (nat_le (length (chunk_bytes c)) n) refl is
  where
    by_tests : (a b : Bool) → nat_le (length (chunk_bytes c)) n ≡ b
        → copied ≡ (if a || b then [] else other_half n c) ++ copied_of (n - length (chunk_bytes c)) cs
        → (if a || b then [] else copied) ≡ (if a || b then [] else other_half n c)
    by_tests true b l is = refl
    by_tests false true l is = refl
    by_tests false false l is =
        let lt : n < length (chunk_bytes c) = leb-false (length (chunk_bytes c)) n l in
        let none : n - length (chunk_bytes c) ≡ 0 = omega arith in
        is
        ∙ ap (λ (k : ℕ). other_half n c ++ copied_of k cs) none
        ∙ ap (λ (xs : List ℕ). other_half n c ++ xs) (copied-none cs)
        ∙ append-nil (other_half n c)

pub half_rest : (n : ℕ) (c : Chunk) (cs : List Chunk) (copied : List ℕ) → copied ≡ copied_of n (c ∷ cs)
    → (if n == 0 || nat_le (length (chunk_bytes c)) n then copied else []) ≡ copied_of (n - length (chunk_bytes c)) cs
half_rest n c cs copied is = by_tests (n == 0) (nat_le (length (chunk_bytes c)) n) refl is
  where
    by_tests : (a b : Bool) → nat_le (length (chunk_bytes c)) n ≡ b
        → copied ≡ (if a || b then [] else other_half n c) ++ copied_of (n - length (chunk_bytes c)) cs
        → (if a || b then copied else []) ≡ copied_of (n - length (chunk_bytes c)) cs
    by_tests true b l is = is
    by_tests false true l is = is
    by_tests false false l is =
        let lt : n < length (chunk_bytes c) = leb-false (length (chunk_bytes c)) n l in
        let none : 0 ≡ n - length (chunk_bytes c) = omega arith in
        sym (copied-none cs) ∙ ap (λ (k : ℕ). copied_of k cs) none

-- ## The loop that finds it
pub copied-whole : (n : ℕ) (c : Chunk) (cs : List Chunk) → length (chunk_bytes c) ≤ n → copied_of n (c ∷ cs) ≡ copied_of (n - length (chunk_bytes c)) cs
copied-whole n c cs le = by_tests (n == 0) (nat_le (length (chunk_bytes c)) n) (le-leb (length (chunk_bytes c)) n le)
  where
    by_tests : (a b : Bool) → b ≡ true
        → (if a || b then [] else other_half n c) ++ copied_of (n - length (chunk_bytes c)) cs ≡ copied_of (n - length (chunk_bytes c)) cs
    by_tests true b e = refl
    by_tests false true e = refl
    by_tests false false e = absurd (cc)

pub copied-inside : (n : ℕ) (c : Chunk) (cs : List Chunk) → 0 < n → n < length (chunk_bytes c) → copied_of n (c ∷ cs) ≡ other_half n c
copied-inside n c cs some lt =
    by_tests (n == 0) (ne_eqb n 0 (λ (e : n ≡ 0). omega arith)) (nat_le (length (chunk_bytes c)) n) (lt-leb (length (chunk_bytes c)) n lt)
  where
    none : n - length (chunk_bytes c) ≡ 0
    none = omega arith

    by_tests : (a : Bool) → a ≡ false → (b : Bool) → b ≡ false
        → (if a || b then [] else other_half n c) ++ copied_of (n - length (chunk_bytes c)) cs ≡ other_half n c
    by_tests true e b l = absurd (cc)
    by_tests false e true l = absurd (cc)
    by_tests false e false l =
        ap (λ (k : ℕ). other_half n c ++ copied_of k cs) none
        ∙ ap (λ (xs : List ℕ). other_half n c ++ xs) (copied-none cs)
        ∙ append-nil (other_half n c)

-- the chunk that comes
pub copied_at : (n : ℕ) (cs : List Chunk) (i : ℕ) (c : Chunk) → i < length cs → c ≡ get_or cs i c → copied_of n (drop i cs) ≡ copied_of n (c ∷ drop (i + 1) cs)
copied_at n cs i c lt read =
    at_drop_more (copied_of n) cs i c lt ∙ ap (λ (d : Chunk). copied_of n (d ∷ drop (i + 1) cs)) (sym read)

pub ruleset copying = (copied-none, copied-whole, copied-inside)
