-- The records that make entries, as a part of all of them.
use Rattle.std.proofs.Common.{◌≡◌, ℕ, zero, suc, Some, ◌+◌, ◌-◌, ◌<◌, ◌≤◌, List, [], ◌∷◌, ◌++◌, length, get_or, take, drop, inl, inr, subst, refl, ap, sym, ◌∙◌, arith, append-nil, Bool, true, false, length-append}
use Rattle.std.specs.Prelude.{All, slice_get, slice_index}
use Rattle.std.proofs.Math.Seq.{drop-append_seam, take-add, take-append_seam, take-suc}
use Rattle.std.proofs.Math.ListN.{get_or-append}
use Rattle.std.proofs.Math.Seq.{get_or-append_seam}
use Rattle.std.proofs.lemmas.Bool.{cases_lt}
use Rattle.std.proofs.lemmas.Grind.{get_or_default_zero}
use Rattle.std.proofs.lemmas.List.{length-drop, length-take, take-append-drop}
use Rattle.std.proofs.lemmas.List.Elements.{All-cons, All-nil}
use Rattle.ix_wire.specs.Records.{AreOthers, others_from, records_in}

pub others_from-none : (rec : ℕ) → others_from rec [] ≡ []
unfolding others_from
others_from-none rec = refl

others_from-append : (rec : ℕ) (xs ys : List Bool) → others_from rec (xs ++ ys) ≡ others_from rec xs ++ others_from (rec + length xs) ys
unfolding others_from
others_from-append rec [] ys = ap (λ r. others_from r ys) (let e : rec ≡ rec + 0 = omega arith in e)
others_from-append rec (true ∷ xs) ys =
    others_from-append (rec + 1) xs ys
    ∙ ap (λ r. others_from (rec + 1) xs ++ others_from r ys) (let e : rec + 1 + length xs ≡ rec + suc (length xs) = omega arith in e)
others_from-append rec (false ∷ xs) ys =
    ap (λ rest. rec ∷ rest) (others_from-append (rec + 1) xs ys)
    ∙ ap (λ r. rec ∷ (others_from (rec + 1) xs ++ others_from r ys)) (let e : rec + 1 + length xs ≡ rec + suc (length xs) = omega arith in e)

one : (own : List Bool) (i : ℕ) (d : Bool) → i < length own
    → others_from 0 (take (i + 1) own) ≡ others_from 0 (take i own) ++ others_from i (get_or own i d ∷ [])
one own i d h =
    ap (others_from 0) (ap (λ k. take k own) (let e : i + 1 ≡ suc i = omega arith in e) ∙ take-suc own i d h)
    ∙ others_from-append 0 (take i own) (get_or own i d ∷ [])
    ∙ ap (λ r. others_from 0 (take i own) ++ others_from r (get_or own i d ∷ []))
    (let e : 0 + length (take i own) ≡ i = omega (arith, length-take i own) in e)

pub others_from-own : (own : List Bool) (i : ℕ) (d : Bool) → i < length own → get_or own i d ≡ true
    → others_from 0 (take (i + 1) own) ≡ others_from 0 (take i own)
unfolding others_from
others_from-own own i d h is =
    one own i d h ∙ ap (λ b. others_from 0 (take i own) ++ others_from i (b ∷ [])) is ∙ append-nil (others_from 0 (take i own))

pub others_from-other : (own : List Bool) (i : ℕ) (d : Bool) → i < length own → get_or own i d ≡ false
    → others_from 0 (take (i + 1) own) ≡ others_from 0 (take i own) ++ i ∷ []
unfolding others_from
others_from-other own i d h is = one own i d h ∙ ap (λ b. others_from 0 (take i own) ++ others_from i (b ∷ [])) is

pub others_from-below : (rec last : ℕ) (xs : List Bool) → rec + length xs ≤ last + 1 → All (λ r. r ≤ last) (others_from rec xs)
unfolding others_from
others_from-below rec last [] h = All-nil _
others_from-below rec last (true ∷ xs) h = others_from-below (rec + 1) last xs (omega arith)
others_from-below rec last (false ∷ xs) h = All-cons (λ r. r ≤ last) rec (others_from (rec + 1) xs) (omega arith) (others_from-below (rec + 1) last xs (omega arith))

-- a list in three parts
middle : (all x y z : List ℕ) (start end : ℕ) → all ≡ x ++ (y ++ z) → start ≡ length x → end ≡ length x + length y
    → take (end - start) (drop start all) ≡ y
middle all x y z start end parts from to =
    ap (λ l. take (end - start) (drop start l)) parts
    ∙ ap (λ k. take (end - start) (drop k (x ++ (y ++ z)))) from
    ∙ ap (take (end - start)) (drop-append_seam x (y ++ z))
    ∙ ap (λ k. take k (y ++ z)) (let e : end - start ≡ length y = omega arith in e)
    ∙ take-append_seam y z

-- what lies between two places of a list of all records
pub record IsBetween (own : List Bool) (others : List ℕ) (start end from to : ℕ) : Type 0 where
  pub forward : start ≤ end
  pub within : end ≤ length others
  pub part : take (end - start) (drop start others) ≡ records_in own from to
  pub bound : All (λ r. r ≤ to) (take (end - start) (drop start others))

pub between_is : (own : List Bool) (others before : List ℕ) (from to : ℕ) → AreOthers own others before → from ≤ to → to < length own
    → IsBetween own others (slice_index before from) (slice_index before (to + 1)) from to
unfolding records_in
between_is own others before from to are order within =
    let x = take from own in
    let rest = drop from own in
    let y = take (to + 1 - from) rest in
    let z = drop (to + 1 - from) rest in
    let lx : length x ≡ from = omega (arith, length-take from own) in
    let ly : length y ≡ to + 1 - from = omega (arith, length-take (to + 1 - from) rest, length-drop from own) in
    let start : slice_index before from ≡ length (others_from 0 x) = are.each from (omega arith) in
    let split : others_from 0 own ≡ others_from 0 x ++ (others_from from y ++ others_from (from + length y) z)
    = ap (others_from 0) (sym (take-append-drop from own)) ∙ others_from-append 0 x rest
    ∙ ap (λ r. others_from 0 x ++ others_from r rest) (let e : 0 + length x ≡ from = omega arith in e)
    ∙ ap (λ l. others_from 0 x ++ others_from from l) (sym (take-append-drop (to + 1 - from) rest))
    ∙ ap (λ l. others_from 0 x ++ l) (others_from-append from y z) in
    let front : others_from 0 (take (to + 1) own) ≡ others_from 0 x ++ others_from from y
    = ap (λ k. others_from 0 (take k own)) (let e : to + 1 ≡ from + (to + 1 - from) = omega arith in e)
    ∙ ap (others_from 0) (take-add from (to + 1 - from) own) ∙ others_from-append 0 x y
    ∙ ap (λ r. others_from 0 x ++ others_from r y) (let e : 0 + length x ≡ from = omega arith in e) in
    let end : slice_index before (to + 1) ≡ length (others_from 0 x) + length (others_from from y)
    = are.each (to + 1) (omega arith) ∙ ap length front ∙ length-append (others_from 0 x) (others_from from y) in
    let part : take (slice_index before (to + 1) - slice_index before from) (drop (slice_index before from) others) ≡ others_from from y
    = middle others (others_from 0 x) (others_from from y) (others_from (from + length y) z) _ _ (are.all ∙ split) start end in
    record {
      forward = omega arith;
      within = omega (
        arith,
        ap length (are.all ∙ split),
        length-append (others_from 0 x) (others_from from y ++ others_from (from + length y) z),
        length-append (others_from from y) (others_from (from + length y) z),
      );
      part = part;
      bound = rw part (others_from-below from to y (omega arith));
    }

-- the same for the numbers that are read there
pub between_read : (own : List Bool) (others before : List ℕ) (from to start end : ℕ) → AreOthers own others before → from ≤ to
    → to < length own → start ≡ get_or before from start → end ≡ get_or before (to + 1) end → IsBetween own others start end from to
between_read own others before from to start end are order within first last =
    let s : start ≡ slice_index before from = first ∙ get_or_default_zero before from start (omega (arith, are.count)) in
    let e : end ≡ slice_index before (to + 1) = last ∙ get_or_default_zero before (to + 1) end (omega (arith, are.count)) in
    subst (λ k. IsBetween own others k end from to) (sym s)
    (subst (λ k. IsBetween own others (slice_index before from) k from to) (sym e) (between_is own others before from to are order within))

-- one record more
pub counted : (own : List Bool) (others before : List ℕ) (i m : ℕ) → m ≡ length others → others ≡ others_from 0 (take i own)
    → length before ≡ i → ((n : ℕ) → n < i → slice_index before n ≡ length (others_from 0 (take n own)))
    → (n : ℕ) → n < i + 1 → slice_index (before ++ m ∷ []) n ≡ length (others_from 0 (take n own))
counted own others before i m all is count each n h =
    elim (cases_lt n i) [
      | inl below ↦ get_or-append before (m ∷ []) 0 n (omega arith) ∙ each n below
      | inr above ↦
          let same : n ≡ length before = omega arith in
          ap (λ k. get_or (before ++ m ∷ []) k 0) same ∙ get_or-append_seam before m [] 0 ∙ all ∙ ap length is
          ∙ ap (λ k. length (others_from 0 (take k own))) (sym count ∙ sym same)
    ]

pub ruleset record_steps = (others_from-none, others_from-own, others_from-other)

-- the records that make entries are not the local side's own
get_take : (n : ℕ) (xs : List Bool) (i : ℕ) → i < length (take n xs) → slice_get (take n xs) i ≡ slice_get xs i
get_take zero xs i h = absurd (omega arith)
get_take (suc n) [] i h = refl
get_take (suc n) (x ∷ xs) zero h = refl
get_take (suc n) (x ∷ xs) (suc i) h = get_take n xs i (omega arith)

get_drop : (n : ℕ) (xs : List Bool) (i : ℕ) → slice_get (drop n xs) i ≡ slice_get xs (n + i)
get_drop zero xs i = ap (slice_get xs) (let e : i ≡ 0 + i = omega arith in e)
get_drop (suc n) [] i = refl
get_drop (suc n) (x ∷ xs) i = get_drop n xs i ∙ ap (slice_get (x ∷ xs)) (let e : suc (n + i) ≡ suc n + i = omega arith in e)

others_from-others : (own : List Bool) (rec : ℕ) (xs : List Bool) → ((i : ℕ) → i < length xs → slice_get xs i ≡ slice_get own (rec + i))
    → All (λ r. slice_get own r ≡ Some false) (others_from rec xs)
unfolding others_from
others_from-others own rec [] same = All-nil _
others_from-others own rec (true ∷ xs) same =
    others_from-others own (rec + 1) xs
    (λ i h. same (suc i) (omega arith) ∙ ap (slice_get own) (let e : rec + suc i ≡ rec + 1 + i = omega arith in e))
others_from-others own rec (false ∷ xs) same =
    All-cons (λ r. slice_get own r ≡ Some false) rec (others_from (rec + 1) xs)
    (ap (slice_get own) (let e : rec ≡ rec + 0 = omega arith in e) ∙ sym (same zero (omega arith)))
    (others_from-others own (rec + 1) xs
    (λ i h. same (suc i) (omega arith) ∙ ap (slice_get own) (let e : rec + suc i ≡ rec + 1 + i = omega arith in e)))

pub records_in-others : (own : List Bool) (from to : ℕ) → All (λ r. slice_get own r ≡ Some false) (records_in own from to)
unfolding records_in
records_in-others own from to =
    others_from-others own from (take (to + 1 - from) (drop from own)) (λ i h. get_take (to + 1 - from) (drop from own) i h ∙ get_drop from own i)
