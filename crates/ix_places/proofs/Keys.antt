-- The order of replies by their keys.
use Rattle.std.proofs.Common.{◌≡◌, ℕ, zero, suc, ◌+◌, ◌-◌, ◌<◌, ◌≤◌, ◌∙◌, refl, sym, ap, List, [], ◌∷◌, length, get_or, take, Bool, true, false, arith, is_lt, count_by}
use Rattle.std.proofs.lemmas.List.{take_all}
use Rattle.std.proofs.lemmas.List.Sorted.{ranks_by, sorted_far}
use Rattle.std.proofs.lemmas.List.Sums.{count_by_more_no, count_by_more_yes}
use Rattle.std.specs.Cmp.{IsStrictWeakOrder}
use Rattle.std.specs.List.Sorted.{IsPartitionPoint, IsSortedByKey}
use Rattle.std.specs.Ordering.{nat_cmp, ordering_then}
use Rattle.std.specs.Option.{option_cmp}
use Rattle.ix_playdef.specs.contracts.order.PhaseOrd.TheImpl as phase_ord
use Rattle.ix_playdef.specs.contracts.order.ReplyKeyOrd.TheImpl as key_ord
use Rattle.ix_playdef.specs.contracts.order.ReplyKeyOrd.TheImpl.Laws.{total-law}
use Rattle.ix_playdef.specs.declared.order.Phase.{Phase}
use Rattle.ix_playdef.specs.declared.order.Phase.TheVariants.{Connect, Taken, Timer, Flush}
use Rattle.ix_playdef.specs.declared.order.Reply.{Reply}
use Rattle.ix_playdef.specs.declared.order.ReplyKey.{ReplyKey}
use Rattle.ix_playdef.specs.Order.{is_before, key_cmp, key_of, rank, wire_cmp}

-- The order that is derived is that of the definition.
pub phase-same : (a b : Phase) → nat_cmp (rank a) (rank b) ≡ phase_ord.ghosts.cmp a b
phase-same Connect Connect = refl
phase-same Connect Taken = refl
phase-same Connect Timer = refl
phase-same Connect Flush = refl
phase-same Taken Connect = refl
phase-same Taken Taken = refl
phase-same Taken Timer = refl
phase-same Taken Flush = refl
phase-same Timer Connect = refl
phase-same Timer Taken = refl
phase-same Timer Timer = refl
phase-same Timer Flush = refl
phase-same Flush Connect = refl
phase-same Flush Taken = refl
phase-same Flush Timer = refl
phase-same Flush Flush = refl

pub key-same : (a b : ReplyKey) → key_cmp a b ≡ key_ord.ghosts.cmp a b
key-same a b =
    ap (λ o. ordering_then (option_cmp wire_cmp a.entry b.entry)
    (ordering_then (nat_cmp a.group.0 b.group.0)
    (ordering_then o
    (ordering_then (nat_cmp a.place b.place)
    (ordering_then (nat_cmp a.opening b.opening)
    (ordering_then (nat_cmp a.input b.input)
    (nat_cmp a.output b.output))))))) (phase-same a.phase b.phase)

-- ## The number of a reply among sorted ones
pub before-same : (a b : ReplyKey) → is_lt (key_ord.ghosts.cmp a b) ≡ is_before a b
before-same a b = sym (ap is_lt (key-same a b))

weak : IsStrictWeakOrder (λ (x y : Reply). is_lt (key_ord.ghosts.cmp x.key y.key))
weak = ranks_by total-law (λ (r : Reply). r.key)

sorted-derived : (xs : List Reply) → IsSortedByKey key_of key_cmp xs → IsSortedByKey key_of key_ord.ghosts.cmp xs
sorted-derived xs h k d low up = sym (ap is_lt (key-same (get_or xs (k + 1) d).key (get_or xs k d).key)) ∙ h k d low up

-- None that stands behind a reply comes before it.
pub none-before : (xs : List Reply) → IsSortedByKey key_of key_cmp xs → (i j : ℕ) (d : Reply) → i ≤ j → j < length xs → is_before (get_or xs j d).key (get_or xs i d).key ≡ false
none-before xs up i j d le lt =
    sym (before-same (get_or xs j d).key (get_or xs i d).key)
    ∙ sorted_far (λ (x y : Reply). is_lt (key_ord.ghosts.cmp x.key y.key)) weak xs (sorted-derived xs up) i j d le lt

-- the place between them is how many come before
count-front : (p : Reply → Bool) (xs : List Reply) (i n : ℕ) (d : Reply) → n ≤ i → i ≤ length xs → ((k : ℕ) → k < i → p (get_or xs k d) ≡ true) → count_by p (take n xs) ≡ n
count-front p xs i zero d le within all = refl
count-front p xs i (suc n) d le within all =
    let more = count_by_more_yes p xs n d (omega (arith, le, within)) (all n (omega (arith, le))) in
    omega (arith, ap (λ m. count_by p (take m xs)) (let one : n + 1 ≡ suc n = omega arith in one), more, count-front p xs i n d (omega (arith, le)) within all)

count-back : (p : Reply → Bool) (xs : List Reply) (i n : ℕ) (d : Reply) → i + n ≤ length xs → ((k : ℕ) → i ≤ k → k < length xs → p (get_or xs k d) ≡ false) → count_by p (take (i + n) xs) ≡ count_by p (take i xs)
count-back p xs i zero d within none = ap (λ m. count_by p (take m xs)) (let same : i + zero ≡ i = omega arith in same)
count-back p xs i (suc n) d within none =
    ap (λ m. count_by p (take m xs)) (let one : i + suc n ≡ (i + n) + 1 = omega arith in one)
    ∙ count_by_more_no p xs (i + n) d (omega (arith, within)) (none (i + n) (omega arith) (omega (arith, within)))
    ∙ count-back p xs i n d (omega (arith, within)) none

pub counted : (p : Reply → Bool) (xs : List Reply) (i : ℕ) → i ≤ length xs → IsPartitionPoint (λ r. p r ≡ true) (λ r. p r ≡ false) xs i → i ≡ count_by p xs
counted p [] i le parts = omega (arith, le)
counted p (x ∷ xs) i le parts =
    let ys : List Reply = x ∷ xs in
    sym (count-front p ys i i x (omega arith) le (λ k lt. parts.0 k x (omega arith) lt))
    ∙ sym (count-back p ys i (length ys - i) x (omega (arith, le)) (λ k ge lt. parts.1 k x ge lt))
    ∙ ap (λ m. count_by p (take m ys)) (let whole : i + (length ys - i) ≡ length ys = omega (arith, le) in whole)
    ∙ ap (count_by p) (take_all (length ys) ys (omega arith))
