-- How many entries an epoch has.
use Rattle.std.proofs.Common.{◌≡◌, ◌<◌, ◌≤◌, ◌+◌, ◌-◌, ◌*◌, ◌^◌, ℕ, suc, Bool, true, false, List, [], ◌∷◌, ◌++◌, length, fold, refl, ap, subst, arith}
use Rattle.std.specs.Prelude.{count_by, if◌then◌else◌, nat_lt}
use Rattle.std.proofs.lemmas.Bool.Decides.{nat_tests}
use Rattle.std.proofs.lemmas.List.Sums.{sum_by-append, sum_by-cons}
use Rattle.std.proofs.lemmas.Nat.{mul-le}
use Rattle.ix_lines.specs.declared.types.EntryLine.{EntryLine}
use Rattle.ix_nic.specs.Cards.{CardView}
use Rattle.ix_wire.specs.declared.entry.Entry.{Entry}
use Rattle.ix_wire.specs.declared.entry.Entry.TheVariants as wire
use Rattle.ix_wire.specs.Entries.{EachAllowed, IsWireSoFar, Terms, is_control, is_frame, is_within, since_settle}
use Rattle.ix_feed.specs.Feeding.{Feeds}
use Rattle.ix_feed.specs.Turns.{comes_before_the_end, ended_by}

-- each entry that was carried out has its line
pub feeds-count : (frames : List (List ℕ)) (w clock : ℕ) (es : List Entry) (ls : List EntryLine) (x y : CardView) → Feeds frames w clock es ls x y → length ls ≡ length es
feeds-count frames w clock [] [] x y f = refl
feeds-count frames w clock [] (l ∷ ls) x y f = absurd f
feeds-count frames w clock (e ∷ es) [] x y f = absurd f
feeds-count frames w clock (e ∷ es) (l ∷ ls) x y f = ap suc (feeds-count _ _ _ es ls _ _ f.1.1)

-- ## Between two settles
allowed-front : {S : Type 0} (allowed : S → Entry → Bool) (next : S → Entry → S) (s : S) (es fs : List Entry) → EachAllowed allowed next s (es ++ fs) → EachAllowed allowed next s es
allowed-front allowed next s [] fs h = tt
allowed-front allowed next s (e ∷ es) fs h = (h.0, allowed-front allowed next (next s e) es fs h.1)

allowed-behind : {S : Type 0} (allowed : S → Entry → Bool) (next : S → Entry → S) (s : S) (es fs : List Entry) → EachAllowed allowed next s (es ++ fs) → EachAllowed allowed next (fold next s es) fs
allowed-behind allowed next s [] fs h = h
allowed-behind allowed next s (e ∷ es) fs h = allowed-behind allowed next (next s e) es fs h.1

none-after : (es : List Entry) → EachAllowed comes_before_the_end ended_by true es → length es ≡ 0
none-after [] h = refl
none-after (e ∷ es) h = absurd (let never = h.0 in cc)

is-less : (n most : ℕ) → nat_lt n most ≡ true → n < most
is-less n most h = grind (arith, nat_tests)

-- the frames, as many controls as may still come, and a settle
few-entries : (most n : ℕ) (es : List Entry) → EachAllowed (is_within is_control most) (since_settle is_control) n es → EachAllowed comes_before_the_end ended_by false es
    → length es ≤ count_by is_frame es + ((most - n) + 1)
few-entries most n [] within ends = omega arith
few-entries most n (wire.Frame rec ∷ es) within ends =
    omega (arith, few-entries most n es within.1 ends.1, sum_by-cons (λ (e : Entry). if is_frame e then 1 else 0) (wire.Frame rec) es)
few-entries most n (wire.Tag g ∷ es) within ends =
    omega (arith, is-less n most within.0, few-entries most (n + 1) es within.1 ends.1, sum_by-cons (λ (e : Entry). if is_frame e then 1 else 0) (wire.Tag g) es)
few-entries most n (wire.Move g to ∷ es) within ends =
    omega (arith, is-less n most within.0, few-entries most (n + 1) es within.1 ends.1, sum_by-cons (λ (e : Entry). if is_frame e then 1 else 0) (wire.Move g to) es)
few-entries most n (wire.Time t ∷ es) within ends =
    omega (arith, is-less n most within.0, few-entries most (n + 1) es within.1 ends.1, sum_by-cons (λ (e : Entry). if is_frame e then 1 else 0) (wire.Time t) es)
few-entries most n (wire.Settle ∷ es) within ends = omega (arith, none-after es ends.1)

count-within : (p : Entry → Bool) (before es rest : List Entry) (n : ℕ) → count_by p (before ++ (es ++ rest)) ≤ n → count_by p es ≤ n
count-within p before es rest n le =
    omega (arith, le, sum_by-append (λ (e : Entry). if p e then 1 else 0) before (es ++ rest), sum_by-append (λ (e : Entry). if p e then 1 else 0) es rest)

-- an epoch of a wire list
epochs-are-short : (terms : Terms) (all before es rest : List Entry) → IsWireSoFar terms all → all ≡ before ++ (es ++ rest) → EachAllowed comes_before_the_end ended_by false es
    → length es ≤ 263145
epochs-are-short terms all before es rest so split ends =
    let within = subst (λ (xs : List Entry). EachAllowed (is_within is_control 1000) (since_settle is_control) 0 xs) split so.controls in
    let here = allowed-front _ _ _ es rest (allowed-behind _ _ 0 before (es ++ rest) within) in
    let frames : count_by is_frame es ≤ 262144 = count-within is_frame before es rest 262144 (subst (λ (xs : List Entry). count_by is_frame xs ≤ 262144) split so.frames) in
    omega (arith, few-entries 1000 (fold (since_settle is_control) 0 before) es here ends, frames)

-- So no buffer of up to eight cores can be filled 2^32 times.
pub few-fills : (terms : Terms) (all before es rest : List Entry) (cores n : ℕ) → IsWireSoFar terms all → all ≡ before ++ (es ++ rest) → EachAllowed comes_before_the_end ended_by false es
    → n ≡ length es → cores ≤ 8 → cores * n < 2 ^ 32
few-fills terms all before es rest cores n so split ends is few =
    let short : n ≤ 263145 = omega (arith, is, epochs-are-short terms all before es rest so split ends) in
    omega (arith, mul-le cores n 8 263145 few short)
