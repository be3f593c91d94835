-- How many entries an epoch has.
use Rattle.std.proofs.Common.{◌≡◌, ◌+◌, ◌-◌, ◌<◌, ◌≤◌, ℕ, suc, Bool, true, false, List, [], ◌∷◌, ◌++◌, length, take, refl, sym, ap, subst, ◌∙◌, arith}
use Rattle.std.specs.Prelude.{cond, count_by, nat_lt}
use Rattle.std.proofs.lemmas.Bool.Decides.{nat_tests}
use Rattle.std.proofs.lemmas.List.{take-append-drop}
use Rattle.std.proofs.lemmas.List.Sums.{sum_by-append, sum_by-cons}
use Rattle.std.proofs.lemmas.Nat.{mul-le}
use Rattle.ix_lines.specs.declared.types.EntryLine.{EntryLine}
use Rattle.ix_nic.specs.Cards.{CardView}
use Rattle.ix_wire.specs.declared.entry.Entry.{Entry}
use Rattle.ix_wire.specs.declared.entry.Entry.TheVariants as wire
use Rattle.ix_wire.specs.Entries.{EachAllowed, IsWire, Terms, is_control, is_frame, is_within, since_settle}
use Rattle.ix_feed.specs.Feeding.{Feeds}
use Rattle.ix_feed.specs.Replays.{FeedView, left_of}
use Rattle.ix_feed.specs.Turns.{FeedBecame, comes_before_the_end, ended_by}
use Rattle.ix_printed.specs.Short.{EpochsAreShort}

-- ## Parts of a list of entries
-- behind the first of them, from some state on
record AllowedFrom {S : Type 0} (allowed : S → Entry → Bool) (next : S → Entry → S) (es : List Entry) : Type 0 where
  state : S
  each : EachAllowed allowed next state es

allowed-behind : {S : Type 0} (allowed : S → Entry → Bool) (next : S → Entry → S) (s : S) (xs ys : List Entry) → EachAllowed allowed next s (xs ++ ys) → AllowedFrom allowed next ys
allowed-behind allowed next s [] ys h = record { state = s; each = h }
allowed-behind allowed next s (x ∷ xs) ys h = allowed-behind allowed next (next s x) xs ys h.1

allowed-front : {S : Type 0} (allowed : S → Entry → Bool) (next : S → Entry → S) (s : S) (xs ys : List Entry) → EachAllowed allowed next s (xs ++ ys) → EachAllowed allowed next s xs
allowed-front allowed next s [] ys h = tt
allowed-front allowed next s (x ∷ xs) ys h = (h.0, allowed-front allowed next (next s x) xs ys h.1)

frames-within : (xs ys zs : List Entry) → count_by is_frame ys ≤ count_by is_frame (xs ++ (ys ++ zs))
frames-within xs ys zs = omega (arith, sum_by-append (λ (e : Entry). cond (is_frame e) 1 0) xs (ys ++ zs), sum_by-append (λ (e : Entry). cond (is_frame e) 1 0) ys zs)

-- ## One epoch
is-below : (n m : ℕ) → nat_lt n m ≡ true → n < m
is-below n m e = grind (arith, nat_tests)

-- nothing stands behind a settle
none-behind : (es : List Entry) → EachAllowed comes_before_the_end ended_by true es → length es ≡ 0
none-behind [] h = refl
none-behind (e ∷ es) h = absurd (omega (arith, ap (λ (b : Bool). (let n : ℕ = cond b 1 0 in n)) h.0))

control-more : (most n rest frames : ℕ) → n < most → rest ≤ frames + (most - (n + 1)) + 1 → suc rest ≤ frames + (most - n) + 1
control-more most n rest frames lt le = omega (arith, lt, le)

few-entries : (most n : ℕ) (es : List Entry) → EachAllowed (is_within is_control most) (since_settle is_control) n es → EachAllowed comes_before_the_end ended_by false es
    → length es ≤ count_by is_frame es + (most - n) + 1
few-entries most n [] within ends = omega arith
few-entries most n (wire.Frame rec ∷ es) within ends =
    omega (arith, few-entries most n es within.1 ends.1, sum_by-cons (λ (e : Entry). cond (is_frame e) 1 0) (wire.Frame rec) es)
few-entries most n (wire.Tag group ∷ es) within ends =
    control-more most n (length es) (count_by is_frame es) (is-below n most within.0) (few-entries most (n + 1) es within.1 ends.1)
few-entries most n (wire.Move group to ∷ es) within ends =
    control-more most n (length es) (count_by is_frame es) (is-below n most within.0) (few-entries most (n + 1) es within.1 ends.1)
few-entries most n (wire.Time t ∷ es) within ends =
    control-more most n (length es) (count_by is_frame es) (is-below n most within.0) (few-entries most (n + 1) es within.1 ends.1)
few-entries most n (wire.Settle ∷ es) within ends = omega (arith, none-behind es ends.1)

-- each entry has its line
as-many : (frames : List (List ℕ)) (w clock : ℕ) (es : List Entry) (ls : List EntryLine) (old new : CardView) → Feeds frames w clock es ls old new → length ls ≡ length es
as-many frames w clock [] [] old new h = refl
as-many frames w clock [] (l ∷ ls) old new h = absurd h
as-many frames w clock (e ∷ es) [] old new h = absurd h
as-many frames w clock (e ∷ es) (l ∷ ls) old new h = ap suc (as-many frames (suc w) _ es ls h.0 new h.1.1)

-- ## The law
at-most : (t c frames most n : ℕ) → t ≡ c → c ≤ frames + (most - n) + 1 → t ≤ frames + most + 1
at-most t c frames most n same le = omega (arith, same, le)

epoch-short : (terms : Terms) (x y : FeedView) (b : FeedBecame x y) → IsWire terms x.replay.entries → x.replay.ended ≡ false → length b.told ≤ 262144 + 1000 + 1
epoch-short terms x y b is begun =
    let front : List Entry = take (length x.replay.lines) x.replay.entries in
    let whole : x.replay.entries ≡ front ++ (b.carried ++ left_of y.replay) = sym (ap (λ es. front ++ es) (sym b.left) ∙ take-append-drop (length x.replay.lines) x.replay.entries) in
    let behind = allowed-behind (is_within is_control 1000) (since_settle is_control) 0 front (b.carried ++ left_of y.replay)
    (subst (EachAllowed (is_within is_control 1000) (since_settle is_control) 0) whole is.so_far.controls) in
    let within = allowed-front (is_within is_control 1000) (since_settle is_control) behind.state b.carried (left_of y.replay) behind.each in
    let few = few-entries 1000 behind.state b.carried within (subst (λ ended. EachAllowed comes_before_the_end ended_by ended b.carried) begun b.epoch) in
    let all = at-most (length b.told) (length b.carried) (count_by is_frame b.carried) 1000 behind.state
    (as-many x.replay.frames (length x.replay.lines) x.replay.clock b.carried b.told x.card y.card b.fed) few in
    let frames : count_by is_frame b.carried ≤ 262144 =
    omega (arith, frames-within front b.carried (left_of y.replay), is.so_far.frames, ap (count_by is_frame) whole) in
    omega (arith, all, frames)

pub epochs-are-short : EpochsAreShort
epochs-are-short terms x y b cores is begun few = omega (arith, mul-le cores (length b.told) 8 (262144 + 1000 + 1) few (epoch-short terms x y b is begun))
