-- The card behind the entries of a report.
use Rattle.std.proofs.Common.{◌≡◌, ℕ, ◌+◌, ◌<◌, ◌≤◌, refl, sym, ap, ◌∙◌, Bool, true, false, List, [], ◌∷◌, ◌++◌, length, map, take, drop, get_or, arith, add-one, add-zero, zero-add}
use Rattle.std.specs.Prelude.{if◌then◌else◌, ◌==◌, count_by, slice_get}
use Rattle.std.proofs.Math.Seq.{take-suc}
use Rattle.std.proofs.lemmas.List.Sums.{sum_by-cons}
use Rattle.std.proofs.lemmas.List.{drop_more, drop_all, map-append, take-append-drop}
use Rattle.ix_lines.specs.declared.types.EntryLine.{EntryLine}
use Rattle.ix_lines.specs.declared.types.EntryLine.TheVariants as lines
use Rattle.ix_order.specs.Wire.{Entry, Table, turned}
use Rattle.ix_fits.specs.Behind.{Behind, card_of, core_after, core_by, items_after, table_after, table_behind}
use Rattle.ix_fits.specs.Card.{Card, carried, carried_all, entry_of, is_accepted_on, is_put_on, one_more, opening_table, posted_in, settled}

-- ## The core of a group
core-turned : (g : ℕ) (t : Table) (l : EntryLine) → (turned t (entry_of l) g).core ≡ core_by g (t g).core l
core-turned g t (lines.Frame rec at group ring fate) = refl
core-turned g t (lines.Time u) = refl
core-turned g t (lines.Tag group) = refl
core-turned g t lines.Settle = refl
core-turned g t (lines.Move group to) = by_test (g == group.0)
  where
    by_test : (b : Bool) → (if b then record { core = to.0; tenure = (t group.0).tenure + 1 } else t g).core ≡ (if b then to.0 else (t g).core)
    by_test true = refl
    by_test false = refl

core-table : (g : ℕ) (t : Table) (ls : List EntryLine) → (table_after t (map entry_of ls) g).core ≡ core_after g (t g).core ls
core-table g t [] = refl
core-table g t (l ∷ ls) = core-table g (turned t (entry_of l)) ls ∙ ap (λ c. core_after g c ls) (core-turned g t l)

pub core-behind : (live g : ℕ) (ls : List EntryLine) → (table_behind live ls g).core ≡ core_after g (opening_table live g).core ls
core-behind live g ls = core-table g (opening_table live) ls

pub core-next : (g c : ℕ) (ls : List EntryLine) (i : ℕ) (d : EntryLine) → i < length ls → core_after g c (drop i ls) ≡ core_after g (core_by g c (get_or ls i d)) (drop (i + 1) ls)
core-next g c ls i d lt = ap (core_after g c) (drop_more ls i d lt)

pub core-end : (g c : ℕ) (ls : List EntryLine) (i : ℕ) → length ls ≤ i → core_after g c (drop i ls) ≡ c
core-end g c ls i le = ap (core_after g c) (drop_all i ls le)

pub ruleset for_cores = (core-behind, core-next, core-end)

-- ## Counts since the last settle
frames-carried : (r : ℕ) (c : Card) (ls : List EntryLine) → (carried_all c (map entry_of ls)).frames r ≡ c.frames r + count_by (λ l. is_accepted_on r (entry_of l)) ls
frames-carried r c [] = sym (add-zero (c.frames r))
frames-carried r c (l ∷ ls) =
    frames-carried r (carried c (entry_of l)) ls ∙ one-more (is_accepted_on r (entry_of l)) (c.frames r) (count_by (λ x. is_accepted_on r (entry_of x)) ls)
    ∙ ap (λ n. c.frames r + n) (sym (sum_by-cons (λ x. if is_accepted_on r (entry_of x) then 1 else 0) l ls))
  where
    one-more : (b : Bool) (n m : ℕ) → one_more b n + m ≡ n + ((if b then 1 else 0) + m)
    one-more true n m = omega arith
    one-more false n m = omega arith

items-carried : (r : ℕ) (c : Card) (ls : List EntryLine) → (carried_all c (map entry_of ls)).items r ≡ c.items r + items_after r c.table ls
items-carried r c [] = sym (add-zero (c.items r))
items-carried r c (l ∷ ls) =
    items-carried r (carried c (entry_of l)) ls ∙ one-more (is_put_on r c.table (entry_of l)) (c.items r) (items_after r (turned c.table (entry_of l)) ls)
  where
    one-more : (b : Bool) (n m : ℕ) → one_more b n + m ≡ n + one_more b m
    one-more true n m = omega arith
    one-more false n m = omega arith

posted-carried : (r : ℕ) (c : Card) (xs : List Entry) → (carried_all c xs).posted r ≡ c.posted r
posted-carried r c [] = refl
posted-carried r c (x ∷ xs) = posted-carried r (carried c x) xs

table-carried : (c : Card) (xs : List Entry) → (carried_all c xs).table ≡ table_after c.table xs
table-carried c [] = refl
table-carried c (x ∷ xs) = table-carried (carried c x) xs

table-append : (t : Table) (xs ys : List Entry) → table_after t (xs ++ ys) ≡ table_after (table_after t xs) ys
table-append t [] ys = refl
table-append t (x ∷ xs) ys = table-append (turned t x) xs ys

pub behind_frames : (b : Behind) (r : ℕ) → (card_of b).frames r ≡ count_by (λ l. is_accepted_on r (entry_of l)) (drop b.from b.done)
unfolding card_of
behind_frames b r =
    frames-carried r (settled b.rings (table_behind b.live (take b.from b.done))) (drop b.from b.done) ∙ zero-add (count_by (λ l. is_accepted_on r (entry_of l)) (drop b.from b.done))

pub behind_items : (b : Behind) (r : ℕ) → (card_of b).items r ≡ items_after r (table_behind b.live (take b.from b.done)) (drop b.from b.done)
unfolding card_of
behind_items b r =
    items-carried r (settled b.rings (table_behind b.live (take b.from b.done))) (drop b.from b.done) ∙ zero-add (items_after r (table_behind b.live (take b.from b.done)) (drop b.from b.done))

pub behind_posted : (b : Behind) (r : ℕ) → (card_of b).posted r ≡ posted_in (slice_get b.rings r)
unfolding card_of
behind_posted b r = posted-carried r (settled b.rings (table_behind b.live (take b.from b.done))) (map entry_of (drop b.from b.done))

pub behind_table : (b : Behind) → (card_of b).table ≡ table_behind b.live b.done
unfolding card_of
behind_table b =
    table-carried (settled b.rings (table_behind b.live (take b.from b.done))) (map entry_of (drop b.from b.done))
    ∙ sym (table-append (opening_table b.live) (map entry_of (take b.from b.done)) (map entry_of (drop b.from b.done)))
    ∙ ap (table_after (opening_table b.live)) (sym (map-append entry_of (take b.from b.done) (drop b.from b.done)) ∙ ap (map entry_of) (take-append-drop b.from b.done))

pub behind_core : (b : Behind) (g : ℕ) → ((card_of b).table g).core ≡ (table_behind b.live b.done g).core
behind_core b g = ap (λ (t : Table). (t g).core) (behind_table b)

-- ## Items, one by one
pub take-one : (ls : List EntryLine) (i : ℕ) (d : EntryLine) → i < length ls → take (i + 1) ls ≡ take i ls ++ get_or ls i d ∷ []
take-one ls i d lt = rw add-one (take-suc ls i d lt)

pub table-one : (live : ℕ) (ls : List EntryLine) (i : ℕ) (d : EntryLine) → i < length ls → table_behind live (take (i + 1) ls) ≡ turned (table_behind live (take i ls)) (entry_of (get_or ls i d))
table-one live ls i d lt =
    ap (λ xs. table_behind live xs) (take-one ls i d lt) ∙ ap (table_after (opening_table live)) (map-append entry_of (take i ls) (get_or ls i d ∷ []))
    ∙ table-append (opening_table live) (map entry_of (take i ls)) (entry_of (get_or ls i d) ∷ [])

items-one : (r live : ℕ) (ls : List EntryLine) (i : ℕ) (d : EntryLine) → i < length ls
    → items_after r (table_behind live (take i ls)) (drop i ls)
    ≡ one_more (is_put_on r (table_behind live (take i ls)) (entry_of (get_or ls i d))) (items_after r (table_behind live (take (i + 1) ls)) (drop (i + 1) ls))
items-one r live ls i d lt =
    ap (items_after r (table_behind live (take i ls))) (drop_more ls i d lt)
    ∙ ap (λ (t : Table). one_more (is_put_on r (table_behind live (take i ls)) (entry_of (get_or ls i d))) (items_after r t (drop (i + 1) ls))) (sym (table-one live ls i d lt))

pub items-step : (r live : ℕ) (ls : List EntryLine) (i n : ℕ) (d : EntryLine) (b : Bool) → i < length ls → b ≡ is_put_on r (table_behind live (take i ls)) (entry_of (get_or ls i d))
    → one_more b n + items_after r (table_behind live (take (i + 1) ls)) (drop (i + 1) ls) ≡ n + items_after r (table_behind live (take i ls)) (drop i ls)
items-step r live ls i n d b lt e =
    let rest : ℕ = items_after r (table_behind live (take (i + 1) ls)) (drop (i + 1) ls) in
    either b n rest ∙ ap (λ (t : Bool). n + one_more t rest) e ∙ ap (λ m. n + m) (sym (items-one r live ls i d lt))
  where
    either : (t : Bool) (k m : ℕ) → one_more t k + m ≡ k + one_more t m
    either true k m = omega arith
    either false k m = omega arith

pub items-end : (r live : ℕ) (ls : List EntryLine) (i n : ℕ) → length ls ≤ i → n + items_after r (table_behind live (take i ls)) (drop i ls) ≡ n
items-end r live ls i n le = ap (λ xs. n + items_after r (table_behind live (take i ls)) xs) (drop_all i ls le) ∙ add-zero n

pub one-more-le : (b : Bool) (n i : ℕ) → n ≤ i → one_more b n ≤ i + 1
one-more-le true n i le = omega (arith, le)
one-more-le false n i le = omega (arith, le)

pub ruleset for_items = (items-step, items-end, one-more-le, behind_items)
