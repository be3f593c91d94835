-- The entries of a report against a wire list, one by one.
use Rattle.std.proofs.Common.{◌≡◌, ℕ, zero, suc, ◌+◌, ◌<◌, ◌≤◌, refl, sym, ap, ◌∙◌, Bool, true, false, List, [], ◌∷◌, ◌++◌, length, map, take, drop, get_or, arith, add-one, length-take}
use Rattle.std.specs.Prelude.{◌&&◌, slice_get, Option, Some}
use Rattle.std.proofs.lemmas.Bool.{and_parts}
use Rattle.std.proofs.lemmas.List.{drop_more, drop_all, map-append, take_all, take-append-le, drop-append-le}
use Rattle.ix_conf.specs.Settings.{Settings}
use Rattle.ix_groupdef.specs.Calls.{is_empty}
use Rattle.ix_lines.specs.declared.types.EntryLine.{EntryLine}
use Rattle.ix_lines.specs.declared.types.EntryLine.TheVariants as lines
use Rattle.ix_lines.specs.declared.types.RingLine.{RingLine}
use Rattle.ix_lines.specs.declared.types.SettleLine.{SettleLine}
use Rattle.ix_order.specs.Wire.{Entry, turned}
use Rattle.ix_playdef.specs.Clock.{clock_after}
use Rattle.ix_wire.specs.declared.entry.Entry.{Entry as WireEntry}
use Rattle.ix_fits.specs.declared.entries.Place.{Place}
use Rattle.ix_fits.specs.Behind.{behind_at, card_of, place_after, rings_in, rings_of, table_behind}
use Rattle.ix_fits.specs.Card.{Card, card_after, carried, carried_all, entry_of, fit_entries, fits_entry, fits_settle, settled, settles_after}
use Rattle.ix_fits.proofs.BehindLaws.{behind_table, table-one, take-one}

-- ## Lists
get-head : (ls : List SettleLine) (n : ℕ) (l : SettleLine) (rest : List SettleLine) → drop n ls ≡ l ∷ rest → slice_get ls n ≡ Some l
get-head [] zero l rest e = absurd (cc)
get-head [] (suc n) l rest e = absurd (cc)
get-head (x ∷ xs) zero l rest e = let same : x ≡ l = cc in ap (λ (z : SettleLine). (let o : Option SettleLine = Some z in o)) same
get-head (x ∷ xs) (suc n) l rest e = get-head xs n l rest e

drop-suc : (ls : List SettleLine) (n : ℕ) (l : SettleLine) (rest : List SettleLine) → drop n ls ≡ l ∷ rest → drop (suc n) ls ≡ rest
drop-suc [] zero l rest e = absurd (cc)
drop-suc [] (suc n) l rest e = absurd (cc)
drop-suc (x ∷ xs) zero l rest e = cc
drop-suc (x ∷ xs) (suc n) l rest e = drop-suc xs n l rest e

drop-tail : (ls : List SettleLine) (n : ℕ) (l : SettleLine) (rest : List SettleLine) → drop n ls ≡ l ∷ rest → drop (n + 1) ls ≡ rest
drop-tail ls n l rest e = rw add-one (drop-suc ls n l rest e)

-- ## The card, one entry on
carried-one : (c : Card) (xs : List Entry) (x : Entry) → carried_all c (xs ++ x ∷ []) ≡ carried (carried_all c xs) x
carried-one c [] x = refl
carried-one c (y ∷ xs) x = carried-one (carried c y) xs x

card-more : (live : ℕ) (ys : List EntryLine) (rings : List RingLine) (from w : ℕ) (d : EntryLine) → from ≤ w → w < length ys
    → card_of (record { live = live; done = take (w + 1) ys; from = from; rings = rings }) ≡ carried (card_of (record { live = live; done = take w ys; from = from; rings = rings })) (entry_of (get_or ys w d))
unfolding card_of
card-more live ys rings from w d le lt =
    let there : from ≤ length (take w ys) = omega (arith, length-take w ys, le, lt) in
    ap (λ (zs : List EntryLine). carried_all (settled rings (table_behind live (take from zs))) (map entry_of (drop from zs))) (take-one ys w d lt)
    ∙ ap (λ (zs : List EntryLine). carried_all (settled rings (table_behind live zs)) (map entry_of (drop from (take w ys ++ get_or ys w d ∷ [])))) (take-append-le from (take w ys) (get_or ys w d ∷ []) there)
    ∙ ap (λ (zs : List EntryLine). carried_all (settled rings (table_behind live (take from (take w ys)))) (map entry_of zs)) (drop-append-le from (take w ys) (get_or ys w d ∷ []) there)
    ∙ ap (λ (zs : List Entry). carried_all (settled rings (table_behind live (take from (take w ys)))) zs) (map-append entry_of (drop from (take w ys)) (get_or ys w d ∷ []))
    ∙ carried-one (settled rings (table_behind live (take from (take w ys)))) (map entry_of (drop from (take w ys))) (entry_of (get_or ys w d))

-- behind a settle, with what it tells
card-settled : (live : ℕ) (ys : List EntryLine) (rings : List RingLine) (w : ℕ) → w ≤ length ys → card_of (record { live = live; done = take w ys; from = w; rings = rings }) ≡ settled rings (table_behind live (take w ys))
unfolding card_of
card-settled live ys rings w le =
    let short : length (take w ys) ≤ w = omega (arith, length-take w ys, le) in
    ap (λ (zs : List EntryLine). carried_all (settled rings (table_behind live (take w (take w ys)))) (map entry_of zs)) (drop_all w (take w ys) short)
    ∙ ap (λ (zs : List EntryLine). settled rings (table_behind live zs)) (take_all w (take w ys) short)

-- the card behind an entry
after : (live : ℕ) (ys : List EntryLine) (settles : List SettleLine) (w : ℕ) (p : Place) (y d : EntryLine) → p.from ≤ w → w < length ys → y ≡ get_or ys w d
    → fits_settle (card_of (behind_at live ys settles w p)) y (drop (p.settle + 1) settles) ≡ true
    → card_after (card_of (behind_at live ys settles w p)) y (drop (p.settle + 1) settles) ≡ card_of (behind_at live ys settles (w + 1) (place_after w p y))
after live ys settles w p (lines.Frame rec at group ring fate) d le lt is fits =
    sym (card-more live ys (rings_of settles p.settle) p.from w d le lt ∙ ap (λ (z : EntryLine). carried (card_of (behind_at live ys settles w p)) (entry_of z)) (sym is))
after live ys settles w p (lines.Time t) d le lt is fits =
    sym (card-more live ys (rings_of settles p.settle) p.from w d le lt ∙ ap (λ (z : EntryLine). carried (card_of (behind_at live ys settles w p)) (entry_of z)) (sym is))
after live ys settles w p (lines.Tag group) d le lt is fits =
    sym (card-more live ys (rings_of settles p.settle) p.from w d le lt ∙ ap (λ (z : EntryLine). carried (card_of (behind_at live ys settles w p)) (entry_of z)) (sym is))
after live ys settles w p (lines.Move group to) d le lt is fits =
    sym (card-more live ys (rings_of settles p.settle) p.from w d le lt ∙ ap (λ (z : EntryLine). carried (card_of (behind_at live ys settles w p)) (entry_of z)) (sym is))
after live ys settles w p lines.Settle d le lt is fits = by_rest (drop (p.settle + 1) settles) refl fits
  where
    by_rest : (ls : List SettleLine) → drop (p.settle + 1) settles ≡ ls → fits_settle (card_of (behind_at live ys settles w p)) lines.Settle ls ≡ true
        → card_after (card_of (behind_at live ys settles w p)) lines.Settle ls ≡ card_of (behind_at live ys settles (w + 1) (record { from = w + 1; settle = p.settle + 1 }))
    by_rest [] e f = absurd (cc)
    by_rest (l ∷ ls) e f =
        ap (settled l.rings) (behind_table (behind_at live ys settles w p))
        ∙ ap (settled l.rings) (sym (table-one live ys w d lt ∙ ap (λ (z : EntryLine). turned (table_behind live (take w ys)) (entry_of z)) (sym is)))
        ∙ sym (card-settled live ys l.rings (w + 1) (omega (arith, lt)))
        ∙ ap (λ (rs : List RingLine). card_of (record { live = live; done = take (w + 1) ys; from = w + 1; rings = rs })) (sym (ap rings_in (get-head settles (p.settle + 1) l ls e)))

rest-after : (settles : List SettleLine) (w : ℕ) (p : Place) (c : Card) (y : EntryLine) → fits_settle c y (drop (p.settle + 1) settles) ≡ true
    → settles_after y (drop (p.settle + 1) settles) ≡ drop ((place_after w p y).settle + 1) settles
rest-after settles w p c (lines.Frame rec at group ring fate) fits = refl
rest-after settles w p c (lines.Time t) fits = refl
rest-after settles w p c (lines.Tag group) fits = refl
rest-after settles w p c (lines.Move group to) fits = refl
rest-after settles w p c lines.Settle fits = by_rest (drop (p.settle + 1) settles) refl fits
  where
    by_rest : (ls : List SettleLine) → drop (p.settle + 1) settles ≡ ls → fits_settle c lines.Settle ls ≡ true → settles_after lines.Settle ls ≡ drop (p.settle + 1 + 1) settles
    by_rest [] e f = absurd (cc)
    by_rest (l ∷ ls) e f = sym (drop-tail settles (p.settle + 1) l ls e)

-- ## Entries
and-false : (b : Bool) → (b && false) ≡ false
and-false true = refl
and-false false = refl

pub entries-differ : (s : Settings) (frames : List (List ℕ)) (c : Card) (now : ℕ) (xs : List WireEntry) (ys : List EntryLine) (ls : List SettleLine) → (length xs ≡ length ys → ⊥) → fit_entries s frames c now xs ys ls ≡ false
entries-differ s frames c now [] [] ls differ = absurd (differ refl)
entries-differ s frames c now [] (y ∷ ys) ls differ = refl
entries-differ s frames c now (x ∷ xs) [] ls differ = refl
entries-differ s frames c now (x ∷ xs) (y ∷ ys) ls differ =
    ap (λ (b : Bool). (fits_entry s frames c (clock_after now x) x y && fits_settle c y ls) && b) (entries-differ s frames (card_after c y ls) (clock_after now x) xs ys (settles_after y ls) (λ same. differ (omega (arith, same))))
    ∙ and-false (fits_entry s frames c (clock_after now x) x y && fits_settle c y ls)

entries-cons : (s : Settings) (frames : List (List ℕ)) (c : Card) (now : ℕ) (xs : List WireEntry) (ys : List EntryLine) (ls : List SettleLine) (w : ℕ) (x : WireEntry) (y e : EntryLine) (d : WireEntry)
    → w < length xs → w < length ys → x ≡ get_or xs w d → y ≡ get_or ys w e
    → fit_entries s frames c now (drop w xs) (drop w ys) ls
    ≡ ((fits_entry s frames c (clock_after now x) x y && fits_settle c y ls) && fit_entries s frames (card_after c y ls) (clock_after now x) (drop (w + 1) xs) (drop (w + 1) ys) (settles_after y ls))
entries-cons s frames c now xs ys ls w x y e d lt lm ix iy =
    ap (λ (zs : List WireEntry). fit_entries s frames c now zs (drop w ys) ls) (drop_more xs w d lt ∙ ap (λ (z : WireEntry). z ∷ drop (w + 1) xs) (sym ix))
    ∙ ap (λ (zs : List EntryLine). fit_entries s frames c now (x ∷ drop (w + 1) xs) zs ls) (drop_more ys w e lm ∙ ap (λ (z : EntryLine). z ∷ drop (w + 1) ys) (sym iy))

pub entries-not : (s : Settings) (frames : List (List ℕ)) (c : Card) (now later : ℕ) (xs : List WireEntry) (ys : List EntryLine) (ls : List SettleLine) (w : ℕ) (x : WireEntry) (y e : EntryLine) (d : WireEntry)
    → w < length xs → w < length ys → x ≡ get_or xs w d → y ≡ get_or ys w e → later ≡ clock_after now x → (fits_entry s frames c later x y && fits_settle c y ls) ≡ false
    → fit_entries s frames c now (drop w xs) (drop w ys) ls ≡ false
entries-not s frames c now later xs ys ls w x y e d lt lm ix iy at fails =
    entries-cons s frames c now xs ys ls w x y e d lt lm ix iy
    ∙ ap (λ (b : Bool). b && fit_entries s frames (card_after c y ls) (clock_after now x) (drop (w + 1) xs) (drop (w + 1) ys) (settles_after y ls))
    (ap (λ (n : ℕ). fits_entry s frames c n x y && fits_settle c y ls) (sym at) ∙ fails)

pub entries-next : (s : Settings) (frames : List (List ℕ)) (live now later : ℕ) (xs : List WireEntry) (ys : List EntryLine) (settles : List SettleLine) (w : ℕ) (p : Place) (x : WireEntry) (y e : EntryLine) (d : WireEntry)
    → w < length xs → w < length ys → x ≡ get_or xs w d → y ≡ get_or ys w e → p.from ≤ w → later ≡ clock_after now x
    → (fits_entry s frames (card_of (behind_at live ys settles w p)) later x y && fits_settle (card_of (behind_at live ys settles w p)) y (drop (p.settle + 1) settles)) ≡ true
    → fit_entries s frames (card_of (behind_at live ys settles w p)) now (drop w xs) (drop w ys) (drop (p.settle + 1) settles)
    ≡ fit_entries s frames (card_of (behind_at live ys settles (w + 1) (place_after w p y))) later (drop (w + 1) xs) (drop (w + 1) ys) (drop ((place_after w p y).settle + 1) settles)
entries-next s frames live now later xs ys settles w p x y e d lt lm ix iy le at fits =
    let c : Card = card_of (behind_at live ys settles w p) in
    let ls : List SettleLine = drop (p.settle + 1) settles in
    let tells : fits_settle c y ls ≡ true = (and_parts (fits_entry s frames c later x y) (fits_settle c y ls) fits).1 in
    entries-cons s frames c now xs ys ls w x y e d lt lm ix iy
    ∙ ap (λ (b : Bool). b && fit_entries s frames (card_after c y ls) (clock_after now x) (drop (w + 1) xs) (drop (w + 1) ys) (settles_after y ls))
    (ap (λ (n : ℕ). fits_entry s frames c n x y && fits_settle c y ls) (sym at) ∙ fits)
    ∙ ap (λ (k : Card). fit_entries s frames k (clock_after now x) (drop (w + 1) xs) (drop (w + 1) ys) (settles_after y ls)) (after live ys settles w p y e le lm iy tells)
    ∙ ap (λ (n : ℕ). fit_entries s frames (card_of (behind_at live ys settles (w + 1) (place_after w p y))) n (drop (w + 1) xs) (drop (w + 1) ys) (settles_after y ls)) (sym at)
    ∙ ap (fit_entries s frames (card_of (behind_at live ys settles (w + 1) (place_after w p y))) later (drop (w + 1) xs) (drop (w + 1) ys)) (rest-after settles w p c y tells)

pub entries-end : (s : Settings) (frames : List (List ℕ)) (c : Card) (now : ℕ) (xs : List WireEntry) (ys : List EntryLine) (ls : List SettleLine) (w : ℕ) → length xs ≤ w → length ys ≤ w
    → fit_entries s frames c now (drop w xs) (drop w ys) ls ≡ is_empty ls
entries-end s frames c now xs ys ls w le lf =
    ap (λ (zs : List WireEntry). fit_entries s frames c now zs (drop w ys) ls) (drop_all w xs le) ∙ ap (λ (zs : List EntryLine). fit_entries s frames c now [] zs ls) (drop_all w ys lf)

pub place-from : (w : ℕ) (p : Place) (y : EntryLine) → p.from ≤ w → (place_after w p y).from ≤ w + 1
place-from w p lines.Settle le = omega arith
place-from w p (lines.Frame rec at group ring fate) le = omega (arith, le)
place-from w p (lines.Time t) le = omega (arith, le)
place-from w p (lines.Tag group) le = omega (arith, le)
place-from w p (lines.Move group to) le = omega (arith, le)

pub place-settle : (w : ℕ) (p : Place) (y : EntryLine) → p.settle ≤ w → (place_after w p y).settle ≤ w + 1
place-settle w p lines.Settle le = omega (arith, le)
place-settle w p (lines.Frame rec at group ring fate) le = omega (arith, le)
place-settle w p (lines.Time t) le = omega (arith, le)
place-settle w p (lines.Tag group) le = omega (arith, le)
place-settle w p (lines.Move group to) le = omega (arith, le)

pub ruleset for_entries = (entries-differ, entries-not, entries-next, entries-end, place-from, place-settle)
