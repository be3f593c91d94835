-- The cutting of a group, entry by entry.
use Rattle.std.proofs.Common.{◌≡◌, ℕ, ◌+◌, ◌-◌, ◌<◌, ◌≤◌, refl, sym, ap, ◌∙◌, Bool, true, false, List, [], ◌∷◌, ◌++◌, length, map, take, drop, get_or, arith, append_assoc, length-take, length-drop, ◌⊎◌, inl, inr}
use Rattle.std.specs.Prelude.{not, ◌&&◌, nat_lt, slice_range}
use Rattle.std.specs.List.{list_all}
use Rattle.std.proofs.lemmas.Bool.{cases_lt, lt-ltb, le-ltb}
use Rattle.std.proofs.lemmas.List.{drop_more, drop_all, get_or-drop, map-append, take_all, take_more}
use Rattle.ix_groupdef.specs.Calls.{is_empty}
use Rattle.ix_groupdef.specs.Group.{Cycle}
use Rattle.ix_lines.specs.declared.types.ConnLine.{ConnLine}
use Rattle.ix_playdef.specs.declared.wire.Given.{Given}
use Rattle.ix_playdef.specs.declared.wire.Given.TheVariants.{Frame, Time}
use Rattle.ix_fits.specs.Cutting.{Due}
use Rattle.ix_fits.specs.Read.{alone, cycle_with, cycles_read, frame_step, is_flushed, is_heard, read_step}
use Rattle.ix_told.specs.declared.cutting.Ending.{Ending}
use Rattle.ix_told.specs.declared.cutting.Ending.TheVariants.{Alone, Closes, Waits}
use Rattle.ix_told.specs.declared.cycle.ReadCycle.{ReadCycle}
use Rattle.ix_told.specs.Reading.{IsFrame, IsOfFrame, are_cycle, cycle_of, cycles_by, ending_by, ending_of, fits_by, fits_read, is_cycle_alone}

-- ## Only a frame waits or closes a cycle
pub frame-of : (e : Ending) (t : Given) → IsFrame t → IsOfFrame e t
frame-of Waits t f = f
frame-of Closes t f = f
frame-of Alone t f = tt

pub of-frame : (conns : List ConnLine) (waiting : Bool) (given : Given) → IsOfFrame (ending_of conns waiting given) given
of-frame conns waiting (Frame t) = frame-of (ending_by (is_flushed conns t.w.0) (is_heard conns t.w.0) waiting) (Frame t) tt
of-frame conns waiting (Time w t) = tt

-- ## What an ending does is what the definition does
by-tests : (flushed heard : Bool) (ds : List Due) (d : Due) (rest : List Due → List Cycle)
    → frame_step flushed heard ds d rest ≡ cycles_by (ending_by flushed heard (not (is_empty ds))) ds d rest
by-tests true heard ds d rest = refl
by-tests false true [] d rest = refl
by-tests false true (x ∷ ds) d rest = refl
by-tests false false [] d rest = refl
by-tests false false (x ∷ ds) d rest = refl

step-is : (conns : List ConnLine) (given : Given) (ds : List Due) (d : Due) (rest : List Due → List Cycle)
    → read_step conns given ds d rest ≡ cycles_by (ending_of conns (not (is_empty ds)) given) ds d rest
step-is conns (Frame t) ds d rest = by-tests (is_flushed conns t.w.0) (is_heard conns t.w.0) ds d rest
step-is conns (Time w t) ds d rest = refl

pub cycles-cons : (conns : List ConnLine) (ds : List Due) (e : Due) (es : List Due)
    → cycles_read conns ds (e ∷ es) ≡ cycles_by (ending_of conns (not (is_empty ds)) e.given) ds e (λ more. cycles_read conns more es)
unfolding cycles_read
cycles-cons conns ds e es = step-is conns e.given ds e (λ more. cycles_read conns more es)

pub cycles-nil : (conns : List ConnLine) (ds : List Due) → cycles_read conns ds [] ≡ map alone ds
unfolding cycles_read
cycles-nil conns ds = refl

pub fits-cons : (batch : ℕ) (conns : List ConnLine) (ds : List Due) (e : Due) (es : List Due)
    → fits_read batch conns ds (e ∷ es) ≡ fits_by batch (ending_of conns (not (is_empty ds)) e.given) ds e (λ more. fits_read batch conns more es)
unfolding fits_read
fits-cons batch conns ds e es = refl

pub fits-nil : (batch : ℕ) (conns : List ConnLine) (ds : List Due) → fits_read batch conns ds [] ≡ list_all (is_cycle_alone batch) ds
unfolding fits_read
fits-nil batch conns ds = refl

-- ## Ranges
range-more : (xs : List Due) (from at : ℕ) (d : Due) → from ≤ at → at < length xs → slice_range xs from (at + 1) ≡ slice_range xs from at ++ get_or xs at d ∷ []
range-more xs from at d le lt =
    let n : ℕ = at - from in
    let within : n < length (drop from xs) = omega (arith, length-drop from xs, le, lt) in
    let more : at + 1 - from ≡ n + 1 = omega (arith, le) in
    let place : from + n ≡ at = omega (arith, le) in
    ap (λ k. take k (drop from xs)) more ∙ take_more (drop from xs) n d within
    ∙ ap (λ x. take n (drop from xs) ++ x ∷ []) (get_or-drop from xs n d ∙ ap (λ k. get_or xs k d) place)

range-none : (xs : List Due) (n : ℕ) → slice_range xs n n ≡ []
range-none xs n = let none : n - n ≡ 0 = omega arith in ap (λ k. take k (drop n xs)) none

range-rest : (xs : List Due) (from at : ℕ) → length xs ≤ at → slice_range xs from at ≡ drop from xs
range-rest xs from at le = take_all (at - from) (drop from xs) (omega (arith, length-drop from xs, le))

-- all from a place on
pub rest-is : (xs : List Due) (from : ℕ) → take (length xs - from) (drop from xs) ≡ drop from xs
rest-is xs from = take_all (length xs - from) (drop from xs) (omega (arith, length-drop from xs))

none-wait : (xs : List Due) (n : ℕ) → length xs ≡ n → not (is_empty xs) ≡ nat_lt 0 n
none-wait [] n e = sym (ap (nat_lt 0) (sym e))
none-wait (x ∷ xs) n e = sym (lt-ltb 0 n (omega (arith, e)))

waits-from : (xs : List Due) (from at : ℕ) → from ≤ at → at < length xs → not (is_empty (slice_range xs from at)) ≡ nat_lt from at
waits-from xs from at le lt =
    let n : ℕ = at - from in
    let long : length (slice_range xs from at) ≡ n = omega (arith, length-take n (drop from xs), length-drop from xs, le, lt) in
    none-wait (slice_range xs from at) n long ∙ by_order (cases_lt from at)
  where
    by_order : (from < at) ⊎ (at ≤ from) → nat_lt 0 (at - from) ≡ nat_lt from at
    by_order (inl h) = lt-ltb 0 (at - from) (omega (arith, h)) ∙ sym (lt-ltb from at h)
    by_order (inr h) = le-ltb 0 (at - from) (omega (arith, h)) ∙ sym (le-ltb from at h)

-- ## One entry on
-- the cycles from here on, by the ending of the entry
abbrev cycles_from : List ConnLine → List Due → ℕ → ℕ → List Cycle
cycles_from conns xs from at = cycles_read conns (slice_range xs from at) (drop at xs)

abbrev fits_from : ℕ → List ConnLine → List Due → ℕ → ℕ → Bool
fits_from batch conns xs from at = fits_read batch conns (slice_range xs from at) (drop at xs)

cycles-at : (conns : List ConnLine) (xs : List Due) (from at : ℕ) (x d : Due) (e : Ending) → from ≤ at → at < length xs → x ≡ get_or xs at d → e ≡ ending_of conns (nat_lt from at) x.given
    → cycles_from conns xs from at ≡ cycles_by e (slice_range xs from at) x (λ more. cycles_read conns more (drop (at + 1) xs))
cycles-at conns xs from at x d e le lt is ends =
    ap (cycles_read conns (slice_range xs from at)) (drop_more xs at d lt ∙ ap (λ y. y ∷ drop (at + 1) xs) (sym is))
    ∙ cycles-cons conns (slice_range xs from at) x (drop (at + 1) xs)
    ∙ ap (λ (w : Bool). cycles_by (ending_of conns w x.given) (slice_range xs from at) x (λ more. cycles_read conns more (drop (at + 1) xs))) (waits-from xs from at le lt)
    ∙ ap (λ (k : Ending). cycles_by k (slice_range xs from at) x (λ more. cycles_read conns more (drop (at + 1) xs))) (sym ends)

fits-at : (batch : ℕ) (conns : List ConnLine) (xs : List Due) (from at : ℕ) (x d : Due) (e : Ending) → from ≤ at → at < length xs → x ≡ get_or xs at d → e ≡ ending_of conns (nat_lt from at) x.given
    → fits_from batch conns xs from at ≡ fits_by batch e (slice_range xs from at) x (λ more. fits_read batch conns more (drop (at + 1) xs))
fits-at batch conns xs from at x d e le lt is ends =
    ap (fits_read batch conns (slice_range xs from at)) (drop_more xs at d lt ∙ ap (λ y. y ∷ drop (at + 1) xs) (sym is))
    ∙ fits-cons batch conns (slice_range xs from at) x (drop (at + 1) xs)
    ∙ ap (λ (w : Bool). fits_by batch (ending_of conns w x.given) (slice_range xs from at) x (λ more. fits_read batch conns more (drop (at + 1) xs))) (waits-from xs from at le lt)
    ∙ ap (λ (k : Ending). fits_by batch k (slice_range xs from at) x (λ more. fits_read batch conns more (drop (at + 1) xs))) (sym ends)

-- those that wait, and this one
range-with : (xs : List Due) (from at : ℕ) (x d : Due) → from ≤ at → at < length xs → x ≡ get_or xs at d → slice_range xs from at ++ x ∷ [] ≡ slice_range xs from (at + 1)
range-with xs from at x d le lt is = ap (λ y. slice_range xs from at ++ y ∷ []) is ∙ sym (range-more xs from at d le lt)

pub step-waits : (conns : List ConnLine) (xs : List Due) (from at : ℕ) (x d : Due) (done : List Cycle) (e : Ending) → from ≤ at → at < length xs → x ≡ get_or xs at d
    → e ≡ ending_of conns (nat_lt from at) x.given → e ≡ Waits
    → done ++ cycles_read conns (slice_range xs from (at + 1)) (drop (at + 1) xs) ≡ done ++ cycles_read conns (slice_range xs from at) (drop at xs)
step-waits conns xs from at x d done e le lt is ends waits =
    ap (λ cs. done ++ cs)
    (sym (cycles-at conns xs from at x d Waits le lt is (sym waits ∙ ends) ∙ ap (λ ds. cycles_read conns ds (drop (at + 1) xs)) (range-with xs from at x d le lt is)))

pub step-closes : (conns : List ConnLine) (xs : List Due) (from at : ℕ) (x d : Due) (before after : List ReadCycle) (cycle : ReadCycle) (e : Ending) → from ≤ at → at < length xs → x ≡ get_or xs at d
    → e ≡ ending_of conns (nat_lt from at) x.given → e ≡ Closes → after ≡ before ++ cycle ∷ [] → cycle_of cycle ≡ cycle_with (slice_range xs from at) x
    → map cycle_of after ++ cycles_read conns (slice_range xs (at + 1) (at + 1)) (drop (at + 1) xs) ≡ map cycle_of before ++ cycles_read conns (slice_range xs from at) (drop at xs)
step-closes conns xs from at x d before after cycle e le lt is ends closes put made =
    let rest : List Due = drop (at + 1) xs in
    ap (λ (cs : List ReadCycle). map cycle_of cs ++ cycles_read conns (slice_range xs (at + 1) (at + 1)) rest) put
    ∙ ap (λ (ds : List Due). map cycle_of (before ++ cycle ∷ []) ++ cycles_read conns ds rest) (range-none xs (at + 1))
    ∙ ap (λ (cs : List Cycle). cs ++ cycles_read conns [] rest) (map-append cycle_of before (cycle ∷ []))
    ∙ append_assoc (map cycle_of before) (cycle_of cycle ∷ []) (cycles_read conns [] rest)
    ∙ ap (λ (c : Cycle). map cycle_of before ++ c ∷ cycles_read conns [] rest) made
    ∙ ap (λ (cs : List Cycle). map cycle_of before ++ cs) (sym (cycles-at conns xs from at x d Closes le lt is (sym closes ∙ ends)))

pub step-alone : (conns : List ConnLine) (xs : List Due) (from at : ℕ) (x d : Due) (before after : List ReadCycle) (e : Ending) → from ≤ at → at < length xs → x ≡ get_or xs at d
    → e ≡ ending_of conns (nat_lt from at) x.given → e ≡ Alone → map cycle_of after ≡ map cycle_of before ++ map alone (slice_range xs from (at + 1))
    → map cycle_of after ++ cycles_read conns (slice_range xs (at + 1) (at + 1)) (drop (at + 1) xs) ≡ map cycle_of before ++ cycles_read conns (slice_range xs from at) (drop at xs)
step-alone conns xs from at x d before after e le lt is ends alones made =
    let rest : List Due = drop (at + 1) xs in
    ap (λ (cs : List Cycle). cs ++ cycles_read conns (slice_range xs (at + 1) (at + 1)) rest) made
    ∙ ap (λ (ds : List Due). (map cycle_of before ++ map alone (slice_range xs from (at + 1))) ++ cycles_read conns ds rest) (range-none xs (at + 1))
    ∙ append_assoc (map cycle_of before) (map alone (slice_range xs from (at + 1))) (cycles_read conns [] rest)
    ∙ ap (λ (ds : List Due). map cycle_of before ++ (map alone ds ++ cycles_read conns [] rest)) (sym (range-with xs from at x d le lt is))
    ∙ ap (λ (cs : List Cycle). map cycle_of before ++ cs) (sym (cycles-at conns xs from at x d Alone le lt is (sym alones ∙ ends)))

pub ruleset for_endings = (of-frame, frame-of)

pub ruleset for_steps = (step-waits, step-closes, step-alone)

-- ## The last entries
pub cycles-end : (conns : List ConnLine) (xs : List Due) (from at : ℕ) (before after : List ReadCycle) → length xs ≤ at → map cycle_of after ≡ map cycle_of before ++ map alone (drop from xs)
    → map cycle_of after ≡ map cycle_of before ++ cycles_read conns (slice_range xs from at) (drop at xs)
cycles-end conns xs from at before after le made =
    made
    ∙ ap (λ (cs : List Cycle). map cycle_of before ++ cs)
    (sym (ap (cycles_read conns (slice_range xs from at)) (drop_all at xs le) ∙ cycles-nil conns (slice_range xs from at) ∙ ap (map alone) (range-rest xs from at le)))

pub ruleset for_ends = (cycles-end)

-- ## Whether they fit
pub fits-waits : (batch : ℕ) (conns : List ConnLine) (xs : List Due) (from at : ℕ) (x d : Due) (e : Ending) → from ≤ at → at < length xs → x ≡ get_or xs at d
    → e ≡ ending_of conns (nat_lt from at) x.given → e ≡ Waits
    → fits_read batch conns (slice_range xs from (at + 1)) (drop (at + 1) xs) ≡ fits_read batch conns (slice_range xs from at) (drop at xs)
fits-waits batch conns xs from at x d e le lt is ends waits =
    sym (fits-at batch conns xs from at x d Waits le lt is (sym waits ∙ ends) ∙ ap (λ ds. fits_read batch conns ds (drop (at + 1) xs)) (range-with xs from at x d le lt is))

-- what closes: the frames, or each entry alone
abbrev closed_fit : ℕ → Ending → List Due → Bool
closed_fit batch Waits ds = true
closed_fit batch Closes ds = are_cycle batch ds
closed_fit batch Alone ds = list_all (is_cycle_alone batch) ds

Shuts : Ending → Type 0
Shuts Waits = ⊥
Shuts Closes = Unit {0}
Shuts Alone = Unit {0}

fits-shut : (batch : ℕ) (conns : List ConnLine) (xs : List Due) (from at : ℕ) (x d : Due) (e : Ending) → from ≤ at → at < length xs → x ≡ get_or xs at d
    → e ≡ ending_of conns (nat_lt from at) x.given → Shuts e
    → fits_read batch conns (slice_range xs from at) (drop at xs)
    ≡ (closed_fit batch e (slice_range xs from (at + 1)) && fits_read batch conns (slice_range xs (at + 1) (at + 1)) (drop (at + 1) xs))
unfolding Shuts
fits-shut batch conns xs from at x d Waits le lt is ends shut = absurd shut
fits-shut batch conns xs from at x d Closes le lt is ends shut =
    fits-at batch conns xs from at x d Closes le lt is ends
    ∙ ap (λ (ds : List Due). are_cycle batch ds && fits_read batch conns [] (drop (at + 1) xs)) (range-with xs from at x d le lt is)
    ∙ ap (λ (ds : List Due). are_cycle batch (slice_range xs from (at + 1)) && fits_read batch conns ds (drop (at + 1) xs)) (sym (range-none xs (at + 1)))
fits-shut batch conns xs from at x d Alone le lt is ends shut =
    fits-at batch conns xs from at x d Alone le lt is ends
    ∙ ap (λ (ds : List Due). list_all (is_cycle_alone batch) ds && fits_read batch conns [] (drop (at + 1) xs)) (range-with xs from at x d le lt is)
    ∙ ap (λ (ds : List Due). list_all (is_cycle_alone batch) (slice_range xs from (at + 1)) && fits_read batch conns ds (drop (at + 1) xs)) (sym (range-none xs (at + 1)))

pub fits-closes : (batch : ℕ) (conns : List ConnLine) (xs : List Due) (from at : ℕ) (x d : Due) (e : Ending) → from ≤ at → at < length xs → x ≡ get_or xs at d
    → e ≡ ending_of conns (nat_lt from at) x.given → e ≡ Closes
    → fits_read batch conns (slice_range xs from at) (drop at xs)
    ≡ (are_cycle batch (slice_range xs from (at + 1)) && fits_read batch conns (slice_range xs (at + 1) (at + 1)) (drop (at + 1) xs))
unfolding Shuts
fits-closes batch conns xs from at x d e le lt is ends closes = fits-shut batch conns xs from at x d Closes le lt is (sym closes ∙ ends) tt

pub fits-alone : (batch : ℕ) (conns : List ConnLine) (xs : List Due) (from at : ℕ) (x d : Due) (e : Ending) → from ≤ at → at < length xs → x ≡ get_or xs at d
    → e ≡ ending_of conns (nat_lt from at) x.given → e ≡ Alone
    → fits_read batch conns (slice_range xs from at) (drop at xs)
    ≡ (list_all (is_cycle_alone batch) (slice_range xs from (at + 1)) && fits_read batch conns (slice_range xs (at + 1) (at + 1)) (drop (at + 1) xs))
unfolding Shuts
fits-alone batch conns xs from at x d e le lt is ends alones = fits-shut batch conns xs from at x d Alone le lt is (sym alones ∙ ends) tt

pub ruleset for_fits = (fits-waits, fits-closes, fits-alone)

pub fits-end : (batch : ℕ) (conns : List ConnLine) (xs : List Due) (from at : ℕ) → length xs ≤ at
    → fits_read batch conns (slice_range xs from at) (drop at xs) ≡ list_all (is_cycle_alone batch) (drop from xs)
fits-end batch conns xs from at le =
    ap (fits_read batch conns (slice_range xs from at)) (drop_all at xs le) ∙ fits-nil batch conns (slice_range xs from at)
    ∙ ap (list_all (is_cycle_alone batch)) (range-rest xs from at le)

pub ruleset for_fits_end = (fits-end)
