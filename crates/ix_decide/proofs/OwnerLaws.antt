-- Settle by settle.
use Rattle.std.proofs.Common.{◌≡◌, ℕ, zero, suc, ◌+◌, ◌-◌, ◌<◌, ◌≤◌, ◌⊎◌, inl, inr, refl, sym, ap, ◌∙◌, Bool, true, false, List, [], ◌∷◌, ◌++◌, length, map, take, drop, get_or, arith, add-one, append_assoc, append-nil, length-drop}
use Rattle.std.specs.Prelude.{if◌then◌else◌, ◌&&◌, nat_le, slice_get, slice_range, Option, Some, None}
use Rattle.std.specs.Bool.{Decides}
use Rattle.std.specs.List.{range_with_len}
use Rattle.std.proofs.lemmas.Bool.{cases_lt, le-leb, lt-leb}
use Rattle.std.proofs.lemmas.List.{drop_more, drop_all, get_or-drop, map_more, take_all, take_more}
use Rattle.ix_conf.specs.Settings.{Settings}
use Rattle.ix_groupdef.specs.Calls.{is_empty}
use Rattle.ix_groupdef.specs.Group.{Cycle}
use Rattle.ix_lines.specs.declared.types.EntryLine.{EntryLine}
use Rattle.ix_lines.specs.declared.types.EntryLine.TheVariants as lines
use Rattle.ix_lines.specs.declared.types.SettleLine.{SettleLine}
use Rattle.ix_trace.specs.declared.sheet.Sheet.{Sheet}
use Rattle.ix_base.specs.declared.id.WireNo.{WireNo}
use Rattle.ix_fits.specs.Card.{settles_after}
use Rattle.ix_fits.specs.Cutting.{is_settle}
use Rattle.ix_fits.specs.Fits.{OwnersFit, play_of}
use Rattle.ix_fits.specs.Owners.{Play, all_groups, all_settles, all_stay, are_settles, below, is_below, is_settle_of, out_after, settles_here}
use Rattle.ix_told.specs.declared.cycle.ReadCycle.{ReadCycle}
use Rattle.ix_out.specs.declared.frames_out.OutFrame.{OutFrame}
use Rattle.ix_out.specs.Out.{all_out, all_stay_out, group_out, groups_from, groups_out, number_out, settle_fits}
use Rattle.ix_told.specs.Reading.{cycle_of}
use Rattle.ix_decide.specs.Settles.{settle_at, settles_from}
use Rattle.ix_decide.proofs.CountLaws.{out-numbers, settle-is, stay-is}

-- ## The first cycles
below-cons : (n i : ℕ) (cs : List ReadCycle) (c d : ReadCycle) → i < length cs → c ≡ get_or cs i d
    → below n (map cycle_of (drop i cs)) ≡ (if is_below n (cycle_of c) then cycle_of c ∷ below n (map cycle_of (drop (i + 1) cs)) else [])
below-cons n i cs c d lt is = ap (λ (xs : List ReadCycle). below n (map cycle_of xs)) (drop_more cs i d lt ∙ ap (λ x. x ∷ drop (i + 1) cs) (sym is))

pub below-next : (n i : ℕ) (cs : List ReadCycle) (c d : ReadCycle) → i < length cs → c ≡ get_or cs i d → is_below n (cycle_of c) ≡ true
    → map cycle_of (take i cs) ++ below n (map cycle_of (drop i cs)) ≡ map cycle_of (take (i + 1) cs) ++ below n (map cycle_of (drop (i + 1) cs))
below-next n i cs c d lt is holds =
    let rest : List Cycle = below n (map cycle_of (drop (i + 1) cs)) in
    ap (λ (xs : List Cycle). map cycle_of (take i cs) ++ xs) (below-cons n i cs c d lt is ∙ ap (λ (b : Bool). if b then cycle_of c ∷ rest else []) holds)
    ∙ sym (append_assoc (map cycle_of (take i cs)) (cycle_of c ∷ []) rest)
    ∙ ap (λ (x : ReadCycle). (map cycle_of (take i cs) ++ cycle_of x ∷ []) ++ rest) is
    ∙ ap (λ (xs : List Cycle). xs ++ rest) (sym (map_more cycle_of cs i d lt))

pub below-stops : (n i : ℕ) (cs : List ReadCycle) (c d : ReadCycle) → i < length cs → c ≡ get_or cs i d → is_below n (cycle_of c) ≡ false
    → map cycle_of (take i cs) ++ below n (map cycle_of (drop i cs)) ≡ map cycle_of (take i cs)
below-stops n i cs c d lt is fails =
    ap (λ (xs : List Cycle). map cycle_of (take i cs) ++ xs) (below-cons n i cs c d lt is ∙ ap (λ (b : Bool). if b then cycle_of c ∷ below n (map cycle_of (drop (i + 1) cs)) else []) fails)
    ∙ append-nil (map cycle_of (take i cs))

pub below-end : (n i : ℕ) (cs : List ReadCycle) → length cs ≤ i → map cycle_of (take i cs) ++ below n (map cycle_of (drop i cs)) ≡ map cycle_of cs
below-end n i cs le =
    ap (λ (xs : List ReadCycle). map cycle_of (take i cs) ++ below n (map cycle_of xs)) (drop_all i cs le) ∙ append-nil (map cycle_of (take i cs)) ∙ ap (map cycle_of) (take_all i cs le)

pub ruleset for_below = (below-next, below-stops, below-end)

-- ## All groups
pub groups-next : (p : Play) (done : List EntryLine) (g : ℕ) (outs more : List OutFrame) → g < 512 → more ≡ outs ++ group_out p done g
    → outs ++ groups_out p done (groups_from g) ≡ more ++ groups_out p done (groups_from (g + 1))
unfolding groups_from
groups-next p done g outs more lt put =
    let n : ℕ = 512 - (g + 1) in
    let long : 512 - g ≡ suc n = omega (arith, lt) in
    ap (λ k. outs ++ groups_out p done (range_with_len g k)) long
    ∙ sym (append_assoc outs (group_out p done g) (groups_out p done (range_with_len (g + 1) n)))
    ∙ ap (λ (xs : List OutFrame). xs ++ groups_out p done (range_with_len (g + 1) n)) (sym put)

groups-are : groups_from 0 ≡ all_groups
unfolding groups_from all_groups
groups-are = refl

pub groups-first : (p : Play) (done : List EntryLine) (outs : List OutFrame) → outs ≡ [] → outs ++ groups_out p done (groups_from 0) ≡ all_out p done
groups-first p done outs e = ap (λ (xs : List OutFrame). xs ++ groups_out p done (groups_from 0)) e ∙ ap (groups_out p done) groups-are

pub groups-end : (p : Play) (done : List EntryLine) (g : ℕ) (outs : List OutFrame) → 512 ≤ g → outs ++ groups_out p done (groups_from g) ≡ outs
unfolding groups_from
groups-end p done g outs le = let none : 512 - g ≡ 0 = omega (arith, le) in ap (λ k. outs ++ groups_out p done (range_with_len g k)) none ∙ append-nil outs

pub ruleset for_groups = (groups-next, groups-first, groups-end)

-- ## Lists
get-none : (ls : List SettleLine) (n : ℕ) → slice_get ls n ≡ None → drop n ls ≡ []
get-none [] zero e = refl
get-none [] (suc n) e = refl
get-none (l ∷ ls) zero e = absurd (cc)
get-none (l ∷ ls) (suc n) e = get-none ls n e

get-some : (ls : List SettleLine) (n : ℕ) (s : SettleLine) → slice_get ls n ≡ Some s → drop n ls ≡ s ∷ drop (suc n) ls
get-some [] n s e = absurd (cc)
get-some (l ∷ ls) zero s e = let same : l ≡ s = cc in ap (λ (x : SettleLine). x ∷ ls) same
get-some (l ∷ ls) (suc n) s e = get-some ls n s e

range-more : (xs : List EntryLine) (from at : ℕ) (d : EntryLine) → from ≤ at → at < length xs → slice_range xs from (at + 1) ≡ slice_range xs from at ++ get_or xs at d ∷ []
range-more xs from at d le lt =
    let n : ℕ = at - from in
    let within : n < length (drop from xs) = omega (arith, length-drop from xs, le, lt) in
    let more : at + 1 - from ≡ n + 1 = omega (arith, le) in
    let place : from + n ≡ at = omega (arith, le) in
    ap (λ k. take k (drop from xs)) more ∙ take_more (drop from xs) n d within
    ∙ ap (λ x. take n (drop from xs) ++ x ∷ []) (get_or-drop from xs n d ∙ ap (λ k. get_or xs k d) place)

range-none : (xs : List EntryLine) (n : ℕ) → slice_range xs n n ≡ []
range-none xs n = let none : n - n ≡ 0 = omega arith in ap (λ k. take k (drop n xs)) none

-- ## At a settle
pub settle-none : (p : Play) (settles : List SettleLine) (before : List OutFrame) (from next w : ℕ) → slice_get settles next ≡ None → settle_at p settles before from next w ≡ false
unfolding settle_at
settle-none p settles before from next w e =
    ap (settles_here p (map number_out before) (slice_range p.entries from w) (take w p.entries) lines.Settle) (get-none settles next e)

pub settle-some : (p : Play) (settles : List SettleLine) (before outs : List OutFrame) (from next w : ℕ) (s : SettleLine) (tells : Bool) → slice_get settles next ≡ Some s
    → outs ≡ all_out p (take w p.entries) → tells ≡ (settle_fits p.entries outs s && all_stay_out p.entries before outs (slice_range p.entries from w))
    → settle_at p settles before from next w ≡ tells
unfolding settle_at
settle-some p settles before outs from next w s tells e are a =
    let done : List EntryLine = take w p.entries in
    let between : List EntryLine = slice_range p.entries from w in
    ap (settles_here p (map number_out before) between done lines.Settle) (get-some settles next s e)
    ∙ ap (λ (t : Bool). t && all_stay p (map number_out before) (out_after p done) between) (sym (ap (λ (os : List OutFrame). settle_fits p.entries os s) are ∙ settle-is p done s))
    ∙ ap (λ (t : Bool). settle_fits p.entries outs s && t) (sym (stay-is p before outs done between are))
    ∙ sym a

-- by the entries as they are read
pub settle-read : (p : Play) (settles : List SettleLine) (before outs read_before read : List OutFrame) (from next w : ℕ) (s : SettleLine) (tells : Bool) (ls : List EntryLine) → ls ≡ p.entries
    → read_before ≡ before → read ≡ outs → slice_get settles next ≡ Some s → outs ≡ all_out p (take w ls)
    → tells ≡ (settle_fits ls read s && all_stay_out ls read_before read (slice_range ls from w)) → settle_at p settles before from next w ≡ tells
settle-read p settles before outs read_before read from next w s tells ls same earlier now e are a =
    settle-some p settles before outs from next w s tells e
    (are ∙ ap (λ (xs : List EntryLine). all_out p (take w xs)) same)
    (a
    ∙ ap (λ (os : List OutFrame). settle_fits ls os s && all_stay_out ls read_before os (slice_range ls from w)) now
    ∙ ap (λ (bs : List OutFrame). settle_fits ls outs s && all_stay_out ls bs outs (slice_range ls from w)) earlier
    ∙ ap (λ (xs : List EntryLine). settle_fits xs outs s && all_stay_out xs before outs (slice_range xs from w)) same)

pub ruleset for_settle = (settle-none, settle-some)

-- ## One entry on
entries-cons : (p : Play) (settles : List SettleLine) (outs : List OutFrame) (from next w : ℕ) (d : EntryLine) → w < length p.entries
    → settles_from p settles outs from next w
    ≡ are_settles p (map number_out outs) (slice_range p.entries from w) (take w p.entries) (get_or p.entries w d ∷ drop (w + 1) p.entries) (drop next settles)
unfolding settles_from
entries-cons p settles outs from next w d lt =
    ap (λ (ls : List EntryLine). are_settles p (map number_out outs) (slice_range p.entries from w) (take w p.entries) ls (drop next settles)) (drop_more p.entries w d lt)

other-is : (p : Play) (ws : List WireNo) (between done : List EntryLine) (l : EntryLine) (ls : List EntryLine) (ss : List SettleLine) → is_settle l ≡ false
    → are_settles p ws between done (l ∷ ls) ss ≡ are_settles p ws (between ++ l ∷ []) (done ++ l ∷ []) ls ss
other-is p ws between done (lines.Frame rec at group ring fate) ls ss e = refl
other-is p ws between done (lines.Time t) ls ss e = refl
other-is p ws between done (lines.Tag group) ls ss e = refl
other-is p ws between done (lines.Move group to) ls ss e = refl
other-is p ws between done lines.Settle ls ss e = absurd (cc)

settle-then : (p : Play) (ws : List WireNo) (between done : List EntryLine) (l : EntryLine) (ls : List EntryLine) (ss : List SettleLine) → is_settle l ≡ true
    → are_settles p ws between done (l ∷ ls) ss
    ≡ (settles_here p ws between done lines.Settle ss && are_settles p (out_after p done) [] (done ++ l ∷ []) ls (settles_after lines.Settle ss))
settle-then p ws between done (lines.Frame rec at group ring fate) ls ss e = absurd (cc)
settle-then p ws between done (lines.Time t) ls ss e = absurd (cc)
settle-then p ws between done (lines.Tag group) ls ss e = absurd (cc)
settle-then p ws between done (lines.Move group to) ls ss e = absurd (cc)
settle-then p ws between done lines.Settle ls ss e = refl

pub other-next : (p : Play) (settles : List SettleLine) (outs : List OutFrame) (from next w : ℕ) (d : EntryLine) → from ≤ w → w < length p.entries → is_settle (get_or p.entries w d) ≡ false
    → settles_from p settles outs from next (w + 1) ≡ settles_from p settles outs from next w
unfolding settles_from
other-next p settles outs from next w d le lt fails =
    let x : EntryLine = get_or p.entries w d in
    sym (entries-cons p settles outs from next w d lt
    ∙ other-is p (map number_out outs) (slice_range p.entries from w) (take w p.entries) x (drop (w + 1) p.entries) (drop next settles) fails
    ∙ ap (λ (bs : List EntryLine). are_settles p (map number_out outs) bs (take w p.entries ++ x ∷ []) (drop (w + 1) p.entries) (drop next settles)) (sym (range-more p.entries from w d le lt))
    ∙ ap (λ (ds : List EntryLine). are_settles p (map number_out outs) (slice_range p.entries from (w + 1)) ds (drop (w + 1) p.entries) (drop next settles)) (sym (take_more p.entries w d lt)))

after-is : (p : Play) (ws : List WireNo) (between done : List EntryLine) (settles : List SettleLine) (next : ℕ) → settles_here p ws between done lines.Settle (drop next settles) ≡ true
    → settles_after lines.Settle (drop next settles) ≡ drop (next + 1) settles
after-is p ws between done settles next e = by_get (slice_get settles next) refl
  where
    by_get : (o : Option SettleLine) → slice_get settles next ≡ o → settles_after lines.Settle (drop next settles) ≡ drop (next + 1) settles
    by_get None g = absurd (let none : settles_here p ws between done lines.Settle (drop next settles) ≡ false = ap (settles_here p ws between done lines.Settle) (get-none settles next g) in cc)
    by_get (Some s) g = ap (settles_after lines.Settle) (get-some settles next s g) ∙ ap (λ n. drop n settles) (sym (add-one next))

pub settle-next : (p : Play) (settles : List SettleLine) (outs later : List OutFrame) (from next w : ℕ) (d : EntryLine) → from ≤ w → w < length p.entries → is_settle (get_or p.entries w d) ≡ true
    → settle_at p settles outs from next w ≡ true → later ≡ all_out p (take w p.entries)
    → settles_from p settles later (w + 1) (next + 1) (w + 1) ≡ settles_from p settles outs from next w
unfolding settles_from settle_at
settle-next p settles outs later from next w d le lt holds here are =
    let x : EntryLine = get_or p.entries w d in
    let done : List EntryLine = take w p.entries in
    let rest : List EntryLine = drop (w + 1) p.entries in
    sym (entries-cons p settles outs from next w d lt
    ∙ settle-then p (map number_out outs) (slice_range p.entries from w) done x rest (drop next settles) holds
    ∙ ap (λ (b : Bool). b && are_settles p (out_after p done) [] (done ++ x ∷ []) rest (settles_after lines.Settle (drop next settles))) here
    ∙ ap (λ (ss : List SettleLine). are_settles p (out_after p done) [] (done ++ x ∷ []) rest ss) (after-is p (map number_out outs) (slice_range p.entries from w) done settles next here)
    ∙ ap (λ (ws : List WireNo). are_settles p ws [] (done ++ x ∷ []) rest (drop (next + 1) settles)) (sym (ap (map number_out) are ∙ out-numbers p done))
    ∙ ap (λ (bs : List EntryLine). are_settles p (map number_out later) bs (done ++ x ∷ []) rest (drop (next + 1) settles)) (sym (range-none p.entries (w + 1)))
    ∙ ap (λ (ds : List EntryLine). are_settles p (map number_out later) (slice_range p.entries (w + 1) (w + 1)) ds rest (drop (next + 1) settles)) (sym (take_more p.entries w d lt)))

pub settle-not : (p : Play) (settles : List SettleLine) (outs : List OutFrame) (from next w : ℕ) (d : EntryLine) → w < length p.entries → is_settle (get_or p.entries w d) ≡ true
    → settle_at p settles outs from next w ≡ false → settles_from p settles outs from next w ≡ false
unfolding settles_from settle_at
settle-not p settles outs from next w d lt holds here =
    let x : EntryLine = get_or p.entries w d in
    let done : List EntryLine = take w p.entries in
    let rest : List EntryLine = drop (w + 1) p.entries in
    entries-cons p settles outs from next w d lt
    ∙ settle-then p (map number_out outs) (slice_range p.entries from w) done x rest (drop next settles) holds
    ∙ ap (λ (b : Bool). b && are_settles p (out_after p done) [] (done ++ x ∷ []) rest (settles_after lines.Settle (drop next settles))) here

-- by the entries as they are read
pub other-at : (p : Play) (settles : List SettleLine) (outs : List OutFrame) (from next w : ℕ) (ls : List EntryLine) (d : EntryLine) (t : Bool) → ls ≡ p.entries → from ≤ w → w < length p.entries
    → t ≡ is_settle (get_or ls w d) → t ≡ false → settles_from p settles outs from next (w + 1) ≡ settles_from p settles outs from next w
other-at p settles outs from next w ls d t same le lt is fails =
    other-next p settles outs from next w d le lt (sym (ap (λ (xs : List EntryLine). is_settle (get_or xs w d)) same) ∙ sym is ∙ fails)

pub not-at : (p : Play) (settles : List SettleLine) (outs : List OutFrame) (from next w : ℕ) (ls : List EntryLine) (d : EntryLine) (t : Bool) → ls ≡ p.entries → w < length p.entries
    → t ≡ is_settle (get_or ls w d) → t ≡ true → settle_at p settles outs from next w ≡ false → settles_from p settles outs from next w ≡ false
not-at p settles outs from next w ls d t same lt is holds here =
    settle-not p settles outs from next w d lt (sym (ap (λ (xs : List EntryLine). is_settle (get_or xs w d)) same) ∙ sym is ∙ holds) here

pub ruleset for_entry = (other-next, settle-next, settle-not)

-- ## The end
empty-is : (ls : List SettleLine) (n : ℕ) → is_empty (drop n ls) ≡ nat_le (length ls) n
empty-is [] zero = refl
empty-is [] (suc n) = sym (le-leb 0 (suc n) (omega arith))
empty-is (l ∷ ls) zero = sym (lt-leb (length (l ∷ ls)) 0 (omega arith))
empty-is (l ∷ ls) (suc n) = empty-is ls n ∙ shift (length ls) n
  where
    shift : (a b : ℕ) → nat_le a b ≡ nat_le (suc a) (suc b)
    shift a b = by_order (cases_lt b a)
      where
        by_order : (b < a) ⊎ (a ≤ b) → nat_le a b ≡ nat_le (suc a) (suc b)
        by_order (inl h) = lt-leb a b h ∙ sym (lt-leb (suc a) (suc b) (omega (arith, h)))
        by_order (inr h) = le-leb a b h ∙ sym (le-leb (suc a) (suc b) (omega (arith, h)))

pub settles-end : (p : Play) (settles : List SettleLine) (outs : List OutFrame) (from next w : ℕ) → length p.entries ≤ w → settles_from p settles outs from next w ≡ nat_le (length settles) next
unfolding settles_from
settles-end p settles outs from next w le =
    ap (λ (ls : List EntryLine). are_settles p (map number_out outs) (slice_range p.entries from w) (take w p.entries) ls (drop next settles)) (drop_all w p.entries le)
    ∙ empty-is settles next

pub ruleset for_entries = (settles-end)

-- ## The first settle
pub opening-none : (p : Play) (settles : List SettleLine) → slice_get settles 0 ≡ None → all_settles p settles ≡ false
opening-none p [] e = refl
opening-none p (s ∷ ss) e = absurd (cc)

pub opening-some : (p : Play) (settles : List SettleLine) (s : SettleLine) (fit : Bool) → slice_get settles 0 ≡ Some s
    → ((outs : List OutFrame) → outs ≡ all_out p [] → fit ≡ (settle_fits p.entries outs s && settles_from p settles outs 0 1 0))
    → fit ≡ all_settles p settles
unfolding settles_from
opening-some p [] s fit e is = absurd (cc)
opening-some p (l ∷ ls) s fit e is =
    let same : l ≡ s = cc in
    is (all_out p []) refl
    ∙ ap (λ (x : SettleLine). settle_fits p.entries (all_out p []) x && settles_from p (l ∷ ls) (all_out p []) 0 1 0) (sym same)
    ∙ ap (λ (b : Bool). b && settles_from p (l ∷ ls) (all_out p []) 0 1 0) (settle-is p [] l)
    ∙ ap (λ (ws : List WireNo). is_settle_of p [] l && are_settles p ws [] [] p.entries ls) (out-numbers p [])

pub ruleset for_opening = (opening-none, opening-some)

pub owners-decided : (s : Settings) (frames : List (List ℕ)) (r : Sheet) (cycles : ℕ → List Cycle) (b : Bool) → b ≡ all_settles (play_of s frames r cycles) r.settles
    → Decides b (OwnersFit s frames r cycles)
owners-decided s frames r cycles b e = (λ t. record { settles = sym e ∙ t }, λ f. e ∙ f.settles)
