-- What a settle tells of the frames that are out, by all groups together.
use Rattle.std.proofs.Common.{◌≡◌, ℕ, ◌+◌, ◌-◌, refl, sym, ap, ◌∙◌, Bool, true, false, List, [], ◌∷◌, ◌++◌, length, map, add-zero, zero-add}
use Rattle.std.specs.Prelude.{if◌then◌else◌, ◌==◌, ◌&&◌, ◌||◌, not, nat_lt, nat_le, count_by, sum_by, Option, Some, None}
use Rattle.std.specs.List.{list_any}
use Rattle.std.proofs.lemmas.Bool.{lt-leb, ltb-true}
use Rattle.std.proofs.lemmas.List.{map-append}
use Rattle.std.proofs.lemmas.List.Sums.{sum_by-append, sum_by-cons}
use Rattle.ix_base.specs.declared.id.CoreId.{CoreId}
use Rattle.ix_base.specs.declared.id.WireNo.{WireNo}
use Rattle.ix_groupdef.specs.Life.{Life, lives}
use Rattle.ix_groupdef.specs.Owners.{Ended, held_at as held_in, is_queued, is_with_app, owners_of, parts_at, told_parts}
use Rattle.ix_lines.specs.declared.types.EntryLine.{EntryLine}
use Rattle.ix_lines.specs.declared.types.HomeLine.{HomeLine}
use Rattle.ix_lines.specs.declared.types.SettleLine.{SettleLine}
use Rattle.ix_tcpdef.specs.declared.types.Connection.{Connection}
use Rattle.ix_tcpdef.specs.declared.types.HeldSegment.{HeldSegment}
use Rattle.ix_fits.specs.Journals.{buffer_of}
use Rattle.ix_fits.specs.Owners.{Play, all_groups, all_stay, app_at, are_apart, are_homes, buffers_of, desk_at, group_after, held_at, held_by, home_of, is_among, is_at, is_home, is_out, is_printed, is_settle_of, out_after, out_from, owned_by, parts_out, queue_at, stays, waiting}
use Rattle.ix_out.specs.declared.frames_out.OutFrame.{OutFrame}
use Rattle.ix_out.specs.declared.frames_out.Place.{Place}
use Rattle.ix_out.specs.declared.frames_out.Place.TheVariants.{App, Desk, Held, Queue}
use Rattle.ix_out.specs.Out.{all_out, all_stay_out, are_homes_of, count_out, group_out, groups_out, held_out, is_home_of, is_out_at, is_same_frame, life_out, lives_out, number_out, out_at, out_if, part_place, settle_fits, told_out}

-- ## The frames that are out
numbers-append : (xs ys : List OutFrame) → map number_out (xs ++ ys) ≡ map number_out xs ++ map number_out ys
numbers-append xs ys = map-append number_out xs ys

desk-numbers : (ws : List WireNo) → map number_out (map (out_at Desk) ws) ≡ ws
desk-numbers [] = refl
desk-numbers (w ∷ ws) = ap (λ (vs : List WireNo). w ∷ vs) (desk-numbers ws)

held-numbers : (hs : List HeldSegment) → map number_out (held_out hs) ≡ held_by hs
held-numbers [] = refl
held-numbers (h ∷ hs) = ap (λ (vs : List WireNo). h.w ∷ vs) (held-numbers hs)

part-numbers : (a b : Bool) (w : WireNo) → map number_out (out_if (if a then Some App else (if b then Some Queue else None)) w) ≡ (if a || b then w ∷ [] else [])
part-numbers true b w = refl
part-numbers false true w = refl
part-numbers false false w = refl

told-numbers : (c : Connection) (es : List Ended) → map number_out (told_out c es) ≡ parts_out c es
told-numbers c [] = refl
told-numbers c (e ∷ es) =
    numbers-append (out_if (part_place c e.end) e.w) (told_out c es)
    ∙ ap (λ (ws : List WireNo). ws ++ map number_out (told_out c es)) (part-numbers (is_with_app c e.end) (is_queued c e.end) e.w)
    ∙ ap (λ (ws : List WireNo). (if is_out c e.end then e.w ∷ [] else []) ++ ws) (told-numbers c es)

life-numbers : (b : Bool) (c : Connection) (es : List Ended) → map number_out (if b then told_out c es else []) ≡ (if b then parts_out c es else [])
life-numbers true c es = told-numbers c es
life-numbers false c es = refl

lives-numbers : (whole : Bool) (ls : List Life) → map number_out (lives_out whole ls) ≡ owned_by whole ls
lives-numbers whole [] = refl
lives-numbers whole (l ∷ ls) =
    let told : List OutFrame = if whole && lives l then told_out l.connection (told_parts l.connection) else [] in
    numbers-append (life_out whole l) (lives_out whole ls)
    ∙ ap (λ (ws : List WireNo). ws ++ map number_out (lives_out whole ls))
    (numbers-append (held_out l.connection.held) told
    ∙ ap (λ (ws : List WireNo). ws ++ map number_out told) (held-numbers l.connection.held)
    ∙ ap (λ (ws : List WireNo). held_by l.connection.held ++ ws) (life-numbers (whole && lives l) l.connection (told_parts l.connection)))
    ∙ ap (λ (ws : List WireNo). (held_by l.connection.held ++ (if whole && lives l then parts_out l.connection (told_parts l.connection) else [])) ++ ws) (lives-numbers whole ls)

groups-numbers : (p : Play) (done : List EntryLine) (gs : List ℕ) → map number_out (groups_out p done gs) ≡ out_from p done gs
groups-numbers p done [] = refl
groups-numbers p done (g ∷ gs) =
    let desk : List OutFrame = map (out_at Desk) (waiting done g) in
    let owned : List OutFrame = lives_out p.whole (group_after p done g).lives in
    numbers-append (desk ++ owned) (groups_out p done gs)
    ∙ ap (λ (ws : List WireNo). ws ++ map number_out (groups_out p done gs))
    (numbers-append desk owned ∙ ap (λ (ws : List WireNo). ws ++ map number_out owned) (desk-numbers (waiting done g))
    ∙ ap (λ (ws : List WireNo). waiting done g ++ ws) (lives-numbers p.whole (group_after p done g).lives))
    ∙ ap (λ (ws : List WireNo). (waiting done g ++ owned_by p.whole (group_after p done g).lives) ++ ws) (groups-numbers p done gs)

pub out-numbers : (p : Play) (done : List EntryLine) → map number_out (all_out p done) ≡ out_after p done
out-numbers p done = groups-numbers p done all_groups

-- ## Counts
abbrev at : List EntryLine → ℕ → Place → OutFrame → Bool
at entries core place = is_out_at entries core place

counted : {A : Type 0} (q : A → Bool) (xs ys : List A) → count_by q (xs ++ ys) ≡ count_by q xs + count_by q ys
counted q xs ys = sum_by-append (λ x. if q x then 1 else 0) xs ys

counted-one : {A : Type 0} (q : A → Bool) (x : A) (xs : List A) → count_by q (x ∷ xs) ≡ (if q x then 1 else 0) + count_by q xs
counted-one q x xs = sum_by-cons (λ y. if q y then 1 else 0) x xs

-- those on desks
desk-desk : (entries : List EntryLine) (core : ℕ) (ws : List WireNo) → count_by (at entries core Desk) (map (out_at Desk) ws) ≡ count_by (is_at entries core) ws
desk-desk entries core [] = refl
desk-desk entries core (w ∷ ws) =
    counted-one (at entries core Desk) (out_at Desk w) (map (out_at Desk) ws)
    ∙ ap (λ n. (if is_at entries core w then 1 else 0) + n) (desk-desk entries core ws)
    ∙ sym (counted-one (is_at entries core) w ws)

none-counted : {A : Type 0} (q : A → Bool) (x : A) (xs : List A) → q x ≡ false → count_by q xs ≡ 0 → count_by q (x ∷ xs) ≡ 0
none-counted q x xs fails none = counted-one q x xs ∙ ap (λ (b : Bool). (if b then 1 else 0) + count_by q xs) fails ∙ zero-add (count_by q xs) ∙ none

abbrev Others : Place → Type 0
Others Desk = ⊥
Others Held = Unit {0}
Others App = Unit {0}
Others Queue = Unit {0}

desk-other : (entries : List EntryLine) (core : ℕ) (place : Place) (ws : List WireNo) → Others place → count_by (at entries core place) (map (out_at Desk) ws) ≡ 0
desk-other entries core place [] o = refl
desk-other entries core place (w ∷ ws) o = none-counted (at entries core place) (out_at Desk w) (map (out_at Desk) ws) (fails place o) (desk-other entries core place ws o)
  where
    fails : (p : Place) → Others p → at entries core p (out_at Desk w) ≡ false
    fails Desk o = absurd o
    fails Held o = refl
    fails App o = refl
    fails Queue o = refl

-- those held
held-held : (entries : List EntryLine) (core : ℕ) (hs : List HeldSegment) → count_by (at entries core Held) (held_out hs) ≡ count_by (λ (h : HeldSegment). is_at entries core h.w) hs
held-held entries core [] = refl
held-held entries core (h ∷ hs) =
    counted-one (at entries core Held) (out_at Held h.w) (held_out hs)
    ∙ ap (λ n. (if is_at entries core h.w then 1 else 0) + n) (held-held entries core hs)
    ∙ sym (counted-one (λ (x : HeldSegment). is_at entries core x.w) h hs)

abbrev NotHeld : Place → Type 0
NotHeld Desk = Unit {0}
NotHeld Held = ⊥
NotHeld App = Unit {0}
NotHeld Queue = Unit {0}

held-other : (entries : List EntryLine) (core : ℕ) (place : Place) (hs : List HeldSegment) → NotHeld place → count_by (at entries core place) (held_out hs) ≡ 0
held-other entries core place [] o = refl
held-other entries core place (h ∷ hs) o = none-counted (at entries core place) (out_at Held h.w) (held_out hs) (fails place o) (held-other entries core place hs o)
  where
    fails : (p : Place) → NotHeld p → at entries core p (out_at Held h.w) ≡ false
    fails Desk o = refl
    fails Held o = absurd o
    fails App o = refl
    fails Queue o = refl

-- ## Told parts: with the application, or queued
abbrev none_or : Bool → Bool → Option Place
none_or a b = if a then Some App else (if b then Some Queue else None)

-- what a part counts for at a place
abbrev counts_for : Place → Bool → Bool → Bool
counts_for Desk a b = false
counts_for Held a b = false
counts_for App a b = a
counts_for Queue a b = not a && b

and-no : (b : Bool) → (b && false) ≡ false
and-no true = refl
and-no false = refl

and-yes : (b : Bool) → (b && true) ≡ b
and-yes true = refl
and-yes false = refl

part-counts : (entries : List EntryLine) (core : ℕ) (place : Place) (a b : Bool) (w : WireNo)
    → count_by (at entries core place) (out_if (none_or a b) w) ≡ (if is_at entries core w && counts_for place a b then 1 else 0)
part-counts entries core place true b w =
    counted-one (at entries core place) (out_at App w) [] ∙ add-zero (if at entries core place (out_at App w) then 1 else 0) ∙ ap (λ (t : Bool). if t then 1 else 0) (same place)
  where
    same : (p : Place) → at entries core p (out_at App w) ≡ (is_at entries core w && counts_for p true b)
    same Desk = sym (and-no (is_at entries core w))
    same Held = sym (and-no (is_at entries core w))
    same App = sym (and-yes (is_at entries core w))
    same Queue = sym (and-no (is_at entries core w))
part-counts entries core place false true w =
    counted-one (at entries core place) (out_at Queue w) [] ∙ add-zero (if at entries core place (out_at Queue w) then 1 else 0) ∙ ap (λ (t : Bool). if t then 1 else 0) (same place)
  where
    same : (p : Place) → at entries core p (out_at Queue w) ≡ (is_at entries core w && counts_for p false true)
    same Desk = sym (and-no (is_at entries core w))
    same Held = sym (and-no (is_at entries core w))
    same App = sym (and-no (is_at entries core w))
    same Queue = sym (and-yes (is_at entries core w))
part-counts entries core place false false w = sym (ap (λ (t : Bool). if t then 1 else 0) (same place))
  where
    same : (p : Place) → (is_at entries core w && counts_for p false false) ≡ false
    same Desk = and-no (is_at entries core w)
    same Held = and-no (is_at entries core w)
    same App = and-no (is_at entries core w)
    same Queue = and-no (is_at entries core w)

told-counts : (entries : List EntryLine) (core : ℕ) (place : Place) (c : Connection) (es : List Ended)
    → count_by (at entries core place) (told_out c es) ≡ count_by (λ (e : Ended). is_at entries core e.w && counts_for place (is_with_app c e.end) (is_queued c e.end)) es
told-counts entries core place c [] = refl
told-counts entries core place c (e ∷ es) =
    counted (at entries core place) (out_if (part_place c e.end) e.w) (told_out c es)
    ∙ ap (λ n. n + count_by (at entries core place) (told_out c es)) (part-counts entries core place (is_with_app c e.end) (is_queued c e.end) e.w)
    ∙ ap (λ n. (if is_at entries core e.w && counts_for place (is_with_app c e.end) (is_queued c e.end) then 1 else 0) + n) (told-counts entries core place c es)
    ∙ sym (counted-one (λ (x : Ended). is_at entries core x.w && counts_for place (is_with_app c x.end) (is_queued c x.end)) e es)

-- What is with the application isn't queued.
apart : (taken end acked : ℕ) → (not (nat_lt taken end) && (nat_le end taken && nat_lt acked end)) ≡ (nat_le end taken && nat_lt acked end)
apart taken end acked = by_test (nat_lt taken end) refl
  where
    by_test : (b : Bool) → nat_lt taken end ≡ b → (not b && (nat_le end taken && nat_lt acked end)) ≡ (nat_le end taken && nat_lt acked end)
    by_test true e = sym (ap (λ (t : Bool). t && nat_lt acked end) (lt-leb end taken (ltb-true taken end e)))
    by_test false e = refl

queued-apart : (c : Connection) (end : ℕ) → (not (is_with_app c end) && is_queued c end) ≡ is_queued c end
queued-apart c end = apart (length c.sent) end (c.una - 1)

count-same : (p q : Ended → Bool) → ((e : Ended) → p e ≡ q e) → (es : List Ended) → count_by p es ≡ count_by q es
count-same p q same [] = refl
count-same p q same (e ∷ es) =
    counted-one p e es ∙ ap (λ (b : Bool). (if b then 1 else 0) + count_by p es) (same e) ∙ ap (λ n. (if q e then 1 else 0) + n) (count-same p q same es) ∙ sym (counted-one q e es)

-- ## Lives
abbrev home_at : List EntryLine → WireNo → CoreId
home_at entries = home_of entries

if-counts : (q : OutFrame → Bool) (b : Bool) (xs : List OutFrame) → count_by q (if b then xs else []) ≡ (if b then count_by q xs else 0)
if-counts q true xs = refl
if-counts q false xs = refl

life-app : (entries : List EntryLine) (core : ℕ) (whole : Bool) (l : Life)
    → count_by (at entries core App) (life_out whole l) ≡ parts_at is_with_app whole (home_of entries) (record { 0 = core }) l
life-app entries core whole l =
    let q : OutFrame → Bool = at entries core App in
    let told : List OutFrame = told_out l.connection (told_parts l.connection) in
    counted q (held_out l.connection.held) (if whole && lives l then told else [])
    ∙ ap (λ n. n + count_by q (if whole && lives l then told else [])) (held-other entries core App l.connection.held tt)
    ∙ zero-add (count_by q (if whole && lives l then told else []))
    ∙ if-counts q (whole && lives l) told
    ∙ ap (λ n. if whole && lives l then n else 0) (told-counts entries core App l.connection (told_parts l.connection))

life-queue : (entries : List EntryLine) (core : ℕ) (whole : Bool) (l : Life)
    → count_by (at entries core Queue) (life_out whole l) ≡ parts_at is_queued whole (home_of entries) (record { 0 = core }) l
life-queue entries core whole l =
    let q : OutFrame → Bool = at entries core Queue in
    let told : List OutFrame = told_out l.connection (told_parts l.connection) in
    counted q (held_out l.connection.held) (if whole && lives l then told else [])
    ∙ ap (λ n. n + count_by q (if whole && lives l then told else [])) (held-other entries core Queue l.connection.held tt)
    ∙ zero-add (count_by q (if whole && lives l then told else []))
    ∙ if-counts q (whole && lives l) told
    ∙ ap (λ n. if whole && lives l then n else 0)
    (told-counts entries core Queue l.connection (told_parts l.connection)
    ∙ count-same (λ (e : Ended). is_at entries core e.w && counts_for Queue (is_with_app l.connection e.end) (is_queued l.connection e.end))
    (λ (e : Ended). is_at entries core e.w && is_queued l.connection e.end)
    (λ e. ap (λ (b : Bool). is_at entries core e.w && b) (queued-apart l.connection e.end)) (told_parts l.connection))

no-told : (entries : List EntryLine) (core : ℕ) (place : Place) (c : Connection) (es : List Ended) → ((a b : Bool) → counts_for place a b ≡ false) → count_by (at entries core place) (told_out c es) ≡ 0
no-told entries core place c [] none = refl
no-told entries core place c (e ∷ es) none =
    counted (at entries core place) (out_if (part_place c e.end) e.w) (told_out c es)
    ∙ ap (λ n. n + count_by (at entries core place) (told_out c es))
    (part-counts entries core place (is_with_app c e.end) (is_queued c e.end) e.w
    ∙ ap (λ (b : Bool). if is_at entries core e.w && b then 1 else 0) (none (is_with_app c e.end) (is_queued c e.end))
    ∙ ap (λ (b : Bool). if b then 1 else 0) (and-no (is_at entries core e.w)))
    ∙ zero-add (count_by (at entries core place) (told_out c es))
    ∙ no-told entries core place c es none

if-none : (b : Bool) (n : ℕ) → n ≡ 0 → (if b then n else 0) ≡ 0
if-none true n e = e
if-none false n e = refl

life-held : (entries : List EntryLine) (core : ℕ) (whole : Bool) (l : Life) → count_by (at entries core Held) (life_out whole l) ≡ held_in (home_of entries) (record { 0 = core }) l
life-held entries core whole l =
    let q : OutFrame → Bool = at entries core Held in
    let told : List OutFrame = told_out l.connection (told_parts l.connection) in
    counted q (held_out l.connection.held) (if whole && lives l then told else [])
    ∙ ap (λ n. count_by q (held_out l.connection.held) + n)
    (if-counts q (whole && lives l) told ∙ if-none (whole && lives l) (count_by q told) (no-told entries core Held l.connection (told_parts l.connection) (λ a b. refl)))
    ∙ add-zero (count_by q (held_out l.connection.held))
    ∙ held-held entries core l.connection.held

life-desk : (entries : List EntryLine) (core : ℕ) (whole : Bool) (l : Life) → count_by (at entries core Desk) (life_out whole l) ≡ 0
life-desk entries core whole l =
    let q : OutFrame → Bool = at entries core Desk in
    let told : List OutFrame = told_out l.connection (told_parts l.connection) in
    counted q (held_out l.connection.held) (if whole && lives l then told else [])
    ∙ ap (λ n. n + count_by q (if whole && lives l then told else [])) (held-other entries core Desk l.connection.held tt)
    ∙ zero-add (count_by q (if whole && lives l then told else []))
    ∙ if-counts q (whole && lives l) told ∙ if-none (whole && lives l) (count_by q told) (no-told entries core Desk l.connection (told_parts l.connection) (λ a b. refl))

lives-sum : (q : OutFrame → Bool) (whole : Bool) (f : Life → ℕ) → ((l : Life) → count_by q (life_out whole l) ≡ f l) → (ls : List Life) → count_by q (lives_out whole ls) ≡ sum_by f ls
lives-sum q whole f each [] = refl
lives-sum q whole f each (l ∷ ls) =
    counted q (life_out whole l) (lives_out whole ls) ∙ ap (λ n. n + count_by q (lives_out whole ls)) (each l)
    ∙ ap (λ n. f l + n) (lives-sum q whole f each ls) ∙ sym (sum_by-cons f l ls)

sum-none : (ls : List Life) → sum_by (λ (l : Life). 0) ls ≡ 0
sum-none [] = refl
sum-none (l ∷ ls) = sum_by-cons (λ (x : Life). 0) l ls ∙ zero-add (sum_by (λ (x : Life). 0) ls) ∙ sum-none ls

-- ## Groups
groups-sum : (q : OutFrame → Bool) (p : Play) (done : List EntryLine) (f : ℕ → ℕ) → ((g : ℕ) → count_by q (group_out p done g) ≡ f g) → (gs : List ℕ) → count_by q (groups_out p done gs) ≡ sum_by f gs
groups-sum q p done f each [] = refl
groups-sum q p done f each (g ∷ gs) =
    counted q (group_out p done g) (groups_out p done gs) ∙ ap (λ n. n + count_by q (groups_out p done gs)) (each g)
    ∙ ap (λ n. f g + n) (groups-sum q p done f each gs) ∙ sym (sum_by-cons f g gs)

desk-is : (p : Play) (done : List EntryLine) (core : ℕ) → count_out p.entries (all_out p done) core Desk ≡ desk_at p done core
desk-is p done core = groups-sum (at p.entries core Desk) p done (λ g. count_by (is_at p.entries core) (waiting done g)) one all_groups
  where
    one : (g : ℕ) → count_by (at p.entries core Desk) (group_out p done g) ≡ count_by (is_at p.entries core) (waiting done g)
    one g =
        counted (at p.entries core Desk) (map (out_at Desk) (waiting done g)) (lives_out p.whole (group_after p done g).lives)
        ∙ ap (λ n. count_by (at p.entries core Desk) (map (out_at Desk) (waiting done g)) + n)
        (lives-sum (at p.entries core Desk) p.whole (λ (l : Life). 0) (life-desk p.entries core p.whole) (group_after p done g).lives ∙ sum-none (group_after p done g).lives)
        ∙ add-zero (count_by (at p.entries core Desk) (map (out_at Desk) (waiting done g)))
        ∙ desk-desk p.entries core (waiting done g)

owned-is : (p : Play) (done : List EntryLine) (core g : ℕ) (place : Place) (f : Life → ℕ) → Others place → ((l : Life) → count_by (at p.entries core place) (life_out p.whole l) ≡ f l)
    → count_by (at p.entries core place) (group_out p done g) ≡ sum_by f (group_after p done g).lives
owned-is p done core g place f o each =
    counted (at p.entries core place) (map (out_at Desk) (waiting done g)) (lives_out p.whole (group_after p done g).lives)
    ∙ ap (λ n. n + count_by (at p.entries core place) (lives_out p.whole (group_after p done g).lives)) (desk-other p.entries core place (waiting done g) o)
    ∙ zero-add (count_by (at p.entries core place) (lives_out p.whole (group_after p done g).lives))
    ∙ lives-sum (at p.entries core place) p.whole f each (group_after p done g).lives

held-is : (p : Play) (done : List EntryLine) (core : ℕ) → count_out p.entries (all_out p done) core Held ≡ held_at p done core
unfolding owners_of
held-is p done core =
    groups-sum (at p.entries core Held) p done (λ g. sum_by (held_in (home_of p.entries) (record { 0 = core })) (group_after p done g).lives)
    (λ g. owned-is p done core g Held (held_in (home_of p.entries) (record { 0 = core })) tt (life-held p.entries core p.whole)) all_groups

app-is : (p : Play) (done : List EntryLine) (core : ℕ) → count_out p.entries (all_out p done) core App ≡ app_at p done core
unfolding owners_of
app-is p done core =
    groups-sum (at p.entries core App) p done (λ g. sum_by (parts_at is_with_app p.whole (home_of p.entries) (record { 0 = core })) (group_after p done g).lives)
    (λ g. owned-is p done core g App (parts_at is_with_app p.whole (home_of p.entries) (record { 0 = core })) tt (life-app p.entries core p.whole)) all_groups

queue-is : (p : Play) (done : List EntryLine) (core : ℕ) → count_out p.entries (all_out p done) core Queue ≡ queue_at p done core
unfolding owners_of
queue-is p done core =
    groups-sum (at p.entries core Queue) p done (λ g. sum_by (parts_at is_queued p.whole (home_of p.entries) (record { 0 = core })) (group_after p done g).lives)
    (λ g. owned-is p done core g Queue (parts_at is_queued p.whole (home_of p.entries) (record { 0 = core })) tt (life-queue p.entries core p.whole)) all_groups

home-is : (p : Play) (done : List EntryLine) (core : ℕ) (h : HomeLine) → is_home_of p.entries (all_out p done) core h ≡ is_home p done core h
home-is p done core h =
    ap (λ n. (h.desk == n && h.held == count_out p.entries (all_out p done) core Held) && (h.app == count_out p.entries (all_out p done) core App && h.queue == count_out p.entries (all_out p done) core Queue)) (desk-is p done core)
    ∙ ap (λ n. (h.desk == desk_at p done core && h.held == n) && (h.app == count_out p.entries (all_out p done) core App && h.queue == count_out p.entries (all_out p done) core Queue)) (held-is p done core)
    ∙ ap (λ n. (h.desk == desk_at p done core && h.held == held_at p done core) && (h.app == n && h.queue == count_out p.entries (all_out p done) core Queue)) (app-is p done core)
    ∙ ap (λ n. (h.desk == desk_at p done core && h.held == held_at p done core) && (h.app == app_at p done core && h.queue == n)) (queue-is p done core)

homes-are : (p : Play) (done : List EntryLine) (core : ℕ) (hs : List HomeLine) → are_homes_of p.entries (all_out p done) core hs ≡ are_homes p done core hs
homes-are p done core [] = refl
homes-are p done core (h ∷ hs) =
    ap (λ (b : Bool). b && are_homes_of p.entries (all_out p done) (core + 1) hs) (home-is p done core h)
    ∙ ap (λ (b : Bool). is_home p done core h && b) (homes-are p done (core + 1) hs)

-- ## A settle
pub settle-is : (p : Play) (done : List EntryLine) (s : SettleLine) → settle_fits p.entries (all_out p done) s ≡ is_settle_of p done s
settle-is p done s =
    ap (λ (b : Bool). b && are_apart (buffers_of p.entries (map number_out (all_out p done)))) (homes-are p done 0 s.homes)
    ∙ ap (λ (ws : List WireNo). are_homes p done 0 s.homes && are_apart (buffers_of p.entries ws)) (out-numbers p done)

any-numbers : (w : WireNo) (outs : List OutFrame) → list_any (is_same_frame w) outs ≡ is_among (map number_out outs) w
any-numbers w [] = refl
any-numbers w (o ∷ outs) = ap (λ (b : Bool). o.w.0 == w.0 || b) (any-numbers w outs)

pub stay-is : (p : Play) (before outs : List OutFrame) (done between : List EntryLine) → outs ≡ all_out p done
    → all_stay_out p.entries before outs between ≡ all_stay p (map number_out before) (out_after p done) between
stay-is p [] outs done between e = refl
stay-is p (o ∷ before) outs done between e =
    ap (λ (b : Bool). not (b && is_printed (buffer_of p.entries o.w.0) between) && all_stay_out p.entries before outs between)
    (any-numbers o.w outs ∙ ap (λ (ws : List WireNo). is_among ws o.w) (ap (map number_out) e ∙ out-numbers p done))
    ∙ ap (λ (b : Bool). stays p (out_after p done) between o.w && b) (stay-is p before outs done between e)
