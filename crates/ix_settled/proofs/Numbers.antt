-- Which entries of a group are stepped, by their numbers.
use Rattle.std.proofs.Common.{◌≡◌, ℕ, suc, ◌+◌, ◌<◌, ◌≤◌, Bool, true, false, cond, not, List, [], ◌∷◌, ◌++◌, map, fold, length, refl, sym, ap, ◌∙◌, subst, arith, append_assoc}
use Rattle.std.specs.Prelude.{◌==◌, if◌then◌else◌, nat_lt, Option, Some, None, is_some, filter}
use Rattle.std.specs.List.{AllByRecursion}
use Rattle.std.proofs.lemmas.Bool.Decides.{nat_tests}
use Rattle.std.proofs.lemmas.List.Elements.{filter-append}
use Rattle.std.proofs.lemmas.List.{map-append}
use Rattle.ix_order.specs.Wire.{accepted, dropped, Entry, entries, frame, time, tag, move, settle, Verdict}
use Rattle.ix_order.specs.Wire as wire
use Rattle.ix_order.specs.Steppers.{LastTag, moved_by, moved_to, none_yet, no_move, last_tag_by, next_core, step_of, steps, stepper, tagged_by, tags_by, TagsAlternate, alternates}
use Rattle.ix_lines.specs.declared.types.EntryLine.{EntryLine}
use Rattle.ix_lines.specs.declared.types.EntryLine.TheVariants as lines
use Rattle.ix_fits.specs.Card.{entry_of}
use Rattle.ix_fits.specs.Cutting.{reach_from, tag_after, up_to}
use Rattle.ix_fits.specs.Stepping.{with_cores}
use Rattle.ix_settled.proofs.Dues.{test-swap, cores-append}

-- ## Lists of numbers
abbrev pub below_test : ℕ → ℕ → Bool
below_test r v = nat_lt v r

lt-of : (v r : ℕ) → nat_lt v r ≡ true → v < r
lt-of v r e = grind (arith, nat_tests)

ge-of : (v r : ℕ) → nat_lt v r ≡ false → r ≤ v
ge-of v r e = grind (arith, nat_tests)

pub lt-test : (v r : ℕ) → v < r → nat_lt v r ≡ true
lt-test v r lt = grind (arith, nat_tests)

pub ge-test : (v r : ℕ) → r ≤ v → nat_lt v r ≡ false
ge-test v r le = grind (arith, nat_tests)

pub filter-all : (r : ℕ) (vs : List ℕ) → AllByRecursion (λ v. v < r) vs → filter (below_test r) vs ≡ vs
filter-all r [] h = refl
filter-all r (v ∷ vs) h = rw (lt-test v r h.0) (ap (λ ws. v ∷ ws) (filter-all r vs h.1))

pub filter-none : (r : ℕ) (vs : List ℕ) → AllByRecursion (λ v. r ≤ v) vs → filter (below_test r) vs ≡ []
filter-none r [] h = refl
filter-none r (v ∷ vs) h = rw (ge-test v r h.0) (filter-none r vs h.1)

pub none-filter : (r : ℕ) (vs : List ℕ) → filter (below_test r) vs ≡ [] → AllByRecursion (λ v. r ≤ v) vs
none-filter r [] e = tt
none-filter r (v ∷ vs) e = by_test (nat_lt v r) refl e (none-filter r vs)
  where
    by_test : (q : Bool) → nat_lt v r ≡ q → cond q (v ∷ filter (below_test r) vs) (filter (below_test r) vs) ≡ [] → (filter (below_test r) vs ≡ [] → AllByRecursion (λ v. r ≤ v) vs)
        → AllByRecursion (λ v. r ≤ v) (v ∷ vs)
    by_test true t e f = absurd (cc)
    by_test false t e f = (ge-of v r t, f e)

pub all-filter : (r : ℕ) (vs : List ℕ) → AllByRecursion (λ v. v < r) (filter (below_test r) vs)
all-filter r [] = tt
all-filter r (v ∷ vs) = by_test (nat_lt v r) refl (all-filter r vs)
  where
    by_test : (q : Bool) → nat_lt v r ≡ q → AllByRecursion (λ v. v < r) (filter (below_test r) vs) → AllByRecursion (λ v. v < r) (cond q (v ∷ filter (below_test r) vs) (filter (below_test r) vs))
    by_test true t h = (lt-of v r t, h)
    by_test false t h = h

pub filter-narrow : (r s : ℕ) (vs : List ℕ) → r ≤ s → filter (below_test r) (filter (below_test s) vs) ≡ filter (below_test r) vs
filter-narrow r s [] le = refl
filter-narrow r s (v ∷ vs) le = by_test (nat_lt v s) refl (filter-narrow r s vs le)
  where
    by_test : (q : Bool) → nat_lt v s ≡ q → filter (below_test r) (filter (below_test s) vs) ≡ filter (below_test r) vs
        → filter (below_test r) (cond q (v ∷ filter (below_test s) vs) (filter (below_test s) vs)) ≡ filter (below_test r) (v ∷ vs)
    by_test true t h = ap (λ ws. cond (nat_lt v r) (v ∷ ws) ws) h
    by_test false t h = let far = ge-of v s t in let out = ge-test v r (omega (arith, far, le)) in h ∙ (rw out refl)

pub all-more : {X : Type 0} (P Q : X → Type 0) (xs : List X) → ((x : X) → P x → Q x) → AllByRecursion P xs → AllByRecursion Q xs
all-more P Q [] f h = tt
all-more P Q (x ∷ xs) f h = (f x h.0, all-more P Q xs f h.1)

pub all-append : {X : Type 0} (P : X → Type 0) (xs ys : List X) → AllByRecursion P xs → AllByRecursion P ys → AllByRecursion P (xs ++ ys)
all-append P [] ys p q = q
all-append P (x ∷ xs) ys p q = (p.0, all-append P xs ys p.1 q)

pub all-left : {X : Type 0} (P : X → Type 0) (xs ys : List X) → AllByRecursion P (xs ++ ys) → AllByRecursion P xs
all-left P [] ys p = tt
all-left P (x ∷ xs) ys p = (p.0, all-left P xs ys p.1)

pub all-right : {X : Type 0} (P : X → Type 0) (xs ys : List X) → AllByRecursion P (xs ++ ys) → AllByRecursion P ys
all-right P [] ys p = p
all-right P (x ∷ xs) ys p = all-right P xs ys p.1

pub all-firsts : (P : ℕ → Type 0) (xs : List (ℕ × ℕ)) → AllByRecursion P (map (λ (s : ℕ × ℕ). s.0) xs) → AllByRecursion (λ (s : ℕ × ℕ). P s.0) xs
all-firsts P [] h = tt
all-firsts P (x ∷ xs) h = (h.0, all-firsts P xs h.1)

pub cancel : {X : Type 0} (xs ys zs : List X) → xs ++ ys ≡ xs ++ zs → ys ≡ zs
cancel [] ys zs e = e
cancel (x ∷ xs) ys zs e = cancel xs ys zs (cc)

-- ## Entries
entry-bounds : (g w : ℕ) (e : Entry) → AllByRecursion (λ v. v ≡ w) (wire.entry_of g w e)
entry-bounds g w (frame h (accepted s)) = by_test (g == h)
  where
    by_test : (q : Bool) → AllByRecursion (λ v. v ≡ w) (if q then w ∷ [] else [])
    by_test true = (refl, tt)
    by_test false = tt
entry-bounds g w (frame h dropped) = tt
entry-bounds g w time = (refl, tt)
entry-bounds g w (tag h) = tt
entry-bounds g w (move h c) = tt
entry-bounds g w settle = tt

pub entries-least : (g w : ℕ) (es : List Entry) → AllByRecursion (λ v. w ≤ v) (entries g w es)
entries-least g w [] = tt
entries-least g w (e ∷ es) =
    all-append (λ v. w ≤ v) (wire.entry_of g w e) (entries g (suc w) es)
    (all-more (λ v. v ≡ w) (λ v. w ≤ v) (wire.entry_of g w e) (λ v same. omega (arith, same)) (entry-bounds g w e))
    (all-more (λ v. suc w ≤ v) (λ v. w ≤ v) (entries g (suc w) es) (λ v le. omega (arith, le)) (entries-least g (suc w) es))

pub entries-less : (g w : ℕ) (es : List Entry) → AllByRecursion (λ v. v < w + length es) (entries g w es)
entries-less g w [] = tt
entries-less g w (e ∷ es) =
    all-append (λ v. v < w + suc (length es)) (wire.entry_of g w e) (entries g (suc w) es)
    (all-more (λ v. v ≡ w) (λ v. v < w + suc (length es)) (wire.entry_of g w e) (λ v same. omega (arith, same)) (entry-bounds g w e))
    (all-more (λ v. v < suc w + length es) (λ v. v < w + suc (length es)) (entries g (suc w) es) (λ v lt. omega (arith, lt)) (entries-less g (suc w) es))

pub entries-append : (g w v : ℕ) (xs ys : List Entry) → w + length xs ≡ v → entries g w (xs ++ ys) ≡ entries g w xs ++ entries g v ys
entries-append g w v [] ys e = let same : w ≡ v = omega (arith, e) in ap (λ n. entries g n ys) same
entries-append g w v (x ∷ xs) ys e =
    let next : suc w + length xs ≡ v = omega (arith, e) in
    ap (λ zs. wire.entry_of g w x ++ zs) (entries-append g (suc w) v xs ys next) ∙ sym (append_assoc (wire.entry_of g w x) (entries g (suc w) xs) (entries g v ys))

-- ## The open tag
abbrev pub tag_behind : ℕ → ℕ → Option ℕ → List EntryLine → Option ℕ
tag_behind g w o [] = o
tag_behind g w o (l ∷ ls) = tag_behind g (suc w) (tag_after g w o l) ls

pub reach-append : (g w v : ℕ) (o : Option ℕ) (xs ys : List EntryLine) → w + length xs ≡ v → reach_from g w o (xs ++ ys) ≡ reach_from g v (tag_behind g w o xs) ys
reach-append g w v o [] ys e = let same : w ≡ v = omega (arith, e) in ap (λ n. reach_from g n o ys) same
reach-append g w v o (x ∷ xs) ys e = reach-append g (suc w) v (tag_after g w o x) xs ys (omega (arith, e))

up-after : (g w : ℕ) (o : Option ℕ) (l : EntryLine) → up_to w o ≤ w → (up_to w o ≤ up_to (suc w) (tag_after g w o l)) × (up_to (suc w) (tag_after g w o l) ≤ suc w)
up-after g w o (lines.Frame rec at group ring fate) le = by_tag o le
  where
    by_tag : (o : Option ℕ) → up_to w o ≤ w → (up_to w o ≤ up_to (suc w) o) × (up_to (suc w) o ≤ suc w)
    by_tag None le = (omega arith, omega arith)
    by_tag (Some t) le = (omega arith, omega (arith, le))
up-after g w o (lines.Time t) le = by_tag o le
  where
    by_tag : (o : Option ℕ) → up_to w o ≤ w → (up_to w o ≤ up_to (suc w) o) × (up_to (suc w) o ≤ suc w)
    by_tag None le = (omega arith, omega arith)
    by_tag (Some t) le = (omega arith, omega (arith, le))
up-after g w o lines.Settle le = by_tag o le
  where
    by_tag : (o : Option ℕ) → up_to w o ≤ w → (up_to w o ≤ up_to (suc w) o) × (up_to (suc w) o ≤ suc w)
    by_tag None le = (omega arith, omega arith)
    by_tag (Some t) le = (omega arith, omega (arith, le))
up-after g w o (lines.Tag group) le = by_group (group.0 == g) o le
  where
    by_group : (q : Bool) (o : Option ℕ) → up_to w o ≤ w → (up_to w o ≤ up_to (suc w) (if q then Some w else o)) × (up_to (suc w) (if q then Some w else o) ≤ suc w)
    by_group true o le = (le, omega arith)
    by_group false None le = (omega arith, omega arith)
    by_group false (Some t) le = (omega arith, omega (arith, le))
up-after g w o (lines.Move group to) le = by_group (group.0 == g) o le
  where
    by_group : (q : Bool) (o : Option ℕ) → up_to w o ≤ w → (up_to w o ≤ up_to (suc w) (if q then None else o)) × (up_to (suc w) (if q then None else o) ≤ suc w)
    by_group true o le = (omega (arith, le), omega arith)
    by_group false None le = (omega arith, omega arith)
    by_group false (Some t) le = (omega arith, omega (arith, le))

-- no less is reached later, and no more than all
pub reach-least : (g w : ℕ) (o : Option ℕ) (ls : List EntryLine) → up_to w o ≤ w → up_to w o ≤ reach_from g w o ls
reach-least g w o [] le = omega arith
reach-least g w o (l ∷ ls) le =
    let next = up-after g w o l le in
    let first = next.0 in let rest = reach-least g (suc w) (tag_after g w o l) ls next.1 in omega (arith, first, rest)

pub reach-most : (g w : ℕ) (o : Option ℕ) (ls : List EntryLine) → up_to w o ≤ w → reach_from g w o ls ≤ w + length ls
reach-most g w o [] le = omega (arith, le)
reach-most g w o (l ∷ ls) le = let rest = reach-most g (suc w) (tag_after g w o l) ls (up-after g w o l le).1 in omega (arith, rest)

pub tag-most : (g w v : ℕ) (o : Option ℕ) (ls : List EntryLine) → up_to w o ≤ w → w + length ls ≡ v → up_to v (tag_behind g w o ls) ≤ v
tag-most g w v o [] le e = let same : w ≡ v = omega (arith, e) in subst (λ n. up_to n o ≤ n) same le
tag-most g w v o (l ∷ ls) le e = tag-most g (suc w) v (tag_after g w o l) ls (up-after g w o l le).1 (omega (arith, e))

pub tag-some : (g w : ℕ) (o : Option ℕ) (l : EntryLine) → is_some (tag_after g w o l) ≡ tagged_by g (is_some o) (entry_of l)
tag-some g w o (lines.Frame rec at group ring fate) = refl
tag-some g w o (lines.Time t) = refl
tag-some g w o lines.Settle = refl
tag-some g w o (lines.Tag group) = by_group (group.0 == g) ∙ ap (λ q. if q then true else is_some o) (test-swap group.0 g)
  where
    by_group : (q : Bool) → is_some (if q then Some w else o) ≡ (if q then true else is_some o)
    by_group true = refl
    by_group false = refl
tag-some g w o (lines.Move group to) = by_group (group.0 == g) ∙ ap (λ q. if q then false else is_some o) (test-swap group.0 g)
  where
    by_group : (q : Bool) → is_some (if q then None else o) ≡ (if q then false else is_some o)
    by_group true = refl
    by_group false = refl

pub tags-some : (g w : ℕ) (o : Option ℕ) (ls : List EntryLine) → is_some (tag_behind g w o ls) ≡ fold (tagged_by g) (is_some o) (map entry_of ls)
tags-some g w o [] = refl
tags-some g w o (l ∷ ls) = tags-some g (suc w) (tag_after g w o l) ls ∙ ap (λ b. fold (tagged_by g) b (map entry_of ls)) (tag-some g w o l)

-- ## Who steps
abbrev IsTagged : LastTag → Option ℕ → ℕ → Type 0
IsTagged none_yet None w = Unit {0}
IsTagged none_yet (Some t) w = ⊥
IsTagged (moved_to d) None w = Unit {0}
IsTagged (moved_to d) (Some t) w = ⊥
IsTagged no_move None w = ⊥
IsTagged no_move (Some t) w = t ≤ w

-- a move follows an open tag just where its entries are reached
next-reach : (g w v t : ℕ) (ls : List EntryLine) → t ≤ w → w < v → TagsAlternate g true (map entry_of ls) → is_some (next_core g (map entry_of ls)) ≡ nat_lt w (reach_from g v (Some t) ls)
next-reach g w v t [] le lt alt = sym (ge-test w t le)
next-reach g w v t (lines.Frame rec at group ring fate ∷ ls) le lt alt = next-reach g w (suc v) t ls le (omega (arith, lt)) alt.1
next-reach g w v t (lines.Time u ∷ ls) le lt alt = next-reach g w (suc v) t ls le (omega (arith, lt)) alt.1
next-reach g w v t (lines.Settle ∷ ls) le lt alt = next-reach g w (suc v) t ls le (omega (arith, lt)) alt.1
next-reach g w v t (lines.Tag group ∷ ls) le lt alt = by_group (g == group.0) (test-swap group.0 g) alt.0 alt.1 (next-reach g w (suc v) t ls le (omega (arith, lt)))
  where
    by_group : (q : Bool) → (group.0 == g) ≡ q → (if q then not true else true) ≡ true → TagsAlternate g (if q then true else true) (map entry_of ls)
        → (TagsAlternate g true (map entry_of ls) → is_some (next_core g (map entry_of ls)) ≡ nat_lt w (reach_from g (suc v) (Some t) ls))
        → is_some (next_core g (map entry_of ls)) ≡ nat_lt w (reach_from g (suc v) (if group.0 == g then Some v else Some t) ls)
    by_group true e bad rest f = absurd (cc)
    by_group false e ok rest f = rw e (f rest)
next-reach g w v t (lines.Move group to ∷ ls) le lt alt = by_group (g == group.0) (test-swap group.0 g) alt.1 (next-reach g w (suc v) t ls le (omega (arith, lt)))
  where
    by_group : (q : Bool) → (group.0 == g) ≡ q → TagsAlternate g (if q then false else true) (map entry_of ls)
        → (TagsAlternate g true (map entry_of ls) → is_some (next_core g (map entry_of ls)) ≡ nat_lt w (reach_from g (suc v) (Some t) ls))
        → is_some (if q then Some to.0 else next_core g (map entry_of ls)) ≡ nat_lt w (reach_from g (suc v) (if group.0 == g then None else Some t) ls)
    by_group true e rest f =
        let least = reach-least g (suc v) None ls (omega arith) in
        rw e (sym (lt-test w (reach_from g (suc v) None ls) (omega (arith, least, lt))))
    by_group false e rest f = rw e (f rest)

-- an entry is stepped just where it is reached
stepper-reach : (g opening w : ℕ) (s : LastTag) (o : Option ℕ) (ls : List EntryLine) → IsTagged s o w → TagsAlternate g (is_some o) (map entry_of ls)
    → is_some (stepper g opening s (map entry_of ls)) ≡ nat_lt w (reach_from g (suc w) o ls)
stepper-reach g opening w none_yet None ls is alt = let least = reach-least g (suc w) None ls (omega arith) in sym (lt-test w (reach_from g (suc w) None ls) (omega (arith, least)))
stepper-reach g opening w none_yet (Some t) ls is alt = absurd is
stepper-reach g opening w (moved_to d) None ls is alt = let least = reach-least g (suc w) None ls (omega arith) in sym (lt-test w (reach_from g (suc w) None ls) (omega (arith, least)))
stepper-reach g opening w (moved_to d) (Some t) ls is alt = absurd is
stepper-reach g opening w no_move None ls is alt = absurd is
stepper-reach g opening w no_move (Some t) ls is alt = next-reach g w (suc w) t ls is (omega arith) alt

tagged-later : (s : LastTag) (o : Option ℕ) (w : ℕ) → IsTagged s o w → IsTagged s o (suc w)
tagged-later none_yet None w is = tt
tagged-later none_yet (Some t) w is = absurd is
tagged-later (moved_to d) None w is = tt
tagged-later (moved_to d) (Some t) w is = absurd is
tagged-later no_move None w is = absurd is
tagged-later no_move (Some t) w is = omega (arith, is)

tagged-moved : (s : LastTag) (c w : ℕ) (o : Option ℕ) → IsTagged s o w → is_some o ≡ true → IsTagged (moved_by s c) None (suc w)
tagged-moved none_yet c w None is some = tt
tagged-moved none_yet c w (Some t) is some = absurd is
tagged-moved (moved_to d) c w o is some = tt
tagged-moved no_move c w None is some = absurd is
tagged-moved no_move c w (Some t) is some = tt

tagged-next : (g w : ℕ) (s : LastTag) (o : Option ℕ) (l : EntryLine) → IsTagged s o w → alternates g (is_some o) (entry_of l) ≡ true → IsTagged (last_tag_by g s (entry_of l)) (tag_after g w o l) (suc w)
tagged-next g w s o (lines.Frame rec at group ring fate) is alt = tagged-later s o w is
tagged-next g w s o (lines.Time t) is alt = tagged-later s o w is
tagged-next g w s o lines.Settle is alt = tagged-later s o w is
tagged-next g w s o (lines.Tag group) is alt = by_group (g == group.0) (test-swap group.0 g)
  where
    by_group : (q : Bool) → (group.0 == g) ≡ q → IsTagged (if q then no_move else s) (if group.0 == g then Some w else o) (suc w)
    by_group true e = rw e (omega arith)
    by_group false e = rw e (tagged-later s o w is)
tagged-next g w s o (lines.Move group to) is alt = by_group (g == group.0) (test-swap group.0 g) alt
  where
    by_group : (q : Bool) → (group.0 == g) ≡ q → (if q then is_some o else true) ≡ true → IsTagged (if q then moved_by s to.0 else s) (if group.0 == g then None else o) (suc w)
    by_group true e open_is = rw e (tagged-moved s to.0 w o is open_is)
    by_group false e ok = rw e (tagged-later s o w is)

-- the numbers of the steps are those of the entries that are reached
one-number : (k w r : ℕ) (core : Option ℕ) (ws : List ℕ) → AllByRecursion (λ v. v ≡ w) ws → is_some core ≡ nat_lt w r
    → map (λ (s : ℕ × ℕ). s.0) (with_cores (map (step_of k core) ws)) ≡ filter (below_test r) ws
one-number k w r core [] all e = refl
one-number k w r None (v ∷ ws) all e = let same = all.0 in let out : nat_lt v r ≡ false = ap (λ n. nat_lt n r) same ∙ sym e in rw out (one-number k w r None ws all.1 e)
one-number k w r (Some c) (v ∷ ws) all e = let same = all.0 in let is_in : nat_lt v r ≡ true = ap (λ n. nat_lt n r) same ∙ sym e in rw is_in (ap (λ vs. v ∷ vs) (one-number k w r (Some c) ws all.1 e))

no-entry : (k w r : ℕ) (core : Option ℕ) → map (λ (s : ℕ × ℕ). s.0) (with_cores (map (step_of k core) [])) ≡ filter (below_test r) []
no-entry k w r core = refl

pub step-numbers : (g opening k w : ℕ) (s : LastTag) (o : Option ℕ) (ls : List EntryLine) → IsTagged s o w → TagsAlternate g (is_some o) (map entry_of ls)
    → map (λ (z : ℕ × ℕ). z.0) (with_cores (steps g opening k s w (map entry_of ls))) ≡ filter (below_test (reach_from g w o ls)) (entries g w (map entry_of ls))
step-numbers g opening k w s o [] is alt = refl
step-numbers g opening k w s o (l ∷ ls) is alt =
    let e = entry_of l in
    let r = reach_from g (suc w) (tag_after g w o l) ls in
    let core = stepper g opening s (map entry_of ls) in
    let rest = step-numbers g opening (tags_by g k e) (suc w) (last_tag_by g s e) (tag_after g w o l) ls (tagged-next g w s o l is alt.0)
    (subst (λ b. TagsAlternate g b (map entry_of ls)) (sym (tag-some g w o l)) alt.1) in
    ap (map (λ (z : ℕ × ℕ). z.0)) (cores-append (map (step_of k core) (wire.entry_of g w e)) (steps g opening (tags_by g k e) (last_tag_by g s e) (suc w) (map entry_of ls)))
    ∙ map-append (λ (z : ℕ × ℕ). z.0) (with_cores (map (step_of k core) (wire.entry_of g w e))) _
    ∙ ap (λ vs. vs ++ map (λ (z : ℕ × ℕ). z.0) (with_cores (steps g opening (tags_by g k e) (last_tag_by g s e) (suc w) (map entry_of ls)))) (by_line l is alt)
    ∙ ap (λ vs. filter (below_test r) (wire.entry_of g w e) ++ vs) rest
    ∙ sym (filter-append (below_test r) (wire.entry_of g w e) (entries g (suc w) (map entry_of ls)))
  where
    by_line : (l : EntryLine) → IsTagged s o w → TagsAlternate g (is_some o) (map entry_of (l ∷ ls))
        → map (λ (z : ℕ × ℕ). z.0) (with_cores (map (step_of k (stepper g opening s (map entry_of ls))) (wire.entry_of g w (entry_of l))))
        ≡ filter (below_test (reach_from g (suc w) (tag_after g w o l) ls)) (wire.entry_of g w (entry_of l))
    by_line (lines.Frame rec at group ring fate) is alt =
        one-number k w (reach_from g (suc w) o ls) (stepper g opening s (map entry_of ls)) (wire.entry_of g w (entry_of (lines.Frame rec at group ring fate)))
        (entry-bounds g w (entry_of (lines.Frame rec at group ring fate))) (stepper-reach g opening w s o ls is alt.1)
    by_line (lines.Time t) is alt = one-number k w (reach_from g (suc w) o ls) (stepper g opening s (map entry_of ls)) (w ∷ []) (refl, tt) (stepper-reach g opening w s o ls is alt.1)
    by_line (lines.Tag group) is alt = refl
    by_line (lines.Move group to) is alt = refl
    by_line lines.Settle is alt = refl
