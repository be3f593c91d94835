-- Wire numbers that rise, and the cycles whose entries have numbers below one.
use Rattle.std.proofs.Common.{◌≡◌, ℕ, suc, ◌+◌, ◌-◌, ◌<◌, ◌≤◌, Bool, true, false, cond, List, [], ◌∷◌, ◌++◌, map, length, refl, sym, ap, ◌∙◌, subst, arith}
use Rattle.std.specs.Prelude.{◌==◌, if◌then◌else◌, nat_lt, Option, Some, None, slice_get, filter}
use Rattle.std.specs.List.{AllByRecursion}
use Rattle.std.specs.Option.{option_map}
use Rattle.std.proofs.lemmas.List.{map-append}
use Rattle.ix_base.specs.declared.id.CoreId.{CoreId}
use Rattle.ix_base.specs.declared.id.WireNo.{WireNo}
use Rattle.ix_mbuf.specs.declared.name.Name.{Name}
use Rattle.ix_order.specs.Wire.{accepted, dropped, Entry, entries, frame, time, tag, move, settle, Table}
use Rattle.ix_order.specs.Wire as wire
use Rattle.ix_order.specs.Steppers.{none_yet, TagsAlternate}
use Rattle.ix_groupdef.specs.declared.types.Taken.{Taken as Accepted}
use Rattle.ix_groupdef.specs.Group.{Cycle, Frames, Time as TimeCycle, last_number, number_of}
use Rattle.ix_groupdef.specs.Places.{RiseFrom}
use Rattle.ix_lines.specs.declared.types.EntryLine.{EntryLine}
use Rattle.ix_lines.specs.declared.types.EntryLine.TheVariants as lines
use Rattle.ix_playdef.specs.declared.wire.Given.{Given}
use Rattle.ix_playdef.specs.declared.wire.Given.TheVariants.{Frame, Time}
use Rattle.ix_fits.specs.Card.{entry_of}
use Rattle.ix_fits.specs.Cutting.{Due, IsCutting, IsFirst, frame_due, frame_in, frames_due, reach}
use Rattle.ix_fits.specs.Owners.{below, ends_below, is_below}
use Rattle.ix_fits.specs.Stepping.{steps_named}
use Rattle.ix_settled.proofs.Dues.{due_at, given_of, work_in, work_of}
use Rattle.ix_settled.proofs.Numbers.{all-filter, all-firsts, all-left, all-more, all-right, below_test, cancel, entries-append, entries-least, entries-less, filter-all, filter-narrow, filter-none, ge-test, lt-test, none-filter, reach-append, reach-least, reach-most, step-numbers, tag-most, tag_behind}
use Rattle.ix_settled.proofs.Settles.{reach-is}
use Rattle.std.proofs.lemmas.List.Elements.{filter-append}

-- ## Numbers that rise
abbrev pub RiseNumbers : ℕ → List ℕ → Type 0
RiseNumbers n [] = Unit {0}
RiseNumbers n (v ∷ vs) = (n ≤ v) × RiseNumbers (suc v) vs

rise-from-less : (n m : ℕ) (vs : List ℕ) → n ≤ m → RiseNumbers m vs → RiseNumbers n vs
rise-from-less n m [] le rise = tt
rise-from-less n m (v ∷ vs) le rise = (let first = rise.0 in omega (arith, le, first), rise.1)

frames-from-less : (n m : ℕ) (ts : List Accepted) → n ≤ m → RiseFrom m ts → RiseFrom n ts
frames-from-less n m [] le rise = tt
frames-from-less n m (t ∷ ts) le rise = (let first = rise.0 in omega (arith, le, first), rise.1)

pub entries-rise : (g w : ℕ) (es : List Entry) → RiseNumbers w (entries g w es)
entries-rise g w [] = tt
entries-rise g w (e ∷ es) = by_entry e (entries-rise g (suc w) es)
  where
    by_entry : (e : Entry) → RiseNumbers (suc w) (entries g (suc w) es) → RiseNumbers w (wire.entry_of g w e ++ entries g (suc w) es)
    by_entry (frame h (accepted s)) rise = by_test (g == h)
      where
        by_test : (q : Bool) → RiseNumbers w ((if q then w ∷ [] else []) ++ entries g (suc w) es)
        by_test true = (omega arith, rise)
        by_test false = rise-from-less w (suc w) (entries g (suc w) es) (omega arith) rise
    by_entry (frame h dropped) rise = rise-from-less w (suc w) (entries g (suc w) es) (omega arith) rise
    by_entry time rise = (omega arith, rise)
    by_entry (tag h) rise = rise-from-less w (suc w) (entries g (suc w) es) (omega arith) rise
    by_entry (move h c) rise = rise-from-less w (suc w) (entries g (suc w) es) (omega arith) rise
    by_entry settle rise = rise-from-less w (suc w) (entries g (suc w) es) (omega arith) rise

filter-rise : (n r : ℕ) (vs : List ℕ) → RiseNumbers n vs → RiseNumbers n (filter (below_test r) vs)
filter-rise n r [] rise = tt
filter-rise n r (v ∷ vs) rise = by_test (nat_lt v r) (filter-rise (suc v) r vs rise.1)
  where
    by_test : (q : Bool) → RiseNumbers (suc v) (filter (below_test r) vs) → RiseNumbers n (cond q (v ∷ filter (below_test r) vs) (filter (below_test r) vs))
    by_test true rest = (rise.0, rest)
    by_test false rest = rise-from-less n (suc v) (filter (below_test r) vs) (let first = rise.0 in omega (arith, first)) rest

all-kept : (P : ℕ → Type 0) (r : ℕ) (vs : List ℕ) → AllByRecursion P vs → AllByRecursion P (filter (below_test r) vs)
all-kept P r [] h = tt
all-kept P r (v ∷ vs) h = by_test (nat_lt v r) (all-kept P r vs h.1)
  where
    by_test : (q : Bool) → AllByRecursion P (filter (below_test r) vs) → AllByRecursion P (cond q (v ∷ filter (below_test r) vs) (filter (below_test r) vs))
    by_test true rest = (h.0, rest)
    by_test false rest = rest

firsts-all : (P : ℕ → Type 0) (xs : List (ℕ × ℕ)) → AllByRecursion (λ (s : ℕ × ℕ). P s.0) xs → AllByRecursion P (map (λ (s : ℕ × ℕ). s.0) xs)
firsts-all P [] h = tt
firsts-all P (x ∷ xs) h = (h.0, firsts-all P xs h.1)

all-both : {X : Type 0} (P Q : X → Type 0) (xs : List X) → AllByRecursion P xs → AllByRecursion Q xs → AllByRecursion (λ x. P x × Q x) xs
all-both P Q [] p q = tt
all-both P Q (x ∷ xs) p q = ((p.0, q.0), all-both P Q xs p.1 q.1)

-- ## The numbers of what is stepped
abbrev pub firsts : List (ℕ × ℕ) → List ℕ
firsts xs = map (λ (s : ℕ × ℕ). s.0) xs

pub named-numbers : (g : ℕ) (t : Table) (done : List EntryLine) → TagsAlternate g false (map entry_of done)
    → firsts (steps_named g t (map entry_of done)) ≡ filter (below_test (reach g done)) (entries g 0 (map entry_of done))
named-numbers g t done alternate = step-numbers g (t g).core 0 0 none_yet None done tt alternate

pub named-rise : (g : ℕ) (t : Table) (done : List EntryLine) → TagsAlternate g false (map entry_of done) → RiseNumbers 0 (firsts (steps_named g t (map entry_of done)))
named-rise g t done alternate = subst (RiseNumbers 0) (sym (named-numbers g t done alternate)) (filter-rise 0 (reach g done) (entries g 0 (map entry_of done)) (entries-rise g 0 (map entry_of done)))

pub named-below : (g : ℕ) (t : Table) (done : List EntryLine) → TagsAlternate g false (map entry_of done) → AllByRecursion (λ (s : ℕ × ℕ). s.0 < reach g done) (steps_named g t (map entry_of done))
named-below g t done alternate =
    all-firsts (λ v. v < reach g done) (steps_named g t (map entry_of done))
    (subst (AllByRecursion (λ v. v < reach g done)) (sym (named-numbers g t done alternate)) (all-filter (reach g done) (entries g 0 (map entry_of done))))

length-map : {X Y : Type 0} (f : X → Y) (xs : List X) → length (map f xs) ≡ length xs
length-map f [] = refl
length-map f (x ∷ xs) = ap suc (length-map f xs)

named-less : (g : ℕ) (t : Table) (done : List EntryLine) → TagsAlternate g false (map entry_of done) → AllByRecursion (λ v. v < length done) (firsts (steps_named g t (map entry_of done)))
named-less g t done alternate =
    subst (AllByRecursion (λ v. v < length done)) (sym (named-numbers g t done alternate))
    (all-kept (λ v. v < length done) (reach g done) (entries g 0 (map entry_of done))
    (all-more (λ v. v < 0 + length (map entry_of done)) (λ v. v < length done) (entries g 0 (map entry_of done)) (λ v lt. let same = length-map entry_of done in omega (arith, lt, same)) (entries-less g 0 (map entry_of done))))

pub reach-grows : (g : ℕ) (done rest : List EntryLine) → reach g done ≤ reach g (done ++ rest)
reach-grows g done rest =
    let here = reach-is g 0 (length done) None done (omega arith) in
    let further = reach-append g 0 (length done) None done rest (omega arith) in
    let least = reach-least g (length done) (tag_behind g 0 None done) rest (tag-most g 0 (length done) None done (omega arith) (omega arith)) in
    omega (arith, here, further, least)

pub reach-within : (g : ℕ) (done : List EntryLine) → reach g done ≤ length done
reach-within g done = let most = reach-most g 0 None done (omega arith) in omega (arith, most)

-- What is stepped behind some entries has numbers from there on where the group was.
pub later-numbers : (g : ℕ) (t : Table) (done rest : List EntryLine) (more : List (ℕ × ℕ)) → TagsAlternate g false (map entry_of done) → TagsAlternate g false (map entry_of (done ++ rest))
    → steps_named g t (map entry_of (done ++ rest)) ≡ steps_named g t (map entry_of done) ++ more
    → AllByRecursion (λ (s : ℕ × ℕ). (reach g done ≤ s.0) × (s.0 < length (done ++ rest))) more
later-numbers g t done rest more alternate all_alternate grown =
    let r = reach g done in
    let before = steps_named g t (map entry_of done) in
    let split : firsts (steps_named g t (map entry_of (done ++ rest))) ≡ firsts before ++ firsts more = ap firsts grown ∙ map-append (λ (s : ℕ × ℕ). s.0) before more in
    let es = map entry_of done in
    let whole : entries g 0 (map entry_of (done ++ rest)) ≡ entries g 0 es ++ entries g (length done) (map entry_of rest)
    = ap (entries g 0) (map-append entry_of done rest) ∙ entries-append g 0 (length done) es (map entry_of rest) (let same = length-map entry_of done in omega (arith, same)) in
    let low : AllByRecursion (λ v. r ≤ v) (entries g (length done) (map entry_of rest))
    = all-more (λ v. length done ≤ v) (λ v. r ≤ v) (entries g (length done) (map entry_of rest)) (λ v le. let most = reach-within g done in omega (arith, le, most)) (entries-least g (length done) (map entry_of rest)) in
    let old : filter (below_test r) (firsts (steps_named g t (map entry_of (done ++ rest)))) ≡ firsts before ++ []
    = ap (filter (below_test r)) (named-numbers g t (done ++ rest) all_alternate)
    ∙ filter-narrow r (reach g (done ++ rest)) (entries g 0 (map entry_of (done ++ rest))) (reach-grows g done rest)
    ∙ ap (filter (below_test r)) whole
    ∙ filter-append (below_test r) (entries g 0 es) (entries g (length done) (map entry_of rest))
    ∙ ap (λ zs. filter (below_test r) (entries g 0 es) ++ zs) (filter-none r (entries g (length done) (map entry_of rest)) low)
    ∙ ap (λ zs. zs ++ []) (sym (named-numbers g t done alternate)) in
    let same_front : filter (below_test r) (firsts before) ≡ firsts before = filter-all r (firsts before) (firsts-all (λ v. v < r) before (named-below g t done alternate)) in
    let new : filter (below_test r) (firsts (steps_named g t (map entry_of (done ++ rest)))) ≡ firsts before ++ filter (below_test r) (firsts more)
    = ap (filter (below_test r)) split ∙ filter-append (below_test r) (firsts before) (firsts more) ∙ ap (λ zs. zs ++ filter (below_test r) (firsts more)) same_front in
    let none : filter (below_test r) (firsts more) ≡ [] = cancel (firsts before) (filter (below_test r) (firsts more)) [] (sym new ∙ old) in
    let less = all-right (λ v. v < length (done ++ rest)) (firsts before) (firsts more) (subst (AllByRecursion (λ v. v < length (done ++ rest))) split (named-less g t (done ++ rest) all_alternate)) in
    all-firsts (λ v. (r ≤ v) × (v < length (done ++ rest))) more (all-both (λ v. r ≤ v) (λ v. v < length (done ++ rest)) (firsts more) (none-filter r (firsts more) none) less)

-- ## The numbers of dues
abbrev pub number_given : Given → ℕ
number_given (Frame t) = t.w.0
number_given (Time w t) = w.0

abbrev pub number_due : Due → ℕ
number_due d = number_given d.given

module _ (frames : List (List ℕ)) (name : WireNo → Name) (all : List EntryLine) (g : ℕ) where
  number-is : (w : ℕ) → number_given (given_of (work_of frames name all w)) ≡ w
  number-is w = by_entry (slice_get all w)
    where
      by_entry : (l : Option EntryLine) → number_given (given_of (work_in frames name w l)) ≡ w
      by_entry (Some (lines.Frame rec at group ring fate)) = refl
      by_entry (Some (lines.Time t)) = refl
      by_entry (Some (lines.Tag group)) = refl
      by_entry (Some (lines.Move group to)) = refl
      by_entry (Some lines.Settle) = refl
      by_entry None = refl

  pub numbers-due : (P : ℕ → Type 0) (xs : List (ℕ × ℕ)) → AllByRecursion (λ (s : ℕ × ℕ). P s.0) xs → AllByRecursion (λ (d : Due). P (number_due d)) (map (due_at frames name all g) xs)
  numbers-due P [] h = tt
  numbers-due P (x ∷ xs) h = (subst P (sym (number-is x.0)) h.0, numbers-due P xs h.1)

  pub frames-rise : (n : ℕ) (xs : List (ℕ × ℕ)) → RiseNumbers n (firsts xs) → RiseFrom n (frames_due (map (due_at frames name all g) xs))
  frames-rise n [] rise = tt
  frames-rise n (x ∷ xs) rise = by_entry (slice_get all x.0) (frames-rise (suc x.0) xs rise.1)
    where
      rest : List Accepted
      rest = frames_due (map (due_at frames name all g) xs)

      past : RiseFrom (suc x.0) rest → RiseFrom n rest
      past h = frames-from-less n (suc x.0) rest (let first = rise.0 in omega (arith, first)) h

      by_entry : (l : Option EntryLine) → RiseFrom (suc x.0) rest → RiseFrom n (frame_in (given_of (work_in frames name x.0 l)) ++ rest)
      by_entry (Some (lines.Frame rec at group ring fate)) h = (rise.0, h)
      by_entry (Some (lines.Time t)) h = past h
      by_entry (Some (lines.Tag group)) h = past h
      by_entry (Some (lines.Move group to)) h = past h
      by_entry (Some lines.Settle) h = past h
      by_entry None h = past h

-- ## Cycles below a number
abbrev last_of : Accepted → List Accepted → Accepted
last_of t [] = t
last_of t (u ∷ us) = last_of u us

get-last : (t : Accepted) (ts : List Accepted) → slice_get (t ∷ ts) (length ts) ≡ Some (last_of t ts)
get-last t [] = refl
get-last t (u ∷ us) = get-last u us

last-is : (t : Accepted) (ts : List Accepted) → last_number (t ∷ ts) ≡ Some (last_of t ts).w
last-is t ts =
    let size : suc (length ts) - 1 ≡ length ts = omega arith in
    ap (λ n. option_map number_of (slice_get (t ∷ ts) n)) size ∙ ap (option_map number_of) (get-last t ts)

last-so : (P : ℕ → Type 0) (t : Accepted) (ts : List Accepted) → AllByRecursion (λ (u : Accepted). P u.w.0) (t ∷ ts) → P (last_of t ts).w.0
last-so P t [] h = h.0
last-so P t (u ∷ us) h = last-so P u us h.1

frames-so : (P : ℕ → Type 0) (core : CoreId) (tenure settles : ℕ) (ts : List Accepted) → AllByRecursion (λ (d : Due). P (number_due d)) (map (frame_due core tenure settles) ts) → AllByRecursion (λ (u : Accepted). P u.w.0) ts
frames-so P core tenure settles [] h = tt
frames-so P core tenure settles (t ∷ ts) h = (h.0, frames-so P core tenure settles ts h.1)

-- what a first cycle leaves, and the number that it ends with
record FirstNumbers (P : ℕ → Type 0) (q : Bool) (r : ℕ) (c : Cycle) (rest : List Due) : Type 0 where
  is : is_below r c ≡ q
  others : AllByRecursion (λ (d : Due). P (number_due d)) rest

first-numbers : (batch r : ℕ) (P : ℕ → Type 0) (q : Bool) → ((v : ℕ) → P v → nat_lt v r ≡ q) → (c : Cycle) (ds rest : List Due) → IsFirst batch c ds rest → AllByRecursion (λ (d : Due). P (number_due d)) ds → FirstNumbers P q r c rest
first-numbers batch r P q f (Frames core []) ds rest first h = absurd (let some = first.some in omega (arith, some))
first-numbers batch r P q f (Frames core (t ∷ ts)) ds rest first h =
    let here = subst (AllByRecursion (λ (d : Due). P (number_due d))) first.cut h in
    let these = frames-so P core first.tenure first.settles (t ∷ ts) (all-left (λ (d : Due). P (number_due d)) (map (frame_due core first.tenure first.settles) (t ∷ ts)) rest here) in
    record {
      is = ap (ends_below r) (last-is t ts) ∙ f (last_of t ts).w.0 (last-so P t ts these);
      others = all-right (λ (d : Due). P (number_due d)) (map (frame_due core first.tenure first.settles) (t ∷ ts)) rest here;
    }
first-numbers batch r P q f (TimeCycle core w t) ds rest first h =
    let here = subst (AllByRecursion (λ (d : Due). P (number_due d))) first.cut h in
    record { is = f w.0 here.0; others = here.1 }

none-below : (batch r : ℕ) (ds : List Due) (cs : List Cycle) → IsCutting batch ds cs → AllByRecursion (λ (d : Due). r ≤ number_due d) ds → below r cs ≡ []
none-below batch r ds [] cut h = refl
none-below batch r ds (c ∷ cs) cut h = rw ((first-numbers batch r (λ v. r ≤ v) false (λ v le. ge-test v r le) c ds cut.0 cut.1 h).is) refl

-- Of two cuttings, one behind the other, the first is what stands below a number between them.
pub below-is : (batch r : ℕ) (ds es : List Due) (cs fs : List Cycle) → IsCutting batch ds cs → AllByRecursion (λ (d : Due). number_due d < r) ds → IsCutting batch es fs → AllByRecursion (λ (d : Due). r ≤ number_due d) es
    → below r (cs ++ fs) ≡ cs
below-is batch r ds es [] fs cut less cut2 more = none-below batch r es fs cut2 more
below-is batch r ds es (c ∷ cs) fs cut less cut2 more =
    let first = first-numbers batch r (λ v. v < r) true (λ v lt. lt-test v r lt) c ds cut.0 cut.1 less in
    rw first.is (ap (λ zs. c ∷ zs) (below-is batch r cut.0 es cs fs cut.2 first.others cut2 more))
