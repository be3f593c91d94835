-- The entries of a group rise, and no cycle crosses what is stepped at a settle.
use Rattle.std.proofs.Common.{◌≡◌, ℕ, suc, ◌+◌, ◌<◌, ◌≤◌, refl, sym, subst, inl, inr, Bool, true, false, List, [], ◌∷◌, ◌++◌, map, arith}
use Rattle.std.specs.Prelude.{◌⊎◌, ◌&&◌, ◌==◌, not, if◌then◌else◌, slice_get, Option, Some, None}
use Rattle.std.specs.List.{AllByRecursion}
use Rattle.std.proofs.lemmas.Bool.{cases_lt}
use Rattle.ix_base.specs.declared.id.CoreId.{CoreId}
use Rattle.ix_groupdef.specs.declared.types.Taken.{Taken}
use Rattle.ix_groupdef.specs.Group.{Cycle, Frames, Time as TimeCycle}
use Rattle.ix_groupdef.specs.Places.{RiseFrom}
use Rattle.ix_lines.specs.declared.types.EntryLine.{EntryLine}
use Rattle.ix_lines.specs.declared.types.EntryLine.TheVariants as lines
use Rattle.ix_lines.specs.declared.types.Fate.{Fate}
use Rattle.ix_lines.specs.declared.types.Fate.TheVariants as fates
use Rattle.ix_order.specs.Steppers.{stepper}
use Rattle.ix_playdef.specs.declared.wire.Given.{Given}
use Rattle.ix_playdef.specs.declared.wire.Given.TheVariants.{Frame, Time}
use Rattle.ix_fits.specs.Card.{entry_of}
use Rattle.ix_fits.specs.Cutting.{Due, IsCutting, Stage, due_of, dues, dues_from, first_stage, frame_due, frame_given, given_by, if_accepted, reach, reach_from, stage_after, tag_after, up_to}
use Rattle.ix_fits.proofs.ReadSplit.{IsOver, IsSided, IsUnder}
use Rattle.ix_fits.proofs.WireLaws.{same-either}

-- ## Numbers rise
abbrev pub number_in : Given → ℕ
number_in (Frame t) = t.w.0
number_in (Time w t) = w.0

abbrev pub RiseDues : ℕ → List Due → Type 0
RiseDues n [] = Unit {0}
RiseDues n (d ∷ ds) = (n ≤ number_in d.given) × RiseDues (suc (number_in d.given)) ds

rise-later : (n m : ℕ) (ds : List Due) → n ≤ m → RiseDues m ds → RiseDues n ds
rise-later n m [] le p = tt
rise-later n m (d ∷ ds) le p = (omega (arith, le, p.0), p.1)

-- at most one, with this number
abbrev OneAt : ℕ → List Given → Type 0
OneAt w [] = Unit {0}
OneAt w (x ∷ []) = number_in x ≡ w
OneAt w (x ∷ y ∷ ys) = ⊥

one-given : (w : ℕ) (o : Option (List ℕ)) → OneAt w (frame_given w o)
one-given w None = tt
one-given w (Some frame) = refl

one-accepted : (w : ℕ) (fate : Fate) (gs : List Given) → OneAt w gs → OneAt w (if_accepted fate gs)
one-accepted w (fates.Buf b) gs p = p
one-accepted w (fates.RingFull n) gs p = tt
one-accepted w (fates.NoBuffer n) gs p = tt
one-accepted w (fates.TooLong n) gs p = tt

one-either : (w : ℕ) (b : Bool) (gs : List Given) → OneAt w gs → OneAt w (if b then gs else [])
one-either w true gs p = p
one-either w false gs p = tt

one-by : (frames : List (List ℕ)) (g w : ℕ) (l : EntryLine) → OneAt w (given_by frames g w l)
one-by frames g w (lines.Frame rec at group ring fate) =
    one-either w (group.0 == g) (if_accepted fate (frame_given w (slice_get frames rec))) (one-accepted w fate (frame_given w (slice_get frames rec)) (one-given w (slice_get frames rec)))
one-by frames g w (lines.Time t) = refl
one-by frames g w (lines.Tag group) = tt
one-by frames g w (lines.Move group to) = tt
one-by frames g w lines.Settle = tt

rise-one : (core : Option ℕ) (s : Stage) (w : ℕ) (gs : List Given) (rest : List Due) → OneAt w gs → RiseDues (suc w) rest → RiseDues w (map (due_of core s) gs ++ rest)
rise-one core s w [] rest one p = rise-later w (suc w) rest (omega arith) p
rise-one core s w (x ∷ []) rest one p = (omega (arith, one), subst (λ (n : ℕ). RiseDues (suc n) rest) (sym one) p)
rise-one core s w (x ∷ y ∷ ys) rest one p = absurd one

pub rise-dues : (frames : List (List ℕ)) (g opening : ℕ) (s : Stage) (w : ℕ) (ls : List EntryLine) → RiseDues w (dues_from frames g opening s w ls)
unfolding dues_from
rise-dues frames g opening s w [] = tt
rise-dues frames g opening s w (l ∷ ls) =
    rise-one (stepper g opening s.last (map entry_of (l ∷ ls))) s w (given_by frames g w l) (dues_from frames g opening (stage_after g s l) (suc w) ls) (one-by frames g w l)
    (rise-dues frames g opening (stage_after g s l) (suc w) ls)

-- the frames of a cycle lie below the entries behind it
pub record IsRanged (lo : ℕ) (ts : List Taken) (rest : List Due) : Type 0 where
  pub next : ℕ
  pub above : lo ≤ next
  pub rise : RiseFrom lo ts
  pub under : AllByRecursion (IsUnder next) ts
  pub later : RiseDues next rest

pub frames-range : (core : CoreId) (k q lo : ℕ) (ts : List Taken) (rest : List Due) → RiseDues lo (map (frame_due core k q) ts ++ rest) → IsRanged lo ts rest
frames-range core k q lo [] rest p = record { next = lo; above = omega arith; rise = tt; under = tt; later = p }
frames-range core k q lo (t ∷ ts) rest p =
    let r = frames-range core k q (suc t.w.0) ts rest p.1 in
    record { next = r.next; above = omega (arith, p.0, r.above); rise = (p.0, r.rise); under = (omega (arith, r.above), r.under); later = r.later }

-- ## Marks
-- The number of tags before an entry and of settles at which none was open rises; below n it is below a mark, and from n on it isn't.
abbrev pub IsEdgeAt : ℕ → ℕ → ℕ → ℕ → Type 0
IsEdgeAt n mark number passed = (number < n → passed < mark) × (n ≤ number → mark ≤ passed)

abbrev pub IsEdge : ℕ → ℕ → Due → Type 0
IsEdge n mark d = IsEdgeAt n mark (number_in d.given) (d.tenure + d.settles)

pub record Edge (n : ℕ) (ds : List Due) : Type 0 where
  pub mark : ℕ
  pub each : AllByRecursion (IsEdge n mark) ds

pub edge-zero : (ds : List Due) → Edge 0 ds
edge-zero ds = record { mark = 0; each = each-zero ds }
  where
    each-zero : (es : List Due) → AllByRecursion (IsEdge 0 0) es
    each-zero [] = tt
    each-zero (e ∷ es) = ((λ lt. absurd (omega (arith, lt)), λ le. omega arith), each-zero es)

pub all-map : {A : Type 0} (P Q : A → Type 0) → ((x : A) → P x → Q x) → (xs : List A) → AllByRecursion P xs → AllByRecursion Q xs
all-map P Q f [] p = tt
all-map P Q f (x ∷ xs) p = (f x p.0, all-map P Q f xs p.1)

-- what comes behind a stage
record IsLater (w tags settles : ℕ) (d : Due) : Type 0 where
  number : w ≤ number_in d.given
  tenure : tags ≤ d.tenure
  settles_are : settles ≤ d.settles

suc-if : (b : Bool) (n : ℕ) → n ≤ (if b then suc n else n)
suc-if true n = omega arith
suc-if false n = omega arith

record Grows (s t : Stage) : Type 0 where
  tags : s.tags ≤ t.tags
  settles : s.settles ≤ t.settles

grows : (g : ℕ) (s : Stage) (l : EntryLine) → Grows s (stage_after g s l)
grows g s (lines.Frame rec at group ring fate) = record { tags = omega arith; settles = omega arith }
grows g s (lines.Time t) = record { tags = omega arith; settles = omega arith }
grows g s (lines.Tag group) = record { tags = suc-if (g == group.0) s.tags; settles = omega arith }
grows g s (lines.Move group to) = record { tags = omega arith; settles = omega arith }
grows g s lines.Settle = record { tags = omega arith; settles = suc-if (not s.open_tag) s.settles }

later-one : (core : Option ℕ) (s : Stage) (w : ℕ) (gs : List Given) (rest : List Due) → OneAt w gs → AllByRecursion (IsLater w s.tags s.settles) rest
    → AllByRecursion (IsLater w s.tags s.settles) (map (due_of core s) gs ++ rest)
later-one core s w [] rest one p = p
later-one core s w (x ∷ []) rest one p = (record { number = omega (arith, one); tenure = omega arith; settles_are = omega arith }, p)
later-one core s w (x ∷ y ∷ ys) rest one p = absurd one

later-dues : (frames : List (List ℕ)) (g opening : ℕ) (s : Stage) (w : ℕ) (ls : List EntryLine) → AllByRecursion (IsLater w s.tags s.settles) (dues_from frames g opening s w ls)
unfolding dues_from
later-dues frames g opening s w [] = tt
later-dues frames g opening s w (l ∷ ls) =
    let t : Stage = stage_after g s l in
    let more = grows g s l in
    later-one (stepper g opening s.last (map entry_of (l ∷ ls))) s w (given_by frames g w l) (dues_from frames g opening t (suc w) ls) (one-by frames g w l)
    (all-map (IsLater (suc w) t.tags t.settles) (IsLater w s.tags s.settles)
    (λ d p. record { number = omega (arith, p.number); tenure = omega (arith, p.tenure, more.tags); settles_are = omega (arith, p.settles_are, more.settles) })
    (dues_from frames g opening t (suc w) ls) (later-dues frames g opening t (suc w) ls))

-- ## From entry to entry, up to a settle
-- where a tag is open, its number, and the mark that it sets
abbrev IsOpen : Bool → ℕ → ℕ → Option ℕ → ℕ → Type 0
IsOpen open_tag passed w None mark = open_tag ≡ false
IsOpen open_tag passed w (Some v) mark = (open_tag ≡ true) × (v ≤ w) × (mark ≤ passed)

-- It stays open up to the settle, or the edge lies behind here.
abbrev StaysOpen : Option ℕ → ℕ → ℕ → ℕ → Type 0
StaysOpen None mark n edge = ⊥
StaysOpen (Some v) mark n edge = (n ≡ v) × (edge ≡ mark)

abbrev IsFar : ℕ → ℕ → Option ℕ → ℕ → ℕ → ℕ → Type 0
IsFar w passed o mark n edge = StaysOpen o mark n edge ⊎ ((w ≤ n) × (passed < edge))

record EdgeBehind (w passed : ℕ) (o : Option ℕ) (mark n : ℕ) (ds : List Due) : Type 0 where
  edge : ℕ
  each : AllByRecursion (IsEdge n edge) ds
  far : IsFar w passed o mark n edge

-- behind the settle
behind-closed : (w : ℕ) (tags settles : ℕ) (open_tag : Bool) (d : Due) → open_tag ≡ false → IsLater (suc w) tags (if true && not open_tag then suc settles else settles) d → IsEdge w (tags + settles + 1) d
behind-closed w tags settles true d e p = absurd (cc)
behind-closed w tags settles false d e p = (λ lt. absurd (omega (arith, lt, p.number)), λ le. omega (arith, p.tenure, p.settles_are))

behind-open : (w v mark tags settles more : ℕ) (d : Due) → v ≤ w → mark ≤ tags + settles → settles ≤ more → IsLater (suc w) tags more d → IsEdge v mark d
behind-open w v mark tags settles more d le small grown p = (λ lt. absurd (omega (arith, lt, le, p.number)), λ ge. omega (arith, small, grown, p.tenure, p.settles_are))

-- at an entry that the group takes
here-edge : (w passed mark n edge : ℕ) (open_tag : Bool) (o : Option ℕ) → IsOpen open_tag passed w o mark → IsFar (suc w) passed o mark n edge → IsEdgeAt n edge w passed
here-edge w passed mark n edge open_tag None p (inl q) = absurd q
here-edge w passed mark n edge open_tag None p (inr q) = (λ lt. q.1, λ le. absurd (omega (arith, le, q.0)))
here-edge w passed mark n edge open_tag (Some v) p (inl q) = (λ lt. absurd (omega (arith, lt, q.0, p.1)), λ le. omega (arith, q.1, p.2))
here-edge w passed mark n edge open_tag (Some v) p (inr q) = (λ lt. q.1, λ le. absurd (omega (arith, le, q.0)))

edge-one : (core : Option ℕ) (s : Stage) (w n edge : ℕ) (gs : List Given) (rest : List Due) → OneAt w gs → IsEdgeAt n edge w (s.tags + s.settles) → AllByRecursion (IsEdge n edge) rest
    → AllByRecursion (IsEdge n edge) (map (due_of core s) gs ++ rest)
edge-one core s w n edge [] rest one here p = p
edge-one core s w n edge (x ∷ []) rest one here p = (subst (λ (k : ℕ). IsEdgeAt n edge k (s.tags + s.settles)) (sym one) here, p)
edge-one core s w n edge (x ∷ y ∷ ys) rest one here p = absurd one

open-later : (open_tag : Bool) (passed w mark : ℕ) (o : Option ℕ) → IsOpen open_tag passed w o mark → IsOpen open_tag passed (suc w) o mark
open-later open_tag passed w mark None p = p
open-later open_tag passed w mark (Some v) p = (p.0, omega (arith, p.1), p.2)

far-before : (w passed mark n edge : ℕ) (o : Option ℕ) → IsFar (suc w) passed o mark n edge → IsFar w passed o mark n edge
far-before w passed mark n edge o (inl q) = inl q
far-before w passed mark n edge o (inr q) = inr (omega (arith, q.0), q.1)

-- at a tag of the group, or of another one
tag-open : (b open_tag : Bool) (tags settles w mark : ℕ) (o : Option ℕ) → IsOpen open_tag (tags + settles) w o mark
    → IsOpen (if b then true else open_tag) ((if b then suc tags else tags) + settles) (suc w) (if b then Some w else o) (if b then suc tags + settles else mark)
tag-open true open_tag tags settles w mark o p = (refl, omega arith, omega arith)
tag-open false open_tag tags settles w mark o p = open-later open_tag (tags + settles) w mark o p

tag-far : (b : Bool) (tags settles w mark n edge : ℕ) (o : Option ℕ) → IsFar (suc w) ((if b then suc tags else tags) + settles) (if b then Some w else o) (if b then suc tags + settles else mark) n edge
    → IsFar w (tags + settles) o mark n edge
tag-far true tags settles w mark n edge o (inl q) = inr (omega (arith, q.0), omega (arith, q.1))
tag-far true tags settles w mark n edge o (inr q) = inr (omega (arith, q.0), omega (arith, q.1))
tag-far false tags settles w mark n edge o p = far-before w (tags + settles) mark n edge o p

-- at a move
move-open : (b open_tag : Bool) (passed w mark : ℕ) (o : Option ℕ) → IsOpen open_tag passed w o mark → IsOpen (if b then false else open_tag) passed (suc w) (if b then None else o) mark
move-open true open_tag passed w mark o p = refl
move-open false open_tag passed w mark o p = open-later open_tag passed w mark o p

move-far : (b : Bool) (passed w mark n edge : ℕ) (o : Option ℕ) → IsFar (suc w) passed (if b then None else o) mark n edge → IsFar w passed o mark n edge
move-far true passed w mark n edge o (inl q) = absurd q
move-far true passed w mark n edge o (inr q) = inr (omega (arith, q.0), q.1)
move-far false passed w mark n edge o p = far-before w passed mark n edge o p

-- at a settle on the way
settle-open : (open_tag : Bool) (tags settles more w mark : ℕ) (o : Option ℕ) → settles ≤ more → IsOpen open_tag (tags + settles) w o mark → IsOpen open_tag (tags + more) (suc w) o mark
settle-open open_tag tags settles more w mark None le p = p
settle-open open_tag tags settles more w mark (Some v) le p = (p.0, omega (arith, p.1), omega (arith, le, p.2))

settle-far : (tags settles more w mark n edge : ℕ) (o : Option ℕ) → settles ≤ more → IsFar (suc w) (tags + more) o mark n edge → IsFar w (tags + settles) o mark n edge
settle-far tags settles more w mark n edge o le (inl q) = inl q
settle-far tags settles more w mark n edge o le (inr q) = inr (omega (arith, q.0), omega (arith, le, q.1))

edges-end : (frames : List (List ℕ)) (g opening : ℕ) (s : Stage) (w : ℕ) (o : Option ℕ) (mark : ℕ) (rest : List EntryLine) → IsOpen s.open_tag (s.tags + s.settles) w o mark
    → EdgeBehind w (s.tags + s.settles) o mark (up_to w o) (dues_from frames g opening s w (lines.Settle ∷ rest))
unfolding dues_from
edges-end frames g opening s w None mark rest p =
    let t : Stage = stage_after g s lines.Settle in
    record {
      edge = s.tags + s.settles + 1;
      each =
          all-map (IsLater (suc w) t.tags t.settles) (IsEdge w (s.tags + s.settles + 1)) (λ d later. behind-closed w s.tags s.settles s.open_tag d p later)
          (dues_from frames g opening t (suc w) rest) (later-dues frames g opening t (suc w) rest);
      far = inr (omega arith, omega arith);
    }
edges-end frames g opening s w (Some v) mark rest p =
    let t : Stage = stage_after g s lines.Settle in
    record {
      edge = mark;
      each =
          all-map (IsLater (suc w) t.tags t.settles) (IsEdge v mark) (λ d later. behind-open w v mark s.tags s.settles t.settles d p.1 p.2 (grows g s lines.Settle).settles later)
          (dues_from frames g opening t (suc w) rest) (later-dues frames g opening t (suc w) rest);
      far = inl (refl, refl);
    }

edges : (frames : List (List ℕ)) (g opening : ℕ) (s : Stage) (w : ℕ) (o : Option ℕ) (mark : ℕ) (done rest : List EntryLine) → IsOpen s.open_tag (s.tags + s.settles) w o mark
    → EdgeBehind w (s.tags + s.settles) o mark (reach_from g w o done) (dues_from frames g opening s w (done ++ lines.Settle ∷ rest))
unfolding dues_from
edges frames g opening s w o mark [] rest p = edges-end frames g opening s w o mark rest p
edges frames g opening s w o mark (lines.Frame rec at group ring fate ∷ done) rest p =
    let l : EntryLine = lines.Frame rec at group ring fate in
    let r = edges frames g opening (stage_after g s l) (suc w) o mark done rest (open-later s.open_tag (s.tags + s.settles) w mark o p) in
    record {
      edge = r.edge;
      each =
          edge-one (stepper g opening s.last (map entry_of (l ∷ (done ++ lines.Settle ∷ rest)))) s w (reach_from g (suc w) o done) r.edge (given_by frames g w l)
          (dues_from frames g opening (stage_after g s l) (suc w) (done ++ lines.Settle ∷ rest)) (one-by frames g w l)
          (here-edge w (s.tags + s.settles) mark (reach_from g (suc w) o done) r.edge s.open_tag o p r.far) r.each;
      far = far-before w (s.tags + s.settles) mark (reach_from g (suc w) o done) r.edge o r.far;
    }
edges frames g opening s w o mark (lines.Time t ∷ done) rest p =
    let l : EntryLine = lines.Time t in
    let r = edges frames g opening (stage_after g s l) (suc w) o mark done rest (open-later s.open_tag (s.tags + s.settles) w mark o p) in
    record {
      edge = r.edge;
      each =
          edge-one (stepper g opening s.last (map entry_of (l ∷ (done ++ lines.Settle ∷ rest)))) s w (reach_from g (suc w) o done) r.edge (given_by frames g w l)
          (dues_from frames g opening (stage_after g s l) (suc w) (done ++ lines.Settle ∷ rest)) (one-by frames g w l)
          (here-edge w (s.tags + s.settles) mark (reach_from g (suc w) o done) r.edge s.open_tag o p r.far) r.each;
      far = far-before w (s.tags + s.settles) mark (reach_from g (suc w) o done) r.edge o r.far;
    }
edges frames g opening s w o mark (lines.Tag group ∷ done) rest p =
    let same : (group.0 == g) ≡ (g == group.0) = same-either group.0 g in
    let after : ℕ = if g == group.0 then suc s.tags + s.settles else mark in
    let opens = subst (λ (c : Bool). IsOpen (if g == group.0 then true else s.open_tag) ((if g == group.0 then suc s.tags else s.tags) + s.settles) (suc w) (if c then Some w else o) after) (sym same)
    (tag-open (g == group.0) s.open_tag s.tags s.settles w mark o p) in
    let r = edges frames g opening (stage_after g s (lines.Tag group)) (suc w) (tag_after g w o (lines.Tag group)) after done rest opens in
    let n : ℕ = reach_from g (suc w) (tag_after g w o (lines.Tag group)) done in
    record {
      edge = r.edge;
      each = r.each;
      far = tag-far (g == group.0) s.tags s.settles w mark n r.edge o
          (subst (λ (c : Bool). IsFar (suc w) ((if g == group.0 then suc s.tags else s.tags) + s.settles) (if c then Some w else o) after n r.edge) same r.far);
    }
edges frames g opening s w o mark (lines.Move group to ∷ done) rest p =
    let same : (group.0 == g) ≡ (g == group.0) = same-either group.0 g in
    let opens = subst (λ (c : Bool). IsOpen (if g == group.0 then false else s.open_tag) (s.tags + s.settles) (suc w) (if c then None else o) mark) (sym same)
    (move-open (g == group.0) s.open_tag (s.tags + s.settles) w mark o p) in
    let r = edges frames g opening (stage_after g s (lines.Move group to)) (suc w) (tag_after g w o (lines.Move group to)) mark done rest opens in
    let n : ℕ = reach_from g (suc w) (tag_after g w o (lines.Move group to)) done in
    record { edge = r.edge; each = r.each; far = move-far (group.0 == g) (s.tags + s.settles) w mark n r.edge o r.far }
edges frames g opening s w o mark (lines.Settle ∷ done) rest p =
    let t : Stage = stage_after g s lines.Settle in
    let more = (grows g s lines.Settle).settles in
    let r = edges frames g opening t (suc w) o mark done rest (settle-open s.open_tag s.tags s.settles t.settles w mark o more p) in
    record { edge = r.edge; each = r.each; far = settle-far s.tags s.settles t.settles w mark (reach_from g (suc w) o done) r.edge o more r.far }

-- what a group has stepped at a settle ends at an edge
pub edge-at : (frames : List (List ℕ)) (g opening : ℕ) (done rest : List EntryLine) → Edge (reach g done) (dues frames g opening (done ++ lines.Settle ∷ rest))
edge-at frames g opening done rest =
    let r = edges frames g opening first_stage 0 None 0 done rest refl in record { mark = r.edge; each = r.each }

-- ## Cycles on one side of an edge
all-under : (core : CoreId) (k q n mark : ℕ) (ts : List Taken) (rest : List Due) → k + q < mark → AllByRecursion (IsEdge n mark) (map (frame_due core k q) ts ++ rest) → AllByRecursion (IsUnder n) ts
all-under core k q n mark [] rest lt p = tt
all-under core k q n mark (t ∷ ts) rest lt p = (by_side (cases_lt t.w.0 n), all-under core k q n mark ts rest lt p.1)
  where
    by_side : ((t.w.0 < n) ⊎ (n ≤ t.w.0)) → t.w.0 < n
    by_side (inl less) = less
    by_side (inr ge) = absurd (omega (arith, lt, p.0.1 ge))

all-over : (core : CoreId) (k q n mark : ℕ) (ts : List Taken) (rest : List Due) → mark ≤ k + q → AllByRecursion (IsEdge n mark) (map (frame_due core k q) ts ++ rest) → AllByRecursion (IsOver n) ts
all-over core k q n mark [] rest le p = tt
all-over core k q n mark (t ∷ ts) rest le p = (by_side (cases_lt t.w.0 n), all-over core k q n mark ts rest le p.1)
  where
    by_side : ((t.w.0 < n) ⊎ (n ≤ t.w.0)) → n ≤ t.w.0
    by_side (inl less) = absurd (omega (arith, le, p.0.0 less))
    by_side (inr ge) = ge

rest-edges : (core : CoreId) (k q n mark : ℕ) (ts : List Taken) (rest : List Due) → AllByRecursion (IsEdge n mark) (map (frame_due core k q) ts ++ rest) → AllByRecursion (IsEdge n mark) rest
rest-edges core k q n mark [] rest p = p
rest-edges core k q n mark (t ∷ ts) rest p = rest-edges core k q n mark ts rest p.1

pub all-sided : (batch n mark : ℕ) (cs : List Cycle) (ds : List Due) → IsCutting batch ds cs → AllByRecursion (IsEdge n mark) ds → AllByRecursion (IsSided n) cs
all-sided batch n mark [] ds p each = tt
all-sided batch n mark (Frames core ts ∷ cs) ds p each =
    let here = subst (AllByRecursion (IsEdge n mark)) p.1.cut each in (
      by_side (cases_lt (p.1.tenure + p.1.settles) mark) here,
      all-sided batch n mark cs p.0 p.2 (rest-edges core p.1.tenure p.1.settles n mark ts p.0 here),
    )
  where
    by_side : ((p.1.tenure + p.1.settles < mark) ⊎ (mark ≤ p.1.tenure + p.1.settles)) → AllByRecursion (IsEdge n mark) (map (frame_due core p.1.tenure p.1.settles) ts ++ p.0)
        → AllByRecursion (IsUnder n) ts ⊎ AllByRecursion (IsOver n) ts
    by_side (inl lt) here = inl (all-under core p.1.tenure p.1.settles n mark ts p.0 lt here)
    by_side (inr le) here = inr (all-over core p.1.tenure p.1.settles n mark ts p.0 le here)
all-sided batch n mark (TimeCycle core w t ∷ cs) ds p each =
    (tt, all-sided batch n mark cs p.0 p.2 (subst (AllByRecursion (IsEdge n mark)) p.1.cut each).1)
