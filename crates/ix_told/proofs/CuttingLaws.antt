-- What is read is a cutting exactly where each cycle that closes is one.
use Rattle.std.proofs.Common.{◌≡◌, ℕ, suc, ◌≤◌, refl, sym, ap, ◌∙◌, subst, Bool, true, List, [], ◌∷◌, ◌++◌, length, map, arith, append_assoc, append-nil}
use Rattle.std.specs.Prelude.{◌==◌, ◌&&◌, not, nat_le, Option, Some, None}
use Rattle.std.specs.Bool.{Decides}
use Rattle.std.specs.List.{AllByRecursion, list_all}
use Rattle.std.proofs.lemmas.Bool.{and_from, and_parts, eqb-true, eq-eqb, le-leb, leb-true}
use Rattle.ix_base.specs.declared.id.CoreId.{CoreId}
use Rattle.ix_groupdef.specs.declared.types.Taken.{Taken}
use Rattle.ix_groupdef.specs.Calls.{is_empty}
use Rattle.ix_groupdef.specs.Group.{Cycle, Frames}
use Rattle.ix_lines.specs.declared.types.ConnLine.{ConnLine}
use Rattle.ix_playdef.specs.declared.wire.Given.{Given}
use Rattle.ix_playdef.specs.declared.wire.Given.TheVariants.{Frame, Time}
use Rattle.ix_fits.specs.Cutting.{Due, IsCutting, IsFirst, frame_due, frames_due}
use Rattle.ix_fits.specs.Read.{alone, core_of, cutting_read, cycle_with, cycles_read}
use Rattle.ix_told.specs.declared.cutting.Ending.{Ending}
use Rattle.ix_told.specs.declared.cutting.Ending.TheVariants.{Alone, Closes, Waits}
use Rattle.ix_told.specs.Reading.{IsFrame, IsOfFrame, are_cycle, cycles_by, ending_of, fits_by, fits_read, goes_with, is_cycle_alone, steps_on}
use Rattle.ix_told.proofs.ReadingLaws.{cycles-cons, cycles-nil, fits-cons, fits-nil, of-frame}

-- ## Entries that are frames
abbrev IsFrameDue : Due → Type 0
IsFrameDue d = IsFrame d.given

abbrev AreFrames : List Due → Type 0
AreFrames ds = AllByRecursion IsFrameDue ds

frames-push : (ds : List Due) (d : Due) → AreFrames ds → IsFrameDue d → AreFrames (ds ++ d ∷ [])
frames-push [] d all f = (f, tt)
frames-push (x ∷ ds) d all f = (all.0, frames-push ds d all.1 f)

-- an entry by its parts
abbrev due : Given → Option ℕ → ℕ → ℕ → Due
due given core tenure settles = record { given = given; core = core; tenure = tenure; settles = settles }

frame-count : (ds : List Due) → AreFrames ds → length (frames_due ds) ≡ length ds
frame-count [] all = refl
frame-count (d ∷ ds) all = one d.given all.0 (frame-count ds all.1)
  where
    one : (given : Given) → IsFrame given → length (frames_due ds) ≡ length ds → length (frames_due (due given d.core d.tenure d.settles ∷ ds)) ≡ suc (length ds)
    one (Frame t) f rest = ap suc rest
    one (Time w t) f rest = absurd f

-- ## One that goes with the first
steps-is : (core : CoreId) (o : Option ℕ) → steps_on core o ≡ true → o ≡ Some core.0
steps-is core None e = absurd (cc)
steps-is core (Some c) e = ap (λ (n : ℕ). (let o : Option ℕ = Some n in o)) (eqb-true c core.0 e)

steps-from : (core : CoreId) (o : Option ℕ) → o ≡ Some core.0 → steps_on core o ≡ true
steps-from core None e = absurd (cc)
steps-from core (Some c) e = let same : c ≡ core.0 = cc in eq-eqb c core.0 same

record GoesWith (core : CoreId) (tenure settles : ℕ) (d : Due) : Type 0 where
  on : d.core ≡ Some core.0
  tenure_is : d.tenure ≡ tenure
  settles_is : d.settles ≡ settles

goes-is : (core : CoreId) (first d : Due) → goes_with core first d ≡ true → GoesWith core first.tenure first.settles d
goes-is core first d e =
    let outer = and_parts (steps_on core d.core && d.tenure == first.tenure) (d.settles == first.settles) e in
    let inner = and_parts (steps_on core d.core) (d.tenure == first.tenure) outer.0 in
    record { on = steps-is core d.core inner.0; tenure_is = eqb-true d.tenure first.tenure inner.1; settles_is = eqb-true d.settles first.settles outer.1 }

goes-from : (core : CoreId) (first d : Due) → GoesWith core first.tenure first.settles d → goes_with core first d ≡ true
goes-from core first d g =
    and_from (steps_on core d.core && d.tenure == first.tenure) (d.settles == first.settles)
    (and_from (steps_on core d.core) (d.tenure == first.tenure) (steps-from core d.core g.on) (eq-eqb d.tenure first.tenure g.tenure_is))
    (eq-eqb d.settles first.settles g.settles_is)

-- a frame of such an entry
frame-is : (core : CoreId) (tenure settles : ℕ) (t : Taken) (o : Option ℕ) (k s : ℕ) → o ≡ Some core.0 → k ≡ tenure → s ≡ settles → due (Frame t) o k s ≡ frame_due core tenure settles t
frame-is core tenure settles t o k s a b c =
    ap (λ (x : Option ℕ). due (Frame t) x k s) a ∙ ap (λ n. due (Frame t) (Some core.0) n s) b ∙ ap (λ n. due (Frame t) (Some core.0) tenure n) c

-- ## Frames that are one cycle
all-frames : (core : CoreId) (first : Due) (ds : List Due) → AreFrames ds → list_all (goes_with core first) ds ≡ true → ds ≡ map (frame_due core first.tenure first.settles) (frames_due ds)
all-frames core first [] all e = refl
all-frames core first (d ∷ ds) all e =
    let parts = and_parts (goes_with core first d) (list_all (goes_with core first) ds) e in
    let g : GoesWith core first.tenure first.settles d = goes-is core first d parts.0 in
    one d.given all.0 g (all-frames core first ds all.1 parts.1)
  where
    one : (given : Given) → IsFrame given → GoesWith core first.tenure first.settles d → ds ≡ map (frame_due core first.tenure first.settles) (frames_due ds)
        → due given d.core d.tenure d.settles ∷ ds ≡ map (frame_due core first.tenure first.settles) (frames_due (due given d.core d.tenure d.settles ∷ ds))
    one (Frame t) f g rest =
        ap (λ (x : Due). x ∷ ds) (frame-is core first.tenure first.settles t d.core d.tenure d.settles g.on g.tenure_is g.settles_is)
        ∙ ap (λ (xs : List Due). frame_due core first.tenure first.settles t ∷ xs) rest
    one (Time w t) f g rest = absurd f

abbrev head_due : List Due → Due → Due
head_due [] d = d
head_due (x ∷ xs) d = x

abbrev tail_dues : List Due → List Due
tail_dues [] = []
tail_dues (x ∷ xs) = xs

all-go : (core : CoreId) (first : Due) (tenure settles : ℕ) (ds : List Due) → first.tenure ≡ tenure → first.settles ≡ settles → AreFrames ds
    → ds ≡ map (frame_due core tenure settles) (frames_due ds) → list_all (goes_with core first) ds ≡ true
all-go core first tenure settles [] ft fs all e = refl
all-go core first tenure settles (d ∷ ds) ft fs all e = one d.given all.0 (λ behind. all-go core first tenure settles ds ft fs all.1 behind) e
  where
    one : (given : Given) → IsFrame given
        → (ds ≡ map (frame_due core tenure settles) (frames_due ds) → list_all (goes_with core first) ds ≡ true)
        → due given d.core d.tenure d.settles ∷ ds ≡ map (frame_due core tenure settles) (frames_due (due given d.core d.tenure d.settles ∷ ds))
        → list_all (goes_with core first) (d ∷ ds) ≡ true
    one (Frame t) f rest is =
        let here : due (Frame t) d.core d.tenure d.settles ≡ frame_due core tenure settles t = ap (λ (xs : List Due). head_due xs d) is in
        let behind : ds ≡ map (frame_due core tenure settles) (frames_due ds) = ap tail_dues is in
        let g : GoesWith core first.tenure first.settles d =
        record { on = ap (λ (x : Due). x.core) here; tenure_is = ap (λ (x : Due). x.tenure) here ∙ sym ft; settles_is = ap (λ (x : Due). x.settles) here ∙ sym fs } in
        and_from (goes_with core first d) (list_all (goes_with core first) ds) (goes-from core first d g) (rest behind)
    one (Time w t) f rest is = absurd f

record Begins (tenure settles : ℕ) (d : Due) : Type 0 where
  tenure_is : d.tenure ≡ tenure
  settles_is : d.settles ≡ settles

begins : (core : CoreId) (tenure settles : ℕ) (d : Due) (ds : List Due) → IsFrameDue d → d ∷ ds ≡ map (frame_due core tenure settles) (frames_due (d ∷ ds)) → Begins tenure settles d
begins core tenure settles d ds frame e = one d.given frame e
  where
    one : (given : Given) → IsFrame given
        → due given d.core d.tenure d.settles ∷ ds ≡ map (frame_due core tenure settles) (frames_due (due given d.core d.tenure d.settles ∷ ds)) → Begins tenure settles d
    one (Frame t) f is =
        let here : due (Frame t) d.core d.tenure d.settles ≡ frame_due core tenure settles t = ap (λ (xs : List Due). head_due xs d) is in
        record { tenure_is = ap (λ (x : Due). x.tenure) here; settles_is = ap (λ (x : Due). x.settles) here }
    one (Time w t) f is = absurd f

-- lists of one length before others
same-front : (xs ys vs ws : List Due) → length xs ≡ length vs → xs ++ ys ≡ vs ++ ws → xs ≡ vs
same-front [] ys [] ws long e = refl
same-front [] ys (v ∷ vs) ws long e = absurd (omega (arith, long))
same-front (x ∷ xs) ys [] ws long e = absurd (omega (arith, long))
same-front (x ∷ xs) ys (v ∷ vs) ws long e =
    ap (λ (zs : List Due). head_due zs x ∷ xs) e ∙ ap (λ (zs : List Due). v ∷ zs) (same-front xs ys vs ws (omega (arith, long)) (ap tail_dues e))

same-back : (xs ys vs ws : List Due) → length xs ≡ length vs → xs ++ ys ≡ vs ++ ws → ys ≡ ws
same-back [] ys [] ws long e = e
same-back [] ys (v ∷ vs) ws long e = absurd (omega (arith, long))
same-back (x ∷ xs) ys [] ws long e = absurd (omega (arith, long))
same-back (x ∷ xs) ys (v ∷ vs) ws long e = same-back xs ys vs ws (omega (arith, long)) (ap tail_dues e)

length-map : (f : Taken → Due) (ts : List Taken) → length (map f ts) ≡ length ts
length-map f [] = refl
length-map f (t ∷ ts) = ap suc (length-map f ts)

frames-to : (batch : ℕ) (p : Due) (ps es : List Due) → AreFrames (p ∷ ps) → are_cycle batch (p ∷ ps) ≡ true → IsFirst batch (Frames (core_of p) (frames_due (p ∷ ps))) ((p ∷ ps) ++ es) es
frames-to batch p ps es all e =
    let parts = and_parts (nat_le (length (p ∷ ps)) batch) (list_all (goes_with (core_of p) p) (p ∷ ps)) e in
    let count : length (frames_due (p ∷ ps)) ≡ length (p ∷ ps) = frame-count (p ∷ ps) all in
    let few : length (p ∷ ps) ≤ batch = leb-true (length (p ∷ ps)) batch parts.0 in
    record {
      some = omega (arith, count);
      few = omega (arith, count, few);
      tenure = p.tenure;
      settles = p.settles;
      cut = ap (λ (ds : List Due). ds ++ es) (all-frames (core_of p) p (p ∷ ps) all parts.1);
    }

frames-from : (batch : ℕ) (p : Due) (ps es rest : List Due) → AreFrames (p ∷ ps) → IsFirst batch (Frames (core_of p) (frames_due (p ∷ ps))) ((p ∷ ps) ++ es) rest
    → (are_cycle batch (p ∷ ps) ≡ true) × (es ≡ rest)
frames-from batch p ps es rest all first =
    let core : CoreId = core_of p in
    let ts : List Taken = frames_due (p ∷ ps) in
    let qs : List Due = map (frame_due core first.tenure first.settles) ts in
    let count : length ts ≡ length (p ∷ ps) = frame-count (p ∷ ps) all in
    let long : length (p ∷ ps) ≡ length qs = sym (length-map (frame_due core first.tenure first.settles) ts ∙ count) in
    let front : p ∷ ps ≡ qs = same-front (p ∷ ps) es qs rest long first.cut in
    let few : length (p ∷ ps) ≤ batch = omega (arith, count, first.few) in
    let start : Begins first.tenure first.settles p = begins core first.tenure first.settles p ps all.0 front in (
      and_from (nat_le (length (p ∷ ps)) batch) (list_all (goes_with core p) (p ∷ ps)) (le-leb (length (p ∷ ps)) batch few)
          (all-go core p first.tenure first.settles (p ∷ ps) start.tenure_is start.settles_is all front),
      same-back (p ∷ ps) es qs rest long first.cut,
    )

-- ## An entry alone
alone-to : (batch : ℕ) (d : Due) (es : List Due) → is_cycle_alone batch d ≡ true → IsFirst batch (alone d) (d ∷ es) es
alone-to batch d es e = one d.given d.core e
  where
    one : (given : Given) (core : Option ℕ) → is_cycle_alone batch (due given core d.tenure d.settles) ≡ true
        → IsFirst batch (alone (due given core d.tenure d.settles)) (due given core d.tenure d.settles ∷ es) es
    one (Frame t) core is = frames-to batch (due (Frame t) core d.tenure d.settles) [] es (tt, tt) is
    one (Time w t) None is = absurd (cc)
    one (Time w t) (Some c) is = record { tenure = d.tenure; settles = d.settles; cut = refl }

alone-from : (batch : ℕ) (d : Due) (es rest : List Due) → IsFirst batch (alone d) (d ∷ es) rest → (is_cycle_alone batch d ≡ true) × (es ≡ rest)
alone-from batch d es rest first = one d.given d.core first
  where
    one : (given : Given) (core : Option ℕ) → IsFirst batch (alone (due given core d.tenure d.settles)) (due given core d.tenure d.settles ∷ es) rest
        → (is_cycle_alone batch (due given core d.tenure d.settles) ≡ true) × (es ≡ rest)
    one (Frame t) core f = frames-from batch (due (Frame t) core d.tenure d.settles) [] es rest (tt, tt) f
    one (Time w t) None f = absurd (let none : None ≡ Some 0 = ap (λ (xs : List Due). (head_due xs d).core) f.cut in cc)
    one (Time w t) (Some c) f = (eq-eqb c c refl, ap tail_dues f.cut)

-- each of some entries
each-to : (batch : ℕ) (ds es : List Due) (cs : List Cycle) → list_all (is_cycle_alone batch) ds ≡ true → IsCutting batch es cs → IsCutting batch (ds ++ es) (map alone ds ++ cs)
each-to batch [] es cs e cut = cut
each-to batch (d ∷ ds) es cs e cut =
    let parts = and_parts (is_cycle_alone batch d) (list_all (is_cycle_alone batch) ds) e in
    (ds ++ es, alone-to batch d (ds ++ es) parts.0, each-to batch ds es cs parts.1 cut)

each-from : (batch : ℕ) (ds es : List Due) (cs : List Cycle) → IsCutting batch (ds ++ es) (map alone ds ++ cs) → (list_all (is_cycle_alone batch) ds ≡ true) × IsCutting batch es cs
each-from batch [] es cs cut = (refl, cut)
each-from batch (d ∷ ds) es cs cut =
    let first = alone-from batch d (ds ++ es) cut.0 cut.1 in
    let behind : IsCutting batch (ds ++ es) (map alone ds ++ cs) = subst (λ (xs : List Due). IsCutting batch xs (map alone ds ++ cs)) (sym first.1) cut.2 in
    let rest = each-from batch ds es cs behind in
    (and_from (is_cycle_alone batch d) (list_all (is_cycle_alone batch) ds) first.0 rest.0, rest.1)

-- frames and one more
with-to : (batch : ℕ) (ds : List Due) (d : Due) (es : List Due) → AreFrames (ds ++ d ∷ []) → are_cycle batch (ds ++ d ∷ []) ≡ true → IsFirst batch (cycle_with ds d) ((ds ++ d ∷ []) ++ es) es
with-to batch [] d es all e = frames-to batch d [] es all e
with-to batch (p ∷ ps) d es all e = frames-to batch p (ps ++ d ∷ []) es all e

with-from : (batch : ℕ) (ds : List Due) (d : Due) (es rest : List Due) → AreFrames (ds ++ d ∷ []) → IsFirst batch (cycle_with ds d) ((ds ++ d ∷ []) ++ es) rest
    → (are_cycle batch (ds ++ d ∷ []) ≡ true) × (es ≡ rest)
with-from batch [] d es rest all first = frames-from batch d [] es rest all first
with-from batch (p ∷ ps) d es rest all first = frames-from batch p (ps ++ d ∷ []) es rest all first

-- ## By the ending of an entry
abbrev IsDecided : ℕ → (List Due → Bool) → (List Due → List Cycle) → List Due → Type 0
IsDecided batch fits cycles es = (more : List Due) → AreFrames more → Decides (fits more) (IsCutting batch (more ++ es) (cycles more))

by-ending : (batch : ℕ) (e : Ending) (ds : List Due) (d : Due) (es : List Due) (fits : List Due → Bool) (cycles : List Due → List Cycle)
    → AreFrames ds → IsOfFrame e d.given → IsDecided batch fits cycles es
    → Decides (fits_by batch e ds d fits) (IsCutting batch ((ds ++ d ∷ []) ++ es) (cycles_by e ds d cycles))
by-ending batch Waits ds d es fits cycles all frame rest = rest (ds ++ d ∷ []) (frames-push ds d all frame)
by-ending batch Closes ds d es fits cycles all frame rest = (to, from)
  where
    to : (are_cycle batch (ds ++ d ∷ []) && fits []) ≡ true → IsCutting batch ((ds ++ d ∷ []) ++ es) (cycle_with ds d ∷ cycles [])
    to e =
        let parts = and_parts (are_cycle batch (ds ++ d ∷ [])) (fits []) e in
        let behind : Decides (fits []) (IsCutting batch es (cycles [])) = rest [] tt in
        (es, with-to batch ds d es (frames-push ds d all frame) parts.0, behind.0 parts.1)

    from : IsCutting batch ((ds ++ d ∷ []) ++ es) (cycle_with ds d ∷ cycles []) → (are_cycle batch (ds ++ d ∷ []) && fits []) ≡ true
    from cut =
        let first = with-from batch ds d es cut.0 (frames-push ds d all frame) cut.1 in
        let behind : Decides (fits []) (IsCutting batch es (cycles [])) = rest [] tt in
        and_from (are_cycle batch (ds ++ d ∷ [])) (fits []) first.0
        (behind.1 (subst (λ (xs : List Due). IsCutting batch xs (cycles [])) (sym first.1) cut.2))
by-ending batch Alone ds d es fits cycles all frame rest = (to, from)
  where
    to : (list_all (is_cycle_alone batch) (ds ++ d ∷ []) && fits []) ≡ true → IsCutting batch ((ds ++ d ∷ []) ++ es) (map alone (ds ++ d ∷ []) ++ cycles [])
    to e =
        let parts = and_parts (list_all (is_cycle_alone batch) (ds ++ d ∷ [])) (fits []) e in
        let behind : Decides (fits []) (IsCutting batch es (cycles [])) = rest [] tt in
        each-to batch (ds ++ d ∷ []) es (cycles []) parts.0 (behind.0 parts.1)

    from : IsCutting batch ((ds ++ d ∷ []) ++ es) (map alone (ds ++ d ∷ []) ++ cycles []) → (list_all (is_cycle_alone batch) (ds ++ d ∷ []) && fits []) ≡ true
    from cut =
        let first = each-from batch (ds ++ d ∷ []) es (cycles []) cut in
        let behind : Decides (fits []) (IsCutting batch es (cycles [])) = rest [] tt in
        and_from (list_all (is_cycle_alone batch) (ds ++ d ∷ [])) (fits []) first.0 (behind.1 first.1)

-- ## The whole cutting
one-more : (batch : ℕ) (conns : List ConnLine) (e : Due) (es ds : List Due) → AreFrames ds
    → ((more : List Due) → AreFrames more → Decides (fits_read batch conns more es) (IsCutting batch (more ++ es) (cycles_read conns more es)))
    → Decides (fits_read batch conns ds (e ∷ es)) (IsCutting batch (ds ++ e ∷ es) (cycles_read conns ds (e ∷ es)))
one-more batch conns e es ds all again = (to, from)
  where
    whole : Decides (fits_by batch (ending_of conns (not (is_empty ds)) e.given) ds e (λ more. fits_read batch conns more es))
        (IsCutting batch ((ds ++ e ∷ []) ++ es) (cycles_by (ending_of conns (not (is_empty ds)) e.given) ds e (λ more. cycles_read conns more es)))
    whole =
        by-ending batch (ending_of conns (not (is_empty ds)) e.given) ds e es (λ more. fits_read batch conns more es) (λ more. cycles_read conns more es) all
        (of-frame conns (not (is_empty ds)) e.given) again

    to : fits_read batch conns ds (e ∷ es) ≡ true → IsCutting batch (ds ++ e ∷ es) (cycles_read conns ds (e ∷ es))
    to is =
        subst (λ (cs : List Cycle). IsCutting batch (ds ++ e ∷ es) cs) (sym (cycles-cons conns ds e es))
        (subst (λ (xs : List Due). IsCutting batch xs (cycles_by (ending_of conns (not (is_empty ds)) e.given) ds e (λ more. cycles_read conns more es)))
        (append_assoc ds (e ∷ []) es) (whole.0 (sym (fits-cons batch conns ds e es) ∙ is)))

    from : IsCutting batch (ds ++ e ∷ es) (cycles_read conns ds (e ∷ es)) → fits_read batch conns ds (e ∷ es) ≡ true
    from cut =
        fits-cons batch conns ds e es
        ∙ whole.1 (subst (λ (xs : List Due). IsCutting batch xs (cycles_by (ending_of conns (not (is_empty ds)) e.given) ds e (λ more. cycles_read conns more es)))
        (sym (append_assoc ds (e ∷ []) es)) (subst (λ (cs : List Cycle). IsCutting batch (ds ++ e ∷ es) cs) (cycles-cons conns ds e es) cut))

decided : (batch : ℕ) (conns : List ConnLine) (es ds : List Due) → AreFrames ds → Decides (fits_read batch conns ds es) (IsCutting batch (ds ++ es) (cycles_read conns ds es))
decided batch conns [] ds all = (to, from)
  where
    cycles : cycles_read conns ds [] ≡ map alone ds ++ []
    cycles = cycles-nil conns ds ∙ sym (append-nil (map alone ds))

    to : fits_read batch conns ds [] ≡ true → IsCutting batch (ds ++ []) (cycles_read conns ds [])
    to e = subst (IsCutting batch (ds ++ [])) (sym cycles) (each-to batch ds [] [] (sym (fits-nil batch conns ds) ∙ e) refl)

    from : IsCutting batch (ds ++ []) (cycles_read conns ds []) → fits_read batch conns ds [] ≡ true
    from cut = fits-nil batch conns ds ∙ (each-from batch ds [] [] (subst (IsCutting batch (ds ++ [])) cycles cut)).0
decided batch conns (e ∷ es) ds all = one-more batch conns e es ds all (λ more frames. decided batch conns es more frames)

pub cutting_decided : (batch : ℕ) (conns : List ConnLine) (es : List Due) → Decides (fits_read batch conns [] es) (IsCutting batch es (cutting_read conns es))
cutting_decided batch conns es = decided batch conns es [] tt
