-- The dues that are stepped, by the numbers of the entries and the cores that step them.
use Rattle.std.proofs.Common.{◌≡◌, ℕ, suc, zero, Bool, true, false, List, [], ◌∷◌, ◌++◌, map, fold, take, length, refl, sym, ap, ◌∙◌, subst, arith, append_assoc}
use Rattle.std.specs.Prelude.{◌==◌, if◌then◌else◌, Option, Some, None, filter, slice_get}
use Rattle.std.specs.List.{AllByRecursion}
use Rattle.std.proofs.lemmas.Bool.Decides.{nat_tests}
use Rattle.std.proofs.lemmas.List.Elements.{filter-append}
use Rattle.std.proofs.lemmas.List.{map-append}
use Rattle.ix_base.specs.declared.id.CoreId.{CoreId}
use Rattle.ix_base.specs.declared.id.GroupId.{GroupId}
use Rattle.ix_base.specs.declared.id.WireNo.{WireNo}
use Rattle.ix_mbuf.specs.declared.name.Name.{Name}
use Rattle.ix_order.specs.Wire.{Entry}
use Rattle.ix_order.specs.Wire as wire
use Rattle.ix_order.specs.Steppers.{LastTag, moved_to, no_move, none_yet, Step, step_of, steps, stepper, tags_by}
use Rattle.ix_stack.specs.declared.work.Taken.{Taken}
use Rattle.ix_stack.specs.declared.work.Work.{Work}
use Rattle.ix_stack.specs.declared.work.Work.TheVariants as works
use Rattle.ix_lines.specs.declared.types.EntryLine.{EntryLine}
use Rattle.ix_lines.specs.declared.types.EntryLine.TheVariants as lines
use Rattle.ix_lines.specs.declared.types.Fate.{Fate}
use Rattle.ix_lines.specs.declared.types.Fate.TheVariants as fates
use Rattle.ix_playdef.specs.declared.wire.Given.{Given}
use Rattle.ix_playdef.specs.declared.wire.Given.TheVariants.{Frame, Time}
use Rattle.ix_fits.specs.Card.{entry_of, verdict_of}
use Rattle.ix_fits.specs.Cutting.{Due, Stage, due_of, dues_from, first_stage, frame_given, given_by, if_accepted, stage_after}
use Rattle.ix_fits.specs.Stepping.{on_core, with_cores}
use Rattle.ix_plainstack.specs.Batches.{accepted_as, work_number}
use Rattle.ix_settled.specs.Cuts.{has_stepper}
use Rattle.ix_settled.specs.Moments.{HasRecord, IsTold}

pub test-eq : (h g : ℕ) → (h == g) ≡ true → h ≡ g
test-eq h g e = grind (arith, nat_tests)

pub self-test : (n : ℕ) → (n == n) ≡ true
self-test n = grind (arith, nat_tests)

pub test-swap : (g h : ℕ) → (g == h) ≡ (h == g)
test-swap g h = by_test (h == g) refl
  where
    by_test : (q : Bool) → (h == g) ≡ q → (g == h) ≡ q
    by_test true e = let same = test-eq h g e in grind (arith, nat_tests)
    by_test false e = grind (arith, nat_tests)

-- ## Lists
pub take-past : {X : Type 0} (xs ys : List X) → take (length xs) (xs ++ ys) ≡ xs
take-past [] ys = refl
take-past (x ∷ xs) ys = ap (λ zs. x ∷ zs) (take-past xs ys)

pub get-past : {X : Type 0} (xs : List X) (y : X) (ys : List X) → slice_get (xs ++ y ∷ ys) (length xs) ≡ Some y
get-past [] y ys = refl
get-past (x ∷ xs) y ys = get-past xs y ys

pub fold-last : {A X : Type 0} (f : A → X → A) (a : A) (xs : List X) (x : X) → fold f a (xs ++ x ∷ []) ≡ f (fold f a xs) x
fold-last f a [] x = refl
fold-last f a (y ∷ xs) x = fold-last f (f a y) xs x

pub length-last : {X : Type 0} (xs : List X) (x : X) → length (xs ++ x ∷ []) ≡ suc (length xs)
length-last [] x = refl
length-last (y ∷ xs) x = ap suc (length-last xs x)

-- ## What an entry gives
abbrev pub bytes_in : Option (List ℕ) → List ℕ
bytes_in (Some bytes) = bytes
bytes_in None = []

abbrev pub given_of : Work → Given
given_of (works.Frame t) = Frame (accepted_as t)
given_of (works.Time w now) = Time w now

-- a frame and a time change no stepper
frame-stepper : (g opening : ℕ) (s : LastTag) (h : ℕ) (v : wire.Verdict) (es : List Entry) → stepper g opening s es ≡ stepper g opening s (wire.frame h v ∷ es)
frame-stepper g opening none_yet h v es = refl
frame-stepper g opening no_move h v es = refl
frame-stepper g opening (moved_to d) h v es = refl

time-stepper : (g opening : ℕ) (s : LastTag) (es : List Entry) → stepper g opening s es ≡ stepper g opening s (wire.time ∷ es)
time-stepper g opening none_yet es = refl
time-stepper g opening no_move es = refl
time-stepper g opening (moved_to d) es = refl

pub cores-append : (xs ys : List Step) → with_cores (xs ++ ys) ≡ with_cores xs ++ with_cores ys
cores-append [] ys = refl
cores-append (x ∷ xs) ys = ap (λ zs. on_core x.entry x.core ++ zs) (cores-append xs ys) ∙ sym (append_assoc (on_core x.entry x.core) _ _)

abbrev pub stage_at : ℕ → List EntryLine → ℕ → Stage
stage_at g all w = fold (stage_after g) first_stage (take w all)

module _ (frames : List (List ℕ)) (name : WireNo → Name) where
  -- the item of an entry
  abbrev pub work_in : ℕ → Option EntryLine → Work
  work_in w (Some (lines.Frame rec at group ring fate)) = works.Frame (record { w = record { 0 = w }; buf = record { name = name (record { 0 = w }); bytes = bytes_in (slice_get frames rec) } })
  work_in w (Some (lines.Time t)) = works.Time (record { 0 = w }) t
  work_in w (Some (lines.Tag group)) = works.Time (record { 0 = w }) 0
  work_in w (Some (lines.Move group to)) = works.Time (record { 0 = w }) 0
  work_in w (Some lines.Settle) = works.Time (record { 0 = w }) 0
  work_in w None = works.Time (record { 0 = w }) 0

  abbrev pub work_of : List EntryLine → ℕ → Work
  work_of all w = work_in w (slice_get all w)

  -- an item that was told is the one of its number
  pub told-is : (all : List EntryLine) (x : Work) → IsTold frames name all x → x ≡ work_of all (work_number x)
  told-is all (works.Frame t) told =
      sym (ap (λ (l : Option EntryLine). work_in t.w.0 l) told.line
      ∙ ap (λ (bytes : Option (List ℕ)). works.Frame (record { w = t.w; buf = record { name = name t.w; bytes = bytes_in bytes } })) told.bytes
      ∙ ap (λ (n : Name). works.Frame (record { w = t.w; buf = record { name = n; bytes = t.buf.bytes } })) (sym told.named))
  told-is all (works.Time w now) told = sym (ap (λ (l : Option EntryLine). work_in w.0 l) told)

  -- a frame of an entry lies in the buffer that the naming says
  pub named-frame : (all : List EntryLine) (t : Taken) → works.Frame t ≡ work_of all t.w.0 → t.buf.name ≡ name t.w
  named-frame all t e = by_entry (slice_get all t.w.0) e
    where
      by_entry : (l : Option EntryLine) → works.Frame t ≡ work_in t.w.0 l → t.buf.name ≡ name t.w
      by_entry (Some (lines.Frame rec at group ring fate)) e = let same : t ≡ record { w = record { 0 = t.w.0 }; buf = record { name = name (record { 0 = t.w.0 }); bytes = bytes_in (slice_get frames rec) } } = cc in ap (λ (z : Taken). z.buf.name) same
      by_entry (Some (lines.Time u)) e = absurd (cc)
      by_entry (Some (lines.Tag group)) e = absurd (cc)
      by_entry (Some (lines.Move group to)) e = absurd (cc)
      by_entry (Some lines.Settle) e = absurd (cc)
      by_entry None e = absurd (cc)

  -- the due of a number and a core
  abbrev pub due_at : List EntryLine → ℕ → ℕ × ℕ → Due
  due_at all g s =
      record {
        given = given_of (work_of all s.0);
        core = Some s.1;
        tenure = (stage_at g all s.0).tags;
        settles = (stage_at g all s.0).settles;
      }

  -- ## One entry
  module _ (all : List EntryLine) (g w : ℕ) (st : Stage) (is_stage : stage_at g all w ≡ st) where
    one-due : (core : Option ℕ) (x : Given) → given_of (work_of all w) ≡ x
        → filter has_stepper (due_of core st x ∷ []) ≡ map (due_at all g) (with_cores (step_of st.tags core w ∷ []))
    one-due None x e = refl
    one-due (Some c) x e =
        ap (λ (y : Given). (let d : Due = record { given = y; core = Some c; tenure = st.tags; settles = st.settles } in d ∷ [])) (sym e)
        ∙ ap (λ (s : Stage). (let d : Due = record { given = given_of (work_of all w); core = Some c; tenure = s.tags; settles = s.settles } in d ∷ [])) (sym is_stage)

    abbrev Same : Option ℕ → List Given → List ℕ → Type 0
    Same core gs ws = filter has_stepper (map (due_of core st) gs) ≡ map (due_at all g) (with_cores (map (step_of st.tags core) ws))

    one-frame : (core : Option ℕ) (rec : ℕ) (fate : Fate) (ring : CoreId) (group : GroupId) (at : ℕ) (bytes : Option (List ℕ)) → slice_get frames rec ≡ bytes
        → slice_get all w ≡ Some (lines.Frame rec at group ring fate) → HasRecord frames (lines.Frame rec at group ring fate) → (q : Bool) → (g == group.0) ≡ q
        → Same core (if q then if_accepted fate (frame_given w bytes) else []) (wire.entry_of g w (entry_of (lines.Frame rec at group ring fate)))
    one-frame core rec (fates.Buf b) ring group at (Some frame) is line has true e =
        rw e (one-due core (Frame (record { w = record { 0 = w }; frame = frame }))
        (ap (λ (l : Option EntryLine). given_of (work_in w l)) line ∙ ap (λ (z : Option (List ℕ)). Frame (record { w = record { 0 = w }; frame = bytes_in z })) is))
    one-frame core rec (fates.Buf b) ring group at None is line has true e = absurd (let some = has refl in cc)
    one-frame core rec (fates.Buf b) ring group at bytes is line has false e = rw e refl
    one-frame core rec (fates.RingFull n) ring group at bytes is line has true e = refl
    one-frame core rec (fates.RingFull n) ring group at bytes is line has false e = refl
    one-frame core rec (fates.NoBuffer n) ring group at bytes is line has true e = refl
    one-frame core rec (fates.NoBuffer n) ring group at bytes is line has false e = refl
    one-frame core rec (fates.TooLong n) ring group at bytes is line has true e = refl
    one-frame core rec (fates.TooLong n) ring group at bytes is line has false e = refl

    one-line : (opening : ℕ) (s : LastTag) (es : List Entry) (l : EntryLine) → slice_get all w ≡ Some l → HasRecord frames l
        → filter has_stepper (map (due_of (stepper g opening s (entry_of l ∷ es)) st) (given_by frames g w l)) ≡ map (due_at all g) (with_cores (map (step_of st.tags (stepper g opening s es)) (wire.entry_of g w (entry_of l))))
    one-line opening s es (lines.Frame rec at group ring fate) line has =
        subst (λ (o : Option ℕ). filter has_stepper (map (due_of o st) (given_by frames g w (lines.Frame rec at group ring fate)))
        ≡ map (due_at all g) (with_cores (map (step_of st.tags (stepper g opening s es)) (wire.entry_of g w (entry_of (lines.Frame rec at group ring fate)))))) (frame-stepper g opening s group.0 (verdict_of ring fate) es)
        (subst (λ q. Same (stepper g opening s es) (if q then if_accepted fate (frame_given w (slice_get frames rec)) else []) (wire.entry_of g w (entry_of (lines.Frame rec at group ring fate)))) (test-swap g group.0)
        (one-frame (stepper g opening s es) rec fate ring group at (slice_get frames rec) refl line has (g == group.0) refl))
    one-line opening s es (lines.Time t) line has =
        subst (λ (o : Option ℕ). filter has_stepper (due_of o st (Time (record { 0 = w }) t) ∷ []) ≡ map (due_at all g) (with_cores (step_of st.tags (stepper g opening s es) w ∷ []))) (time-stepper g opening s es)
        (one-due (stepper g opening s es) (Time (record { 0 = w }) t) (ap (λ (l : Option EntryLine). given_of (work_in w l)) line))
    one-line opening s es (lines.Tag group) line has = refl
    one-line opening s es (lines.Move group to) line has = refl
    one-line opening s es lines.Settle line has = refl

  -- the dues that are stepped are those of the steps
  pub dues-are : (g opening : ℕ) (past ls later : List EntryLine) (st : Stage) (w : ℕ) → fold (stage_after g) first_stage past ≡ st → length past ≡ w → AllByRecursion (HasRecord frames) ls
      → filter has_stepper (dues_from frames g opening st w ls) ≡ map (due_at (past ++ (ls ++ later)) g) (with_cores (steps g opening st.tags st.last w (map entry_of ls)))
  unfolding dues_from
  dues-are g opening past [] later st w is len has = refl
  dues-are g opening past (l ∷ ls) later st w is len has =
      let all = past ++ (l ∷ (ls ++ later)) in
      let core = stepper g opening st.last (map entry_of ls) in
      let line = subst (λ n. slice_get all n ≡ Some l) len (get-past past l (ls ++ later)) in
      let stage = subst (λ n. fold (stage_after g) first_stage (take n all) ≡ st) len (ap (fold (stage_after g) first_stage) (take-past past (l ∷ (ls ++ later))) ∙ is) in
      let one = one-line all g w st stage opening st.last (map entry_of ls) l line has.0 in
      let rest = dues-are g opening (past ++ l ∷ []) ls later (stage_after g st l) (suc w) (fold-last (stage_after g) first_stage past l ∙ ap (λ (s : Stage). stage_after g s l) is) (length-last past l ∙ ap suc len) has.1 in
      let rest_all = subst (λ (z : List EntryLine). filter has_stepper (dues_from frames g opening (stage_after g st l) (suc w) ls)
      ≡ map (due_at z g) (with_cores (steps g opening (stage_after g st l).tags (stage_after g st l).last (suc w) (map entry_of ls)))) (append_assoc past (l ∷ []) (ls ++ later)) rest in
      filter-append has_stepper (map (due_of (stepper g opening st.last (map entry_of (l ∷ ls))) st) (given_by frames g w l)) (dues_from frames g opening (stage_after g st l) (suc w) ls)
      ∙ ap (λ ds. ds ++ filter has_stepper (dues_from frames g opening (stage_after g st l) (suc w) ls)) one
      ∙ ap (λ ds. map (due_at all g) (with_cores (map (step_of st.tags core) (wire.entry_of g w (entry_of l)))) ++ ds) rest_all
      ∙ sym (map-append (due_at all g) (with_cores (map (step_of st.tags core) (wire.entry_of g w (entry_of l)))) (with_cores (steps g opening (stage_after g st l).tags (stage_after g st l).last (suc w) (map entry_of ls))))
      ∙ ap (map (due_at all g)) (sym (cores-append (map (step_of st.tags core) (wire.entry_of g w (entry_of l))) (steps g opening (stage_after g st l).tags (stage_after g st l).last (suc w) (map entry_of ls))))

-- the tags of a stage are those of the entries
pub stage-tags : (g : ℕ) (st : Stage) (ls : List EntryLine) → (fold (stage_after g) st ls).tags ≡ fold (tags_by g) st.tags (map entry_of ls)
stage-tags g st [] = refl
stage-tags g st (l ∷ ls) = stage-tags g (stage_after g st l) ls

pub take-map : {X Y : Type 0} (f : X → Y) (n : ℕ) (xs : List X) → take n (map f xs) ≡ map f (take n xs)
take-map f zero xs = refl
take-map f (suc n) [] = refl
take-map f (suc n) (x ∷ xs) = ap (λ ys. f x ∷ ys) (take-map f n xs)
