-- Acts cut the dues that they step, and a stack stands for them.
use Rattle.std.proofs.Common.{◌≡◌, ℕ, suc, ◌+◌, ◌≤◌, cond, List, [], ◌∷◌, ◌++◌, map, fold, take, length, refl, sym, ap, ◌∙◌, subst, arith, append_assoc, append-nil}
use Rattle.std.specs.Prelude.{Some, count_by}
use Rattle.std.specs.List.{AllByRecursion}
use Rattle.std.proofs.lemmas.List.{map-append, length-append}
use Rattle.std.proofs.lemmas.List.Sums.{sum_by-cons}
use Rattle.ix_base.specs.declared.id.CoreId.{CoreId}
use Rattle.ix_base.specs.declared.id.WireNo.{WireNo}
use Rattle.ix_mbuf.specs.Buffers.{Buffer}
use Rattle.ix_mbuf.specs.declared.name.Name.{Name}
use Rattle.ix_order.specs.Steppers.{tags_by}
use Rattle.ix_history.specs.Runs.{Runs}
use Rattle.ix_deeds.specs.Acts.{Act, step, loan, DidAct, IsRight, names_by}
use Rattle.ix_deeds.specs.Rings.{tenure_at}
use Rattle.ix_stack.specs.declared.work.Taken.{Taken}
use Rattle.ix_stack.specs.declared.work.Work.{Work}
use Rattle.ix_stack.specs.declared.work.Work.TheVariants as works
use Rattle.ix_appdef.specs.declared.application.Application.{Application}
use Rattle.ix_groupdef.specs.declared.env.Env.{Env}
use Rattle.ix_groupdef.specs.declared.types.Taken.{Taken as Accepted}
use Rattle.ix_groupdef.specs.Group.{Cycle, Frames, Time as TimeCycle, Connect}
use Rattle.ix_groupdef.specs.Places.{accepted, frames_of, RiseFrom}
use Rattle.ix_lines.specs.declared.types.EntryLine.{EntryLine}
use Rattle.ix_playdef.specs.declared.wire.Given.TheVariants.{Frame, Time}
use Rattle.ix_fits.specs.Card.{entry_of}
use Rattle.ix_fits.specs.Cutting.{Due, IsCutting, IsFirst, first_stage, frame_due, frame_in, frames_due}
use Rattle.ix_plainstack.specs.Batches.{Batch, Time as TimeBatch, accepted_as, batch_of, batches, batches_behind, cycle_of, cycles_of, frames_in, is_frame_work, work_number}
use Rattle.ix_plainstack.specs.Stack.{Stack, Advances, Drains}
use Rattle.ix_plainstack.specs.Standing.{AreNamed, DrainsStand, Stands, StepsStand, all_frames_in}
use Rattle.ix_settled.specs.Moments.{stack_steps}
use Rattle.ix_settled.proofs.Dues.{named-frame, due_at, given_of, stage-tags, stage_at, take-map, work_of}
use Rattle.ix_settled.proofs.Numbers.{all-append, all-left, all-right}

-- ## Cuttings one behind the other
pub first-append : (batch : ℕ) (c : Cycle) (ds rest es : List Due) → IsFirst batch c ds rest → IsFirst batch c (ds ++ es) (rest ++ es)
first-append batch (Frames core ts) ds rest es first = record {
  some = first.some;
  few = first.few;
  tenure = first.tenure;
  settles = first.settles;
  cut = ap (λ z. z ++ es) first.cut ∙ append_assoc (map (frame_due core first.tenure first.settles) ts) rest es;
}
first-append batch (TimeCycle core w t) ds rest es first = record { tenure = first.tenure; settles = first.settles; cut = ap (λ z. z ++ es) first.cut }

pub cut-append : (batch : ℕ) (ds es : List Due) (cs fs : List Cycle) → IsCutting batch ds cs → IsCutting batch es fs → IsCutting batch (ds ++ es) (cs ++ fs)
cut-append batch ds es [] fs p q = subst (λ z. IsCutting batch (z ++ es) fs) (sym p) q
cut-append batch ds es (c ∷ cs) fs p q = (p.0 ++ es, first-append batch c ds p.0 es p.1, cut-append batch p.0 es cs fs p.2 q)

frames-due-append : (xs ys : List Due) → frames_due (xs ++ ys) ≡ frames_due xs ++ frames_due ys
frames-due-append [] ys = refl
frames-due-append (x ∷ xs) ys = ap (λ z. frame_in x.given ++ z) (frames-due-append xs ys) ∙ sym (append_assoc (frame_in x.given) (frames_due xs) (frames_due ys))

frames-of-dues : (core : CoreId) (tenure settles : ℕ) (ts : List Accepted) → frames_due (map (frame_due core tenure settles) ts) ≡ ts
frames-of-dues core tenure settles [] = refl
frames-of-dues core tenure settles (t ∷ ts) = ap (λ z. t ∷ z) (frames-of-dues core tenure settles ts)

-- the frames of the cycles are those of the dues
pub cut-frames : (batch : ℕ) (ds : List Due) (cs : List Cycle) → IsCutting batch ds cs → accepted cs ≡ frames_due ds
cut-frames batch ds [] p = ap frames_due (sym p)
cut-frames batch ds (c ∷ cs) p = ap (λ z. frames_of c ++ z) (cut-frames batch p.0 cs p.2) ∙ by_cycle c p.1
  where
    by_cycle : (c : Cycle) → IsFirst batch c ds p.0 → frames_of c ++ frames_due p.0 ≡ frames_due ds
    by_cycle (Frames core ts) first =
        ap (λ z. z ++ frames_due p.0) (sym (frames-of-dues core first.tenure first.settles ts))
        ∙ sym (frames-due-append (map (frame_due core first.tenure first.settles) ts) p.0) ∙ ap frames_due (sym first.cut)
    by_cycle (TimeCycle core w t) first = ap frames_due (sym first.cut)

pub accepted-append : (cs ds : List Cycle) → accepted (cs ++ ds) ≡ accepted cs ++ accepted ds
accepted-append [] ds = refl
accepted-append (c ∷ cs) ds = ap (λ z. frames_of c ++ z) (accepted-append cs ds) ∙ sym (append_assoc (frames_of c) (accepted cs) (accepted ds))

rise-left : (n : ℕ) (xs ys : List Accepted) → RiseFrom n (xs ++ ys) → RiseFrom n xs
rise-left n [] ys p = tt
rise-left n (x ∷ xs) ys p = (p.0, rise-left (suc x.w.0) xs ys p.1)

-- ## The cycles of acts
abbrev pub StackAct : Type 0
StackAct = Act Work (List Buffer)

abbrev pub cycles_by : List StackAct → List Cycle
cycles_by [] = []
cycles_by (step k c items ∷ acts) = cycles_of (record { 0 = c }) (batches items) ++ cycles_by acts
cycles_by (loan out ∷ acts) = cycles_by acts

module _ (frames : List (List ℕ)) (name : WireNo → Name) (all : List EntryLine) (g sigma batch : ℕ) where
  abbrev pub Right : ℕ → Work → Type 0
  Right k x = IsRight work_number (tenure_at g (map entry_of all)) (work_of frames name all) k x

  abbrev pub due : ℕ × ℕ → Due
  due s = due_at frames name all g s

  -- as many settles stand before it
  abbrev pub HasSettles : ℕ × ℕ → Type 0
  HasSettles s = (stage_at g all s.0).settles ≡ sigma

  abbrev pairs : ℕ → List Work → List (ℕ × ℕ)
  pairs c items = map (λ (x : Work). (work_number x, c)) items

  abbrev frames_dues : ℕ → ℕ → List Taken → List Due
  frames_dues k c fs = map (frame_due (record { 0 = c }) k sigma) (map accepted_as fs)

  tags-at : (w : ℕ) → (stage_at g all w).tags ≡ tenure_at g (map entry_of all) w
  tags-at w = stage-tags g first_stage (take w all) ∙ ap (fold (tags_by g) 0) (sym (take-map entry_of w all))

  frame-is : (k c : ℕ) (t : Taken) → Right k (works.Frame t) → HasSettles (t.w.0, c) → due (t.w.0, c) ≡ frame_due (record { 0 = c }) k sigma (accepted_as t)
  frame-is k c t right settles =
      ap (λ (x : Work). (let d : Due = record { given = given_of x; core = Some c; tenure = (stage_at g all t.w.0).tags; settles = (stage_at g all t.w.0).settles } in d)) (sym right.is)
      ∙ ap (λ n. (let d : Due = record { given = Frame (accepted_as t); core = Some c; tenure = n; settles = (stage_at g all t.w.0).settles } in d)) (tags-at t.w.0 ∙ right.tenure)
      ∙ ap (λ n. (let d : Due = record { given = Frame (accepted_as t); core = Some c; tenure = k; settles = n } in d)) settles

  time-is : (k c now : ℕ) (w : WireNo) → Right k (works.Time w now)
      → due (w.0, c) ≡ (let d : Due = record { given = Time w now; core = Some c; tenure = (stage_at g all w.0).tags; settles = (stage_at g all w.0).settles } in d)
  time-is k c now w right = ap (λ (x : Work). (let d : Due = record { given = given_of x; core = Some c; tenure = (stage_at g all w.0).tags; settles = (stage_at g all w.0).settles } in d)) (sym right.is)

  frames-cut : (k c : ℕ) (fs : List Taken) → length fs ≤ batch → IsCutting batch (frames_dues k c fs) (cycles_of (record { 0 = c }) (batch_of fs))
  frames-cut k c [] few = refl
  frames-cut k c (t ∷ ts) few = ([], record { some = omega arith; few = (let same = length-map ts in omega (arith, few, same)); tenure = k; settles = sigma; cut = sym (append-nil (frames_dues k c (t ∷ ts))) }, refl)
    where
      length-map : (ts : List Taken) → length (map accepted_as ts) ≡ length ts
      length-map [] = refl
      length-map (t ∷ ts) = ap suc (length-map ts)

  cycles-append : (core : CoreId) (xs ys : List Batch) → cycles_of core (xs ++ ys) ≡ cycles_of core xs ++ cycles_of core ys
  cycles-append core xs ys = map-append (cycle_of core) xs ys

  -- the batches of items, behind frames that wait
  batches-cut : (k c : ℕ) (fs : List Taken) (items : List Work) → AllByRecursion (Right k) items → AllByRecursion HasSettles (pairs c items) → length fs + count_by is_frame_work items ≤ batch
      → IsCutting batch (frames_dues k c fs ++ map due (pairs c items)) (cycles_of (record { 0 = c }) (batches_behind fs items))
  batches-cut k c fs [] right settles few = subst (λ z. IsCutting batch z (cycles_of (record { 0 = c }) (batch_of fs))) (sym (append-nil (frames_dues k c fs))) (frames-cut k c fs (omega (arith, few)))
  batches-cut k c fs (works.Frame t ∷ items) right settles few =
      let count : count_by is_frame_work (works.Frame t ∷ items) ≡ 1 + count_by is_frame_work items = sum_by-cons (λ (x : Work). cond (is_frame_work x) 1 0) (works.Frame t) items in
      let size = length-append fs (t ∷ []) in
      let rest = batches-cut k c (fs ++ t ∷ []) items right.1 settles.1 (omega (arith, few, count, size)) in
      let one = frame-is k c t right.0 settles.0 in
      subst (λ z. IsCutting batch z (cycles_of (record { 0 = c }) (batches_behind (fs ++ t ∷ []) items)))
      (ap (λ z. z ++ map due (pairs c items)) (ap (map (frame_due (record { 0 = c }) k sigma)) (map-append accepted_as fs (t ∷ [])) ∙ map-append (frame_due (record { 0 = c }) k sigma) (map accepted_as fs) (accepted_as t ∷ []))
      ∙ append_assoc (frames_dues k c fs) (frame_due (record { 0 = c }) k sigma (accepted_as t) ∷ []) (map due (pairs c items))
      ∙ ap (λ d. frames_dues k c fs ++ d ∷ map due (pairs c items)) (sym one))
      rest
  batches-cut k c fs (works.Time w now ∷ items) right settles few =
      let count : count_by is_frame_work (works.Time w now ∷ items) ≡ 0 + count_by is_frame_work items = sum_by-cons (λ (x : Work). cond (is_frame_work x) 1 0) (works.Time w now) items in
      let rest = batches-cut k c [] items right.1 settles.1 (omega (arith, few, count)) in
      let timed : IsCutting batch (due (w.0, c) ∷ map due (pairs c items)) (TimeCycle (record { 0 = c }) w now ∷ cycles_of (record { 0 = c }) (batches_behind [] items)) = (
        map due (pairs c items),
        record { tenure = (stage_at g all w.0).tags; settles = (stage_at g all w.0).settles; cut = ap (λ d. d ∷ map due (pairs c items)) (time-is k c now w right.0) },
        rest,
      ) in
      subst (IsCutting batch (frames_dues k c fs ++ due (w.0, c) ∷ map due (pairs c items))) (sym (cycles-append (record { 0 = c }) (batch_of fs) (TimeBatch w now ∷ batches_behind [] items)))
      (cut-append batch (frames_dues k c fs) (due (w.0, c) ∷ map due (pairs c items)) (cycles_of (record { 0 = c }) (batch_of fs)) (TimeCycle (record { 0 = c }) w now ∷ cycles_of (record { 0 = c }) (batches_behind [] items))
      (frames-cut k c fs (omega (arith, few))) timed)

  -- ## Acts
  abbrev pub Did : Env Application → Stack → StackAct → Stack → Type 0
  Did env = DidAct is_frame_work work_number stack_steps Advances Drains env (tenure_at g (map entry_of all)) (work_of frames name all) batch

  pub acts-cut : (env : Env Application) (x : Stack) (acts : List StackAct) (y : Stack) → Runs (Did env) x acts y → AllByRecursion HasSettles (names_by work_number acts)
      → IsCutting batch (map due (names_by work_number acts)) (cycles_by acts)
  acts-cut env x [] y runs settles = refl
  acts-cut env x (step k c items ∷ acts) y runs settles =
      let few = runs.1.few in
      let one = batches-cut k c [] items runs.1.right (all-left HasSettles (pairs c items) (names_by work_number acts) settles) (omega (arith, few)) in
      let rest = acts-cut env runs.0 acts y runs.2 (all-right HasSettles (pairs c items) (names_by work_number acts) settles) in
      subst (λ z. IsCutting batch z (cycles_of (record { 0 = c }) (batches items) ++ cycles_by acts)) (sym (map-append due (pairs c items) (names_by work_number acts)))
      (cut-append batch (map due (pairs c items)) (map due (names_by work_number acts)) (cycles_of (record { 0 = c }) (batches items)) (cycles_by acts) one rest)
  acts-cut env x (loan out ∷ acts) y runs settles = acts-cut env runs.0 acts y runs.2 settles

  pub acts-steps : (env : Env Application) (x : Stack) (acts : List StackAct) (y : Stack) → Runs (Did env) x acts y → y.steps ≡ x.steps ++ names_by work_number acts
  acts-steps env x [] y runs = ap stack_steps runs ∙ sym (append-nil x.steps)
  acts-steps env x (step k c items ∷ acts) y runs =
      acts-steps env runs.0 acts y runs.2 ∙ ap (λ z. z ++ names_by work_number acts) runs.1.names ∙ append_assoc x.steps (pairs c items) (names_by work_number acts)
  acts-steps env x (loan out ∷ acts) y runs =
      acts-steps env runs.0 acts y runs.2 ∙ ap (λ (z : Stack). z.steps ++ names_by work_number acts) runs.1.rest

  -- ## What stacks stand for
  batch-named : (fs : List Taken) → AreNamed name fs → AreNamed name (all_frames_in (batch_of fs))
  batch-named [] h = tt
  batch-named (t ∷ ts) h = subst (AreNamed name) (sym (append-nil (t ∷ ts))) h

  frames-append : (xs ys : List Batch) → all_frames_in (xs ++ ys) ≡ all_frames_in xs ++ all_frames_in ys
  frames-append [] ys = refl
  frames-append (x ∷ xs) ys = ap (λ z. frames_in x ++ z) (frames-append xs ys) ∙ sym (append_assoc (frames_in x) (all_frames_in xs) (all_frames_in ys))

  items-named : (k : ℕ) (fs : List Taken) (items : List Work) → AreNamed name fs → AllByRecursion (Right k) items → AreNamed name (all_frames_in (batches_behind fs items))
  items-named k fs [] h right = batch-named fs h
  items-named k fs (works.Frame t ∷ items) h right = items-named k (fs ++ t ∷ []) items (all-append (λ (z : Taken). z.buf.name ≡ name z.w) fs (t ∷ []) h (named-frame frames name all t right.0.is, tt)) right.1
  items-named k fs (works.Time w now ∷ items) h right =
      subst (AreNamed name) (sym (frames-append (batch_of fs) (TimeBatch w now ∷ batches_behind [] items)))
      (all-append (λ (z : Taken). z.buf.name ≡ name z.w) (all_frames_in (batch_of fs)) (all_frames_in (batches_behind [] items)) (batch-named fs h) (items-named k [] items tt right.1))

  pub acts-stand : StepsStand → DrainsStand → (env : Env Application) (asked : List Connect) (cs : List Cycle) (x : Stack) (acts : List StackAct) (y : Stack) → Runs (Did env) x acts y
      → RiseFrom 0 (accepted (cs ++ cycles_by acts)) → Stands env name asked cs x → Stands env name asked (cs ++ cycles_by acts) y
  acts-stand steps drains env asked cs x [] y runs rise st = subst (λ z. Stands env name asked z y) (sym (append-nil cs)) (subst (Stands env name asked cs) (sym runs) st)
  acts-stand steps drains env asked cs x (step k c items ∷ acts) y runs rise st =
      let these = cycles_of (record { 0 = c }) (batches items) in
      let whole = sym (append_assoc cs these (cycles_by acts)) in
      let rise_all = subst (λ z. RiseFrom 0 (accepted z)) whole rise in
      let rise_these = rise-left 0 (accepted (cs ++ these)) (accepted (cycles_by acts)) (subst (RiseFrom 0) (accepted-append (cs ++ these) (cycles_by acts)) rise_all) in
      let next = steps env name asked cs c items x runs.0 runs.1.advanced_so rise_these (items-named k [] items tt runs.1.right) st in
      subst (λ z. Stands env name asked z y) (sym whole) (acts-stand steps drains env asked (cs ++ these) runs.0 acts y runs.2 rise_all next)
  acts-stand steps drains env asked cs x (loan out ∷ acts) y runs rise st =
      acts-stand steps drains env asked cs runs.0 acts y runs.2 rise (drains env name asked cs out x runs.0 runs.1 st)
