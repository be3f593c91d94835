-- The settles of a play, one after the other: one group.
use Rattle.std.proofs.Common.{◌≡◌, ℕ, ◌<◌, ◌≤◌, Bool, true, false, List, [], ◌∷◌, ◌++◌, map, fold, length, refl, sym, ap, ◌∙◌, subst, arith, append_assoc, append-nil, inr, suc}
use Rattle.std.specs.Prelude.{◌==◌, if◌then◌else◌, nat_lt, Option, Some, None, filter}
use Rattle.std.specs.List.{AllByRecursion}
use Rattle.std.proofs.lemmas.List.{map-append}
use Rattle.ix_base.specs.declared.id.TheConstants.{FLOW_GROUPS}
use Rattle.ix_mbuf.specs.Buffers.{Buffer}
use Rattle.ix_desk.specs.declared.unit.DeskItem.TheVariants.{Work as Stepped, Tag, Cut, Start}
use Rattle.ix_desk.specs.Desks.{group_at}
use Rattle.ix_desk.specs.Groups.{at_home, empty}
use Rattle.ix_desk.specs.Views.{Group, View, Piece}
use Rattle.ix_order.specs.Ends.{PiecesEnd}
use Rattle.ix_order.specs.Pieces.{core_in, opened_by, opening}
use Rattle.ix_order.specs.Stages.{behind_by}
use Rattle.ix_order.specs.Wire.{Entry, Table, moves, entries}
use Rattle.ix_order.specs.Steppers.{TagsAlternate}
use Rattle.ix_history.specs.Runs.{Runs}
use Rattle.ix_history.specs.Events.{RingItem, at_end, came, for_each, for_group}
use Rattle.ix_history.specs.Items.{came_from, gone_to, taken_in, told}
use Rattle.ix_history.specs.Join.{In, NowhereElse, Played, Joined}
use Rattle.ix_history.specs.Laws.{JoinLaw, SayTogether}
use Rattle.ix_deeds.specs.Acts.{names_by, IsRight}
use Rattle.ix_deeds.specs.Right.{AreRight, IsOpen, open_behind, tagged_behind}
use Rattle.ix_deeds.specs.Rings.{IsRingItemNamed, RingsAreRight, tenure_at}
use Rattle.ix_deeds.specs.Going.{AllDesksStay, AreBounded, IsSeated, PiecesAreOpen, UnitsGoOn, WasDone, WentOn}
use Rattle.ix_stack.specs.declared.work.Work.{Work}
use Rattle.std.proofs.lemmas.Bool.Decides.{nat_tests}
use Rattle.ix_groupdef.specs.Env.{setting_of}
use Rattle.ix_groupdef.specs.Record.{record_of}
use Rattle.ix_groupdef.specs.Group.{Cycle, run}
use Rattle.ix_groupdef.specs.Places.{accepted, RiseFrom}
use Rattle.ix_lines.specs.declared.types.EntryLine.{EntryLine}
use Rattle.ix_lines.specs.declared.types.EntryLine.TheVariants as lines
use Rattle.ix_reta.specs.Table.{opening_core}
use Rattle.ix_fits.specs.Alone.{AllAreStepped, HasCore}
use Rattle.ix_fits.specs.Owners.{below, waiting}
use Rattle.ix_fits.specs.Card.{entry_of, opening_table}
use Rattle.ix_fits.specs.Cutting.{Due, IsCutting, dues, first_stage, frames_due, reach, stage_after}
use Rattle.ix_fits.specs.Stepping.{StepsAsNamed, SteppingLaw, steps_named}
use Rattle.ix_plainstack.specs.Batches.{is_frame_work, work_number}
use Rattle.ix_plainstack.specs.Stack.{Stack, Advances, Drains}
use Rattle.ix_plainstack.specs.Standing.{DrainsStand, Stands, StepsStand, numbers_of}
use Rattle.ix_desk.specs.Pieces.{ready}
use Rattle.ix_settled.proofs.Ending.{alternate-left, named-still, waiting-still}
use Rattle.ix_settled.proofs.Waiting.{IsOf, frames_at, from_test, items-are, items-named, rest-is, waits-are}
use Rattle.ix_settled.specs.Cuts.{AreCut, GroupsLeave, IsCut, StandsAt, cycles_at, has_stepper, stepped_dues, frames_among}
use Rattle.ix_settled.specs.Moments.{AreTold, AtSettle, GoesOn, HasRecord, IsOpened, IsRingItemTold, Moment, Opening, Settled, StackEvent, StackHappened, stack_steps}
use Rattle.ix_settled.proofs.Dues.{due_at, dues-are, self-test, test-eq, stage_at, told-is, work_of}
use Rattle.ix_settled.proofs.Numbers.{all-left, all-more, cancel, below_test}
use Rattle.ix_settled.proofs.Settles.{settles-same}
use Rattle.ix_settled.proofs.Cutting.{HasSettles, acts-cut, acts-stand, acts-steps, cut-append, cut-frames, cycles_by}
use Rattle.ix_settled.proofs.Below.{below-is, frames-rise, later-numbers, named-below, named-rise, number_due, numbers-due, entries-rise, named-numbers, firsts, reach-grows}

-- ## Members and histories
in-right : {X : Type 0} (x : X) (xs ys : List X) → In x ys → In x (xs ++ ys)
in-right x [] ys i = i
in-right x (z ∷ xs) ys i = inr (in-right x xs ys i)

-- what stands right behind other items, and in front of others
right-behind : {I : Type 0} (name : I → ℕ) (tenure_of : ℕ → ℕ) (named : ℕ → I) (g : ℕ) (o : Option ℕ) (f : Bool) (xs ys : List (RingItem I)) → AreRight name tenure_of named g o f (xs ++ ys)
    → AreRight name tenure_of named g (open_behind name g o xs) (tagged_behind name g f xs) ys
right-behind name tenure_of named g o f [] ys right = right
right-behind name tenure_of named g o f (x ∷ xs) ys right = right-behind name tenure_of named g (opened_by g o (told name x)) (behind_by g f (told name x)) xs ys right.1

right-front : {I : Type 0} (name : I → ℕ) (tenure_of : ℕ → ℕ) (named : ℕ → I) (g : ℕ) (o : Option ℕ) (f : Bool) (xs ys : List (RingItem I)) → AreRight name tenure_of named g o f (xs ++ ys)
    → AreRight name tenure_of named g o f xs
right-front name tenure_of named g o f [] ys right = tt
right-front name tenure_of named g o f (x ∷ xs) ys right = (right.0, right-front name tenure_of named g (opened_by g o (told name x)) (behind_by g f (told name x)) xs ys right.1)

abbrev Joins : Type 0
Joins = JoinLaw is_frame_work work_number stack_steps Advances Drains

abbrev Goes : Type 0
Goes = UnitsGoOn is_frame_work work_number stack_steps Advances Drains

abbrev Stays : Type 0
Stays = AllDesksStay is_frame_work work_number stack_steps Advances Drains

abbrev Opens : Type 0
Opens = PiecesAreOpen is_frame_work work_number stack_steps Advances Drains

abbrev Names : Type 0
Names = SteppingLaw is_frame_work work_number stack_steps Advances Drains

-- the laws that it rests on
pub record Laws : Type 0 where
  pub ends : PiecesEnd
  pub say : SayTogether Stack Work (List Buffer)
  pub join : Joins
  pub go : Goes
  pub stay : Stays
  pub opens : Opens
  pub rings : RingsAreRight Work work_number
  pub naming : Names
  pub steps : StepsStand
  pub drains : DrainsStand

module _ (laws : Laws) (p : Opening) (g : ℕ) (group : g < FLOW_GROUPS) (opened : IsOpened p) (top : Moment) (top_at : AtSettle p top) (told_all : AreTold p top) where
  abbrev t : Table
  t = opening_table p.live

  abbrev all : List EntryLine
  all = top.done

  abbrev tenure_of : ℕ → ℕ
  tenure_of = tenure_at g (map entry_of all)

  abbrev named : ℕ → Work
  named = work_of p.frames p.name all

  abbrev due : ℕ × ℕ → Due
  due s = due_at p.frames p.name all g s

  abbrev names_at : List EntryLine → List (ℕ × ℕ)
  names_at done = steps_named g t (map entry_of done)

  abbrev dues_at : List EntryLine → List Due
  dues_at done = stepped_dues p.frames g (opening_core p.live g).0 done

  -- ## What the cores took
  item-named : (x : RingItem Work) → IsRingItemTold p.frames p.name all x → IsRingItemNamed work_number named x
  item-named (for_group h (Stepped x)) told = told-is p.frames p.name all x told
  item-named (for_group h Tag) told = tt
  item-named (for_group h (Cut to)) told = tt
  item-named (for_group h (Start k)) told = tt
  item-named (for_each x) told = told-is p.frames p.name all x told
  item-named at_end told = tt

  all-taken : (c : ℕ) → c < p.cores → AreRight work_number tenure_of named g (opening g c t) false (taken_in (top.history c))
  all-taken c lt =
      laws.rings named g c t (map entry_of all) (taken_in (top.history c)) refl (top_at.alternate g group) (top_at.played.items c lt)
      (all-more (IsRingItemTold p.frames p.name all) (IsRingItemNamed work_number named) (taken_in (top.history c)) item-named (told_all.items c lt))

  -- ## A moment of the play
  -- what is still to come
  pub record IsBefore (done : List EntryLine) (h : ℕ → List StackEvent) : Type 0 where
    pub later : List EntryLine
    pub all_is : all ≡ done ++ later
    pub rest : ℕ → List StackEvent
    pub history_is : (c : ℕ) → c < p.cores → top.history c ≡ h c ++ rest c

  -- where the unit is, and what it stands for
  pub record At (done : List EntryLine) (h : ℕ → List StackEvent) (y : ℕ → View Stack Work) (cs : List Cycle) : Type 0 where
    pub core : ℕ
    pub place : core ≡ core_in g (moves g (map entry_of done)) t (map entry_of done)
    pub unit : Stack
    pub seat : IsSeated work_number tenure_of named p.cores g y core unit
    pub names : unit.steps ≡ names_at done
    pub stands : Stands p.env p.name (p.asked g) cs unit
    pub cut : IsCutting p.batch (dues_at done) cs
    pub alternate : TagsAlternate g false (map entry_of done)
    pub runs : (c : ℕ) → c < p.cores → Runs (StackHappened p.env) (p.desks c) (h c) (y c)
    pub mesh : (c d : ℕ) → c < p.cores → d < p.cores → gone_to d (h c) ≡ came_from c (h d)
    pub rested : ready seat.piece ≡ []
    pub waits : waiting done g ≡ numbers_of (frames_among seat.piece.behind)

  -- the dues at a moment, by their numbers and cores
  dues-named : (done later : List EntryLine) → all ≡ done ++ later → dues_at done ≡ map due (names_at done)
  dues-named done later is =
      let records = all-left (HasRecord p.frames) done later (subst (AllByRecursion (HasRecord p.frames)) is told_all.records) in
      let own = dues-are p.frames p.name g (opening_core p.live g).0 [] done later first_stage 0 refl refl records in
      own ∙ ap (λ (z : List EntryLine). map (due_at p.frames p.name z g) (names_at done)) (sym is)

  -- items that are right are those of their entries
  right-of : (k : ℕ) (items : List Work) → AllByRecursion (IsRight work_number tenure_of named (suc k)) items → AllByRecursion (IsOf p.frames p.name all) items
  right-of k items right = all-more (IsRight work_number tenure_of named (suc k)) (IsOf p.frames p.name all) items (λ x r. r.is) right

  -- ## From one moment to the next
  record Step (done : List EntryLine) (cs : List Cycle) (m : Moment) : Type 0 where
    more : List Cycle
    at : At m.done m.history m.desks (cs ++ more)
    names : List (ℕ × ℕ)
    grown : names_at m.done ≡ names_at done ++ names
    cut : IsCutting p.batch (map due names) more

  module _ (done : List EntryLine) (h : ℕ → List StackEvent) (y : ℕ → View Stack Work) (cs : List Cycle) (was : At done h y cs) (m : Moment) (settle : AtSettle p m) (before : IsBefore m.done m.history)
      (entries_before : List EntryLine) (all_before : all ≡ done ++ entries_before) (more : ℕ → List StackEvent)
      (history : (c : ℕ) → c < p.cores → m.history c ≡ h c ++ more c) (runs : (c : ℕ) → c < p.cores → Runs (StackHappened p.env) (y c) (more c) (m.desks c))
      (bounds : (c : ℕ) → c < p.cores → AreBounded p.batch (more c)) (sigma : ℕ)
      (settles : (names : List (ℕ × ℕ)) → names_at m.done ≡ names_at done ++ names → AllByRecursion (HasSettles p.frames p.name all g sigma p.batch) names) where
    abbrev play : Played is_frame_work work_number stack_steps Advances Drains p.env p.cores t (map entry_of m.done) p.unit p.desks m.desks m.history
    play = settle.played

    opens-first : (c : ℕ) → c < p.cores → IsOpen (opening g c t) false (group_at (p.desks c) g).current
    opens-first c lt = subst (λ (z : Group Stack Work). IsOpen (opening g c t) false z.current) (sym (play.opens c g lt group)) (by_core (c == (t g).core))
      where
        by_core : (q : Bool) → IsOpen {U = Stack} {I = Work} (if q then Some (t g).tenure else None) false (if q then at_home (p.unit g) else empty).current
        by_core true = (refl, refl)
        by_core false = tt

    went-on : WentOn is_frame_work work_number stack_steps Advances Drains p.env tenure_of named p.batch p.cores g y m.desks more
        (λ c. open_behind work_number g (opening g c t) (taken_in (h c))) (λ c. tagged_behind work_number g false (taken_in (h c)))
    went-on = record {
      size = λ c lt. (laws.stay p.env (p.desks c) (y c) (h c) (was.runs c lt)).size ∙ play.size c lt;
      here = λ c lt. (laws.stay p.env (p.desks c) (y c) (h c) (was.runs c lt)).core ∙ play.here c lt;
      runs = runs;
      bounds = bounds;
      mesh = mesh;
      from = λ c d s lt i. play.from c d s lt (subst (In (came c s)) (sym (history d lt)) (in-right (came c s) (h d) (more d) i));
      is_open = λ c lt. laws.opens p.env g (p.desks c) (y c) (h c) (opening g c t) false (play.size c lt) group (was.runs c lt) (opens-first c lt);
      right = right;
    }
      where
        mesh : (c d : ℕ) → c < p.cores → d < p.cores → gone_to d (more c) ≡ came_from c (more d)
        mesh c d lt lu =
            let all_gone = ap (gone_to d) (sym (history c lt)) ∙ play.mesh c d lt lu ∙ ap (came_from c) (history d lu) in
            let joined = sym (laws.say.shipped d (h c) (more c)) ∙ all_gone ∙ laws.say.landed c (h d) (more d) in
            cancel (gone_to d (h c)) (gone_to d (more c)) (came_from c (more d)) (joined ∙ ap (λ xs. xs ++ came_from c (more d)) (sym (was.mesh c d lt lu)))

        right : (c : ℕ) → c < p.cores → AreRight work_number tenure_of named g (open_behind work_number g (opening g c t) (taken_in (h c))) (tagged_behind work_number g false (taken_in (h c))) (taken_in (more c))
        right c lt =
            let whole : taken_in (top.history c) ≡ taken_in (h c) ++ (taken_in (more c) ++ taken_in (before.rest c))
            = ap taken_in (before.history_is c lt) ∙ laws.say.items (m.history c) (before.rest c) ∙ ap (λ es. taken_in es ++ taken_in (before.rest c)) (history c lt)
            ∙ ap (λ xs. xs ++ taken_in (before.rest c)) (laws.say.items (h c) (more c)) ∙ append_assoc (taken_in (h c)) (taken_in (more c)) (taken_in (before.rest c)) in
            right-front work_number tenure_of named g _ _ (taken_in (more c)) (taken_in (before.rest c))
            (right-behind work_number tenure_of named g (opening g c t) false (taken_in (h c)) (taken_in (more c) ++ taken_in (before.rest c))
            (subst (AreRight work_number tenure_of named g (opening g c t) false) whole (all-taken c lt)))

    abbrev es : List Entry
    es = map entry_of m.done

    abbrev core : ℕ
    core = core_in g (moves g es) t es

    within : core < p.cores
    within = laws.ends.below p.cores g (moves g es) t es (play.core g group) play.names

    steps : StepsAsNamed is_frame_work work_number stack_steps Advances Drains g t es m.desks
    steps = laws.naming p.env p.cores g t es p.unit p.desks m.desks m.history play group (settle.alternate g group) (opened.steps g group)

    elsewhere : NowhereElse is_frame_work work_number stack_steps Advances Drains p.env p.cores g t es m.desks
    elsewhere = (laws.join p.env p.cores g t es p.unit p.desks m.desks m.history play group).1

    done-so : WasDone is_frame_work work_number stack_steps Advances Drains p.env tenure_of named p.batch was.unit steps.piece steps.unit
    done-so = laws.go p.env tenure_of named p.batch p.cores g y m.desks more _ _ group went-on was.core was.unit was.seat core steps.piece steps.unit within steps.is steps.there

    -- what waits
    joined : Joined is_frame_work work_number stack_steps Advances Drains p.env p.cores g t es (p.unit g) m.desks (λ c. taken_in (m.history c))
    joined = (laws.join p.env p.cores g t es p.unit p.desks m.desks m.history play group).0

    same-piece : joined.piece ≡ steps.piece
    same-piece = let e : Some joined.piece ≡ Some steps.piece = sym joined.is ∙ steps.is in cc

    same-unit : joined.last ≡ steps.unit
    same-unit = let e : Some joined.last ≡ Some steps.unit = sym joined.there ∙ ap (λ (q : Piece Stack Work). q.unit) same-piece ∙ steps.there in cc

    behind-names : map work_number steps.piece.behind ≡ filter (from_test (reach g m.done)) (entries g 0 es)
    behind-names =
        let front : map (λ (s : ℕ × ℕ). s.0) joined.last.steps ≡ filter (below_test (reach g m.done)) (entries g 0 es)
        = ap (λ (u : Stack). firsts u.steps) same-unit ∙ ap firsts steps.steps_are ∙ named-numbers g t m.done (settle.alternate g group) in
        let whole = joined.whole (opened.steps g group) in
        ap (λ (q : Piece Stack Work). map work_number q.behind) (sym same-piece)
        ∙ rest-is (reach g m.done) (entries g 0 es) (map (λ (s : ℕ × ℕ). s.0) joined.last.steps) (map work_number joined.piece.behind) (entries-rise g 0 es) whole front

    waits-behind : waiting m.done g ≡ numbers_of (frames_among steps.piece.behind)
    waits-behind =
        waits-are all g (reach g m.done) 0 [] m.done before.later before.all_is refl
        ∙ ap (frames_at all) (sym behind-names)
        ∙ items-are p.frames p.name all steps.piece.behind (right-of steps.piece.tenure steps.piece.behind done-so.waits.behind)

    grown : names_at m.done ≡ names_at done ++ names_by work_number done-so.acts
    grown = sym steps.steps_are ∙ acts-steps p.frames p.name all g sigma p.batch p.env was.unit done-so.acts steps.unit done-so.runs ∙ ap (λ xs. xs ++ names_by work_number done-so.acts) was.names

    cut-more : IsCutting p.batch (map due (names_by work_number done-so.acts)) (cycles_by done-so.acts)
    cut-more = acts-cut p.frames p.name all g sigma p.batch p.env was.unit done-so.acts steps.unit done-so.runs (settles (names_by work_number done-so.acts) grown)

    cut-all : IsCutting p.batch (dues_at m.done) (cs ++ cycles_by done-so.acts)
    cut-all =
        let is : dues_at m.done ≡ dues_at done ++ map due (names_by work_number done-so.acts)
        = dues-named m.done before.later before.all_is ∙ ap (map due) grown ∙ map-append due (names_at done) (names_by work_number done-so.acts)
        ∙ ap (λ ds. ds ++ map due (names_by work_number done-so.acts)) (sym (dues-named done entries_before all_before)) in
        subst (λ ds. IsCutting p.batch ds (cs ++ cycles_by done-so.acts)) (sym is) (cut-append p.batch (dues_at done) (map due (names_by work_number done-so.acts)) cs (cycles_by done-so.acts) was.cut cut-more)

    rises : RiseFrom 0 (accepted (cs ++ cycles_by done-so.acts))
    rises =
        subst (RiseFrom 0) (sym (cut-frames p.batch (dues_at m.done) (cs ++ cycles_by done-so.acts) cut-all ∙ ap frames_due (dues-named m.done before.later before.all_is)))
        (frames-rise p.frames p.name all g 0 (names_at m.done) (named-rise g t m.done (settle.alternate g group)))

    next-step : Step done cs m
    next-step = record {
      more = cycles_by done-so.acts;
      at = record {
        core = core;
        place = refl;
        unit = steps.unit;
        seat = record {
          within = within;
          piece = steps.piece;
          is = steps.is;
          there = steps.there;
          waits = done-so.waits;
          no_cut = elsewhere.no_cut;
          no_early = elsewhere.no_early;
          no_current = elsewhere.no_current;
        };
        names = steps.steps_are;
        stands = acts-stand p.frames p.name all g sigma p.batch laws.steps laws.drains p.env (p.asked g) cs was.unit done-so.acts steps.unit done-so.runs rises was.stands;
        cut = cut-all;
        alternate = settle.alternate g group;
        runs = play.runs;
        mesh = play.mesh;
        rested = subst (λ (q : Piece Stack Work). ready q ≡ []) same-piece joined.ready;
        waits = waits-behind;
      };
      names = names_by work_number done-so.acts;
      grown = grown;
      cut = cut-more;
    }

  -- ## All settles
  -- an earlier settle: its cycles are the first ones
  record IsOlder (done : List EntryLine) (cs : List Cycle) (m : Moment) : Type 0 where
    rest : List EntryLine
    done_is : done ≡ m.done ++ rest
    first : List Cycle
    later : List Cycle
    cs_are : cs ≡ first ++ later
    at : At m.done m.history m.desks first
    names : List (ℕ × ℕ)
    grown : names_at done ≡ names_at m.done ++ names
    cut : IsCutting p.batch (map due names) later

  record Reached (m : Moment) (ms : List Moment) : Type 0 where
    cs : List Cycle
    at : At m.done m.history m.desks cs
    older : AllByRecursion (IsOlder m.done cs) ms

  -- one settle more
  older-still : (done between done' : List EntryLine) (cs more : List Cycle) (names : List (ℕ × ℕ)) → done' ≡ done ++ between → names_at done' ≡ names_at done ++ names → IsCutting p.batch (map due names) more
      → (m : Moment) → IsOlder done cs m → IsOlder done' (cs ++ more) m
  older-still done between done' cs more names is grown cut m old = record {
    rest = old.rest ++ between;
    done_is = is ∙ ap (λ (z : List EntryLine). z ++ between) old.done_is ∙ append_assoc m.done old.rest between;
    first = old.first;
    later = old.later ++ more;
    cs_are = ap (λ z. z ++ more) old.cs_are ∙ append_assoc old.first old.later more;
    at = old.at;
    names = old.names ++ names;
    grown = grown ∙ ap (λ z. z ++ names) old.grown ∙ append_assoc (names_at m.done) old.names names;
    cut = subst (λ ds. IsCutting p.batch ds (old.later ++ more)) (sym (map-append due old.names names)) (cut-append p.batch (map due old.names) (map due names) old.later more old.cut cut);
  }

  -- ## The opening
  nothing-done : At [] (λ c. []) p.desks []
  nothing-done = record {
    core = (t g).core;
    place = refl;
    unit = p.unit g;
    seat = record {
      within = top_at.played.core g group;
      piece = record { tenure = 0; tagged = false; unit = Some (p.unit g); remote = []; local = []; behind = [] };
      is = ap (λ (z : Group Stack Work). z.current) (top_at.played.opens (t g).core g (top_at.played.core g group) group) ∙ here (((t g).core) == (t g).core) (self-test (t g).core);
      there = refl;
      waits = record { remote = tt; local = tt; behind = tt };
      no_cut = λ c lt. ap (λ (z : Group Stack Work). z.cut) (top_at.played.opens c g lt group) ∙ no-cut (c == (t g).core);
      no_early = λ c lt. ap (λ (z : Group Stack Work). z.early) (top_at.played.opens c g lt group) ∙ no-early (c == (t g).core);
      no_current = λ c lt other. ap (λ (z : Group Stack Work). z.current) (top_at.played.opens c g lt group) ∙ no-current (c == (t g).core) (differs c other);
    };
    names = opened.steps g group;
    stands = opened.stands g group;
    cut = none-due;
    alternate = tt;
    runs = λ c lt. refl;
    mesh = λ c d lt lu. refl;
    rested = refl;
    waits = refl;
  }
    where
      here : (q : Bool) → q ≡ true → (let z : Group Stack Work = if q then at_home (p.unit g) else empty in z.current) ≡ Some (record { tenure = 0; tagged = false; unit = Some (p.unit g); remote = []; local = []; behind = [] })
      here true e = refl
      here false e = absurd (cc)

      no-cut : (q : Bool) → (let z : Group Stack Work = if q then at_home (p.unit g) else empty in z.cut) ≡ []
      no-cut true = refl
      no-cut false = refl

      no-early : (q : Bool) → (let z : Group Stack Work = if q then at_home (p.unit g) else empty in z.early) ≡ []
      no-early true = refl
      no-early false = refl

      no-current : (q : Bool) → q ≡ false → (let z : Group Stack Work = if q then at_home (p.unit g) else empty in z.current) ≡ None
      no-current true e = absurd (cc)
      no-current false e = refl

      differs : (c : ℕ) → (c ≡ (t g).core → ⊥) → (c == (t g).core) ≡ false
      differs c other = by_test (c == (t g).core) refl
        where
          by_test : (q : Bool) → (c == (t g).core) ≡ q → q ≡ false
          by_test true e = absurd (other (test-eq c (t g).core e))
          by_test false e = refl

      none-due : dues_at [] ≡ []
      none-due = dues-named [] all refl

  -- the tags of a group at a settle before another
  none-more : (done : List EntryLine) → done ≡ [] → (names : List (ℕ × ℕ)) → names_at done ≡ [] ++ names → names ≡ []
  none-more done e names grown = sym grown ∙ ap names_at e

  -- ## The chain
  reached : (m : Moment) (ms : List Moment) → Settled p (m ∷ ms) → IsBefore m.done m.history → Reached m ms
  reached m [] settled before =
      let st = next-step [] (λ c. []) p.desks [] nothing-done m settled.settle before all refl m.history (λ c lt. refl) settled.settle.played.runs settled.bounds 0
      (λ names grown. subst (AllByRecursion (HasSettles p.frames p.name all g 0 p.batch)) (sym (none-more m.done settled.done names grown)) tt) in
      record { cs = st.more; at = st.at; older = tt }
  reached m (last ∷ ms) settled before =
      let on = settled.1 in
      let between = on.between ++ lines.Settle ∷ [] in
      let last_before : IsBefore last.done last.history = record {
        later = between ++ before.later;
        all_is = before.all_is ∙ ap (λ (z : List EntryLine). z ++ before.later) on.done ∙ append_assoc last.done between before.later;
        rest = λ c. on.more c ++ before.rest c;
        history_is = λ c lt. before.history_is c lt ∙ ap (λ es. es ++ before.rest c) (on.history c lt) ∙ append_assoc (last.history c) (on.more c) (before.rest c);
      } in
      let was = reached last ms settled.2 last_before in
      let sigma = (fold (stage_after g) first_stage last.done).settles in
      let st = next-step last.done last.history last.desks was.cs was.at m settled.0 before last_before.later last_before.all_is on.more on.history on.runs on.bounds sigma
      (λ names grown. have-settles names last m on was.at settled.0 before grown) in
      record {
        cs = was.cs ++ st.more;
        at = st.at;
        older = (
          record { rest = between; done_is = on.done; first = was.cs; later = st.more; cs_are = refl; at = was.at; names = st.names; grown = st.grown; cut = st.cut },
          all-more (IsOlder last.done was.cs) (IsOlder m.done (was.cs ++ st.more)) ms (older-still last.done between m.done was.cs st.more st.names on.done st.grown st.cut) was.older,
        );
      }
    where
      have-settles : (names : List (ℕ × ℕ)) (last m : Moment) (on : GoesOn p last m) {cs : List Cycle} → At last.done last.history last.desks cs → AtSettle p m → IsBefore m.done m.history
          → names_at m.done ≡ names_at last.done ++ names → AllByRecursion (HasSettles p.frames p.name all g (fold (stage_after g) first_stage last.done).settles p.batch) names
      have-settles names last m on at settle before grown =
          let between = on.between ++ lines.Settle ∷ [] in
          let alternate = subst (λ (z : List EntryLine). TagsAlternate g false (map entry_of z)) on.done (settle.alternate g group) in
          let numbers = later-numbers g t last.done between names at.alternate alternate (ap names_at (sym on.done) ∙ grown) in
          all-more (λ (s : ℕ × ℕ). (reach g last.done ≤ s.0) × (s.0 < length (last.done ++ between))) (HasSettles p.frames p.name all g (fold (stage_after g) first_stage last.done).settles p.batch) names
          (λ s at. ap (λ (z : List EntryLine). (stage_at g z s.0).settles) (before.all_is ∙ ap (λ (z : List EntryLine). z ++ before.later) on.done)
          ∙ settles-same g s.0 last.done on.between before.later on.no_settle at.0 at.1)
          numbers

  -- ## The cutting
  names-less : (done later : List EntryLine) → all ≡ done ++ later → TagsAlternate g false (map entry_of done) → AllByRecursion (λ (d : Due). number_due d < reach g done) (dues_at done)
  names-less done later is alternate =
      subst (AllByRecursion (λ (d : Due). number_due d < reach g done)) (sym (dues-named done later is))
      (numbers-due p.frames p.name all g (λ v. v < reach g done) (names_at done) (named-below g t done alternate))

  -- what stands below a number between these cycles and the later ones
  at-number : (r : ℕ) (m : Moment) (first later total : List Cycle) (names : List (ℕ × ℕ)) → total ≡ first ++ later → IsCutting p.batch (dues_at m.done) first → AllByRecursion (λ (d : Due). number_due d < r) (dues_at m.done)
      → IsCutting p.batch (map due names) later → AllByRecursion (λ (s : ℕ × ℕ). r ≤ s.0) names → below r total ≡ first
  at-number r m first later total names is cut less cut_later far =
      ap (below r) is ∙ below-is p.batch r (dues_at m.done) (map due names) first later cut less cut_later (numbers-due p.frames p.name all g (λ v. r ≤ v) names far)

  -- the numbers before the settle itself
  still-less : (m : Moment) (later : List EntryLine) → all ≡ m.done ++ later → TagsAlternate g false (map entry_of m.done) → (done : List EntryLine) → m.done ≡ done ++ lines.Settle ∷ []
      → AllByRecursion (λ (d : Due). number_due d < reach g done) (dues_at m.done)
  still-less m later is alternate done last =
      let these : names_at m.done ≡ names_at done = ap names_at last ∙ named-still g t done in
      let so = subst (λ (z : List EntryLine). TagsAlternate g false (map entry_of z)) last alternate in
      let before = alternate-left g false (map entry_of done) (map entry_of (lines.Settle ∷ [])) (subst (TagsAlternate g false) (map-append entry_of done (lines.Settle ∷ [])) so) in
      subst (AllByRecursion (λ (d : Due). number_due d < reach g done)) (sym (dues-named m.done later is))
      (numbers-due p.frames p.name all g (λ v. v < reach g done) (names_at m.done)
      (subst (AllByRecursion (λ (s : ℕ × ℕ). s.0 < reach g done)) (sym these) (named-below g t done before)))

  stands-at : (m : Moment) (rest : List EntryLine) → all ≡ m.done ++ rest → (first later total : List Cycle) (names : List (ℕ × ℕ)) → At m.done m.history m.desks first → total ≡ first ++ later
      → IsCutting p.batch (map due names) later → AllByRecursion (λ (s : ℕ × ℕ). reach g m.done ≤ s.0) names → StandsAt p total g m
  stands-at m rest all_is first later total names at whole cut_later far =
      let is : cycles_at total g m.done ≡ first = at-number (reach g m.done) m first later total names whole at.cut (names-less m.done rest all_is at.alternate) cut_later far in
      record {
        core = at.core;
        place = at.place;
        within = at.seat.within;
        piece = at.seat.piece;
        is = at.seat.is;
        unit = at.unit;
        there = at.seat.there;
        stands = subst (λ cs. Stands p.env p.name (p.asked g) cs at.unit) (sym is) at.stands;
        cut = subst (IsCutting p.batch (dues_at m.done)) (sym is) at.cut;
        ready = at.rested;
        waits = at.waits;
        named = items-named p.frames p.name all at.seat.piece.behind (right-of at.seat.piece.tenure at.seat.piece.behind at.seat.waits.behind);
        still = λ done last. (
          at-number (reach g done) m first later total names whole at.cut (still-less m rest all_is at.alternate done last) cut_later
              (all-more (λ (s : ℕ × ℕ). reach g m.done ≤ s.0) (λ (s : ℕ × ℕ). reach g done ≤ s.0) names
              (λ s le. let grows = reach-grows g done (lines.Settle ∷ []) in let same = ap (reach g) last in omega (arith, le, grows, same)) far) ∙ sym is,
          waiting-still g done ∙ ap (λ (z : List EntryLine). waiting z g) (sym last),
        );
        no_cut = at.seat.no_cut;
        no_early = at.seat.no_early;
        no_current = at.seat.no_current;
      }

  last-cycles : (cs : List Cycle) → At top.done top.history top.desks cs → cycles_at cs g top.done ≡ cs
  last-cycles cs at = at-number (reach g top.done) top cs [] cs [] (sym (append-nil cs)) at.cut (names-less top.done [] (sym (append-nil top.done)) at.alternate) refl tt

  older-stands : (cs : List Cycle) (m : Moment) → IsOlder top.done cs m → StandsAt p cs g m
  older-stands cs m old =
      let alternate = subst (λ (z : List EntryLine). TagsAlternate g false (map entry_of z)) old.done_is (top_at.alternate g group) in
      let numbers = later-numbers g t m.done old.rest old.names old.at.alternate alternate (ap names_at (sym old.done_is) ∙ old.grown) in
      stands-at m old.rest old.done_is old.first old.later cs old.names old.at old.cs_are old.cut
      (all-more (λ (s : ℕ × ℕ). (reach g m.done ≤ s.0) × (s.0 < length (m.done ++ old.rest))) (λ (s : ℕ × ℕ). reach g m.done ≤ s.0) old.names (λ s at. at.0) numbers)

  result : (ms : List Moment) → Settled p (top ∷ ms) → Reached top ms
  result ms settled = reached top ms settled (record { later = []; all_is = sym (append-nil top.done); rest = λ c. []; history_is = λ c lt. sym (append-nil (top.history c)) })

  cycles_of_group : (ms : List Moment) → Settled p (top ∷ ms) → List Cycle
  cycles_of_group ms settled = (result ms settled).cs

  group-is-cut : AllAreStepped → (ms : List Moment) (settled : Settled p (top ∷ ms)) → IsCut p (cycles_of_group ms settled) top ms g
  unfolding cycles_of_group
  group-is-cut stepped ms settled =
      let r = result ms settled in
      let last = last-cycles r.cs r.at in
      record {
        each = (stands-at top [] (sym (append-nil top.done)) r.cs [] r.cs [] r.at (sym (append-nil r.cs)) refl tt, all-more (IsOlder top.done r.cs) (StandsAt p r.cs g) ms (older-stands r.cs) r.older);
        last = last;
        all = λ closed. subst (λ ds. IsCutting p.batch ds r.cs) (all-kept (dues p.frames g (opening_core p.live g).0 top.done) (stepped p.frames g (opening_core p.live g).0 top.done closed)) r.at.cut;
      }
    where
      all-kept : (ds : List Due) → AllByRecursion HasCore ds → filter has_stepper ds ≡ ds
      all-kept [] h = refl
      all-kept (d ∷ ds) h = rw h.0 (ap (λ z. d ∷ z) (all-kept ds h.1))

-- ## All groups
below-groups : (g : ℕ) → nat_lt g FLOW_GROUPS ≡ true → g < FLOW_GROUPS
below-groups g e = grind (arith, nat_tests)

not-below : (g : ℕ) → nat_lt g FLOW_GROUPS ≡ false → g < FLOW_GROUPS → ⊥
not-below g e lt = grind (arith, nat_tests)

module _ (laws : Laws) (stepped : AllAreStepped) (p : Opening) (m : Moment) (ms : List Moment) (opened : IsOpened p) (settled : Settled p (m ∷ ms)) (told_all : AreTold p m) where
  last-settle : (ms : List Moment) → Settled p (m ∷ ms) → AtSettle p m
  last-settle [] s = s.settle
  last-settle (before ∷ rest) s = s.0

  abbrev cycles_if : (g : ℕ) (q : Bool) → nat_lt g FLOW_GROUPS ≡ q → List Cycle
  cycles_if g true e = cycles_of_group laws p g (below-groups g e) opened m (last-settle ms settled) told_all ms settled
  cycles_if g false e = []

  cut-if : (g : ℕ) (q : Bool) (e : nat_lt g FLOW_GROUPS ≡ q) → g < FLOW_GROUPS → IsCut p (cycles_if g q e) m ms g
  cut-if g true e lt = group-is-cut laws p g (below-groups g e) opened m (last-settle ms settled) told_all stepped ms settled
  cut-if g false e lt = absurd (not-below g e lt)

  pub are-cut : AreCut p m ms
  are-cut = record {
    cycles = λ g. cycles_if g (nat_lt g FLOW_GROUPS) refl;
    groups = λ g lt. cut-if g (nat_lt g FLOW_GROUPS) refl lt;
  }

pub groups-leave : GroupsLeave
groups-leave p cs m g s is = ap (record_of (setting_of p.env)) (s.stands.group ∙ ap (run (setting_of p.env) (p.asked g)) is)
