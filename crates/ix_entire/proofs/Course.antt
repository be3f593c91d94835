-- The course of the card over a whole run: its lines fit the wire list.
use Rattle.std.proofs.Common.{◌≡◌, ◌+◌, ◌<◌, ◌≤◌, ℕ, suc, List, [], ◌∷◌, ◌++◌, length, get_or, fold, map, true, refl, ap, sym, subst, ◌∙◌, arith, append_assoc, append-nil, length-append}
use Rattle.std.specs.List.{AllByRecursion}
use Rattle.std.proofs.lemmas.List.{get_or-map, length-map}
use Rattle.std.proofs.lemmas.List.Elements.{recursion_from_All}
use Rattle.std.proofs.lemmas.List.Sums.{fold-append}
use Rattle.ix_appdef.specs.declared.application.Application.{Application}
use Rattle.ix_groupdef.specs.declared.env.Env.{Env}
use Rattle.ix_conf.specs.Settings.{Settings}
use Rattle.ix_lines.specs.declared.types.ConnectLine.{ConnectLine}
use Rattle.ix_lines.specs.declared.types.EntryLine.{EntryLine}
use Rattle.ix_lines.specs.declared.types.RingLine.{RingLine}
use Rattle.ix_lines.specs.declared.types.SettleLine.{SettleLine}
use Rattle.ix_nic.specs.declared.offer.Counts.{Counts}
use Rattle.ix_nic.specs.Cards.{CardView}
use Rattle.ix_nic.specs.Ports.{PortView}
use Rattle.ix_playdef.specs.Clock.{clock_after}
use Rattle.ix_wire.specs.declared.entry.Entry.{Entry}
use Rattle.ix_wire.specs.declared.entry.Entry.TheVariants as wire
use Rattle.ix_wire.specs.Entries.{IsThere, Terms, clock_by}
use Rattle.ix_feed.specs.Replays.{ReplayView, feed_view, left_of}
use Rattle.ix_feed.specs.Turns.{FeedBecame}
use Rattle.ix_fits.specs.Card.{fit_all, settles_after}
use Rattle.ix_core.specs.Settling.{CoreSettled, Settles}
use Rattle.ix_plainstack.specs.Stack.{owners_at}
use Rattle.ix_carried.specs.Course.{Course, IsSettled}
use Rattle.ix_carried.specs.Laws.{CoursesFit, HasOwnBuffer, IsOpening}
use Rattle.ix_fed.specs.Fed.{CoursesGoOn, MovesWithin}
use Rattle.ix_engine.specs.Courses.{HasRun, IsWireFor, first_replay}
use Rattle.ix_engine.specs.Openings.{StackCore}
use Rattle.ix_engine.specs.Steps.{Engine, EpochStep, EpochSteps, IsSettledBy, begun, ring_line}
use Rattle.ix_begun.specs.Begun.{IsInRange}
use Rattle.ix_entire.proofs.Lists.{an-element, behind, in-front}

-- ## A settle
no-counts : Counts
no-counts = record { posted = 0; frames = 0; items = 0 }

is-settled : (line : SettleLine) (card card' : CardView) (cores cores' : List StackCore) → IsSettledBy line card card' cores cores' → IsSettled line card card'
is-settled line card card' cores cores' by = record {
  table = so.table;
  count = so.ports;
  lines = ap length by.rings ∙ length-map by.report.rings.items ring_line ∙ so.rings_count ∙ sym count;
  rings = λ r d l lt. ring r d l (subst (λ n. r < n) count lt);
  no_items = λ r d lt. ap (λ (q : PortView). q.items) (settled r d (subst (λ n. r < n) count lt)).port_rest;
  no_frames = λ r d lt. ap (λ (q : PortView). q.frames) (settled r d (subst (λ n. r < n) count lt)).port_rest;
}
  where
    so : Settles owners_at by.report card card' cores cores'
    so = by.settles

    count : length card.ports ≡ length cores
    count = sym so.ports ∙ so.order.count ∙ so.count

    settled : (r : ℕ) (p : PortView) (lt : r < length cores)
        → CoreSettled (get_or card.ports r p) (get_or card'.ports r p) (get_or cores r (an-element cores r lt)) (get_or cores' r (an-element cores r lt))
    settled r p lt = so.each r p (an-element cores r lt) lt

    ring : (r : ℕ) (d : PortView) (l : RingLine) → r < length cores
        → get_or line.rings r l ≡ record { posted = (get_or card'.ports r d).posted; frames = (get_or card.ports r d).frames; items = (get_or card.ports r d).items }
    ring r d l lt =
        ap (λ (ls : List RingLine). get_or ls r l) by.rings
        ∙ get_or-map ring_line by.report.rings.items r no-counts l (subst (λ n. r < n) (sym so.rings_count) lt)
        ∙ ap ring_line (so.rings r d no-counts lt)
        ∙ ap (λ (n : ℕ). (let one : RingLine = record { posted = n; frames = (get_or card.ports r d).frames; items = (get_or card.ports r d).items } in one))
        (sym (ap (λ (q : PortView). q.posted) (settled r d lt).port_rest))

-- ## Moves
move-within : (x : Terms) (n : ℕ) → x.cores ≡ n → (e : Entry) → IsThere x e → MovesWithin n e
move-within x n is (wire.Frame rec) there = tt
move-within x n is (wire.Time t) there = tt
move-within x n is (wire.Tag group) there = tt
move-within x n is (wire.Move group to) there = subst (λ m. to.0 < m) is there.1
move-within x n is wire.Settle there = tt

moves-within : (x : Terms) (n : ℕ) → x.cores ≡ n → (es : List Entry) → AllByRecursion (IsThere x) es → AllByRecursion (MovesWithin n) es
moves-within x n is [] all = tt
moves-within x n is (e ∷ es) all = (move-within x n is e all.0, moves-within x n is es all.1)

-- ## The course
course-length : (frames : List (List ℕ)) (clock w : ℕ) (xs : List Entry) (ys : List EntryLine) (ss : List SettleLine) (a b : CardView) → Course frames clock w xs ys ss a b → length ys ≡ length xs
course-length frames clock w [] [] ss a b course = refl
course-length frames clock w [] (y ∷ ys) ss a b course = absurd course
course-length frames clock w (x ∷ xs) [] ss a b course = absurd course
course-length frames clock w (x ∷ xs) (y ∷ ys) ss a b course = ap suc (course-length frames (clock_after clock x) (suc w) xs ys (settles_after y ss) course.1 b course.2.2)

-- Behind these settles the card has come so far on its course, from the opening on.
record OnCourse (frames : List (List ℕ)) (entries : List Entry) (cores : ℕ) (opened : CardView) (settles : List SettleLine) (x : Engine) : Type 0 where
  before : List Entry
  split : entries ≡ before ++ left_of x.replay
  entries_are : x.replay.entries ≡ entries
  frames_are : x.replay.frames ≡ frames
  clock : x.replay.clock ≡ fold clock_by 0 before
  ports : length x.card.ports ≡ cores
  course : Course frames 0 0 before x.replay.lines settles opened x.card

at-first : (frames : List (List ℕ)) (entries : List Entry) (cores : ℕ) (x : Engine) → x.replay ≡ first_replay entries frames → length x.card.ports ≡ cores → OnCourse frames entries cores x.card [] x
at-first frames entries cores x is count = record {
  before = [];
  split = ap (λ (r : ReplayView). left_of r) (sym is);
  entries_are = ap (λ (r : ReplayView). r.entries) is;
  frames_are = ap (λ (r : ReplayView). r.frames) is;
  clock = ap (λ (r : ReplayView). r.clock) is;
  ports = count;
  course = subst (λ (ls : List EntryLine). Course frames 0 0 [] ls [] x.card x.card) (sym (ap (λ (r : ReplayView). r.lines) is))
      (refl, record { table = refl; count = refl; rings = λ r d lt. record { items = refl; frames = refl; posted = refl } });
}

module _ (go : CoursesGoOn) (s : Settings) (frames : List (List ℕ)) (entries : List Entry) (is_wire : IsWireFor s frames entries) (env : Env Application) (opened : CardView) where
  abbrev At : List SettleLine → Engine → Type 0
  At settles x = OnCourse frames entries s.cores opened settles x

  one-more : (x y : Engine) (settles : List SettleLine) (line : SettleLine) → At settles x → EpochStep env x y line → At (settles ++ line ∷ []) y
  one-more x y settles line at step = record {
    before = at.before ++ fed.carried;
    split = all;
    entries_are = fed.entries ∙ at.entries_are;
    frames_are = fed.frames ∙ at.frames_are;
    clock = fed.clock ∙ ap (λ (t : ℕ). fold clock_by t fed.carried) at.clock ∙ sym (fold-append clock_by 0 at.before fed.carried);
    ports = settled.count ∙ fed.rings.count ∙ at.ports;
    course = subst (λ (fs : List (List ℕ)). Course fs 0 0 (at.before ++ fed.carried) y.replay.lines (settles ++ line ∷ []) opened y.card) at.frames_are
        (go at.before x.replay.lines settles opened (feed_view x.card (begun x.replay)) (feed_view step.card y.replay) y.card line
        (course-length frames 0 0 at.before x.replay.lines settles opened x.card at.course) refl at.clock refl step.ran.over.ended.0
        (subst (λ (fs : List (List ℕ)). Course fs 0 0 at.before x.replay.lines settles opened x.card) (sym at.frames_are) at.course) fed moves settled);
  }
    where
      fed : FeedBecame (feed_view x.card (begun x.replay)) (feed_view step.card y.replay)
      fed = step.ran.feed

      settled : IsSettled line step.card y.card
      settled = is-settled line step.card y.card step.cores y.cores step.settled

      all : entries ≡ (at.before ++ fed.carried) ++ left_of y.replay
      all = at.split ∙ ap (λ (es : List Entry). at.before ++ es) fed.left ∙ sym (append_assoc at.before fed.carried (left_of y.replay))

      there : AllByRecursion (IsThere is_wire.terms) ((at.before ++ fed.carried) ++ left_of y.replay)
      there = subst (λ (es : List Entry). AllByRecursion (IsThere is_wire.terms) es) all (recursion_from_All (IsThere is_wire.terms) entries is_wire.is.so_far.there)

      moves : AllByRecursion (MovesWithin (length x.card.ports)) fed.carried
      moves =
          moves-within is_wire.terms (length x.card.ports) (is_wire.cores ∙ sym at.ports) fed.carried
          (behind (IsThere is_wire.terms) at.before fed.carried (in-front (IsThere is_wire.terms) (at.before ++ fed.carried) (left_of y.replay) there))

  to-the-end : (x y : Engine) (settles lines : List SettleLine) → At settles x → EpochSteps env x lines y → At (settles ++ lines) y
  to-the-end x y settles [] at steps = subst (λ (e : Engine). At (settles ++ []) e) (sym steps) (subst (λ (ss : List SettleLine). At ss x) (sym (append-nil settles)) at)
  to-the-end x y settles (line ∷ lines) at steps =
      subst (λ (ss : List SettleLine). At ss y) (append_assoc settles (line ∷ []) lines)
      (to-the-end steps.0 y (settles ++ line ∷ []) lines (one-more x steps.0 settles line at steps.1.0) steps.1.1)

none-left : (xs left : List Entry) → length (xs ++ left) ≤ length xs → xs ++ left ≡ xs
none-left xs [] few = append-nil xs
none-left xs (e ∷ left) few = absurd (omega (arith, few, length-append xs (e ∷ left)))

all-out : (frames : List (List ℕ)) (entries : List Entry) (cores : ℕ) (opened : CardView) (settles : List SettleLine) (y : Engine) → (at : OnCourse frames entries cores opened settles y)
    → length y.replay.entries ≤ length y.replay.lines → at.before ≡ entries
all-out frames entries cores opened settles y at out =
    let few : length (at.before ++ left_of y.replay) ≤ length at.before =
    omega (arith, out, ap length at.entries_are, ap length at.split, course-length frames 0 0 at.before y.replay.lines settles opened y.card at.course) in
    sym (at.split ∙ none-left at.before (left_of y.replay) few)

-- The lines of a run fit the wire list, where each accepted frame is in a buffer of its ring's core.
pub card-fits : CoursesGoOn → CoursesFit
    → (s : Settings) (frames : List (List ℕ)) (entries : List Entry) (env : Env Application) (connects : List ConnectLine) (settles : List SettleLine) (y : Engine)
    → IsInRange s → IsWireFor s frames entries → (run : HasRun s frames entries env connects settles y) → IsOpening s run.line run.first.card
    → AllByRecursion (HasOwnBuffer s.buffers) y.replay.lines → fit_all s frames entries y.replay.lines settles ≡ true
card-fits go fit s frames entries env connects settles y range is_wire run opening own =
    let at : OnCourse frames entries s.cores run.first.card run.lines y =
    to-the-end go s frames entries is_wire env run.first.card run.first y [] run.lines (at-first frames entries s.cores run.first run.begins.replay opening.count) run.steps in
    let course : Course frames 0 0 entries y.replay.lines run.lines run.first.card y.card =
    subst (λ (es : List Entry). Course frames 0 0 es y.replay.lines run.lines run.first.card y.card) (all-out frames entries s.cores run.first.card run.lines y at run.out) at.course in
    subst (λ (ss : List SettleLine). fit_all s frames entries y.replay.lines ss ≡ true) (sym run.settles_are)
    (fit s frames entries y.replay.lines run.line run.lines run.first.card y.card range.some range.live is_wire.is.so_far.count opening course own)
