-- Which frames the journals of a group name, and which cycles their flushes end.
use Rattle.std.proofs.Common.{◌≡◌, ℕ, zero, suc, ◌<◌, ◌≤◌, refl, sym, ap, ◌∙◌, subst, Bool, true, false, List, [], ◌∷◌, ◌++◌, length, map, length-append, arith}
use Rattle.std.specs.Prelude.{◌&&◌, ◌||◌, ◌==◌, not, max, nat_lt, if◌then◌else◌, Option, Some, None, Result, Ok, Err}
use Rattle.std.specs.List.{AllByRecursion, list_any}
use Rattle.std.proofs.lemmas.Bool.{eq-eqb, ne_eqb}
use Rattle.ix_base.specs.declared.frame.Disposition.{Disposition}
use Rattle.ix_base.specs.declared.id.CoreId.{CoreId}
use Rattle.ix_base.specs.declared.id.Flow.{Flow}
use Rattle.ix_base.specs.declared.id.WireNo.{WireNo}
use Rattle.ix_base.specs.declared.segment.Seg.{Seg}
use Rattle.ix_groupdef.specs.declared.types.JournalEntry.{JournalEntry}
use Rattle.ix_groupdef.specs.declared.types.Taken.{Taken}
use Rattle.ix_groupdef.specs.declared.types.Turn.{Turn}
use Rattle.ix_groupdef.specs.Calls.{begun, call_if, calls_of, closes, is_empty, left_over, round, rounds, sends}
use Rattle.ix_groupdef.specs.Group.{Group, Cycle, Frames, Time, Connect, closed, connect, connect_all, connect_to, dialled, empty, flow_of_connect, has_room, heard, last_number, opened, read_of, rested, run_cycle, run_cycles, stray_of, strayed, take_as, take_frame, take_frames, take_segment, timer, turn_of}
use Rattle.ix_groupdef.specs.Laws.{IsRun}
use Rattle.ix_groupdef.specs.Life.{Life, entry_of, given, given_all, hears, outputs_of, unborn}
use Rattle.ix_groupdef.specs.Places.{RiseFrom}
use Rattle.ix_groupdef.specs.Rest.{ClosedStays}
use Rattle.ix_groupdef.specs.Setting.{Setting, drawn, mac_of, passive_iss}
use Rattle.ix_groupdef.specs.Strays.{asks_to_open, reply_to_segment, segment_kind}
use Rattle.ix_lines.specs.declared.types.ConnLine.{ConnLine}
use Rattle.ix_tcpdef.specs.Flush.{is_due}
use Rattle.ix_tcpdef.specs.declared.types.Ask.{Ask}
use Rattle.ix_tcpdef.specs.declared.types.Ask.TheVariants as asks
use Rattle.ix_tcpdef.specs.declared.types.Input.{Input}
use Rattle.ix_tcpdef.specs.declared.types.Input.TheVariants as inputs
use Rattle.ix_fits.specs.Read.{is_flushed, is_heard}
use Rattle.ix_fits.proofs.Reader.{EndsFlushed, Marked, MarkedBy}
use Rattle.ix_fits.proofs.ReadLines.{IsEven, flushed_in, flushes_at, heard_in, hears_number, is_end, is_flush, is_segment_of, one_flushes, one_hears}
use Rattle.ix_fits.proofs.ReadSplit.{AtRest, IsUnder, last-cons, last-one, left-as, lives-stay, made_stray, takes, takes_as}

-- ## Tests
or_false : (b : Bool) → (b || false) ≡ b
or_false true = refl
or_false false = refl

or_true : (b : Bool) → (b || true) ≡ true
or_true true = refl
or_true false = refl

or_assoc : (a b c : Bool) → (a || (b || c)) ≡ ((a || b) || c)
or_assoc true b c = refl
or_assoc false b c = refl

and_false : (b : Bool) → (b && false) ≡ false
and_false true = refl
and_false false = refl

absorbed : (k q : Bool) → (q || (k && q)) ≡ q
absorbed k true = refl
absorbed k false = and_false k

either-heard : (a b h k q : Bool) → ((a || (h && q)) || (b || (k && q))) ≡ ((a || b) || ((h || k) && q))
either-heard true b h k q = refl
either-heard false true h k q = or_true (h && q)
either-heard false false true k q = absorbed k q
either-heard false false false k q = refl

any-one : {A : Type 0} (p : A → Bool) (xs : List A) (x : A) → list_any p (xs ++ x ∷ []) ≡ (list_any p xs || p x)
any-one p [] x = or_false (p x)
any-one p (y ∷ ys) x = ap (λ (b : Bool). p y || b) (any-one p ys x) ∙ or_assoc (p y) (list_any p ys) (p x)

-- ## What an input adds
heard-append : (w : ℕ) (es : List JournalEntry) (e : JournalEntry) → heard_in w (es ++ e ∷ []) ≡ (heard_in w es || is_segment_of w e.input)
heard-append w [] e = or_false (is_segment_of w e.input)
heard-append w (x ∷ xs) e = ap (λ (b : Bool). is_segment_of w x.input || b) (heard-append w xs e) ∙ or_assoc (is_segment_of w x.input) (heard_in w xs) (is_segment_of w e.input)

flushed-append : (w : ℕ) (es : List JournalEntry) (ends : List (Option WireNo)) (e : JournalEntry) (x : Option WireNo) → length es ≡ length ends
    → flushed_in w (es ++ e ∷ []) (ends ++ x ∷ []) ≡ (flushed_in w es ends || (is_flush e.input && is_end w x))
flushed-append w [] [] e x even = or_false (is_flush e.input && is_end w x)
flushed-append w [] (y ∷ ys) e x even = absurd (omega (arith, even))
flushed-append w (z ∷ zs) [] e x even = absurd (omega (arith, even))
flushed-append w (z ∷ zs) (y ∷ ys) e x even =
    ap (λ (b : Bool). (is_flush z.input && is_end w y) || b) (flushed-append w zs ys e x (omega (arith, even)))
    ∙ or_assoc (is_flush z.input && is_end w y) (flushed_in w zs ys) (is_flush e.input && is_end w x)

push-even : (es : List JournalEntry) (ends : List (Option WireNo)) (e : JournalEntry) (x : Option WireNo) → length es ≡ length ends → length (es ++ e ∷ []) ≡ length (ends ++ x ∷ [])
push-even es ends e x even = omega (arith, even, length-append es (e ∷ []), length-append ends (x ∷ []))

given-heard : (w : ℕ) (turn : Turn) (i : Input) (l : Life) → hears_number w (given turn i l) ≡ (hears_number w l || is_segment_of w i)
unfolding given
given-heard w turn i l = heard-append w l.journal (entry_of turn i (outputs_of turn i l))

given-flushes : (w : ℕ) (turn : Turn) (i : Input) (l : Life) → IsEven l → flushes_at w (given turn i l) ≡ (flushes_at w l || (is_flush i && is_end w turn.end))
unfolding given
given-flushes w turn i l even = flushed-append w l.journal l.ends (entry_of turn i (outputs_of turn i l)) turn.end even

given-even : (turn : Turn) (i : Input) (l : Life) → IsEven l → IsEven (given turn i l)
unfolding given
given-even turn i l even = push-even l.journal l.ends (entry_of turn i (outputs_of turn i l)) turn.end even

given-touched : (turn : Turn) (i : Input) (l : Life) → (given turn i l).touched ≡ true
unfolding given
given-touched turn i l = refl

-- ## Timers and calls add nothing
abbrev IsQuiet : Input → Type 0
IsQuiet (inputs.Segment w seg) = ⊥
IsQuiet inputs.Timer = Unit {0}
IsQuiet (inputs.Call ask) = Unit {0}
IsQuiet inputs.Flush = ⊥

quiet-heard : (w : ℕ) (i : Input) → IsQuiet i → is_segment_of w i ≡ false
quiet-heard w (inputs.Segment v seg) q = absurd q
quiet-heard w inputs.Timer q = refl
quiet-heard w (inputs.Call ask) q = refl
quiet-heard w inputs.Flush q = refl

quiet-flush : (i : Input) → IsQuiet i → is_flush i ≡ false
quiet-flush (inputs.Segment v seg) q = refl
quiet-flush inputs.Timer q = refl
quiet-flush (inputs.Call ask) q = refl
quiet-flush inputs.Flush q = absurd q

record Kept (w : ℕ) (l m : Life) : Type 0 where
  heard : hears_number w m ≡ hears_number w l
  flushes : flushes_at w m ≡ flushes_at w l
  even : IsEven m
  touched : l.touched ≡ true → m.touched ≡ true

kept-none : (w : ℕ) (l : Life) → IsEven l → Kept w l l
kept-none w l even = record { heard = refl; flushes = refl; even = even; touched = λ e. e }

kept-then : (w : ℕ) (l m n : Life) → Kept w l m → Kept w m n → Kept w l n
kept-then w l m n p q = record { heard = q.heard ∙ p.heard; flushes = q.flushes ∙ p.flushes; even = q.even; touched = λ e. q.touched (p.touched e) }

kept-given : (w : ℕ) (turn : Turn) (i : Input) (l : Life) → IsQuiet i → IsEven l → Kept w l (given turn i l)
kept-given w turn i l quiet even =
    record {
      heard = given-heard w turn i l ∙ ap (λ (b : Bool). hears_number w l || b) (quiet-heard w i quiet) ∙ or_false (hears_number w l);
      flushes = given-flushes w turn i l even ∙ ap (λ (b : Bool). flushes_at w l || (b && is_end w turn.end)) (quiet-flush i quiet) ∙ or_false (flushes_at w l);
      even = given-even turn i l even;
      touched = λ e. given-touched turn i l;
    }

kept-all : (w : ℕ) (turn : Turn) (is : List Input) (l : Life) → AllByRecursion IsQuiet is → IsEven l → Kept w l (given_all turn is l)
kept-all w turn [] l quiet even = kept-none w l even
kept-all w turn (i ∷ is) l quiet even =
    let one = kept-given w turn i l quiet.0 even in
    kept-then w l (given turn i l) (given_all turn is (given turn i l)) one (kept-all w turn is (given turn i l) quiet.1 one.even)

quiet-append : (xs ys : List Input) → AllByRecursion IsQuiet xs → AllByRecursion IsQuiet ys → AllByRecursion IsQuiet (xs ++ ys)
quiet-append [] ys p q = q
quiet-append (x ∷ xs) ys p q = (p.0, quiet-append xs ys p.1 q)

quiet-if : (b : Bool) (ask : Ask) → AllByRecursion IsQuiet (call_if b ask)
quiet-if true ask = (tt, tt)
quiet-if false ask = tt

quiet-calls : (over a b c d : Bool) (one two three four : Ask)
    → AllByRecursion IsQuiet (if over then [] else call_if a one ++ call_if b two ++ call_if c three ++ call_if d four)
quiet-calls true a b c d one two three four = tt
quiet-calls false a b c d one two three four =
    quiet-append (call_if a one ++ call_if b two ++ call_if c three) (call_if d four)
    (quiet-append (call_if a one ++ call_if b two) (call_if c three) (quiet-append (call_if a one) (call_if b two) (quiet-if a one) (quiet-if b two)) (quiet-if c three)) (quiet-if d four)

calls-quiet : (env : Setting) (l : Life) → AllByRecursion IsQuiet (calls_of env l)
unfolding calls_of
calls-quiet env l =
    quiet-calls l.talk.over l.talk.knocked (nat_lt 0 l.talk.bytes) (sends env l) (closes env l) asks.Accept (asks.RecvDone l.talk.bytes) (asks.Sendv (left_over env l)) asks.Close

kept-begun : (w : ℕ) (env : Setting) (l : Life) → IsEven l → Kept w l (begun env l)
kept-begun w env l even = record { heard = refl; flushes = refl; even = even; touched = λ e. e }

kept-round : (w : ℕ) (env : Setting) (turn : Turn) (l : Life) → IsEven l → Kept w l (round env turn l)
unfolding round
kept-round w env turn l even =
    kept-then w l (begun env l) (given_all turn (calls_of env l) (begun env l)) (kept-begun w env l even)
    (kept-all w turn (calls_of env l) (begun env l) (calls-quiet env l) even)

kept-rounds : (w : ℕ) (env : Setting) (turn : Turn) (n : ℕ) (l : Life) → IsEven l → Kept w l (rounds env turn n l)
unfolding rounds
kept-rounds w env turn zero l even = kept-none w l even
kept-rounds w env turn (suc n) l even =
    let one = kept-round w env turn l even in by_test (is_empty (calls_of env l)) one (kept-rounds w env turn n (round env turn l) one.even)
  where
    by_test : (b : Bool) → Kept w l (round env turn l) → Kept w (round env turn l) (rounds env turn n (round env turn l))
        → Kept w l (if b then round env turn l else rounds env turn n (round env turn l))
    by_test true one later = one
    by_test false one later = kept-then w l (round env turn l) (rounds env turn n (round env turn l)) one later

timer-quiet : (timed : Bool) (turn : Turn) (l : Life) → AllByRecursion IsQuiet (timer timed turn l)
timer-quiet timed turn l = by_test (timed && is_due l.connection.deadline turn.clock)
  where
    by_test : (b : Bool) → AllByRecursion IsQuiet (if b then inputs.Timer ∷ [] else [])
    by_test true = (tt, tt)
    by_test false = tt

-- ## The end of a cycle
abbrev worked : Setting → Bool → Turn → Life → Life
worked env timed turn l = rounds env turn 4 (given_all turn (timer timed turn l) l)

kept-worked : (w : ℕ) (env : Setting) (timed : Bool) (turn : Turn) (l : Life) → IsEven l → Kept w l (worked env timed turn l)
kept-worked w env timed turn l even =
    let one = kept-all w turn (timer timed turn l) l (timer-quiet timed turn l) even in
    kept-then w l (given_all turn (timer timed turn l) l) (worked env timed turn l) one (kept-rounds w env turn 4 (given_all turn (timer timed turn l) l) one.even)

abbrev ended_by : Bool → Turn → Life → Life
ended_by b turn l = rested (given_all turn (if b then inputs.Flush ∷ [] else []) l)

ended-heard : (w : ℕ) (b : Bool) (turn : Turn) (l : Life) → hears_number w (ended_by b turn l) ≡ hears_number w l
ended-heard w true turn l = given-heard w turn inputs.Flush l ∙ or_false (hears_number w l)
ended-heard w false turn l = refl

ended-other : (w : ℕ) (b : Bool) (turn : Turn) (l : Life) → IsEven l → is_end w turn.end ≡ false → flushes_at w (ended_by b turn l) ≡ flushes_at w l
ended-other w true turn l even e = given-flushes w turn inputs.Flush l even ∙ ap (λ (b : Bool). flushes_at w l || b) e ∙ or_false (flushes_at w l)
ended-other w false turn l even e = refl

ended-own : (w : ℕ) (turn : Turn) (l : Life) → IsEven l → is_end w turn.end ≡ true → flushes_at w (ended_by true turn l) ≡ true
ended-own w turn l even e = given-flushes w turn inputs.Flush l even ∙ ap (λ (b : Bool). flushes_at w l || b) e ∙ or_true (flushes_at w l)

ended-even : (b : Bool) (turn : Turn) (l : Life) → IsEven l → IsEven (ended_by b turn l)
ended-even true turn l even = given-even turn inputs.Flush l even
ended-even false turn l even = even

closed-heard : (w : ℕ) (env : Setting) (timed : Bool) (turn : Turn) (l : Life) → IsEven l → hears_number w (closed env timed turn l) ≡ hears_number w l
unfolding closed
closed-heard w env timed turn l even =
    let a : Life = worked env timed turn l in ended-heard w a.touched turn a ∙ (kept-worked w env timed turn l even).heard

closed-other : (w : ℕ) (env : Setting) (timed : Bool) (turn : Turn) (l : Life) → IsEven l → is_end w turn.end ≡ false → flushes_at w (closed env timed turn l) ≡ flushes_at w l
unfolding closed
closed-other w env timed turn l even e =
    let a : Life = worked env timed turn l in
    let kept = kept-worked w env timed turn l even in ended-other w a.touched turn a kept.even e ∙ kept.flushes

closed-own : (w : ℕ) (env : Setting) (timed : Bool) (turn : Turn) (l : Life) → IsEven l → l.touched ≡ true → is_end w turn.end ≡ true → flushes_at w (closed env timed turn l) ≡ true
unfolding closed
closed-own w env timed turn l even touched e =
    let a : Life = worked env timed turn l in
    let kept = kept-worked w env timed turn l even in
    ap (λ (b : Bool). flushes_at w (ended_by b turn a)) (kept.touched touched) ∙ ended-own w turn a kept.even e

closed-even : (env : Setting) (timed : Bool) (turn : Turn) (l : Life) → IsEven l → IsEven (closed env timed turn l)
unfolding closed
closed-even env timed turn l even =
    let a : Life = worked env timed turn l in ended-even a.touched turn a (kept-worked 0 env timed turn l even).even

-- of all connections
abbrev is_touched : Life → Bool
is_touched l = l.touched

abbrev one_touched : List Life → Bool
one_touched ls = list_any is_touched ls

pub all-heard : (w : ℕ) (env : Setting) (timed : Bool) (turn : Turn) (ls : List Life) → AllByRecursion IsEven ls → one_hears w (map (closed env timed turn) ls) ≡ one_hears w ls
all-heard w env timed turn [] even = refl
all-heard w env timed turn (l ∷ ls) even =
    ap (λ (b : Bool). b || one_hears w (map (closed env timed turn) ls)) (closed-heard w env timed turn l even.0)
    ∙ ap (λ (b : Bool). hears_number w l || b) (all-heard w env timed turn ls even.1)

all-other : (w : ℕ) (env : Setting) (timed : Bool) (turn : Turn) (ls : List Life) → AllByRecursion IsEven ls → is_end w turn.end ≡ false → one_flushes w (map (closed env timed turn) ls) ≡ one_flushes w ls
all-other w env timed turn [] even e = refl
all-other w env timed turn (l ∷ ls) even e =
    ap (λ (b : Bool). b || one_flushes w (map (closed env timed turn) ls)) (closed-other w env timed turn l even.0 e)
    ∙ ap (λ (b : Bool). flushes_at w l || b) (all-other w env timed turn ls even.1 e)

all-own : (w : ℕ) (env : Setting) (timed : Bool) (turn : Turn) (ls : List Life) → AllByRecursion IsEven ls → one_touched ls ≡ true → is_end w turn.end ≡ true
    → one_flushes w (map (closed env timed turn) ls) ≡ true
all-own w env timed turn [] even touched e = absurd (cc)
all-own w env timed turn (l ∷ ls) even touched e = by_touch l.touched refl (λ later. all-own w env timed turn ls even.1 later e)
  where
    by_touch : (b : Bool) → l.touched ≡ b → (one_touched ls ≡ true → one_flushes w (map (closed env timed turn) ls) ≡ true) → one_flushes w (map (closed env timed turn) (l ∷ ls)) ≡ true
    by_touch true is ih = ap (λ (b : Bool). b || one_flushes w (map (closed env timed turn) ls)) (closed-own w env timed turn l even.0 is e)
    by_touch false is ih =
        ap (λ (b : Bool). flushes_at w (closed env timed turn l) || b) (ih (sym (ap (λ (b : Bool). b || one_touched ls) is) ∙ touched))
        ∙ or_true (flushes_at w (closed env timed turn l))

all-even : (env : Setting) (timed : Bool) (turn : Turn) (ls : List Life) → AllByRecursion IsEven ls → AllByRecursion IsEven (map (closed env timed turn) ls)
all-even env timed turn [] even = tt
all-even env timed turn (l ∷ ls) even = (closed-even env timed turn l even.0, all-even env timed turn ls even.1)

-- ## A segment that a connection takes
hear-heard : (n : ℕ) (turn : Turn) (w : WireNo) (s : Seg) (l : Life) → hears_number n (heard turn w s l) ≡ (hears_number n l || (hears s.head.flow l && (w.0 == n)))
unfolding heard
hear-heard n turn w s l = by_test (hears s.head.flow l)
  where
    by_test : (b : Bool) → hears_number n (if b then given turn (inputs.Segment w s) l else l) ≡ (hears_number n l || (b && (w.0 == n)))
    by_test true = given-heard n turn (inputs.Segment w s) l
    by_test false = sym (or_false (hears_number n l))

hear-flushes : (n : ℕ) (turn : Turn) (w : WireNo) (s : Seg) (l : Life) → IsEven l → flushes_at n (heard turn w s l) ≡ flushes_at n l
unfolding heard
hear-flushes n turn w s l even = by_test (hears s.head.flow l)
  where
    by_test : (b : Bool) → flushes_at n (if b then given turn (inputs.Segment w s) l else l) ≡ flushes_at n l
    by_test true = given-flushes n turn (inputs.Segment w s) l even ∙ or_false (flushes_at n l)
    by_test false = refl

hear-even : (turn : Turn) (w : WireNo) (s : Seg) (l : Life) → IsEven l → IsEven (heard turn w s l)
unfolding heard
hear-even turn w s l even = by_test (hears s.head.flow l)
  where
    by_test : (b : Bool) → IsEven (if b then given turn (inputs.Segment w s) l else l)
    by_test true = given-even turn (inputs.Segment w s) l even
    by_test false = even

hear-touched : (turn : Turn) (w : WireNo) (s : Seg) (l : Life) → (hears s.head.flow l || l.touched) ≡ true → (heard turn w s l).touched ≡ true
unfolding heard
hear-touched turn w s l e = by_test (hears s.head.flow l) e
  where
    by_test : (b : Bool) → (b || l.touched) ≡ true → (if b then given turn (inputs.Segment w s) l else l).touched ≡ true
    by_test true f = given-touched turn (inputs.Segment w s) l
    by_test false f = f

hear-all-heard : (n : ℕ) (turn : Turn) (w : WireNo) (s : Seg) (ls : List Life) → one_hears n (map (heard turn w s) ls) ≡ (one_hears n ls || (list_any (hears s.head.flow) ls && (w.0 == n)))
hear-all-heard n turn w s [] = refl
hear-all-heard n turn w s (l ∷ ls) =
    ap (λ (b : Bool). b || one_hears n (map (heard turn w s) ls)) (hear-heard n turn w s l)
    ∙ ap (λ (b : Bool). (hears_number n l || (hears s.head.flow l && (w.0 == n))) || b) (hear-all-heard n turn w s ls)
    ∙ either-heard (hears_number n l) (one_hears n ls) (hears s.head.flow l) (list_any (hears s.head.flow) ls) (w.0 == n)

hear-all-flushes : (n : ℕ) (turn : Turn) (w : WireNo) (s : Seg) (ls : List Life) → AllByRecursion IsEven ls → one_flushes n (map (heard turn w s) ls) ≡ one_flushes n ls
hear-all-flushes n turn w s [] even = refl
hear-all-flushes n turn w s (l ∷ ls) even =
    ap (λ (b : Bool). b || one_flushes n (map (heard turn w s) ls)) (hear-flushes n turn w s l even.0)
    ∙ ap (λ (b : Bool). flushes_at n l || b) (hear-all-flushes n turn w s ls even.1)

hear-all-even : (turn : Turn) (w : WireNo) (s : Seg) (ls : List Life) → AllByRecursion IsEven ls → AllByRecursion IsEven (map (heard turn w s) ls)
hear-all-even turn w s [] even = tt
hear-all-even turn w s (l ∷ ls) even = (hear-even turn w s l even.0, hear-all-even turn w s ls even.1)

-- who hears it is touched, and who was touched stays so
hear-all-touched : (turn : Turn) (w : WireNo) (s : Seg) (ls : List Life) → list_any (λ (l : Life). hears s.head.flow l || l.touched) ls ≡ true → one_touched (map (heard turn w s) ls) ≡ true
hear-all-touched turn w s [] e = absurd (cc)
hear-all-touched turn w s (l ∷ ls) e = by_test (hears s.head.flow l || l.touched) refl (hear-all-touched turn w s ls)
  where
    by_test : (b : Bool) → (hears s.head.flow l || l.touched) ≡ b → (list_any (λ (m : Life). hears s.head.flow m || m.touched) ls ≡ true → one_touched (map (heard turn w s) ls) ≡ true)
        → one_touched (map (heard turn w s) (l ∷ ls)) ≡ true
    by_test true is ih = ap (λ (b : Bool). b || one_touched (map (heard turn w s) ls)) (hear-touched turn w s l is)
    by_test false is ih =
        ap (λ (b : Bool). (heard turn w s l).touched || b) (ih (sym (ap (λ (b : Bool). b || list_any (λ (m : Life). hears s.head.flow m || m.touched) ls) is) ∙ e))
        ∙ or_true (heard turn w s l).touched

any-left : (p q : Life → Bool) (ls : List Life) → list_any p ls ≡ true → list_any (λ (l : Life). p l || q l) ls ≡ true
any-left p q [] e = absurd (cc)
any-left p q (l ∷ ls) e = by_test (p l) refl (any-left p q ls)
  where
    by_test : (b : Bool) → p l ≡ b → (list_any p ls ≡ true → list_any (λ (m : Life). p m || q m) ls ≡ true) → list_any (λ (m : Life). p m || q m) (l ∷ ls) ≡ true
    by_test true is ih = ap (λ (b : Bool). (b || q l) || list_any (λ (m : Life). p m || q m) ls) is
    by_test false is ih =
        ap (λ (b : Bool). (p l || q l) || b) (ih (sym (ap (λ (b : Bool). b || list_any p ls) is) ∙ e)) ∙ or_true (p l || q l)

any-right : (p q : Life → Bool) (ls : List Life) → list_any q ls ≡ true → list_any (λ (l : Life). p l || q l) ls ≡ true
any-right p q [] e = absurd (cc)
any-right p q (l ∷ ls) e = by_test (q l) refl (any-right p q ls)
  where
    by_test : (b : Bool) → q l ≡ b → (list_any q ls ≡ true → list_any (λ (m : Life). p m || q m) ls ≡ true) → list_any (λ (m : Life). p m || q m) (l ∷ ls) ≡ true
    by_test true is ih =
        ap (λ (b : Bool). (p l || b) || list_any (λ (m : Life). p m || q m) ls) is ∙ ap (λ (b : Bool). b || list_any (λ (m : Life). p m || q m) ls) (or_true (p l))
    by_test false is ih =
        ap (λ (b : Bool). (p l || q l) || b) (ih (sym (ap (λ (b : Bool). b || list_any q ls) is) ∙ e)) ∙ or_true (p l || q l)

-- ## One that opens a connection
open-heard : (n : ℕ) (env : Setting) (turn : Turn) (w : WireNo) (s : Seg) → hears_number n (opened env turn w s) ≡ (w.0 == n)
unfolding opened
open-heard n env turn w s = given-heard n turn (inputs.Segment w s) (unborn env.cfg s.head.flow s.head.peer_mac (passive_iss env s.head.flow turn.clock))

open-flushes : (n : ℕ) (env : Setting) (turn : Turn) (w : WireNo) (s : Seg) → flushes_at n (opened env turn w s) ≡ false
unfolding opened
open-flushes n env turn w s = given-flushes n turn (inputs.Segment w s) (unborn env.cfg s.head.flow s.head.peer_mac (passive_iss env s.head.flow turn.clock)) refl

open-even : (env : Setting) (turn : Turn) (w : WireNo) (s : Seg) → IsEven (opened env turn w s)
unfolding opened
open-even env turn w s = given-even turn (inputs.Segment w s) (unborn env.cfg s.head.flow s.head.peer_mac (passive_iss env s.head.flow turn.clock)) refl

open-touched : (env : Setting) (turn : Turn) (w : WireNo) (s : Seg) → (opened env turn w s).touched ≡ true
unfolding opened
open-touched env turn w s = given-touched turn (inputs.Segment w s) (unborn env.cfg s.head.flow s.head.peer_mac (passive_iss env s.head.flow turn.clock))

even-one : (ls : List Life) (l : Life) → AllByRecursion IsEven ls → IsEven l → AllByRecursion IsEven (ls ++ l ∷ [])
even-one [] l p e = (e, tt)
even-one (x ∷ xs) l p e = (p.0, even-one xs l p.1 e)

-- ## One frame
abbrev chosen : Bool → Bool → Setting → Turn → WireNo → Seg → Group → Group
chosen a b env turn w s g =
    if a then record g { lives = map (heard turn w s) g.lives }
    else if b then record g { lives = g.lives ++ opened env turn w s ∷ [] }
    else strayed (stray_of turn w (segment_kind env s.head) (reply_to_segment env s.head)) g

chosen-heard : (n : ℕ) (a b : Bool) (env : Setting) (turn : Turn) (w : WireNo) (s : Seg) (g : Group) → list_any (hears s.head.flow) g.lives ≡ a
    → one_hears n (chosen a b env turn w s g).lives ≡ (one_hears n g.lives || ((a || b) && (w.0 == n)))
chosen-heard n true b env turn w s g is = hear-all-heard n turn w s g.lives ∙ ap (λ (c : Bool). one_hears n g.lives || (c && (w.0 == n))) is
chosen-heard n false true env turn w s g is =
    any-one (hears_number n) g.lives (opened env turn w s) ∙ ap (λ (c : Bool). one_hears n g.lives || c) (open-heard n env turn w s)
chosen-heard n false false env turn w s g is = sym (or_false (one_hears n g.lives))

chosen-flushes : (n : ℕ) (a b : Bool) (env : Setting) (turn : Turn) (w : WireNo) (s : Seg) (g : Group) → AllByRecursion IsEven g.lives
    → one_flushes n (chosen a b env turn w s g).lives ≡ one_flushes n g.lives
chosen-flushes n true b env turn w s g even = hear-all-flushes n turn w s g.lives even
chosen-flushes n false true env turn w s g even =
    any-one (flushes_at n) g.lives (opened env turn w s) ∙ ap (λ (c : Bool). one_flushes n g.lives || c) (open-flushes n env turn w s) ∙ or_false (one_flushes n g.lives)
chosen-flushes n false false env turn w s g even = refl

chosen-even : (a b : Bool) (env : Setting) (turn : Turn) (w : WireNo) (s : Seg) (g : Group) → AllByRecursion IsEven g.lives → AllByRecursion IsEven (chosen a b env turn w s g).lives
chosen-even true b env turn w s g even = hear-all-even turn w s g.lives even
chosen-even false true env turn w s g even = even-one g.lives (opened env turn w s) even (open-even env turn w s)
chosen-even false false env turn w s g even = even

chosen-touched : (a b : Bool) (env : Setting) (turn : Turn) (w : WireNo) (s : Seg) (g : Group) → list_any (hears s.head.flow) g.lives ≡ a → (a || b) ≡ true → one_touched (chosen a b env turn w s g).lives ≡ true
chosen-touched true b env turn w s g is e = hear-all-touched turn w s g.lives (any-left (hears s.head.flow) is_touched g.lives is)
chosen-touched false true env turn w s g is e =
    any-one is_touched g.lives (opened env turn w s) ∙ ap (λ (c : Bool). one_touched g.lives || c) (open-touched env turn w s) ∙ or_true (one_touched g.lives)
chosen-touched false false env turn w s g is e = absurd (cc)

chosen-stays : (a b : Bool) (env : Setting) (turn : Turn) (w : WireNo) (s : Seg) (g : Group) → one_touched g.lives ≡ true → one_touched (chosen a b env turn w s g).lives ≡ true
chosen-stays true b env turn w s g e = hear-all-touched turn w s g.lives (any-right (hears s.head.flow) is_touched g.lives e)
chosen-stays false true env turn w s g e = any-one is_touched g.lives (opened env turn w s) ∙ ap (λ (c : Bool). c || (opened env turn w s).touched) e
chosen-stays false false env turn w s g e = e

take-heard : (n : ℕ) (r : Result Seg Disposition) (env : Setting) (turn : Turn) (t : Taken) (g : Group) → one_hears n (take_as r env turn t g).lives ≡ (one_hears n g.lives || (takes_as r env g.lives && (t.w.0 == n)))
unfolding take_segment
take-heard n (Ok s) env turn t g = chosen-heard n (list_any (hears s.head.flow) g.lives) (asks_to_open env s.head && has_room g.lives) env turn t.w s g refl
take-heard n (Err kind) env turn t g = sym (or_false (one_hears n g.lives))

take-flushes : (n : ℕ) (r : Result Seg Disposition) (env : Setting) (turn : Turn) (t : Taken) (g : Group) → AllByRecursion IsEven g.lives → one_flushes n (take_as r env turn t g).lives ≡ one_flushes n g.lives
unfolding take_segment
take-flushes n (Ok s) env turn t g even = chosen-flushes n (list_any (hears s.head.flow) g.lives) (asks_to_open env s.head && has_room g.lives) env turn t.w s g even
take-flushes n (Err kind) env turn t g even = refl

take-even : (r : Result Seg Disposition) (env : Setting) (turn : Turn) (t : Taken) (g : Group) → AllByRecursion IsEven g.lives → AllByRecursion IsEven (take_as r env turn t g).lives
unfolding take_segment
take-even (Ok s) env turn t g even = chosen-even (list_any (hears s.head.flow) g.lives) (asks_to_open env s.head && has_room g.lives) env turn t.w s g even
take-even (Err kind) env turn t g even = even

take-touched : (r : Result Seg Disposition) (env : Setting) (turn : Turn) (t : Taken) (g : Group) → takes_as r env g.lives ≡ true → one_touched (take_as r env turn t g).lives ≡ true
unfolding take_segment
take-touched (Ok s) env turn t g e = chosen-touched (list_any (hears s.head.flow) g.lives) (asks_to_open env s.head && has_room g.lives) env turn t.w s g refl e
take-touched (Err kind) env turn t g e = absurd (cc)

take-stays : (r : Result Seg Disposition) (env : Setting) (turn : Turn) (t : Taken) (g : Group) → one_touched g.lives ≡ true → one_touched (take_as r env turn t g).lives ≡ true
unfolding take_segment
take-stays (Ok s) env turn t g e = chosen-stays (list_any (hears s.head.flow) g.lives) (asks_to_open env s.head && has_room g.lives) env turn t.w s g e
take-stays (Err kind) env turn t g e = e

-- ## Some frames
-- none of them has this number
abbrev IsOther : ℕ → Taken → Type 0
IsOther n t = (t.w.0 == n) ≡ false

frames-heard : (n : ℕ) (env : Setting) (turn : Turn) (ts : List Taken) (g : Group) → AllByRecursion (IsOther n) ts → one_hears n (take_frames env turn ts g).lives ≡ one_hears n g.lives
frames-heard n env turn [] g others = refl
frames-heard n env turn (t ∷ ts) g others =
    frames-heard n env turn ts (take_frame env turn t g) others.1
    ∙ take-heard n (read_of env t.frame) env turn t g
    ∙ ap (λ (b : Bool). one_hears n g.lives || (takes env t g.lives && b)) others.0
    ∙ ap (λ (b : Bool). one_hears n g.lives || b) (and_false (takes env t g.lives))
    ∙ or_false (one_hears n g.lives)

pub frames-even : (env : Setting) (turn : Turn) (ts : List Taken) (g : Group) → AllByRecursion IsEven g.lives → AllByRecursion IsEven (take_frames env turn ts g).lives
frames-even env turn [] g even = even
frames-even env turn (t ∷ ts) g even = frames-even env turn ts (take_frame env turn t g) (take-even (read_of env t.frame) env turn t g even)

frames-flushes : (n : ℕ) (env : Setting) (turn : Turn) (ts : List Taken) (g : Group) → AllByRecursion IsEven g.lives → one_flushes n (take_frames env turn ts g).lives ≡ one_flushes n g.lives
frames-flushes n env turn [] g even = refl
frames-flushes n env turn (t ∷ ts) g even =
    frames-flushes n env turn ts (take_frame env turn t g) (take-even (read_of env t.frame) env turn t g even) ∙ take-flushes n (read_of env t.frame) env turn t g even

frames-stay : (env : Setting) (turn : Turn) (ts : List Taken) (g : Group) → one_touched g.lives ≡ true → one_touched (take_frames env turn ts g).lives ≡ true
frames-stay env turn [] g e = e
frames-stay env turn (t ∷ ts) g e = frames-stay env turn ts (take_frame env turn t g) (take-stays (read_of env t.frame) env turn t g e)

-- ## A cycle without this number
abbrev pub IsOtherCycle : ℕ → Cycle → Type 0
IsOtherCycle n (Frames core ts) = AllByRecursion (IsOther n) ts
IsOtherCycle n (Time core w t) = (w.0 == n) ≡ false

last-other : (n : ℕ) (ts : List Taken) → AllByRecursion (IsOther n) ts → is_end n (last_number ts) ≡ false
last-other n [] others = refl
last-other n (t ∷ []) others = ap (is_end n) (last-one t) ∙ others.0
last-other n (t ∷ u ∷ us) others = ap (is_end n) (last-cons t u us) ∙ last-other n (u ∷ us) others.1

pub cycle-heard : (n : ℕ) (env : Setting) (c : Cycle) (g : Group) → AllByRecursion IsEven g.lives → IsOtherCycle n c → one_hears n (run_cycle env c g).lives ≡ one_hears n g.lives
unfolding run_cycle
cycle-heard n env (Frames core ts) g even others =
    let turn : Turn = turn_of g.clock core (last_number ts) in
    all-heard n env false turn (take_frames env turn ts g).lives (frames-even env turn ts g even) ∙ frames-heard n env turn ts g others
cycle-heard n env (Time core w t) g even other = all-heard n env true (turn_of (max g.clock t) core (Some w)) g.lives even

pub cycle-flushes : (n : ℕ) (env : Setting) (c : Cycle) (g : Group) → AllByRecursion IsEven g.lives → IsOtherCycle n c → one_flushes n (run_cycle env c g).lives ≡ one_flushes n g.lives
unfolding run_cycle
cycle-flushes n env (Frames core ts) g even others =
    let turn : Turn = turn_of g.clock core (last_number ts) in
    all-other n env false turn (take_frames env turn ts g).lives (frames-even env turn ts g even) (last-other n ts others) ∙ frames-flushes n env turn ts g even
cycle-flushes n env (Time core w t) g even other = all-other n env true (turn_of (max g.clock t) core (Some w)) g.lives even other

pub cycle-even : (env : Setting) (c : Cycle) (g : Group) → AllByRecursion IsEven g.lives → AllByRecursion IsEven (run_cycle env c g).lives
unfolding run_cycle
cycle-even env (Frames core ts) g even =
    let turn : Turn = turn_of g.clock core (last_number ts) in all-even env false turn (take_frames env turn ts g).lives (frames-even env turn ts g even)
cycle-even env (Time core w t) g even = all-even env true (turn_of (max g.clock t) core (Some w)) g.lives even

pub cycles-heard : (n : ℕ) (env : Setting) (cs : List Cycle) (g : Group) → AllByRecursion IsEven g.lives → AllByRecursion (IsOtherCycle n) cs → one_hears n (run_cycles env cs g).lives ≡ one_hears n g.lives
cycles-heard n env [] g even others = refl
cycles-heard n env (c ∷ cs) g even others = cycles-heard n env cs (run_cycle env c g) (cycle-even env c g even) others.1 ∙ cycle-heard n env c g even others.0

pub cycles-flushes : (n : ℕ) (env : Setting) (cs : List Cycle) (g : Group) → AllByRecursion IsEven g.lives → AllByRecursion (IsOtherCycle n) cs → one_flushes n (run_cycles env cs g).lives ≡ one_flushes n g.lives
cycles-flushes n env [] g even others = refl
cycles-flushes n env (c ∷ cs) g even others = cycles-flushes n env cs (run_cycle env c g) (cycle-even env c g even) others.1 ∙ cycle-flushes n env c g even others.0

-- numbers that rise from above it, or lie below it, are others
pub over-other : (n m : ℕ) (ts : List Taken) → n < m → RiseFrom m ts → AllByRecursion (IsOther n) ts
over-other n m [] lt rise = tt
over-other n m (t ∷ ts) lt rise = (ne_eqb t.w.0 n (λ e. omega (arith, e, lt, rise.0)), over-other n (suc t.w.0) ts (omega (arith, lt, rise.0)) rise.1)

pub under-other : (n m : ℕ) (ts : List Taken) → m ≤ n → AllByRecursion (IsUnder m) ts → AllByRecursion (IsOther n) ts
under-other n m [] le under = tt
under-other n m (t ∷ ts) le under = (ne_eqb t.w.0 n (λ e. omega (arith, e, le, under.0)), under-other n m ts le under.1)

-- ## The lines of one cycle
-- from these connections on, the lines tell of lower numbers what this group has
pub record AreTold (conns : List ConnLine) (next : ℕ) (ms ls : List Life) : Type 0 where
  pub heard : (n : ℕ) → n < next → is_heard conns n ≡ one_hears n ms
  pub flushed : (n : ℕ) → n < next → is_flushed conns n ≡ one_flushes n ls

-- no journal of these has a number from this one on
pub record AreBelow (lo : ℕ) (ls : List Life) : Type 0 where
  pub heard : (n : ℕ) → lo ≤ n → one_hears n ls ≡ false
  pub flushes : (n : ℕ) → lo ≤ n → one_flushes n ls ≡ false

below-later : (lo m : ℕ) (ls : List Life) → lo ≤ m → AreBelow lo ls → AreBelow m ls
below-later lo m ls le p = record { heard = λ n ge. p.heard n (omega (arith, le, ge)); flushes = λ n ge. p.flushes n (omega (arith, le, ge)) }

ends-marked : (env : Setting) (conns : List ConnLine) (turn : Turn) (next lo : ℕ) (ms : List Life) (t : Taken) (ts : List Taken) → AllByRecursion IsEven ms → one_touched ms ≡ true
    → ((n : ℕ) → lo ≤ n → one_flushes n ms ≡ false) → RiseFrom lo (t ∷ ts) → AllByRecursion (IsUnder next) (t ∷ ts) → turn.end ≡ last_number (t ∷ ts)
    → ((n : ℕ) → n < next → is_flushed conns n ≡ one_flushes n (map (closed env false turn) ms)) → EndsFlushed conns t ts
ends-marked env conns turn next lo ms t [] even touched low rise under end told =
    told t.w.0 under.0 ∙ all-own t.w.0 env false turn ms even touched (ap (is_end t.w.0) (end ∙ last-one t) ∙ eq-eqb t.w.0 t.w.0 refl)
ends-marked env conns turn next lo ms t (u ∷ us) even touched low rise under end told =
    let others : AllByRecursion (IsOther t.w.0) (u ∷ us) = over-other t.w.0 (suc t.w.0) (u ∷ us) (omega arith) rise.1 in (
      told t.w.0 under.0 ∙ all-other t.w.0 env false turn ms even (ap (is_end t.w.0) (end ∙ last-cons t u us) ∙ last-other t.w.0 (u ∷ us) others) ∙ low t.w.0 rise.0,
      ends-marked env conns turn next (suc t.w.0) ms u us even touched (λ n ge. low n (omega (arith, ge, rise.0))) rise.1 under.1 (end ∙ last-cons t u us) told,
    )

abbrev pub EndIs : Option WireNo → List Taken → Type 0
EndIs end [] = Unit {0}
EndIs end (t ∷ ts) = end ≡ last_number (t ∷ ts)

end-next : (end : Option WireNo) (t : Taken) (ts : List Taken) → EndIs end (t ∷ ts) → EndIs end ts
end-next end t [] e = tt
end-next end t (u ∷ us) e = e ∙ last-cons t u us

-- a frame that no connection takes, before any that one takes, is not flushed at
lead-unflushed : (env : Setting) → ClosedStays → (turn : Turn) (lo : ℕ) (t : Taken) (ts : List Taken) (h k : Group) → AllByRecursion (AtRest env) h.lives → AllByRecursion IsEven h.lives → AreBelow lo h.lives
    → takes env t h.lives ≡ false → take_frames env turn (t ∷ ts) h ≡ k → RiseFrom lo (t ∷ ts) → turn.end ≡ last_number (t ∷ ts) → one_flushes t.w.0 (map (closed env false turn) k.lives) ≡ false
lead-unflushed env stays turn lo t [] h k rest even low left is rise end =
    ap (λ (j : Group). one_flushes t.w.0 (map (closed env false turn) j.lives)) (sym is ∙ left-as (read_of env t.frame) env turn t h left)
    ∙ ap (one_flushes t.w.0) (lives-stay env stays turn h.lives rest) ∙ low.flushes t.w.0 rise.0
lead-unflushed env stays turn lo t (u ∷ us) h k rest even low left is rise end =
    let others : AllByRecursion (IsOther t.w.0) (u ∷ us) = over-other t.w.0 (suc t.w.0) (u ∷ us) (omega arith) rise.1 in
    let later : AllByRecursion IsEven k.lives = subst (λ (j : Group). AllByRecursion IsEven j.lives) is (frames-even env turn (t ∷ u ∷ us) h even) in
    all-other t.w.0 env false turn k.lives later (ap (is_end t.w.0) (end ∙ last-cons t u us) ∙ last-other t.w.0 (u ∷ us) others)
    ∙ ap (λ (j : Group). one_flushes t.w.0 j.lives) (sym is) ∙ frames-flushes t.w.0 env turn (t ∷ u ∷ us) h even ∙ low.flushes t.w.0 rise.0

-- what is told of a frame, where those behind it have other numbers
told-first : (env : Setting) (turn : Turn) (t : Taken) (ts : List Taken) (h k : Group) → take_frames env turn (t ∷ ts) h ≡ k → AllByRecursion (IsOther t.w.0) ts
    → one_hears t.w.0 k.lives ≡ (one_hears t.w.0 h.lives || (takes env t h.lives && (t.w.0 == t.w.0)))
told-first env turn t ts h k is others =
    ap (λ (j : Group). one_hears t.w.0 j.lives) (sym is) ∙ frames-heard t.w.0 env turn ts (take_frame env turn t h) others ∙ take-heard t.w.0 (read_of env t.frame) env turn t h

pub frames-marked : (env : Setting) → ClosedStays → (conns : List ConnLine) (turn : Turn) (next lo : ℕ) (ts : List Taken) (h k : Group)
    → AllByRecursion (AtRest env) h.lives → AllByRecursion IsEven h.lives → AreBelow lo h.lives → take_frames env turn ts h ≡ k → RiseFrom lo ts → AllByRecursion (IsUnder next) ts → EndIs turn.end ts
    → AreTold conns next k.lives (map (closed env false turn) k.lives) → Marked env h.lives conns ts
frames-marked env stays conns turn next lo [] h k rest even low is rise under end told = tt
frames-marked env stays conns turn next lo (t ∷ ts) h k rest even low is rise under end told =
    by_take (takes env t h.lives) refl
    (λ e. frames-marked env stays conns turn next (suc t.w.0) ts (made_stray env turn.core t h) k rest even (below-later lo (suc t.w.0) h.lives (omega (arith, rise.0)) low)
    (ap (take_frames env turn ts) (sym (left-as (read_of env t.frame) env turn t h e)) ∙ is) rise.1 under.1 (end-next turn.end t ts end) told)
  where
    others : AllByRecursion (IsOther t.w.0) ts
    others = over-other t.w.0 (suc t.w.0) ts (omega arith) rise.1

    by_take : (b : Bool) → takes env t h.lives ≡ b → (takes env t h.lives ≡ false → Marked env h.lives conns ts) → MarkedBy b conns t ts (Marked env h.lives conns ts)
    by_take true e ih = (
      told.heard t.w.0 under.0 ∙ told-first env turn t ts h k is others
          ∙ ap (λ (b : Bool). one_hears t.w.0 h.lives || (b && (t.w.0 == t.w.0))) e ∙ ap (λ (b : Bool). one_hears t.w.0 h.lives || b) (eq-eqb t.w.0 t.w.0 refl) ∙ or_true (one_hears t.w.0 h.lives),
      ends-marked env conns turn next lo k.lives t ts
          (subst (λ (j : Group). AllByRecursion IsEven j.lives) is (frames-even env turn (t ∷ ts) h even))
          (subst (λ (j : Group). one_touched j.lives ≡ true) is (frames-stay env turn ts (take_frame env turn t h) (take-touched (read_of env t.frame) env turn t h e)))
          (λ n ge. ap (λ (j : Group). one_flushes n j.lives) (sym is) ∙ frames-flushes n env turn (t ∷ ts) h even ∙ low.flushes n ge)
          rise under end told.flushed,
    )
    by_take false e ih = (
      told.heard t.w.0 under.0 ∙ told-first env turn t ts h k is others
          ∙ ap (λ (b : Bool). one_hears t.w.0 h.lives || (b && (t.w.0 == t.w.0))) e ∙ or_false (one_hears t.w.0 h.lives) ∙ low.heard t.w.0 rise.0,
      told.flushed t.w.0 under.0 ∙ lead-unflushed env stays turn lo t ts h k rest even low e is rise end,
      ih e,
    )

-- ## Connects alone
dialled-heard : (n : ℕ) (env : Setting) (turn : Turn) (flow : Flow) (mac : List ℕ) → hears_number n (dialled env turn flow mac) ≡ false
unfolding dialled
dialled-heard n env turn flow mac = given-heard n turn (inputs.Call asks.Connect) (unborn env.cfg flow mac (drawn flow turn.clock))

dialled-flushes : (n : ℕ) (env : Setting) (turn : Turn) (flow : Flow) (mac : List ℕ) → flushes_at n (dialled env turn flow mac) ≡ false
unfolding dialled
dialled-flushes n env turn flow mac = given-flushes n turn (inputs.Call asks.Connect) (unborn env.cfg flow mac (drawn flow turn.clock)) refl

connect-below : (o : Option (List ℕ)) (env : Setting) (core : CoreId) (flow : Flow) (g : Group) → AreBelow 0 g.lives → AreBelow 0 (connect_to o env core flow g).lives
connect-below None env core flow g p = p
connect-below (Some mac) env core flow g p = by_test (has_room g.lives && not (list_any (hears flow) g.lives))
  where
    by_test : (b : Bool) → AreBelow 0 (if b then record g { lives = g.lives ++ dialled env (turn_of g.clock core None) flow mac ∷ [] } else g).lives
    by_test true =
        record {
          heard = λ n ge. any-one (hears_number n) g.lives (dialled env (turn_of g.clock core None) flow mac) ∙ ap (λ (b : Bool). b || hears_number n (dialled env (turn_of g.clock core None) flow mac)) (p.heard n ge) ∙ dialled-heard n env (turn_of g.clock core None) flow mac;
          flushes = λ n ge. any-one (flushes_at n) g.lives (dialled env (turn_of g.clock core None) flow mac) ∙ ap (λ (b : Bool). b || flushes_at n (dialled env (turn_of g.clock core None) flow mac)) (p.flushes n ge) ∙ dialled-flushes n env (turn_of g.clock core None) flow mac;
        }
    by_test false = p

one-connect-below : (env : Setting) (c : Connect) (g : Group) → AreBelow 0 g.lives → AreBelow 0 (connect env c g).lives
unfolding connect
one-connect-below env c g p = connect-below (mac_of c.ip env.neighbours) env c.core (flow_of_connect env c) g p

pub connects-below : (env : Setting) (asked : List Connect) (g : Group) → AreBelow 0 g.lives → AreBelow 0 (connect_all env asked g).lives
connects-below env [] g p = p
connects-below env (c ∷ cs) g p = connects-below env cs (connect env c g) (one-connect-below env c g p)

pub none-below : AreBelow 0 empty.lives
none-below = record { heard = λ n ge. refl; flushes = λ n ge. refl }

pub all-runs-even : (ls : List Life) → AllByRecursion IsRun ls → AllByRecursion IsEven ls
all-runs-even [] p = tt
all-runs-even (l ∷ ls) p = (sym p.0.ends, all-runs-even ls p.1)
