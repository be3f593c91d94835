-- What a connection has out is paid for by the segments that it heard.
use Rattle.std.proofs.Common.{◌≡◌, ℕ, suc, ◌+◌, ◌≤◌, refl, sym, ap, ◌∙◌, subst, Bool, true, false, List, [], ◌∷◌, ◌++◌, max, map, arith, append_assoc, append-nil}
use Rattle.std.specs.Prelude.{if◌then◌else◌, ◌&&◌, nat_lt, sum_by, Result, Ok, Err, Some}
use Rattle.std.specs.List.{AllByRecursion, list_any, filter}
use Rattle.std.proofs.lemmas.List.Sums.{sum_by-cons}
use Rattle.ix_base.specs.declared.frame.Disposition.{Disposition}
use Rattle.ix_base.specs.declared.id.Flow.{Flow}
use Rattle.ix_base.specs.declared.id.WireNo.{WireNo}
use Rattle.ix_base.specs.declared.segment.Seg.{Seg}
use Rattle.ix_tcpdef.specs.Lived.{HasLived, StepsLive, RunsLive, AllBegin}
use Rattle.ix_tcpdef.specs.Step.{listening}
use Rattle.ix_tcpdef.specs.declared.types.Connection.{Connection}
use Rattle.ix_tcpdef.specs.declared.types.Input.{Input}
use Rattle.ix_tcpdef.specs.declared.types.Input.TheVariants as inputs
use Rattle.ix_groupdef.specs.declared.types.JournalEntry.{JournalEntry}
use Rattle.ix_groupdef.specs.declared.types.Stray.{Stray}
use Rattle.ix_groupdef.specs.declared.types.Taken.{Taken}
use Rattle.ix_groupdef.specs.declared.types.Turn.{Turn}
use Rattle.ix_groupdef.specs.Setting.{Setting, passive_iss}
use Rattle.ix_groupdef.specs.Life.{Life, unborn, given, entry_of, outputs_of, hears}
use Rattle.ix_groupdef.specs.Strays.{asks_to_open}
use Rattle.ix_groupdef.specs.Laws.{moments, IsRun, AreRuns}
use Rattle.ix_groupdef.specs.Group.{Group, Cycle, Frames, Time, Connect, heard, opened, closed, has_room, read_of, take_segment, take_as, take_frame, take_frames, end_cycle, run_cycle, run, turn_of, last_number}
use Rattle.ix_groupdef.specs.Places.{Heard, segment_in, segments_in, heard_numbers, heard_by, stray_numbers, placed, numbers, accepted, frames_of, by_wire, in_wire_order, RiseFrom, NoneLost}
use Rattle.ix_plainstack.specs.Out.{out_of, out_weight, HasTold, AllTold, OutShrinks}
use Rattle.ix_plainstack.proofs.Owes.{input_weight}
use Rattle.ix_plainstack.proofs.Wide.{wide, wide-step, out-wide, wide-out}
use Rattle.ix_plainstack.proofs.Ladder.{at_end_by_all, kept-closed, kept-heard}
use Rattle.ix_plainstack.proofs.CycleSteps.{run-push}

-- ## What was heard
abbrev pub nums_sum : (ℕ → ℕ) → List ℕ → ℕ
nums_sum f [] = 0
nums_sum f (n ∷ ns) = f n + nums_sum f ns

nums-append : (f : ℕ → ℕ) (xs ys : List ℕ) → nums_sum f (xs ++ ys) ≡ nums_sum f xs + nums_sum f ys
nums-append f [] ys = omega arith
nums-append f (x ∷ xs) ys = omega (arith, nums-append f xs ys)

abbrev pub heard_sum : (ℕ → ℕ) → List JournalEntry → ℕ
heard_sum f [] = 0
heard_sum f (e ∷ es) = input_weight f e.input + heard_sum f es

heard-push : (f : ℕ → ℕ) (es : List JournalEntry) (e : JournalEntry) → heard_sum f (es ++ e ∷ []) ≡ heard_sum f es + input_weight f e.input
heard-push f [] e = omega arith
heard-push f (d ∷ es) e = omega (arith, heard-push f es e)

heard-input : (f : ℕ → ℕ) (i : Input) (hs : List Heard) → nums_sum f (heard_numbers (segment_in i ++ hs)) ≡ input_weight f i + nums_sum f (heard_numbers hs)
heard-input f (inputs.Segment w seg) hs = refl
heard-input f inputs.Timer hs = omega arith
heard-input f (inputs.Call ask) hs = omega arith
heard-input f inputs.Flush hs = omega arith

heard-numbers : (f : ℕ → ℕ) (es : List JournalEntry) → nums_sum f (heard_numbers (segments_in es)) ≡ heard_sum f es
heard-numbers f [] = refl
heard-numbers f (e ∷ es) = omega (arith, heard-input f e.input (segments_in es), heard-numbers f es)

-- ## One connection: it has out no more than it had, and what it heard since
pub record Pays (f : ℕ → ℕ) (whole : Bool) (had paid : ℕ) (w : Connection) (es : List JournalEntry) : Type 0 where
  pub lived : HasLived w
  pub weight : wide f whole w + paid ≤ had + heard_sum f es

module _ (steps : StepsLive) (f : ℕ → ℕ) (whole : Bool) (had paid : ℕ) (env : Setting) where
  abbrev PaysLife : Life → Type 0
  PaysLife l = Pays f whole had paid l.connection l.journal

  pays-given : (turn : Turn) (i : Input) (l : Life) → Pays f whole had paid l.connection l.journal → Pays f whole had paid (given turn i l).connection (given turn i l).journal
  unfolding given
  pays-given turn i l p =
      record {
        lived = steps l.cfg l.connection i turn.clock p.lived;
        weight = omega (arith, p.weight, wide-step f whole l.cfg l.connection i turn.clock p.lived, heard-push f l.journal (entry_of turn i (outputs_of turn i l)));
      }

  pays-closed : (timed : Bool) (turn : Turn) (l : Life) → Pays f whole had paid l.connection l.journal → Pays f whole had paid (closed env timed turn l).connection (closed env timed turn l).journal
  pays-closed =
      kept-closed env (λ l. Pays f whole had paid l.connection l.journal)
      (at_end_by_all env (λ l. Pays f whole had paid l.connection l.journal) (record { given = pays-given; begun = λ l p. p; rested = λ l p. p }))

  pays-heard : (turn : Turn) (w : WireNo) (s : Seg) (l : Life) → Pays f whole had paid l.connection l.journal → Pays f whole had paid (heard turn w s l).connection (heard turn w s l).journal
  pays-heard = kept-heard (λ l. Pays f whole had paid l.connection l.journal) (λ turn w s l p. pays-given turn (inputs.Segment w s) l p)

-- ## A group
abbrev AllLived : List Life → Type 0
AllLived ls = AllByRecursion (λ (l : Life). HasLived l.connection) ls

abbrev pub wide_all : (ℕ → ℕ) → Bool → List Life → ℕ
wide_all f whole [] = 0
wide_all f whole (l ∷ ls) = wide f whole l.connection + wide_all f whole ls

abbrev pub heard_all : (ℕ → ℕ) → List Life → ℕ
heard_all f [] = 0
heard_all f (l ∷ ls) = heard_sum f l.journal + heard_all f ls

pub record GroupPays (f : ℕ → ℕ) (whole : Bool) (had paid : ℕ) (ls : List Life) (ss : List Stray) : Type 0 where
  pub lived : AllLived ls
  pub weight : wide_all f whole ls + paid ≤ had + (heard_all f ls + nums_sum f (stray_numbers ss))

wide-append : (f : ℕ → ℕ) (whole : Bool) (xs ys : List Life) → wide_all f whole (xs ++ ys) ≡ wide_all f whole xs + wide_all f whole ys
wide-append f whole [] ys = omega arith
wide-append f whole (x ∷ xs) ys = omega (arith, wide-append f whole xs ys)

heard-append : (f : ℕ → ℕ) (xs ys : List Life) → heard_all f (xs ++ ys) ≡ heard_all f xs + heard_all f ys
heard-append f [] ys = omega arith
heard-append f (x ∷ xs) ys = omega (arith, heard-append f xs ys)

strays-append : (xs ys : List Stray) → stray_numbers (xs ++ ys) ≡ stray_numbers xs ++ stray_numbers ys
strays-append [] ys = refl
strays-append (x ∷ xs) ys = ap (λ ns. x.w.0 ∷ ns) (strays-append xs ys)

lived-append : (xs ys : List Life) → AllLived xs → AllLived ys → AllLived (xs ++ ys)
lived-append [] ys p q = q
lived-append (x ∷ xs) ys p q = (p.0, lived-append xs ys p.1 q)

-- where each pays for itself, all do
pub record MapPays (f : ℕ → ℕ) (whole : Bool) (ls ms : List Life) : Type 0 where
  pub lived : AllLived ms
  pub weight : wide_all f whole ms + heard_all f ls ≤ wide_all f whole ls + heard_all f ms

map-pays : (f : ℕ → ℕ) (whole : Bool) (g : Life → Life) → ((had paid : ℕ) (l : Life) → Pays f whole had paid l.connection l.journal → Pays f whole had paid (g l).connection (g l).journal)
    → (ls : List Life) → AllLived ls → MapPays f whole ls (map g ls)
map-pays f whole g k [] p = record { lived = tt; weight = omega arith }
map-pays f whole g k (l ∷ ls) p =
    let one = k (wide f whole l.connection) (heard_sum f l.journal) l (record { lived = p.0; weight = omega arith }) in
    let rest = map-pays f whole g k ls p.1 in
    record { lived = (one.lived, rest.lived); weight = omega (arith, one.weight, rest.weight) }

by_test : (P : Group → Type 0) (b : Bool) (x y : Group) → P x → P y → P (if b then x else y)
by_test P true x y p q = p
by_test P false x y p q = q

-- before its opening a connection has nothing
listening-wide : (f : ℕ → ℕ) (whole : Bool) (flow : Flow) (mac : List ℕ) (iss : ℕ) → wide f whole (listening flow mac iss) ≡ 0
listening-wide f true flow mac iss = refl
listening-wide f false flow mac iss = refl

module _ (begin : AllBegin) (steps : StepsLive) (f : ℕ → ℕ) (whole : Bool) (had paid : ℕ) (env : Setting) where
  abbrev Good : Group → Type 0
  Good g = GroupPays f whole had paid g.lives g.strays

  mapped : (h : Life → Life) → ((had paid : ℕ) (l : Life) → Pays f whole had paid l.connection l.journal → Pays f whole had paid (h l).connection (h l).journal)
      → (ls : List Life) (ss : List Stray) → GroupPays f whole had paid ls ss → GroupPays f whole had paid (map h ls) ss
  mapped h k ls ss p =
      let m = map-pays f whole h k ls p.lived in
      record { lived = m.lived; weight = omega (arith, p.weight, m.weight) }

  opened-pays : (turn : Turn) (w : WireNo) (s : Seg) → Pays f whole 0 0 (opened env turn w s).connection (opened env turn w s).journal
  unfolding opened
  opened-pays turn w s =
      let iss : ℕ = passive_iss env s.head.flow turn.clock in
      pays-given steps f whole 0 0 env turn (inputs.Segment w s) (unborn env.cfg s.head.flow s.head.peer_mac iss)
      (record { lived = (begin env.cfg s.head.flow s.head.peer_mac iss).lived; weight = omega (arith, listening-wide f whole s.head.flow s.head.peer_mac iss) })

  stray-pays : (g : Group) (s : Stray) → GroupPays f whole had paid g.lives g.strays → GroupPays f whole had paid g.lives (g.strays ++ s ∷ [])
  stray-pays g s p =
      record {
        lived = p.lived;
        weight = omega (arith, p.weight, ap (nums_sum f) (strays-append g.strays (s ∷ [])), nums-append f (stray_numbers g.strays) (s.w.0 ∷ []));
      }

  take_segment-pays : (turn : Turn) (w : WireNo) (s : Seg) (g : Group) → GroupPays f whole had paid g.lives g.strays → GroupPays f whole had paid (take_segment env turn w s g).lives (take_segment env turn w s g).strays
  unfolding take_segment
  take_segment-pays turn w s g p =
      let one = opened-pays turn w s in
      by_test (λ h. GroupPays f whole had paid h.lives h.strays) (list_any (hears s.head.flow) g.lives) _ _
      (mapped (heard turn w s) (λ had paid l q. pays-heard steps f whole had paid env turn w s l q) g.lives g.strays p)
      (by_test (λ h. GroupPays f whole had paid h.lives h.strays) (asks_to_open env s.head && has_room g.lives) _ _
      (record {
        lived = lived-append g.lives (opened env turn w s ∷ []) p.lived (one.lived, tt);
        weight = omega (arith, p.weight, one.weight, wide-append f whole g.lives (opened env turn w s ∷ []), heard-append f g.lives (opened env turn w s ∷ []));
      })
      (stray-pays g _ p))

  take_as-pays : (r : Result Seg Disposition) (turn : Turn) (t : Taken) (g : Group) → GroupPays f whole had paid g.lives g.strays → GroupPays f whole had paid (take_as r env turn t g).lives (take_as r env turn t g).strays
  take_as-pays (Ok s) turn t g p = take_segment-pays turn t.w s g p
  take_as-pays (Err kind) turn t g p = stray-pays g _ p

  take_frames-pays : (turn : Turn) (ts : List Taken) (g : Group) → GroupPays f whole had paid g.lives g.strays → GroupPays f whole had paid (take_frames env turn ts g).lives (take_frames env turn ts g).strays
  take_frames-pays turn [] g p = p
  take_frames-pays turn (t ∷ ts) g p = take_frames-pays turn ts (take_frame env turn t g) (take_as-pays (read_of env t.frame) turn t g p)

  end_cycle-pays : (timed : Bool) (turn : Turn) (g : Group) → GroupPays f whole had paid g.lives g.strays → GroupPays f whole had paid (end_cycle env timed turn g).lives (end_cycle env timed turn g).strays
  end_cycle-pays timed turn g p = mapped (closed env timed turn) (λ had paid l q. pays-closed steps f whole had paid env timed turn l q) g.lives g.strays p

  cycle-pays : (c : Cycle) (g : Group) → GroupPays f whole had paid g.lives g.strays → GroupPays f whole had paid (run_cycle env c g).lives (run_cycle env c g).strays
  unfolding run_cycle
  cycle-pays (Frames core ts) g p =
      let turn : Turn = turn_of g.clock core (last_number ts) in
      end_cycle-pays false turn (take_frames env turn ts g) (take_frames-pays turn ts g p)
  cycle-pays (Time core w t) g p = end_cycle-pays true (turn_of (max g.clock t) core (Some w)) (record g { clock = max g.clock t }) p

-- ## What was heard or strayed are the accepted frames
heard-by : (f : ℕ → ℕ) (ls : List Life) → nums_sum f (heard_by ls) ≡ heard_all f ls
heard-by f [] = refl
heard-by f (l ∷ ls) = omega (arith, nums-append f (heard_numbers (segments_in l.journal)) (heard_by ls), heard-numbers f l.journal, heard-by f ls)

sum_if : (f : ℕ → ℕ) (b : Bool) (xs ys : List ℕ) (n : ℕ) → nums_sum f xs ≡ n → nums_sum f ys ≡ n → nums_sum f (if b then xs else ys) ≡ n
sum_if f true xs ys n p q = p
sum_if f false xs ys n p q = q

by_wire-sum : (f : ℕ → ℕ) (n : ℕ) (ms : List ℕ) → nums_sum f (by_wire n ms) ≡ f n + nums_sum f ms
by_wire-sum f n [] = refl
by_wire-sum f n (m ∷ ms) = sum_if f (nat_lt n m) _ _ (f n + nums_sum f (m ∷ ms)) refl (omega (arith, by_wire-sum f n ms))

order-sum : (f : ℕ → ℕ) (ns : List ℕ) → nums_sum f (in_wire_order ns) ≡ nums_sum f ns
order-sum f [] = refl
order-sum f (n ∷ ns) = omega (arith, by_wire-sum f n (in_wire_order ns), order-sum f ns)

filter-all : (ns : List ℕ) → filter (λ _. true) ns ≡ ns
filter-all [] = refl
filter-all (n ∷ ns) = ap (λ ms. n ∷ ms) (filter-all ns)

placed-sum : NoneLost → (f : ℕ → ℕ) (env : Setting) (asked : List Connect) (cs : List Cycle) → RiseFrom 0 (accepted cs)
    → heard_all f (run env asked cs).lives + nums_sum f (stray_numbers (run env asked cs).strays) ≡ nums_sum f (numbers (accepted cs))
placed-sum lost f env asked cs rise =
    let g : Group = run env asked cs in
    let all : in_wire_order (placed g) ≡ numbers (accepted cs) =
    ap in_wire_order (sym (filter-all (placed g))) ∙ lost env asked cs rise (λ _. true) ∙ filter-all (numbers (accepted cs)) in
    omega (arith, heard-by f g.lives, nums-append f (heard_by g.lives) (stray_numbers g.strays), order-sum f (placed g), ap (nums_sum f) all)

numbers-append : (xs ys : List Taken) → numbers (xs ++ ys) ≡ numbers xs ++ numbers ys
numbers-append [] ys = refl
numbers-append (x ∷ xs) ys = ap (λ ns. x.w.0 ∷ ns) (numbers-append xs ys)

pub accepted-append : (cs ds : List Cycle) → accepted (cs ++ ds) ≡ accepted cs ++ accepted ds
accepted-append [] ds = refl
accepted-append (c ∷ cs) ds = ap (λ ts. frames_of c ++ ts) (accepted-append cs ds) ∙ sym (append_assoc (frames_of c) (accepted cs) (accepted ds))

pub rise-front : (n : ℕ) (xs ys : List Taken) → RiseFrom n (xs ++ ys) → RiseFrom n xs
rise-front n [] ys r = tt
rise-front n (x ∷ xs) ys r = (r.0, rise-front (suc x.w.0) xs ys r.1)

frames-sum : (f : ℕ → ℕ) (ts : List Taken) → nums_sum f (numbers ts) ≡ sum_by (λ (t : Taken). f t.w.0) ts
frames-sum f [] = refl
frames-sum f (t ∷ ts) = omega (arith, frames-sum f ts, sum_by-cons (λ (t : Taken). f t.w.0) t ts)

-- ## The law
lived-runs : RunsLive → (ls : List Life) → AllByRecursion IsRun ls → AllLived ls
lived-runs live [] p = tt
lived-runs live (l ∷ ls) p =
    (subst HasLived (sym (p.0).connection) (live l.cfg l.flow l.peer_mac l.iss (moments l.journal)), lived-runs live ls p.1)

out-all : (f : ℕ → ℕ) (whole : Bool) (ls : List Life) → sum_by (out_of f whole) ls ≤ wide_all f whole ls
out-all f whole [] = omega arith
out-all f whole (l ∷ ls) = omega (arith, sum_by-cons (out_of f whole) l ls, out-wide f whole l, out-all f whole ls)

all-out : (f : ℕ → ℕ) (whole : Bool) (ls : List Life) → AllByRecursion HasTold ls → wide_all f whole ls ≤ sum_by (out_of f whole) ls
all-out f whole [] p = omega arith
all-out f whole (l ∷ ls) p = omega (arith, sum_by-cons (out_of f whole) l ls, wide-out f whole l p.0, all-out f whole ls p.1)

pub out_shrinks : AllBegin → StepsLive → RunsLive → AreRuns → NoneLost → AllTold → OutShrinks
out_shrinks begin steps live runs lost told env none asked cs c rise whole f =
    let g : Group = run env asked cs in
    let h : Group = run_cycle env c g in
    let next : run env asked (cs ++ c ∷ []) ≡ h = run-push env asked cs c in
    let parts : accepted (cs ++ c ∷ []) ≡ accepted cs ++ frames_of c = accepted-append cs (c ∷ []) ∙ ap (λ ts. accepted cs ++ ts) (append-nil (frames_of c)) in
    let before = placed-sum lost f env asked cs (rise-front 0 (accepted cs) (frames_of c) (subst (RiseFrom 0) parts rise)) in
    let after = placed-sum lost f env asked (cs ++ c ∷ []) rise in
    let after_h : heard_all f h.lives + nums_sum f (stray_numbers h.strays) ≡ nums_sum f (numbers (accepted (cs ++ c ∷ []))) =
    subst (λ (k : Group). heard_all f k.lives + nums_sum f (stray_numbers k.strays) ≡ nums_sum f (numbers (accepted (cs ++ c ∷ [])))) next after in
    let sums : nums_sum f (numbers (accepted (cs ++ c ∷ []))) ≡ nums_sum f (numbers (accepted cs)) + nums_sum f (numbers (frames_of c)) =
    ap (λ ts. nums_sum f (numbers ts)) parts ∙ ap (nums_sum f) (numbers-append (accepted cs) (frames_of c)) ∙ nums-append f (numbers (accepted cs)) (numbers (frames_of c)) in
    let pays = cycle-pays begin steps f whole (wide_all f whole g.lives) (heard_all f g.lives + nums_sum f (stray_numbers g.strays)) env c g
    (record { lived = lived-runs live g.lives (runs env asked cs); weight = omega arith }) in
    let out_now : out_weight f whole h ≤ wide_all f whole h.lives = out-all f whole h.lives in
    let out_then : wide_all f whole g.lives ≤ out_weight f whole g = all-out f whole g.lives (told env none asked cs) in
    let small : out_weight f whole h ≤ out_weight f whole g + sum_by (λ (t : Taken). f t.w.0) (frames_of c) =
    omega (arith, pays.weight, out_now, out_then, before, after_h, sums, frames-sum f (frames_of c)) in
    subst (λ (k : Group). out_weight f whole k ≤ out_weight f whole g + sum_by (λ (t : Taken). f t.w.0) (frames_of c)) (sym next) small
