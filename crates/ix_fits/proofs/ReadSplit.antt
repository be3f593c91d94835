-- Cycles whose first frames no connection takes: these may as well be cycles of their own.
use Rattle.std.proofs.Common.{◌≡◌, ℕ, zero, suc, ◌-◌, ◌<◌, ◌≤◌, refl, sym, ap, ◌∙◌, subst, inl, inr, Bool, true, false, List, [], ◌∷◌, ◌++◌, length, map, arith}
use Rattle.std.specs.Prelude.{◌⊎◌, ◌&&◌, ◌||◌, if◌then◌else◌, nat_lt, slice_get, option_map, Option, Some, Result, Ok, Err}
use Rattle.std.specs.List.{AllByRecursion, list_any}
use Rattle.std.proofs.lemmas.Bool.{lt-ltb, le-ltb}
use Rattle.ix_base.specs.declared.frame.Disposition.{Disposition}
use Rattle.ix_base.specs.declared.id.CoreId.{CoreId}
use Rattle.ix_base.specs.declared.id.WireNo.{WireNo}
use Rattle.ix_base.specs.declared.segment.Seg.{Seg}
use Rattle.ix_groupdef.specs.declared.types.Stray.{Stray}
use Rattle.ix_groupdef.specs.declared.types.Taken.{Taken}
use Rattle.ix_groupdef.specs.declared.types.Turn.{Turn}
use Rattle.ix_groupdef.specs.Group.{Group, Cycle, Frames, Time, Connect, closed, connect_all, empty, end_cycle, has_room, heard, last_number, number_of, opened, read_of, run, run_cycle, run_cycles, stray_of, strayed, take_as, take_frames, take_segment, turn_of}
use Rattle.ix_groupdef.specs.Life.{Life, hears}
use Rattle.ix_groupdef.specs.Rest.{AllRest, ClosedStays, IsAtRest, IsUntouched, RestsUntouched}
use Rattle.ix_groupdef.specs.Setting.{Setting}
use Rattle.ix_groupdef.specs.Strays.{asks_to_open, reply_to, reply_to_segment, segment_kind}
use Rattle.ix_groupdef.specs.Whole.{HasEntry}
use Rattle.ix_fits.specs.Cutting.{Due, IsCutting, frame_due}
use Rattle.ix_fits.specs.Owners.{below, ends_below}

-- ## Whether a connection takes a frame
abbrev pub takes_as : Result Seg Disposition → Setting → List Life → Bool
takes_as (Ok s) env ls = list_any (hears s.head.flow) ls || (asks_to_open env s.head && has_room ls)
takes_as (Err kind) env ls = false

abbrev pub takes : Setting → Taken → List Life → Bool
takes env t ls = takes_as (read_of env t.frame) env ls

-- where none does, it is a stray
abbrev pub stray_as : Result Seg Disposition → Setting → CoreId → Taken → Stray
stray_as (Ok s) env core t = record { w = t.w; core = core; kind = segment_kind env s.head; reply = reply_to_segment env s.head }
stray_as (Err kind) env core t = record { w = t.w; core = core; kind = kind; reply = reply_to env.local kind t.frame }

abbrev pub made_stray : Setting → CoreId → Taken → Group → Group
made_stray env core t g = strayed (stray_as (read_of env t.frame) env core t) g

neither : {A : Type 0} (a b : Bool) (x y z : A) → (a || b) ≡ false → (if a then x else (if b then y else z)) ≡ z
neither true b x y z e = absurd (cc)
neither false true x y z e = absurd (cc)
neither false false x y z e = refl

pub left-as : (r : Result Seg Disposition) (env : Setting) (turn : Turn) (t : Taken) (g : Group) → takes_as r env g.lives ≡ false → take_as r env turn t g ≡ strayed (stray_as r env turn.core t) g
unfolding take_segment
left-as (Ok s) env turn t g e =
    neither {A = Group} (list_any (hears s.head.flow) g.lives) (asks_to_open env s.head && has_room g.lives) (record g { lives = map (heard turn t.w s) g.lives }) (record g { lives = g.lives ++ opened env turn t.w s ∷ [] })
    (strayed (stray_of turn t.w (segment_kind env s.head) (reply_to_segment env s.head)) g) e
left-as (Err kind) env turn t g e = refl

-- ## Connections at rest
pub record AtRest (env : Setting) (l : Life) : Type 0 where
  pub rest : IsAtRest env l
  pub untouched : l.touched ≡ false

both-rest : (env : Setting) (ls : List Life) → AllByRecursion (RestsUntouched env) ls → AllByRecursion IsUntouched ls → AllByRecursion (AtRest env) ls
both-rest env [] p q = tt
both-rest env (l ∷ ls) p q = (record { rest = p.0.rests q.0; untouched = q.0 }, both-rest env ls p.1 q.1)

-- between the cycles of a group
pub record AlwaysRest (env : Setting) (asked : List Connect) : Type 0 where
  pub behind : (before : List Cycle) → AllByRecursion (AtRest env) (run env asked before).lives

pub always-rest : AllRest → (env : Setting) → env.answer false [] ≡ [] → (asked : List Connect) → AlwaysRest env asked
always-rest rests env first asked =
    record { behind = λ before. both-rest env (run env asked before).lives (rests env first asked before).0 (rests env first asked before).1 }

pub lives-stay : (env : Setting) → ClosedStays → (turn : Turn) (ls : List Life) → AllByRecursion (AtRest env) ls → map (closed env false turn) ls ≡ ls
lives-stay env stays turn [] p = refl
lives-stay env stays turn (l ∷ ls) p =
    ap (λ (m : Life). m ∷ map (closed env false turn) ls) (stays env false turn l p.0.rest p.0.untouched refl) ∙ ap (λ (ms : List Life). l ∷ ms) (lives-stay env stays turn ls p.1)

-- ## Last numbers
minus-one : (n : ℕ) → suc (suc n) - 1 ≡ suc (suc n - 1)
minus-one n = omega arith

one-less : suc zero - 1 ≡ zero
one-less = omega arith

pub last-one : (t : Taken) → last_number (t ∷ []) ≡ Some t.w
last-one t = ap (λ (i : ℕ). option_map number_of (slice_get (t ∷ []) i)) one-less

pub last-cons : (t u : Taken) (us : List Taken) → last_number (t ∷ u ∷ us) ≡ last_number (u ∷ us)
last-cons t u us = ap (λ (i : ℕ). option_map number_of (slice_get (t ∷ u ∷ us) i)) (minus-one (length us))

-- ## A cycle split
abbrev pub split_by : Bool → CoreId → Taken → List Taken → List Cycle → List Cycle
split_by true core t ts rest = Frames core (t ∷ ts) ∷ []
split_by false core t ts rest = Frames core (t ∷ []) ∷ rest

-- the frames before the first that one of these connections takes are alone
abbrev pub split : Setting → CoreId → List Life → List Taken → List Cycle
split env core ls [] = []
split env core ls (t ∷ ts) = split_by (takes env t ls) core t ts (split env core ls ts)

abbrev pub split_cycle : Setting → List Life → Cycle → List Cycle
split_cycle env ls (Frames core ts) = split env core ls ts
split_cycle env ls (Time core w t) = Time core w t ∷ []

-- all cycles of a group, from this one on
abbrev pub split_all : Setting → Group → List Cycle → List Cycle
split_all env g [] = []
split_all env g (c ∷ cs) = split_cycle env g.lives c ++ split_all env (run_cycle env c g) cs

-- ## The run stays the same
alone-left : (env : Setting) → ClosedStays → (core : CoreId) (t : Taken) (g : Group) → AllByRecursion (AtRest env) g.lives → takes env t g.lives ≡ false
    → run_cycle env (Frames core (t ∷ [])) g ≡ made_stray env core t g
unfolding run_cycle
alone-left env stays core t g rest e =
    let turn : Turn = turn_of g.clock core (last_number (t ∷ [])) in
    ap (end_cycle env false turn) (left-as (read_of env t.frame) env turn t g e)
    ∙ ap (λ (ls : List Life). record (made_stray env core t g) { lives = ls }) (lives-stay env stays turn g.lives rest)

longer-left : (env : Setting) (core : CoreId) (t u : Taken) (us : List Taken) (g : Group) → takes env t g.lives ≡ false
    → run_cycle env (Frames core (t ∷ u ∷ us)) g ≡ run_cycle env (Frames core (u ∷ us)) (made_stray env core t g)
unfolding run_cycle
longer-left env core t u us g e =
    let turn : Turn = turn_of g.clock core (last_number (t ∷ u ∷ us)) in
    ap (λ (h : Group). end_cycle env false turn (take_frames env turn (u ∷ us) h)) (left-as (read_of env t.frame) env turn t g e)
    ∙ ap (λ (o : Option WireNo). end_cycle env false (turn_of g.clock core o) (take_frames env (turn_of g.clock core o) (u ∷ us) (made_stray env core t g))) (last-cons t u us)

run-split : (env : Setting) → ClosedStays → (core : CoreId) (t : Taken) (ts : List Taken) (g : Group) → AllByRecursion (AtRest env) g.lives
    → run_cycles env (split env core g.lives (t ∷ ts)) g ≡ run_cycle env (Frames core (t ∷ ts)) g
run-split env stays core t [] g rest = by_take (takes env t g.lives)
  where
    by_take : (b : Bool) → run_cycles env (split_by b core t [] []) g ≡ run_cycle env (Frames core (t ∷ [])) g
    by_take true = refl
    by_take false = refl
run-split env stays core t (u ∷ us) g rest = by_take (takes env t g.lives) refl (run-split env stays core u us (made_stray env core t g) rest)
  where
    by_take : (b : Bool) → takes env t g.lives ≡ b
        → run_cycles env (split env core g.lives (u ∷ us)) (made_stray env core t g) ≡ run_cycle env (Frames core (u ∷ us)) (made_stray env core t g)
        → run_cycles env (split_by b core t (u ∷ us) (split env core g.lives (u ∷ us))) g ≡ run_cycle env (Frames core (t ∷ u ∷ us)) g
    by_take true e ih = refl
    by_take false e ih =
        ap (run_cycles env (split env core g.lives (u ∷ us))) (alone-left env stays core t g rest e) ∙ ih ∙ sym (longer-left env core t u us g e)

pub run-append : (env : Setting) (xs ys : List Cycle) (g : Group) → run_cycles env (xs ++ ys) g ≡ run_cycles env ys (run_cycles env xs g)
run-append env [] ys g = refl
run-append env (x ∷ xs) ys g = run-append env xs ys (run_cycle env x g)

run-cycle-split : (env : Setting) → ClosedStays → (c : Cycle) (g : Group) → HasEntry c → AllByRecursion (AtRest env) g.lives → run_cycles env (split_cycle env g.lives c) g ≡ run_cycle env c g
run-cycle-split env stays (Frames core []) g has rest = absurd (omega (arith, has))
run-cycle-split env stays (Frames core (t ∷ ts)) g has rest = run-split env stays core t ts g rest
run-cycle-split env stays (Time core w t) g has rest = refl

-- the group behind one more cycle
pub run-next : (env : Setting) (asked : List Connect) (before : List Cycle) (c : Cycle) (g : Group) → g ≡ run env asked before → run_cycle env c g ≡ run env asked (before ++ c ∷ [])
run-next env asked before c g is = ap (run_cycle env c) is ∙ sym (run-append env before (c ∷ []) (connect_all env asked empty))

pub rest-at : (env : Setting) (asked : List Connect) (before : List Cycle) (g : Group) → AlwaysRest env asked → g ≡ run env asked before → AllByRecursion (AtRest env) g.lives
rest-at env asked before g always is = subst (λ (h : Group). AllByRecursion (AtRest env) h.lives) (sym is) (always.behind before)

pub run-split-all : (env : Setting) → ClosedStays → (asked : List Connect) → AlwaysRest env asked → (before cs : List Cycle) (g : Group) → g ≡ run env asked before → AllByRecursion HasEntry cs
    → run_cycles env (split_all env g cs) g ≡ run_cycles env cs g
run-split-all env stays asked always before [] g is has = refl
run-split-all env stays asked always before (c ∷ cs) g is has =
    run-append env (split_cycle env g.lives c) (split_all env (run_cycle env c g) cs) g
    ∙ ap (run_cycles env (split_all env (run_cycle env c g) cs)) (run-cycle-split env stays c g has.0 (rest-at env asked before g always is))
    ∙ run-split-all env stays asked always (before ++ c ∷ []) cs (run_cycle env c g) (run-next env asked before c g is) has.1

-- ## It is a cutting where the cycles are
cut-split : (env : Setting) (core : CoreId) (k q : ℕ) (ls : List Life) (batch : ℕ) (rest : List Due) (more : List Cycle) (ts : List Taken) → length ts ≤ batch → IsCutting batch rest more
    → IsCutting batch (map (frame_due core k q) ts ++ rest) (split env core ls ts ++ more)
cut-split env core k q ls batch rest more [] le p = p
cut-split env core k q ls batch rest more (t ∷ ts) le p = by_take (takes env t ls) (cut-split env core k q ls batch rest more ts (omega (arith, le)) p)
  where
    by_take : (b : Bool) → IsCutting batch (map (frame_due core k q) ts ++ rest) (split env core ls ts ++ more)
        → IsCutting batch (map (frame_due core k q) (t ∷ ts) ++ rest) (split_by b core t ts (split env core ls ts) ++ more)
    by_take true ih = (rest, record { some = omega arith; few = le; tenure = k; settles = q; cut = refl }, p)
    by_take false ih = (map (frame_due core k q) ts ++ rest, record { some = omega arith; few = omega (arith, le); tenure = k; settles = q; cut = refl }, ih)

pub cut-all : (env : Setting) (batch : ℕ) (cs : List Cycle) (ds : List Due) (g : Group) → IsCutting batch ds cs → IsCutting batch ds (split_all env g cs)
cut-all env batch [] ds g p = p
cut-all env batch (Frames core ts ∷ cs) ds g p =
    let more : List Cycle = split_all env (run_cycle env (Frames core ts) g) cs in
    subst (λ (xs : List Due). IsCutting batch xs (split env core g.lives ts ++ more)) (sym p.1.cut)
    (cut-split env core p.1.tenure p.1.settles g.lives batch p.0 more ts p.1.few (cut-all env batch cs p.0 (run_cycle env (Frames core ts) g) p.2))
cut-all env batch (Time core w t ∷ cs) ds g p = (p.0, p.1, cut-all env batch cs p.0 (run_cycle env (Time core w t) g) p.2)

pub cut-entries : (batch : ℕ) (ds : List Due) (cs : List Cycle) → IsCutting batch ds cs → AllByRecursion HasEntry cs
cut-entries batch ds [] p = tt
cut-entries batch ds (Frames core ts ∷ cs) p = (omega (arith, p.1.some), cut-entries batch p.0 cs p.2)
cut-entries batch ds (Time core w t ∷ cs) p = (tt, cut-entries batch p.0 cs p.2)

-- ## At a number that lies within no cycle
abbrev pub IsUnder : ℕ → Taken → Type 0
IsUnder n t = t.w.0 < n

abbrev pub IsOver : ℕ → Taken → Type 0
IsOver n t = n ≤ t.w.0

abbrev pub IsSided : ℕ → Cycle → Type 0
IsSided n (Frames core ts) = AllByRecursion (IsUnder n) ts ⊎ AllByRecursion (IsOver n) ts
IsSided n (Time core w t) = Unit {0}

last-under : (n : ℕ) (t : Taken) (ts : List Taken) → AllByRecursion (IsUnder n) (t ∷ ts) → ends_below n (last_number (t ∷ ts)) ≡ true
last-under n t [] p = ap (ends_below n) (last-one t) ∙ lt-ltb t.w.0 n p.0
last-under n t (u ∷ us) p = ap (ends_below n) (last-cons t u us) ∙ last-under n u us p.1

last-over : (n : ℕ) (t : Taken) (ts : List Taken) → AllByRecursion (IsOver n) (t ∷ ts) → ends_below n (last_number (t ∷ ts)) ≡ false
last-over n t [] p = ap (ends_below n) (last-one t) ∙ le-ltb t.w.0 n p.0
last-over n t (u ∷ us) p = ap (ends_below n) (last-cons t u us) ∙ last-over n u us p.1

below-split : (env : Setting) (core : CoreId) (ls : List Life) (n : ℕ) (more : List Cycle) (ts : List Taken) → AllByRecursion (IsUnder n) ts → below n (split env core ls ts ++ more) ≡ split env core ls ts ++ below n more
below-split env core ls n more [] p = refl
below-split env core ls n more (t ∷ ts) p = by_take (takes env t ls) (below-split env core ls n more ts p.1)
  where
    by_take : (b : Bool) → below n (split env core ls ts ++ more) ≡ split env core ls ts ++ below n more
        → below n (split_by b core t ts (split env core ls ts) ++ more) ≡ split_by b core t ts (split env core ls ts) ++ below n more
    by_take true ih = ap (λ (b : Bool). if b then Frames core (t ∷ ts) ∷ below n more else []) (last-under n t ts p)
    by_take false ih =
        ap (λ (b : Bool). if b then Frames core (t ∷ []) ∷ below n (split env core ls ts ++ more) else []) (last-under n t [] (p.0, tt))
        ∙ ap (λ (cs : List Cycle). Frames core (t ∷ []) ∷ cs) ih

none-over : (env : Setting) (core : CoreId) (n : ℕ) (rest more : List Cycle) (t : Taken) (ts : List Taken) (b : Bool) → AllByRecursion (IsOver n) (t ∷ ts) → below n (split_by b core t ts rest ++ more) ≡ []
none-over env core n rest more t ts true p = ap (λ (b : Bool). if b then Frames core (t ∷ ts) ∷ below n more else []) (last-over n t ts p)
none-over env core n rest more t ts false p = ap (λ (b : Bool). if b then Frames core (t ∷ []) ∷ below n (rest ++ more) else []) (last-over n t [] (p.0, tt))

pub below-all : (env : Setting) (n : ℕ) (cs : List Cycle) (g : Group) → AllByRecursion (IsSided n) cs → AllByRecursion HasEntry cs → below n (split_all env g cs) ≡ split_all env g (below n cs)
below-all env n [] g sided has = refl
below-all env n (Time core w t ∷ cs) g sided has = by_test (nat_lt w.0 n) (below-all env n cs (run_cycle env (Time core w t) g) sided.1 has.1)
  where
    by_test : (b : Bool) → below n (split_all env (run_cycle env (Time core w t) g) cs) ≡ split_all env (run_cycle env (Time core w t) g) (below n cs)
        → (if b then Time core w t ∷ below n (split_all env (run_cycle env (Time core w t) g) cs) else []) ≡ split_all env g (if b then Time core w t ∷ below n cs else [])
    by_test true ih = ap (λ (ds : List Cycle). Time core w t ∷ ds) ih
    by_test false ih = refl
below-all env n (Frames core [] ∷ cs) g sided has = absurd (omega (arith, has.0))
below-all env n (Frames core (t ∷ ts) ∷ cs) g sided has = by_side sided.0 (below-all env n cs (run_cycle env (Frames core (t ∷ ts)) g) sided.1 has.1)
  where
    by_side : AllByRecursion (IsUnder n) (t ∷ ts) ⊎ AllByRecursion (IsOver n) (t ∷ ts)
        → below n (split_all env (run_cycle env (Frames core (t ∷ ts)) g) cs) ≡ split_all env (run_cycle env (Frames core (t ∷ ts)) g) (below n cs)
        → below n (split_all env g (Frames core (t ∷ ts) ∷ cs)) ≡ split_all env g (below n (Frames core (t ∷ ts) ∷ cs))
    by_side (inl p) ih =
        below-split env core g.lives n (split_all env (run_cycle env (Frames core (t ∷ ts)) g) cs) (t ∷ ts) p
        ∙ ap (λ (ds : List Cycle). split env core g.lives (t ∷ ts) ++ ds) ih
        ∙ ap (λ (b : Bool). split_all env g (if b then Frames core (t ∷ ts) ∷ below n cs else [])) (sym (last-under n t ts p))
    by_side (inr p) ih =
        none-over env core n (split env core g.lives ts) (split_all env (run_cycle env (Frames core (t ∷ ts)) g) cs) t ts (takes env t g.lives) p
        ∙ ap (λ (b : Bool). split_all env g (if b then Frames core (t ∷ ts) ∷ below n cs else [])) (sym (last-over n t ts p))
