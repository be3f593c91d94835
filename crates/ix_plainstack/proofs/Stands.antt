-- What a stack owns is what the definitions say.
use Rattle.std.proofs.Common.{◌≡◌, ℕ, ◌+◌, ◌-◌, ◌≤◌, refl, sym, ap, ◌∙◌, subst, Bool, true, false, List, [], ◌∷◌, ◌++◌, map, length, arith, append_assoc, append-nil}
use Rattle.std.specs.Prelude.{if◌then◌else◌, ◌&&◌, ◌||◌, ◌==◌, nat_lt, nat_le, sum_by, count_by}
use Rattle.std.specs.List.{flat_map}
use Rattle.std.proofs.lemmas.Bool.Decides.{nat_tests}
use Rattle.std.proofs.lemmas.List.{map-append}
use Rattle.std.proofs.lemmas.List.Sums.{sum_by-append, sum_by-cons}
use Rattle.ix_base.specs.declared.id.CoreId.{CoreId}
use Rattle.ix_base.specs.declared.id.WireNo.{WireNo}
use Rattle.ix_mbuf.specs.declared.name.Name.{Name}
use Rattle.ix_tcpdef.specs.declared.types.Connection.{Connection}
use Rattle.ix_tcpdef.specs.declared.types.HeldSegment.{HeldSegment}
use Rattle.ix_groupdef.specs.declared.types.Taken.{Taken as Accepted}
use Rattle.ix_groupdef.specs.Setting.{Setting}
use Rattle.ix_groupdef.specs.Life.{Life, lives}
use Rattle.ix_groupdef.specs.Group.{Group, Cycle, Connect, run, run_cycle}
use Rattle.ix_groupdef.specs.Places.{accepted, frames_of, RiseFrom}
use Rattle.ix_groupdef.specs.Owners.{Ended, told_parts, is_with_app, is_queued, is_at, held_at, parts_at, owners_of}
use Rattle.ix_stack.specs.declared.work.Taken.{Taken}
use Rattle.ix_plainstack.specs.Numbers.{numbers_where, held_by, parts_by, held_numbers, app_numbers, queue_numbers}
use Rattle.ix_plainstack.specs.Kept.{has_number, first_with, without, kept_of, left_of}
use Rattle.ix_plainstack.specs.Batches.{Batch, Frames, Time, accepted_as, cycle_of, cycles_of, frames_in}
use Rattle.ix_plainstack.specs.Owning.{Buffered, Owning, owned_by, found_by, settled, is_at_home, counts_at, run_batch, run_batches}
use Rattle.ix_plainstack.specs.Out.{is_out, part_out, out_of, out_weight, OutShrinks}
use Rattle.ix_plainstack.specs.Standing.{numbers_of, AreNamed, StandsFor, all_frames_in, StandsOn, OwnersAreRight}
use Rattle.ix_plainstack.proofs.CycleSteps.{run-push}
use Rattle.ix_plainstack.proofs.Pays.{accepted-append, rise-front}

-- ## Weights of wire numbers
abbrev wires_sum : (ℕ → ℕ) → List WireNo → ℕ
wires_sum f [] = 0
wires_sum f (n ∷ ns) = f n.0 + wires_sum f ns

abbrev taken_sum : (ℕ → ℕ) → List Taken → ℕ
taken_sum f [] = 0
taken_sum f (t ∷ ts) = f t.w.0 + taken_sum f ts

wires-append : (f : ℕ → ℕ) (xs ys : List WireNo) → wires_sum f (xs ++ ys) ≡ wires_sum f xs + wires_sum f ys
wires-append f [] ys = omega arith
wires-append f (x ∷ xs) ys = omega (arith, wires-append f xs ys)

taken-append : (f : ℕ → ℕ) (xs ys : List Taken) → taken_sum f (xs ++ ys) ≡ taken_sum f xs + taken_sum f ys
taken-append f [] ys = omega arith
taken-append f (x ∷ xs) ys = omega (arith, taken-append f xs ys)

taken-numbers : (f : ℕ → ℕ) (ts : List Taken) → wires_sum f (numbers_of ts) ≡ taken_sum f ts
taken-numbers f [] = refl
taken-numbers f (t ∷ ts) = omega (arith, taken-numbers f ts)

-- ## Each number has its frame
abbrev one_for : WireNo → ℕ → ℕ
one_for n m = if m == n.0 then 1 else 0

found-first : (n : WireNo) (ts : List Taken) → 1 ≤ taken_sum (one_for n) ts → numbers_of (first_with n ts) ≡ n ∷ []
found-first n [] le = absurd (omega arith)
found-first n (t ∷ ts) le = by_test (has_number n t) refl le (λ l. found-first n ts l)
  where
    by_test : (b : Bool) → has_number n t ≡ b → 1 ≤ (if b then 1 else 0) + taken_sum (one_for n) ts → (1 ≤ taken_sum (one_for n) ts → numbers_of (first_with n ts) ≡ n ∷ [])
        → numbers_of (if b then t ∷ [] else first_with n ts) ≡ n ∷ []
    by_test true e l k = let same : t.w.0 ≡ n.0 = grind (arith, nat_tests) in ap (λ (m : ℕ). record { 0 = m } ∷ []) same
    by_test false e l k = k (omega arith)

split-first : (f : ℕ → ℕ) (n : WireNo) (ts : List Taken) → taken_sum f (first_with n ts) + taken_sum f (without n ts) ≡ taken_sum f ts
split-first f n [] = refl
split-first f n (t ∷ ts) = by_case (has_number n t) (split-first f n ts)
  where
    by_case : (b : Bool) → taken_sum f (first_with n ts) + taken_sum f (without n ts) ≡ taken_sum f ts
        → taken_sum f (if b then t ∷ [] else first_with n ts) + taken_sum f (if b then ts else t ∷ without n ts) ≡ taken_sum f (t ∷ ts)
    by_case true k = omega arith
    by_case false k = omega (arith, k)

split-kept : (f : ℕ → ℕ) (ns : List WireNo) (ts : List Taken) → taken_sum f (kept_of ns ts) + taken_sum f (left_of ns ts) ≡ taken_sum f ts
split-kept f [] ts = omega arith
split-kept f (n ∷ ns) ts =
    omega (arith, split-first f n ts, split-kept f ns (without n ts), taken-append f (first_with n ts) (kept_of ns (without n ts)))

one-self : (n : WireNo) → one_for n n.0 ≡ 1
one-self n = ap (λ (b : Bool). if b then 1 else 0) same
  where
    same : (n.0 == n.0) ≡ true
    same = grind (arith, nat_tests)

matched : (ns : List WireNo) (ts : List Taken) → ((f : ℕ → ℕ) → wires_sum f ns ≤ taken_sum f ts) → numbers_of (kept_of ns ts) ≡ ns
matched [] ts le = refl
matched (n ∷ ns) ts le =
    let there : 1 ≤ taken_sum (one_for n) ts = omega (arith, le (one_for n), one-self n) in
    let first : numbers_of (first_with n ts) ≡ n ∷ [] = found-first n ts there in
    let rest : (f : ℕ → ℕ) → wires_sum f ns ≤ taken_sum f (without n ts) =
    λ f. omega (arith, le f, split-first f n ts, taken-numbers f (first_with n ts), ap (wires_sum f) first) in
    map-append (λ (t : Taken). t.w) (first_with n ts) (kept_of ns (without n ts)) ∙ ap (λ ms. ms ++ numbers_of (kept_of ns (without n ts))) first
    ∙ ap (λ ms. n ∷ ms) (matched ns (without n ts) rest)

left-sum : (f : ℕ → ℕ) (ns : List WireNo) (ts : List Taken) → ((f : ℕ → ℕ) → wires_sum f ns ≤ taken_sum f ts) → wires_sum f ns + taken_sum f (left_of ns ts) ≡ taken_sum f ts
left-sum f ns ts le = omega (arith, split-kept f ns ts, taken-numbers f (kept_of ns ts), ap (wires_sum f) (matched ns ts le))

-- ## The numbers that a group needs are those that are out
held-wires : (f : ℕ → ℕ) (hs : List HeldSegment) → wires_sum f (map (λ (h : HeldSegment). h.w) hs) ≡ sum_by (λ (h : HeldSegment). f h.w.0) hs
held-wires f [] = refl
held-wires f (h ∷ hs) = omega (arith, held-wires f hs, sum_by-cons (λ (h : HeldSegment). f h.w.0) h hs)

wires_if : (f : ℕ → ℕ) (b : Bool) (n : WireNo) (ns : List WireNo) → wires_sum f (if b then n ∷ ns else ns) ≡ (if b then f n.0 else 0) + wires_sum f ns
wires_if f true n ns = refl
wires_if f false n ns = omega arith

either-part : (w : Connection) (end n : ℕ) → (if is_with_app w end then n else 0) + (if is_queued w end then n else 0) ≡ (if is_out w end then n else 0)
either-part w end n = by_case (nat_lt (length w.sent) end) (nat_le end (length w.sent)) (nat_lt (w.una - 1) end) refl refl
  where
    by_case : (a b c : Bool) → nat_lt (length w.sent) end ≡ a → nat_le end (length w.sent) ≡ b → (if a then n else 0) + (if b && c then n else 0) ≡ (if a || (b && c) then n else 0)
    by_case true true c p q = absurd (grind (arith, nat_tests))
    by_case true false c p q = omega arith
    by_case false true true p q = omega arith
    by_case false true false p q = omega arith
    by_case false false c p q = omega arith

parts-wires : (f : ℕ → ℕ) (w : Connection) (ps : List Ended) → wires_sum f (numbers_where (is_with_app w) ps) + wires_sum f (numbers_where (is_queued w) ps) ≡ sum_by (part_out f w) ps
parts-wires f w [] = refl
parts-wires f w (p ∷ ps) =
    omega (
      arith,
      wires_if f (is_with_app w p.end) p.w (numbers_where (is_with_app w) ps),
      wires_if f (is_queued w p.end) p.w (numbers_where (is_queued w) ps),
      either-part w p.end (f p.w.0),
      parts-wires f w ps,
      sum_by-cons (part_out f w) p ps,
    )

life-wires : (f : ℕ → ℕ) (whole : Bool) (l : Life) → wires_sum f (held_by l) + (wires_sum f (parts_by is_with_app whole l) + wires_sum f (parts_by is_queued whole l)) ≡ out_of f whole l
life-wires f whole l = by_case (whole && lives l)
  where
    by_case : (b : Bool) → wires_sum f (held_by l) + (wires_sum f (if b then numbers_where (is_with_app l.connection) (told_parts l.connection) else []) + wires_sum f (if b then numbers_where (is_queued l.connection) (told_parts l.connection) else []))
        ≡ sum_by (λ (h : HeldSegment). f h.w.0) l.connection.held + (if b then sum_by (part_out f l.connection) (told_parts l.connection) else 0)
    by_case true = omega (arith, held-wires f l.connection.held, parts-wires f l.connection (told_parts l.connection))
    by_case false = omega (arith, held-wires f l.connection.held)

lives-wires : (f : ℕ → ℕ) (whole : Bool) (ls : List Life) → wires_sum f (held_numbers ls) + (wires_sum f (app_numbers whole ls) + wires_sum f (queue_numbers whole ls)) ≡ sum_by (out_of f whole) ls
lives-wires f whole [] = refl
lives-wires f whole (l ∷ ls) =
    omega (
      arith,
      life-wires f whole l,
      lives-wires f whole ls,
      sum_by-cons (out_of f whole) l ls,
      wires-append f (held_by l) (held_numbers ls),
      wires-append f (parts_by is_with_app whole l) (app_numbers whole ls),
      wires-append f (parts_by is_queued whole l) (queue_numbers whole ls),
    )

-- ## Names
named-append : (name : WireNo → Name) (xs ys : List Taken) → AreNamed name xs → AreNamed name ys → AreNamed name (xs ++ ys)
named-append name [] ys p q = q
named-append name (x ∷ xs) ys p q = (p.0, named-append name xs ys p.1 q)

named-left : (name : WireNo → Name) (xs ys : List Taken) → AreNamed name (xs ++ ys) → AreNamed name xs
named-left name [] ys p = tt
named-left name (x ∷ xs) ys p = (p.0, named-left name xs ys p.1)

named-right : (name : WireNo → Name) (xs ys : List Taken) → AreNamed name (xs ++ ys) → AreNamed name ys
named-right name [] ys p = p
named-right name (x ∷ xs) ys p = named-right name xs ys p.1

named-if : (name : WireNo → Name) (b : Bool) (xs ys : List Taken) → AreNamed name xs → AreNamed name ys → AreNamed name (if b then xs else ys)
named-if name true xs ys p q = p
named-if name false xs ys p q = q

named-first : (name : WireNo → Name) (n : WireNo) (ts : List Taken) → AreNamed name ts → AreNamed name (first_with n ts)
named-first name n [] p = tt
named-first name n (t ∷ ts) p = named-if name (has_number n t) _ _ (p.0, tt) (named-first name n ts p.1)

named-without : (name : WireNo → Name) (n : WireNo) (ts : List Taken) → AreNamed name ts → AreNamed name (without n ts)
named-without name n [] p = tt
named-without name n (t ∷ ts) p = named-if name (has_number n t) _ _ p.1 (p.0, named-without name n ts p.1)

named-kept : (name : WireNo → Name) (ns : List WireNo) (ts : List Taken) → AreNamed name ts → AreNamed name (kept_of ns ts)
named-kept name [] ts p = tt
named-kept name (n ∷ ns) ts p = named-append name (first_with n ts) (kept_of ns (without n ts)) (named-first name n ts p) (named-kept name ns (without n ts) (named-without name n ts p))

named-rest : (name : WireNo → Name) (ns : List WireNo) (ts : List Taken) → AreNamed name ts → AreNamed name (left_of ns ts)
named-rest name [] ts p = p
named-rest name (n ∷ ns) ts p = named-rest name ns (without n ts) (named-without name n ts p)

-- ## One cycle
accepted-sum : (f : ℕ → ℕ) (ts : List Taken) → sum_by (λ (t : Accepted). f t.w.0) (map accepted_as ts) ≡ taken_sum f ts
accepted-sum f [] = refl
accepted-sum f (t ∷ ts) = omega (arith, accepted-sum f ts, sum_by-cons (λ (t : Accepted). f t.w.0) (accepted_as t) (map accepted_as ts))

batch-sum : (f : ℕ → ℕ) (core : CoreId) (b : Batch) → sum_by (λ (t : Accepted). f t.w.0) (frames_of (cycle_of core b)) ≡ taken_sum f (frames_in b)
batch-sum f core (Frames ts) = accepted-sum f ts
batch-sum f core (Time w now) = refl

-- what settles is what is needed, where enough is found
pub record Settles (whole : Bool) (ls : List Life) (b : Buffered) : Type 0 where
  pub held : numbers_of b.held ≡ held_numbers ls
  pub app : numbers_of b.app ≡ app_numbers whole ls
  pub queue : numbers_of b.queue ≡ queue_numbers whole ls

settles : (whole : Bool) (ls : List Life) (came : List Taken) (b : Buffered) → ((f : ℕ → ℕ) → sum_by (out_of f whole) ls ≤ taken_sum f (found_by b came)) → Settles whole ls (settled whole ls came b)
settles whole ls came b le =
    let found : List Taken = found_by b came in
    let behind_held : List Taken = left_of (held_numbers ls) found in
    let behind_app : List Taken = left_of (app_numbers whole ls) behind_held in
    let a : (f : ℕ → ℕ) → wires_sum f (held_numbers ls) ≤ taken_sum f found = λ f. omega (arith, le f, lives-wires f whole ls) in
    let c : (f : ℕ → ℕ) → wires_sum f (app_numbers whole ls) ≤ taken_sum f behind_held = λ f. omega (arith, le f, lives-wires f whole ls, left-sum f (held_numbers ls) found a) in
    let d : (f : ℕ → ℕ) → wires_sum f (queue_numbers whole ls) ≤ taken_sum f behind_app =
    λ f. omega (arith, le f, lives-wires f whole ls, left-sum f (held_numbers ls) found a, left-sum f (app_numbers whole ls) behind_held c) in
    record { held = matched (held_numbers ls) found a; app = matched (app_numbers whole ls) behind_held c; queue = matched (queue_numbers whole ls) behind_app d }

found-sum : (f : ℕ → ℕ) (whole : Bool) (ls : List Life) (came : List Taken) (b : Buffered) → Settles whole ls b → taken_sum f (found_by b came) ≡ sum_by (out_of f whole) ls + taken_sum f came
found-sum f whole ls came b s =
    omega (
      arith,
      lives-wires f whole ls,
      ap (wires_sum f) s.held,
      ap (wires_sum f) s.app,
      ap (wires_sum f) s.queue,
      taken-numbers f b.held,
      taken-numbers f b.app,
      taken-numbers f b.queue,
      taken-append f b.held (b.app ++ (b.queue ++ came)),
      taken-append f b.app (b.queue ++ came),
      taken-append f b.queue came,
    )

named-found : (name : WireNo → Name) (b : Buffered) (came : List Taken) → AreNamed name (owned_by b) → AreNamed name came → AreNamed name (found_by b came)
named-found name b came p q =
    let behind = named-right name b.held (b.app ++ b.queue) p in
    named-append name b.held (b.app ++ (b.queue ++ came)) (named-left name b.held (b.app ++ b.queue) p)
    (named-append name b.app (b.queue ++ came) (named-left name b.app b.queue behind) (named-append name b.queue came (named-right name b.app b.queue behind) q))

named-settled : (name : WireNo → Name) (whole : Bool) (ls : List Life) (came : List Taken) (b : Buffered) → AreNamed name (found_by b came) → AreNamed name (owned_by (settled whole ls came b))
named-settled name whole ls came b p =
    let found : List Taken = found_by b came in
    let behind_held : List Taken = left_of (held_numbers ls) found in
    let q : AreNamed name behind_held = named-rest name (held_numbers ls) found p in
    let r : AreNamed name (left_of (app_numbers whole ls) behind_held) = named-rest name (app_numbers whole ls) behind_held q in
    named-append name (kept_of (held_numbers ls) found) _ (named-kept name (held_numbers ls) found p)
    (named-append name (kept_of (app_numbers whole ls) behind_held) _ (named-kept name (app_numbers whole ls) behind_held q) (named-kept name (queue_numbers whole ls) _ r))

one-batch : OutShrinks → (whole : Bool) (env : Setting) → env.answer false [] ≡ [] → (name : WireNo → Name) (asked : List Connect) (cs : List Cycle) (core : CoreId) (b : Batch) (o : Owning)
    → StandsFor whole env name asked cs o → RiseFrom 0 (accepted (cs ++ cycle_of core b ∷ [])) → AreNamed name (frames_in b)
    → StandsFor whole env name asked (cs ++ cycle_of core b ∷ []) (run_batch whole env core b o)
unfolding run_batch
one-batch shrinks whole env none name asked cs core b o s rise named =
    let g : Group = run_cycle env (cycle_of core b) o.group in
    let next : g ≡ run env asked (cs ++ cycle_of core b ∷ []) = ap (run_cycle env (cycle_of core b)) s.group ∙ sym (run-push env asked cs (cycle_of core b)) in
    let enough : (f : ℕ → ℕ) → sum_by (out_of f whole) g.lives ≤ taken_sum f (found_by o.buffers (frames_in b)) =
    λ f. omega (
      arith,
      shrinks env none asked cs (cycle_of core b) rise whole f,
      ap (out_weight f whole) next,
      ap (out_weight f whole) s.group,
      batch-sum f core b,
      found-sum f whole o.group.lives (frames_in b) o.buffers (record { held = s.held; app = s.app; queue = s.queue }),
    ) in
    let t = settles whole g.lives (frames_in b) o.buffers enough in
    record {
      group = next;
      held = t.held;
      app = t.app;
      queue = t.queue;
      named = named-settled name whole g.lives (frames_in b) o.buffers (named-found name o.buffers (frames_in b) s.named named);
    }

-- ## All cycles
pub stands_on : OutShrinks → StandsOn
stands_on shrinks whole env none name asked cs core [] o s rise named = subst (λ ds. StandsFor whole env name asked ds o) (sym (append-nil cs)) s
stands_on shrinks whole env none name asked cs core (b ∷ bs) o s rise named =
    let c : Cycle = cycle_of core b in
    let whole_list : cs ++ c ∷ cycles_of core bs ≡ (cs ++ c ∷ []) ++ cycles_of core bs = sym (append_assoc cs (c ∷ []) (cycles_of core bs)) in
    let all : RiseFrom 0 (accepted ((cs ++ c ∷ []) ++ cycles_of core bs)) = subst (λ ds. RiseFrom 0 (accepted ds)) whole_list rise in
    let front : RiseFrom 0 (accepted (cs ++ c ∷ [])) =
    rise-front 0 (accepted (cs ++ c ∷ [])) (accepted (cycles_of core bs)) (subst (RiseFrom 0) (accepted-append (cs ++ c ∷ []) (cycles_of core bs)) all) in
    let one = one-batch shrinks whole env none name asked cs core b o s front (named-left name (frames_in b) (all_frames_in bs) named) in
    subst (λ ds. StandsFor whole env name asked ds (run_batches whole env core bs (run_batch whole env core b o))) (sym whole_list)
    (stands_on shrinks whole env none name asked (cs ++ c ∷ []) core bs (run_batch whole env core b o) one all (named-right name (frames_in b) (all_frames_in bs) named))

-- ## Owners
module _ (name : WireNo → Name) (home : ℕ) where
  abbrev home_of : WireNo → CoreId
  home_of w = (name w).id.home

  abbrev is_there : WireNo → Bool
  is_there w = is_at (λ v. (name v).id.home) (record { 0 = home }) w

  count-named : (ts : List Taken) → AreNamed name ts → count_by (is_at_home home) ts ≡ count_by is_there (numbers_of ts)
  count-named [] p = refl
  count-named (t ∷ ts) p =
      let same : is_at_home home t ≡ is_there t.w = ap (λ (n : Name). n.id.home.0 == home) p.0 in
      omega (arith, count-named ts p.1, ap {B = ℕ} (λ (b : Bool). if b then 1 else 0) same, sum_by-cons (λ (x : Taken). if is_at_home home x then 1 else 0) t ts, sum_by-cons (λ (x : WireNo). if is_there x then 1 else 0) t.w (numbers_of ts))

  count-flat : (g : Life → List WireNo) (h : Life → ℕ) → ((l : Life) → count_by is_there (g l) ≡ h l) → (ls : List Life) → count_by is_there (flat_map g ls) ≡ sum_by h ls
  count-flat g h k [] = refl
  count-flat g h k (l ∷ ls) =
      omega (arith, k l, count-flat g h k ls, sum_by-cons h l ls, sum_by-append (λ (x : WireNo). if is_there x then 1 else 0) (g l) (flat_map g ls))

  count-held : (l : Life) → count_by is_there (held_by l) ≡ held_at home_of (record { 0 = home }) l
  count-held l = by_list l.connection.held
    where
      by_list : (hs : List HeldSegment) → count_by is_there (map (λ (h : HeldSegment). h.w) hs) ≡ count_by (λ (h : HeldSegment). is_there h.w) hs
      by_list [] = refl
      by_list (h ∷ hs) =
          omega (arith, by_list hs, sum_by-cons (λ (x : WireNo). if is_there x then 1 else 0) h.w (map (λ (h : HeldSegment). h.w) hs), sum_by-cons (λ (h : HeldSegment). if is_there h.w then 1 else 0) h hs)

  count-if : (b : Bool) (w : WireNo) (ws : List WireNo) → count_by is_there (if b then w ∷ ws else ws) ≡ (if b then (if is_there w then 1 else 0) else 0) + count_by is_there ws
  count-if true w ws = sum_by-cons (λ (x : WireNo). if is_there x then 1 else 0) w ws
  count-if false w ws = omega arith

  both : (a b : Bool) → (if b then (if a then 1 else 0) else 0) ≡ (let n : ℕ = if a && b then 1 else 0 in n)
  both true true = refl
  both true false = refl
  both false true = refl
  both false false = refl

  count-where : (test : ℕ → Bool) (ps : List Ended) → count_by is_there (numbers_where test ps) ≡ count_by (λ (p : Ended). is_there p.w && test p.end) ps
  count-where test [] = refl
  count-where test (p ∷ ps) =
      omega (arith, count-if (test p.end) p.w (numbers_where test ps), count-where test ps, sum_by-cons (λ (q : Ended). if is_there q.w && test q.end then 1 else 0) p ps, both (is_there p.w) (test p.end))

  count-parts : (counts : Connection → ℕ → Bool) (whole : Bool) (l : Life) → count_by is_there (parts_by counts whole l) ≡ parts_at counts whole home_of (record { 0 = home }) l
  count-parts counts whole l = by_test (whole && lives l)
    where
      by_test : (b : Bool) → count_by is_there (if b then numbers_where (counts l.connection) (told_parts l.connection) else []) ≡ (if b then count_by (λ (p : Ended). is_there p.w && counts l.connection p.end) (told_parts l.connection) else 0)
      by_test true = count-where (counts l.connection) (told_parts l.connection)
      by_test false = refl

  pub owners-right : (whole : Bool) (env : Setting) (asked : List Connect) (cs : List Cycle) (o : Owning) → StandsFor whole env name asked cs o
      → counts_at o.buffers home ≡ owners_of whole (λ w. (name w).id.home) (record { 0 = home }) o.group
  unfolding owners_of
  owners-right whole env asked cs o s =
      let b : Buffered = o.buffers in
      let behind = named-right name b.held (b.app ++ b.queue) s.named in
      let held : count_by (is_at_home home) b.held ≡ sum_by (held_at home_of (record { 0 = home })) o.group.lives =
      count-named b.held (named-left name b.held (b.app ++ b.queue) s.named) ∙ ap (count_by is_there) s.held ∙ count-flat held_by (held_at home_of (record { 0 = home })) count-held o.group.lives in
      let app : count_by (is_at_home home) b.app ≡ sum_by (parts_at is_with_app whole home_of (record { 0 = home })) o.group.lives =
      count-named b.app (named-left name b.app b.queue behind) ∙ ap (count_by is_there) s.app ∙ count-flat (parts_by is_with_app whole) (parts_at is_with_app whole home_of (record { 0 = home })) (count-parts is_with_app whole) o.group.lives in
      let queue : count_by (is_at_home home) b.queue ≡ sum_by (parts_at is_queued whole home_of (record { 0 = home })) o.group.lives =
      count-named b.queue (named-right name b.app b.queue behind) ∙ ap (count_by is_there) s.queue ∙ count-flat (parts_by is_queued whole) (parts_at is_queued whole home_of (record { 0 = home })) (count-parts is_queued whole) o.group.lives in
      ap (λ n. record { held = n; app = count_by (is_at_home home) b.app; queue = count_by (is_at_home home) b.queue }) held
      ∙ ap (λ n. record { held = sum_by (held_at home_of (record { 0 = home })) o.group.lives; app = n; queue = count_by (is_at_home home) b.queue }) app
      ∙ ap (λ n. record { held = sum_by (held_at home_of (record { 0 = home })) o.group.lives; app = sum_by (parts_at is_with_app whole home_of (record { 0 = home })) o.group.lives; queue = n }) queue

pub owners_are_right : OwnersAreRight
owners_are_right whole env name asked cs o s home = owners-right name home whole env asked cs o s
