-- What is kept of some frames, and what is left.
use Rattle.std.proofs.Common.{◌≡◌, ℕ, zero, suc, ◌+◌, ◌<◌, ◌≤◌, refl, sym, ap, ◌∙◌, Bool, true, false, List, [], ◌∷◌, ◌++◌, length, get_or, drop, arith, append_assoc, append-nil}
use Rattle.std.specs.Prelude.{Some, None, remove, cond, nat_lt, if◌then◌else◌}
use Rattle.std.specs.List.{position, position_or_len}
use Rattle.std.proofs.lemmas.Bool.Decides.{nat_tests}
use Rattle.std.proofs.lemmas.List.{drop_more, drop_all, map-append}
use Rattle.std.proofs.lemmas.List.Quantifiers.{position-Some}
use Rattle.std.proofs.lemmas.List.Sums.{sum_by-append, sum_by-cons, fails_before_first}
use Rattle.ix_base.specs.declared.id.WireNo.{WireNo}
use Rattle.ix_mbuf.specs.Buffers.{Buffer}
use Rattle.ix_mbuf.specs.declared.name.Name.{Name}
use Rattle.ix_stack.specs.declared.work.Taken.{Taken}
use Rattle.ix_plainstack.specs.Kept.{has_number, first_with, without, kept_of, left_of, buffers_of, frames_weight}
use Rattle.ix_plainstack.specs.Owning.{Buffered, found_by, settled_by, buffered_weight}
use Rattle.ix_plainstack.specs.Weights.{buffers-weigh}

-- ## The first frame with a number, by its place
first_at : (n : WireNo) (ts : List Taken) (i : ℕ) (d : Taken) → i < length ts → has_number n (get_or ts i d) ≡ true → ((k : ℕ) → k < i → has_number n (get_or ts k d) ≡ false) → first_with n ts ≡ get_or ts i d ∷ []
first_at n [] i d lt e f = absurd (omega arith)
first_at n (t ∷ ts) zero d lt e f = ap (λ (b : Bool). if b then t ∷ [] else first_with n ts) e
first_at n (t ∷ ts) (suc i) d lt e f =
    ap (λ (b : Bool). if b then t ∷ [] else first_with n ts) (f zero (omega arith)) ∙ first_at n ts i d (omega arith) e (λ k h. f (suc k) (omega arith))

without_at : (n : WireNo) (ts : List Taken) (i : ℕ) (d : Taken) → i < length ts → has_number n (get_or ts i d) ≡ true → ((k : ℕ) → k < i → has_number n (get_or ts k d) ≡ false) → without n ts ≡ remove ts i
without_at n [] i d lt e f = absurd (omega arith)
without_at n (t ∷ ts) zero d lt e f = ap (λ (b : Bool). if b then ts else t ∷ without n ts) e
without_at n (t ∷ ts) (suc i) d lt e f =
    ap (λ (b : Bool). if b then ts else t ∷ without n ts) (f zero (omega arith)) ∙ ap (λ zs. t ∷ zs) (without_at n ts i d (omega arith) e (λ k h. f (suc k) (omega arith)))

pub moved_first : (n : WireNo) (ts : List Taken) (i : ℕ) (x : Taken) → position (has_number n) ts ≡ Some i → x ≡ get_or ts i x → first_with n ts ≡ x ∷ []
moved_first n ts i x e g =
    let p = position-Some (has_number n) ts i x e in
    first_at n ts i x p.0 p.1 p.2 ∙ ap (λ y. y ∷ []) (sym g)

pub moved_without : (n : WireNo) (ts : List Taken) (i : ℕ) (x : Taken) → position (has_number n) ts ≡ Some i → x ≡ get_or ts i x → without n ts ≡ remove ts i
moved_without n ts i x e g =
    let p = position-Some (has_number n) ts i x e in
    without_at n ts i x p.0 p.1 p.2

-- none has it
none_first : (n : WireNo) (ts : List Taken) → ((k : ℕ) (d : Taken) → k < length ts → has_number n (get_or ts k d) ≡ false) → first_with n ts ≡ []
none_first n [] f = refl
none_first n (t ∷ ts) f =
    ap (λ (b : Bool). if b then t ∷ [] else first_with n ts) (f zero t (omega arith)) ∙ none_first n ts (λ k d h. f (suc k) d (omega arith))

none_without : (n : WireNo) (ts : List Taken) → ((k : ℕ) (d : Taken) → k < length ts → has_number n (get_or ts k d) ≡ false) → without n ts ≡ ts
none_without n [] f = refl
none_without n (t ∷ ts) f =
    ap (λ (b : Bool). if b then ts else t ∷ without n ts) (f zero t (omega arith)) ∙ ap (λ zs. t ∷ zs) (none_without n ts (λ k d h. f (suc k) d (omega arith)))

no_place : (m l : ℕ) → cond (nat_lt m l) (Some m) None ≡ None → l ≤ m
no_place m l e = by_test (nat_lt m l) refl e
  where
    by_test : (b : Bool) → nat_lt m l ≡ b → cond b (Some m) None ≡ None → l ≤ m
    by_test true f g = absurd (cc)
    by_test false f g = grind (arith, nat_tests)

nowhere : (n : WireNo) (ts : List Taken) → position (has_number n) ts ≡ None → (k : ℕ) (d : Taken) → k < length ts → has_number n (get_or ts k d) ≡ false
nowhere n ts e k d lt =
    let past : length ts ≤ position_or_len (has_number n) ts = no_place (position_or_len (has_number n) ts) (length ts) e in
    fails_before_first (has_number n) ts k d (omega arith)

pub nothing_first : (n : WireNo) (ts : List Taken) → position (has_number n) ts ≡ None → first_with n ts ≡ []
nothing_first n ts e = none_first n ts (nowhere n ts e)

pub nothing_without : (n : WireNo) (ts : List Taken) → position (has_number n) ts ≡ None → without n ts ≡ ts
nothing_without n ts e = none_without n ts (nowhere n ts e)

pub nothing_moved : (n : WireNo) (ts xs : List Taken) → position (has_number n) ts ≡ None → xs ++ first_with n ts ≡ xs
nothing_moved n ts xs e = ap (λ ys. xs ++ ys) (nothing_first n ts e) ∙ append-nil xs

pub ruleset for_one = (moved_first, moved_without, nothing_moved, nothing_without)

-- ## Number after number
pub kept-next : (ns : List WireNo) (i : ℕ) (d : WireNo) (ts kept : List Taken) → i < length ns
    → (kept ++ first_with (get_or ns i d) ts) ++ kept_of (drop (i + 1) ns) (without (get_or ns i d) ts) ≡ kept ++ kept_of (drop i ns) ts
kept-next ns i d ts kept lt =
    append_assoc kept (first_with (get_or ns i d) ts) (kept_of (drop (i + 1) ns) (without (get_or ns i d) ts))
    ∙ ap (λ ms. kept ++ kept_of ms ts) (sym (drop_more ns i d lt))

pub left-next : (ns : List WireNo) (i : ℕ) (d : WireNo) (ts : List Taken) → i < length ns → left_of (drop (i + 1) ns) (without (get_or ns i d) ts) ≡ left_of (drop i ns) ts
left-next ns i d ts lt = ap (λ ms. left_of ms ts) (sym (drop_more ns i d lt))

pub kept-none : (ns : List WireNo) (i : ℕ) (ts kept : List Taken) → length ns ≤ i → kept ++ kept_of (drop i ns) ts ≡ kept
kept-none ns i ts kept le = ap (λ ms. kept ++ kept_of ms ts) (drop_all i ns le) ∙ append-nil kept

pub left-none : (ns : List WireNo) (i : ℕ) (ts : List Taken) → length ns ≤ i → left_of (drop i ns) ts ≡ ts
left-none ns i ts le = ap (λ ms. left_of ms ts) (drop_all i ns le)

pub ruleset for_all = (kept-next, left-next, kept-none, left-none)

pub buffers_push : (ts : List Taken) (t : Taken) → buffers_of (ts ++ t ∷ []) ≡ buffers_of ts ++ t.buf ∷ []
buffers_push ts t = map-append (λ (x : Taken). x.buf) ts (t ∷ [])

-- ## Weights
first-weighs : (f : Name → ℕ) (n : WireNo) (ts : List Taken) → frames_weight f (first_with n ts) + frames_weight f (without n ts) ≡ frames_weight f ts
first-weighs f n [] = refl
first-weighs f n (t ∷ ts) = by_case (has_number n t) (first-weighs f n ts)
  where
    by_case : (b : Bool) → frames_weight f (first_with n ts) + frames_weight f (without n ts) ≡ frames_weight f ts
        → frames_weight f (if b then t ∷ [] else first_with n ts) + frames_weight f (if b then ts else t ∷ without n ts) ≡ frames_weight f (t ∷ ts)
    by_case true rest = omega (arith, sum_by-cons (λ (x : Taken). f x.buf.name) t [], sum_by-cons (λ (x : Taken). f x.buf.name) t ts)
    by_case false rest = omega (arith, rest, sum_by-cons (λ (x : Taken). f x.buf.name) t (without n ts), sum_by-cons (λ (x : Taken). f x.buf.name) t ts)

pub kept-weighs : (f : Name → ℕ) (ns : List WireNo) (ts : List Taken) → frames_weight f (kept_of ns ts) + frames_weight f (left_of ns ts) ≡ frames_weight f ts
kept-weighs f [] ts = omega arith
kept-weighs f (n ∷ ns) ts =
    omega (arith, kept-weighs f ns (without n ts), first-weighs f n ts, sum_by-append (λ (x : Taken). f x.buf.name) (first_with n ts) (kept_of ns (without n ts)))

pub settled_weighs : (f : Name → ℕ) (held app queue : List WireNo) (b : Buffered) (came : List Taken)
    → buffered_weight f (settled_by held app queue (found_by b came) b.freed) ≡ buffered_weight f b + frames_weight f came
settled_weighs f held app queue b came =
    let found : List Taken = found_by b came in
    let behind_held : List Taken = left_of held found in
    let behind_app : List Taken = left_of app behind_held in
    omega (
      arith,
      kept-weighs f held found,
      kept-weighs f app behind_held,
      kept-weighs f queue behind_app,
      buffers-weigh f (left_of queue behind_app),
      sum_by-append (λ (z : Buffer). f z.name) b.freed (buffers_of (left_of queue behind_app)),
      sum_by-append (λ (x : Taken). f x.buf.name) b.held (b.app ++ (b.queue ++ came)),
      sum_by-append (λ (x : Taken). f x.buf.name) b.app (b.queue ++ came),
      sum_by-append (λ (x : Taken). f x.buf.name) b.queue came,
    )
