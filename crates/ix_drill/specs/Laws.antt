-- A step weighs what its items weigh.
use Rattle.std.proofs.Common.{◌≡◌, ◌+◌, ℕ, Bool, true, false, List, [], ◌∷◌, ◌++◌, length, nat_lt, ap, arith}
use Rattle.std.specs.Prelude.{if◌then◌else◌}
use Rattle.std.proofs.lemmas.List.Sums.{sum_by-append, sum_by-cons, sum_by_push}
use Rattle.ix_mbuf.specs.declared.name.Name.{Name}
use Rattle.ix_mbuf.specs.Buffers.{Buffer, buffers_weight}
use Rattle.ix_stack.specs.declared.work.Work.{Work}
use Rattle.ix_stack.specs.declared.work.Work.TheVariants.{Frame, Time}
use Rattle.ix_base.specs.declared.segment.Ret.{Ret}
use Rattle.ix_mbuf.specs.Owners.{one_at}
use Rattle.ix_stack.specs.Works.{work_weight, works_weight}
use Rattle.ix_drill.specs.Steps.{kept_one, spent_one, kept_of, spent_of, Advanced, Connected, Drained, Finished}

frame-weighs : (f : Name → ℕ) (b : Bool) (held : List Buffer) (x : Buffer)
    → buffers_weight f (if b then held ++ x ∷ [] else held) + buffers_weight f (if b then [] else x ∷ []) ≡ buffers_weight f held + f x.name
frame-weighs f true held x = omega (arith, sum_by_push (λ (z : Buffer). f z.name) held x)
frame-weighs f false held x = omega (arith, sum_by-cons (λ (z : Buffer). f z.name) x [])

one-weighs : (f : Name → ℕ) (keep : ℕ) (held : List Buffer) (x : Work) → buffers_weight f (kept_one keep held x) + buffers_weight f (spent_one keep held x) ≡ buffers_weight f held + work_weight f x
one-weighs f keep held (Frame x) = frame-weighs f (nat_lt (length held) keep) held x.buf
one-weighs f keep held (Time w t) = omega arith

all-weigh : (f : Name → ℕ) (keep : ℕ) (held : List Buffer) (xs : List Work) → buffers_weight f (kept_of keep held xs) + buffers_weight f (spent_of keep held xs) ≡ buffers_weight f held + works_weight f xs
all-weigh f keep held [] = omega arith
all-weigh f keep held (x ∷ xs) =
    omega (arith, all-weigh f keep (kept_one keep held x) xs, one-weighs f keep held x, sum_by-append (λ (z : Buffer). f z.name) (spent_one keep held x) (spent_of keep (kept_one keep held x) xs), sum_by-cons (work_weight f) x xs)

pub advanced-weighs : (f : Name → ℕ) (keep core : ℕ) (items : List Work) (held spent : List Buffer) (seen : List (ℕ × ℕ)) (held' spent' : List Buffer) (seen' : List (ℕ × ℕ))
    → Advanced keep core items held spent seen held' spent' seen' → buffers_weight f held' + buffers_weight f spent' ≡ (buffers_weight f held + buffers_weight f spent) + works_weight f items
advanced-weighs f keep core items held spent seen held' spent' seen' so =
    omega (arith, all-weigh f keep held items, ap (buffers_weight f) so.keeps, ap (buffers_weight f) so.spends, sum_by-append (λ (z : Buffer). f z.name) spent (spent_of keep held items))

pub drained-weighs : (f : Name → ℕ) (held spent bufs held' spent' : List Buffer) → Drained held spent bufs held' spent'
    → (buffers_weight f held' + buffers_weight f spent') + buffers_weight f bufs ≡ buffers_weight f held + buffers_weight f spent
drained-weighs f held spent bufs held' spent' so = omega (arith, ap (buffers_weight f) so.out, ap (buffers_weight f) so.holds, ap (buffers_weight f) so.none)

pub drained-owns : (home : ℕ) (held spent bufs held' spent' : List Buffer) → Drained held spent bufs held' spent'
    → buffers_weight (one_at home) held' + (0 + 0) ≡ buffers_weight (one_at home) held' + buffers_weight (one_at home) spent'
drained-owns home held spent bufs held' spent' so = omega (arith, ap (buffers_weight (one_at home)) so.none)

pub connected-weighs : (f : Name → ℕ) (ports : List ℕ) (held spent : List Buffer) (port : ℕ) (ret : Ret) (ports' : List ℕ) (held' spent' : List Buffer)
    → Connected ports held spent port ret ports' held' spent' → buffers_weight f held' + buffers_weight f spent' ≡ buffers_weight f held + buffers_weight f spent
connected-weighs f ports held spent port ret ports' held' spent' so = omega (arith, ap (buffers_weight f) so.holds, ap (buffers_weight f) so.spends)

pub finished-weighs : (f : Name → ℕ) (held spent bufs held' spent' : List Buffer) → Finished held spent bufs held' spent'
    → (buffers_weight f bufs ≡ buffers_weight f held + buffers_weight f spent) × (buffers_weight f held' + buffers_weight f spent' ≡ 0)
finished-weighs f held spent bufs held' spent' so =
    (omega (arith, ap (buffers_weight f) so.out, sum_by-append (λ (z : Buffer). f z.name) held spent), omega (arith, ap (buffers_weight f) so.holds, ap (buffers_weight f) so.none))
