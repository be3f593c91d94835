-- No call of the stack loses a buffer, or makes one.
use Rattle.std.proofs.Common.{◌≡◌, ◌+◌, ℕ, List, [], ◌∷◌, ◌++◌, refl, ap, arith}
use Rattle.std.specs.Prelude.{count_by}
use Rattle.std.proofs.lemmas.List.Sums.{sum_by-append, sum_by-cons}
use Rattle.ix_base.specs.declared.id.Flow.{Flow}
use Rattle.ix_base.specs.declared.segment.Ret.{Ret}
use Rattle.ix_mbuf.specs.Buffers.{Buffer, buffers_weight}
use Rattle.ix_mbuf.specs.Owners.{one_at}
use Rattle.ix_mbuf.specs.declared.name.Name.{Name}
use Rattle.ix_appdef.specs.declared.application.Application.{Application}
use Rattle.ix_groupdef.specs.declared.env.Env.{Env}
use Rattle.ix_stack.specs.Works.{works_weight, owned_count}
use Rattle.ix_stack.specs.declared.work.Taken.{Taken}
use Rattle.ix_stack.specs.declared.work.Work.{Work}
use Rattle.ix_plainstack.specs.Kept.{buffers_of, frames_weight}
use Rattle.ix_plainstack.specs.Owning.{is_at_home}
use Rattle.ix_plainstack.specs.Stack.{Stack, stack_weight, owners_at, Advances, Drains, Connects, Finishes}

pub advances-weigh : (f : Name → ℕ) (x : Stack) (env : Env Application) (core : ℕ) (items : List Work) (y : Stack) → Advances x env core items y → stack_weight f y ≡ stack_weight f x + works_weight f items
advances-weigh f x env core items y a = a.weight f

pub drains-weigh : (f : Name → ℕ) (x : Stack) (bufs : List Buffer) (y : Stack) → Drains x bufs y → stack_weight f y + buffers_weight f bufs ≡ stack_weight f x
drains-weigh f x bufs y d = omega (arith, ap (stack_weight f) d.rest, ap (buffers_weight f) d.given)

count-weighs : (home : ℕ) (ts : List Taken) → count_by (is_at_home home) ts ≡ frames_weight (one_at home) ts
count-weighs home ts = refl

pub drains-own : (x : Stack) (bufs : List Buffer) (y : Stack) (home : ℕ) → Drains x bufs y → owned_count (owners_at y home) ≡ stack_weight (one_at home) y
drains-own x bufs y home d =
    let none : buffers_weight (one_at home) y.owning.buffers.freed ≡ 0 = ap (λ (s : Stack). buffers_weight (one_at home) s.owning.buffers.freed) d.rest in
    omega (arith, none, count-weighs home y.owning.buffers.held, count-weighs home y.owning.buffers.app, count-weighs home y.owning.buffers.queue)

pub connects-weigh : (f : Name → ℕ) (x : Stack) (env : Env Application) (core : ℕ) (flow : Flow) (ret : Ret) (y : Stack) → Connects x env core flow ret y → stack_weight f y ≡ stack_weight f x
connects-weigh f x env core flow ret y c = ap (stack_weight f) c.rest

pub buffers-weigh : (f : Name → ℕ) (ts : List Taken) → buffers_weight f (buffers_of ts) ≡ frames_weight f ts
buffers-weigh f [] = refl
buffers-weigh f (t ∷ ts) = omega (arith, buffers-weigh f ts, sum_by-cons (λ (b : Buffer). f b.name) t.buf (buffers_of ts), sum_by-cons (λ (t : Taken). f t.buf.name) t ts)

pub finishes-weigh : (f : Name → ℕ) (x : Stack) (bufs : List Buffer) (y : Stack) → Finishes x bufs y → (buffers_weight f bufs ≡ stack_weight f x) × (stack_weight f y ≡ 0)
finishes-weigh f x bufs y d = (
  omega (
    arith,
    ap (buffers_weight f) d.given,
    buffers-weigh f x.owning.buffers.held,
    buffers-weigh f x.owning.buffers.app,
    buffers-weigh f x.owning.buffers.queue,
    sum_by-append (λ (z : Buffer). f z.name) (buffers_of x.owning.buffers.held) (buffers_of x.owning.buffers.app ++ (buffers_of x.owning.buffers.queue ++ x.owning.buffers.freed)),
    sum_by-append (λ (z : Buffer). f z.name) (buffers_of x.owning.buffers.app) (buffers_of x.owning.buffers.queue ++ x.owning.buffers.freed),
    sum_by-append (λ (z : Buffer). f z.name) (buffers_of x.owning.buffers.queue) x.owning.buffers.freed,
  ),
  ap (stack_weight f) d.rest,
)
