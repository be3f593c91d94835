use Rattle.std.proofs.Common.{◌≡◌, ℕ, ◌<◌, ◌≤◌, ◌+◌, ◌-◌, List, length, drop, ap, sym, ◌∙◌, arith}
use Rattle.std.specs.Prelude.{Result, Ok, Err, IfOk}
use Rattle.ix_base.specs.declared.memory.NoMemory.{NoMemory}
use Rattle.ix_call.specs.Chunks.{chunk_bytes}
use Rattle.ix_parts.specs.Division.{copied_of, other_half}
use Rattle.ix_parts.proofs.DivisionLemmas.{copied-none, copied-whole, copied-inside, copied_at}
use Rattle.ix_parts.proofs.division.copied_half.Goals as goal

if_ok_to : (r : Result (List ℕ) NoMemory) (a b : List ℕ) → a ≡ b → IfOk r (λ p. p ≡ a) → IfOk r (λ p. p ≡ b)
if_ok_to (Ok p) a b e h = h ∙ e
if_ok_to (Err n) a b e h = h

pub returns-then-left-eq0 : goal.returns-then-left-eq0
returns-then-left-eq0 c =
    c.new.ensures
    ∙ sym (copied-none (drop c.loop-chunk.chunk-index c.args.chunks.now))
    ∙ ap (λ (k : ℕ). copied_of k (drop c.loop-chunk.chunk-index c.args.chunks.now)) (sym c.if-left-eq0.true)
    ∙ c.loop-chunk.invariant

pub returns-then-left-len : goal.returns-then-left-len
returns-then-left-len c =
    let some : 0 < c.loop-chunk.left = omega arith in
    let inside : c.loop-chunk.left < length (chunk_bytes c.chunk-item.result) = omega (arith, c.len-len.ensures) in
    let within : c.loop-chunk.chunk-index < length c.args.chunks.now = omega arith in
    if_ok_to c.other_half.result (other_half c.loop-chunk.left c.chunk-item.result) (copied_of c.args.n c.args.chunks.now)
    (sym (copied-inside c.loop-chunk.left c.chunk-item.result (drop (c.loop-chunk.chunk-index + 1) c.args.chunks.now) some inside)
    ∙ sym (copied_at c.loop-chunk.left c.args.chunks.now c.loop-chunk.chunk-index c.chunk-item.result within c.chunk-item.is)
    ∙ c.loop-chunk.invariant)
    c.other_half.ensures

pub loop-chunk-preserved : goal.loop-chunk-preserved
loop-chunk-preserved c =
    let whole : length (chunk_bytes c.chunk-item.result) ≤ c.loop-chunk.left = omega (arith, c.len-len.ensures) in
    let within : c.loop-chunk.chunk-index < length c.args.chunks.now = omega arith in
    ap (λ (k : ℕ). copied_of (c.loop-chunk.left - k) (drop (c.loop-chunk.chunk-index + 1) c.args.chunks.now)) c.len-len.ensures
    ∙ sym (copied-whole c.loop-chunk.left c.chunk-item.result (drop (c.loop-chunk.chunk-index + 1) c.args.chunks.now) whole)
    ∙ sym (copied_at c.loop-chunk.left c.args.chunks.now c.loop-chunk.chunk-index c.chunk-item.result within c.chunk-item.is)
    ∙ c.loop-chunk.invariant
