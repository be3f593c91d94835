use Rattle.std.proofs.Common.{◌≡◌, ℕ, ◌-◌, List, [], ◌++◌, take, drop, ap, sym, ◌∙◌, rules}
use Rattle.ix_call.specs.Chunks.{chunks_bytes}
use Rattle.ix_parts.specs.declared.queue.Stored.{Stored}
use Rattle.ix_parts.specs.Queue.{chunks_seen}
use Rattle.ix_parts.proofs.ByteLemmas.{copied_both}
use Rattle.ix_parts.proofs.QueueLemmas.{bytes-both}
use Rattle.ix_parts.proofs.queue.SendQueue.copy.Goals as goal

pub returns : goal.returns
returns c =
    let first : List Stored = c.as_slices.result.0.now in
    let second : List Stored = c.as_slices.result.1.now in
    let from : ℕ = c.args.from in
    let most : ℕ = c.args.to - c.args.from in
    let items : c.self.inside.chunks.items ≡ first ++ second = search rules in
    let stored : c.args.self.now.chunks ≡ chunks_seen c.self.inside.chunks.items = search rules in
    copied_both (chunks_bytes (chunks_seen first)) (chunks_bytes (chunks_seen second)) c.copy_chunks.new.copied c.copy_chunks-2.new.copied
    from most c.copy_chunks.new.span.skip c.copy_chunks.new.span.most c.copy_chunks-2.new.span.skip c.copy_chunks-2.new.span.most
    (λ rest.
    c.in_ok-copy_chunks.ensures rest
    ∙ ap (λ (xs : List ℕ). xs ++ take c.saturating_sub.result (drop from (chunks_bytes (chunks_seen first) ++ rest))) c.new-copied.ensures
    ∙ ap (λ (k : ℕ). [] ++ take k (drop from (chunks_bytes (chunks_seen first) ++ rest))) c.saturating_sub.ensures)
    c.in_ok-copy_chunks-2.ensures
    ∙ ap (λ (xs : List ℕ). take most (drop from xs)) (sym (bytes-both first second))
    ∙ ap (λ (cs : List Stored). take most (drop from (chunks_bytes (chunks_seen cs)))) (sym items)
    ∙ ap (λ cs. take most (drop from (chunks_bytes cs))) (sym stored)
