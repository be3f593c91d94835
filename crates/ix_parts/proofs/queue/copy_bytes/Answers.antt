use Rattle.std.proofs.Common.{ℕ, ◌-◌, List, ◌++◌, take, drop, ap, ◌∙◌}
use Rattle.ix_parts.proofs.ByteLemmas.{copied_more}
use Rattle.ix_parts.proofs.queue.copy_bytes.Goals as goal

pub returns : goal.returns
returns c =
    record {
      copied = λ rest.
          ap (λ (xs : List ℕ). xs ++ take (c.args.span.now.most - c.min-most.result) (drop c.saturating_sub-span.result rest)) c.in_ok-extend_from_slice.ensures.ok
          ∙ ap (λ (k : ℕ). (c.args.copied.now ++ c.split_at.result.0.now) ++ take (c.args.span.now.most - c.min-most.result) (drop k rest)) c.saturating_sub-span.ensures
          ∙ copied_more c.args.copied.now c.args.bytes.now rest c.behind-rest.result.now c.split_at.result.0.now c.args.span.now.skip c.args.span.now.most c.min-most.result
          c.behind-rest.ensures c.min-most.ensures c.split_at.ensures.front;
    }
