use Rattle.std.proofs.Common.{◌≡◌, ℕ, ◌-◌, nat_le, if◌then◌else◌, [], ◌∷◌, length, ap, ◌∙◌, rules, arith}
use Rattle.std.specs.Prelude.{◌==◌, ◌||◌}
use Rattle.std.proofs.lemmas.Grind.{common_steps}
use Rattle.ix_call.specs.Chunks.{chunk_bytes}
use Rattle.ix_parts.specs.Division.{copied_of}
use Rattle.ix_parts.proofs.DivisionLemmas.{half_part, half_rest}
use Rattle.ix_parts.proofs.division.place_all.Goals as goal

pub place-requires-clause-copied : goal.place-requires-clause-copied
place-requires-clause-copied c =
    let next : c.loop-chunk.chunk-iterator.rest.items ≡ c.in-Some.chunk ∷ c.next.new.self.rest.items = search rules in
    let copied_is : c.loop-chunk.copied ≡ copied_of c.loop-chunk.left (c.in-Some.chunk ∷ c.next.new.self.rest.items) = c.loop-chunk.invariant.copied ∙ ap (copied_of c.loop-chunk.left) next in
    c.half_for-half.ensures.half
    ∙ ap (λ (k : ℕ). if c.loop-chunk.left == 0 || nat_le k c.loop-chunk.left then [] else c.loop-chunk.copied) c.len-len.ensures
    ∙ half_part c.loop-chunk.left c.in-Some.chunk c.next.new.self.rest.items c.loop-chunk.copied copied_is

pub loop-chunk-preserved : goal.loop-chunk-preserved
loop-chunk-preserved c =
    let next : c.loop-chunk.chunk-iterator.rest.items ≡ c.in-Some.chunk ∷ c.next.new.self.rest.items = search rules in
    let copied_is : c.loop-chunk.copied ≡ copied_of c.loop-chunk.left (c.in-Some.chunk ∷ c.next.new.self.rest.items) = c.loop-chunk.invariant.copied ∙ ap (copied_of c.loop-chunk.left) next in
    let others : c.half_for-half.new.copied ≡ copied_of (c.loop-chunk.left - length (chunk_bytes c.in-Some.chunk)) c.next.new.self.rest.items =
    c.half_for-half.ensures.others
    ∙ ap (λ (k : ℕ). if c.loop-chunk.left == 0 || nat_le k c.loop-chunk.left then c.loop-chunk.copied else []) c.len-len.ensures
    ∙ half_rest c.loop-chunk.left c.in-Some.chunk c.next.new.self.rest.items c.loop-chunk.copied copied_is in
    record {
      front = grind (arith, common_steps);
      rest = grind (arith, common_steps);
      copied = grind (arith, common_steps);
      front_room = grind (arith, common_steps);
      rest_room = grind (arith, common_steps);
    }
