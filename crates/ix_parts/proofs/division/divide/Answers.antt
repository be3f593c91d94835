use Rattle.std.proofs.Common.{◌≡◌, ◌+◌, List, ap, ◌∙◌, rules}
use Rattle.ix_call.specs.declared.chunk.Chunk.{Chunk}
use Rattle.ix_call.specs.Chunks.{chunks_weight}
use Rattle.ix_parts.specs.Division.{front_of, rest_of}
use Rattle.ix_parts.proofs.DivisionLemmas.{weight-divided}
use Rattle.ix_parts.proofs.division.divide.Goals as goal

pub returns-clause-weight : goal.returns-clause-weight
returns-clause-weight c f =
    let front : c.from_vec.result ≡ front_of c.args.n c.args.chunks = search rules in
    let rest : c.from_vec-2.result ≡ rest_of c.args.n c.args.chunks = search rules in
    ap (λ (cs : List Chunk). chunks_weight f cs + chunks_weight f c.from_vec-2.result) front
    ∙ ap (λ (cs : List Chunk). chunks_weight f (front_of c.args.n c.args.chunks) + chunks_weight f cs) rest
    ∙ weight-divided f c.args.n c.args.chunks
