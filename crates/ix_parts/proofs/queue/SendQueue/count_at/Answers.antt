use Rattle.std.proofs.Common.{◌≡◌, ◌≤◌, ◌∙◌, ℕ, List, length, ap, sym, subst}
use Rattle.ix_mbuf.specs.Owners.{one_at}
use Rattle.ix_call.specs.declared.chunk.Chunk.{Chunk}
use Rattle.ix_call.specs.Chunks.{chunks_bytes, chunks_weight}
use Rattle.ix_parts.specs.Queue.{Queue, AreFilled, chunks_seen}
use Rattle.ix_parts.proofs.QueueLemmas.{few-chunks}
use Rattle.ix_parts.proofs.queue.SendQueue.count_at.Goals as goal

pub returns-clause-few : goal.returns-clause-few
returns-clause-few c =
    let stored : chunks_seen c.self.inside.chunks.items ≡ c.args.self.now.chunks = ap (λ (q : Queue). q.chunks) c.self.view_is in
    let filled : AreFilled c.args.self.now.chunks = subst (λ (cs : List Chunk). AreFilled cs) stored c.self.invariant in
    let count : c.parts_at.result ≡ chunks_weight (one_at c.args.home.0) c.args.self.now.chunks = c.parts_at.ensures ∙ ap (chunks_weight (one_at c.args.home.0)) stored in
    subst (λ (n : ℕ). n ≤ length (chunks_bytes c.args.self.now.chunks)) (sym count) (few-chunks c.args.home.0 c.args.self.now.chunks filled)
