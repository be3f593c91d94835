-- Free buffers that a turn posts.
use Rattle.std.proofs.Common.{◌≡◌, ◌+◌, ◌≤◌, ℕ, List, [], ◌∷◌, ◌++◌, length-append, append_assoc, sum_by, ap, ◌∙◌, arith}
use Rattle.std.proofs.lemmas.List.Sums.{sum_by_push}
use Rattle.ix_base.specs.declared.id.BufId.{BufId}
use Rattle.ix_mbuf.specs.Buffers.{Buffer, buffers_weight}
use Rattle.ix_mbuf.specs.Owners.{one_if, times}
use Rattle.ix_mbuf.specs.Pools.{Stock, all_names}
use Rattle.ix_ring.specs.Views.{PutView}
use Rattle.ix_ring.specs.Ends.{put_list}
use Rattle.ix_core.specs.Posting.{Posts}
use Rattle.ix_core.proofs.Pools.{all_of_pool}

-- One more free buffer is posted. It is the pool's own, as all that were free are.
pub posts_more : (i : ℕ) (pool p p' : Stock) (old cur next : PutView Buffer) (returns returns' : List Buffer) (b : Buffer) → returns' ≡ returns → p.free ≡ p'.free ++ b.name ∷ [] → p' ≡ record p { free = p'.free }
    → put_list next ≡ put_list cur ++ b ∷ [] → ((id : BufId) → times id pool.free ≤ times id (all_names pool.home pool.n)) → Posts i pool p old cur returns returns' → Posts (i + 1) pool p' old next returns returns'
posts_more i pool p p' old cur next returns returns' b same free is put within so =
    record {
      posts = so.posts ++ b ∷ [];
      home = ap (λ (s : Stock). s.home) is ∙ so.home;
      number = ap (λ (s : Stock). s.n) is ∙ so.number;
      put = put ∙ ap (λ l. l ++ b ∷ []) so.put ∙ append_assoc (put_list old) so.posts (b ∷ []);
      few = omega (arith, length-append so.posts (b ∷ []), so.few);
      own = all_of_pool pool (so.posts ++ b ∷ [])
          (λ id. omega (arith, within id, so.weight (one_if id), ap (buffers_weight (one_if id)) same, ap (sum_by (one_if id)) free, sum_by_push (one_if id) p'.free b.name, sum_by_push (λ (z : Buffer). one_if id z.name) so.posts b));
      weight = λ f. omega (arith, so.weight f, ap (sum_by f) free, sum_by_push f p'.free b.name, sum_by_push (λ (z : Buffer). f z.name) so.posts b);
    }
