-- What all cores hold over an epoch.
use Rattle.std.proofs.Common.{◌≡◌, ◌<◌, ◌+◌, ◌++◌, ℕ, suc, Bool, List, [], ◌∷◌, length, get_or, sum_by, refl, sym, ap, arith}
use Rattle.std.proofs.lemmas.List.Sums.{sum_by-cons}
use Rattle.ix_mbuf.specs.declared.name.Name.{Name}
use Rattle.ix_mbuf.specs.Buffers.{Buffer, buffers_weight}
use Rattle.ix_ring.specs.Ends.{known, put_list, taken}
use Rattle.ix_stack.specs.declared.work.Work.{Work}
use Rattle.ix_stack.specs.Items.{items_weight}
use Rattle.ix_nic.specs.Cards.{CardView}
use Rattle.ix_nic.specs.Ports.{PortView, whole}
use Rattle.ix_feed.specs.Replays.{FeedView}
use Rattle.ix_core.specs.declared.turning.Core.{Core}
use Rattle.ix_core.specs.Weights.{Conserves, TurnsConserve, core_weight, link_put, link_taken, messages_weight, put_weight, taken_weight}
use Rattle.ix_epochs.specs.Epochs.{EpochRan}
use Rattle.ix_epochs.specs.Ready.{IsReady}
use Rattle.ix_epochs.specs.Weights.{AreWhole, cores_weight, given_weight, posts_weight}
use Rattle.ix_epochs.proofs.Readiness.{whole_so}
use Rattle.ix_epochs.proofs.Spans.{mesh_sums, sums_equal, sums_plus}

module _ {U E : Type 0} where
  -- what was put on the mesh weighs what was taken from it
  mesh_weighs : (weight : (Name → ℕ) → U → ℕ) (f : Name → ℕ) (cores : List (Core U E)) (ready : (card : CardView) × IsReady card cores)
      → sum_by (λ c. sum_by (link_put (weight f) f) c.links.items) cores ≡ sum_by (λ c. sum_by (link_taken (weight f) f) c.links.items) cores
  mesh_weighs weight f cores ready = mesh_sums (link_put (weight f) f) (link_taken (weight f) f) cores ready.1.order.mesh (λ a b d e lt within.
      let both = ready.1.mesh a b d e lt within in
      (ap (messages_weight (weight f) f) both.0, ap (messages_weight (weight f) f) both.1))

  puts_weigh : (weight : (Name → ℕ) → U → ℕ) (f : Name → ℕ) (cores : List (Core U E))
      → sum_by (put_weight (weight f) f) cores ≡ sum_by (λ c. buffers_weight f (put_list c.posted)) cores + sum_by (λ c. sum_by (link_put (weight f) f) c.links.items) cores
  puts_weigh weight f cores = sums_plus (λ (c : Core U E). buffers_weight f (put_list c.posted)) (λ (c : Core U E). sum_by (link_put (weight f) f) c.links.items) cores

  takes_weigh : (weight : (Name → ℕ) → U → ℕ) (f : Name → ℕ) (cores : List (Core U E))
      → sum_by (taken_weight (weight f) f) cores ≡ sum_by (λ c. items_weight f (taken c.items)) cores + sum_by (λ c. sum_by (link_taken (weight f) f) c.links.items) cores
  takes_weigh weight f cores = sums_plus (λ (c : Core U E). items_weight f (taken c.items)) (λ (c : Core U E). sum_by (link_taken (weight f) f) c.links.items) cores

  -- what was posted and what was given, by the ports
  posts_weigh : (f : Name → ℕ) (card : CardView) (cores : List (Core U E)) → IsReady card cores → sum_by (λ c. buffers_weight f (put_list c.posted)) cores ≡ posts_weight f card.ports
  posts_weigh f card cores so =
      sums_equal (λ (c : Core U E). buffers_weight f (put_list c.posted)) (λ (p : PortView). buffers_weight f (taken p.posts ++ known p.posts)) cores card.ports so.order.count
      (λ c d p lt. ap (buffers_weight f) (so.ports c p d lt).met)

  given_weigh : (f : Name → ℕ) (card : CardView) (cores : List (Core U E)) → IsReady card cores → sum_by (λ c. items_weight f (taken c.items)) cores ≡ given_weight f card.ports
  given_weigh f card cores so =
      sums_equal (λ (c : Core U E). items_weight f (taken c.items)) (λ (p : PortView). items_weight f (whole p)) cores card.ports so.order.count
      (λ c d p lt. ap (items_weight f) (sym (whole_so (get_or card.ports c p) (get_or cores c d) (so.ports c p d lt))))

  sums_six : (h p t : Core U E → ℕ) (xs ys : List (Core U E)) → length ys ≡ length xs
      → ((i : ℕ) (d : Core U E) → i < length xs → h (get_or ys i d) + (p (get_or ys i d) + t (get_or xs i d)) ≡ h (get_or xs i d) + (p (get_or xs i d) + t (get_or ys i d)))
      → sum_by h ys + (sum_by p ys + sum_by t xs) ≡ sum_by h xs + (sum_by p xs + sum_by t ys)
  sums_six h p t [] [] len each = refl
  sums_six h p t [] (y ∷ ys) len each = absurd (omega (arith, len))
  sums_six h p t (x ∷ xs) [] len each = absurd (omega (arith, len))
  sums_six h p t (x ∷ xs) (y ∷ ys) len each =
      omega (
        arith,
        each 0 x (omega arith),
        sums_six h p t xs ys (omega (arith, len)) (λ i d lt. each (suc i) d (omega arith)),
        sum_by-cons h x xs,
        sum_by-cons h y ys,
        sum_by-cons p x xs,
        sum_by-cons p y ys,
        sum_by-cons t x xs,
        sum_by-cons t y ys,
      )

module _ {U E : Type 0} (counted : Work → Bool) (name : Work → ℕ) (stepped : U → List (ℕ × ℕ)) (advanced : U → E → ℕ → List Work → U → Type 0) (drained : U → List Buffer → U → Type 0) (weight : (Name → ℕ) → U → ℕ) (turns : TurnsConserve {U = U} {E = E} counted name stepped advanced drained weight) (env : E) where
  pub epoch_conserves : (f g : FeedView) (old new : List (Core U E)) → AreWhole old → IsReady f.card old → IsReady g.card new → EpochRan counted name stepped advanced drained env f g old new
      → AreWhole new × ((v : Name → ℕ) → cores_weight weight v new + (posts_weight v g.card.ports + given_weight v f.card.ports) ≡ cores_weight weight v old + (posts_weight v f.card.ports + given_weight v g.card.ports))
  epoch_conserves f g old new all so after ran = (λ c d lt. (one c d (omega (arith, ran.cores.count, lt))).0, sums) where
    one : (c : ℕ) (d : Core U E) → c < length old → (length (get_or new c d).desks.groups ≡ 512) × Conserves weight (get_or old c d) (get_or new c d)
    one c d lt = turns env (get_or old c d) (get_or new c d) (all c d lt) (ran.over.rest c d (omega (arith, ran.cores.count, lt))).found (ran.cores.each c d lt)

    sums : (v : Name → ℕ) → cores_weight weight v new + (posts_weight v g.card.ports + given_weight v f.card.ports) ≡ cores_weight weight v old + (posts_weight v f.card.ports + given_weight v g.card.ports)
    sums v =
        omega (
          arith,
          sums_six (core_weight (weight v) v) (put_weight (weight v) v) (taken_weight (weight v) v) old new ran.cores.count (λ c d lt. (one c d lt).1 v),
          puts_weigh weight v old,
          puts_weigh weight v new,
          takes_weigh weight v old,
          takes_weigh weight v new,
          mesh_weighs weight v old (f.card, so),
          mesh_weighs weight v new (g.card, after),
          posts_weigh v f.card old so,
          posts_weigh v g.card new after,
          given_weigh v f.card old so,
          given_weigh v g.card new after,
        )
