-- Rounds of turns, and meetings between them.
use Rattle.std.proofs.Common.{◌≡◌, ◌<◌, ◌≤◌, ◌⊎◌, inl, inr, ℕ, Bool, true, false, List, length, get_or, refl, sym, subst, arith}
use Rattle.std.specs.Prelude.{◌||◌}
use Rattle.std.proofs.lemmas.Bool.{cases_lt}
use Rattle.ix_mbuf.specs.Buffers.{Buffer}
use Rattle.ix_ring.specs.Ends.{SamePutEnd, SameTakeEnd}
use Rattle.ix_stack.specs.declared.work.Work.{Work}
use Rattle.ix_nic.specs.Ports.{PortView}
use Rattle.ix_feed.specs.Laws.{feed_joins}
use Rattle.ix_feed.specs.Replays.{FeedView}
use Rattle.ix_feed.specs.Turns.{FeedBecame}
use Rattle.ix_core.specs.declared.turning.Core.{Core}
use Rattle.ix_core.specs.Cores.{CoreBecame, LeavesNothing, SameEnds}
use Rattle.ix_core.specs.Laws.{core_joins, core_stays}
use Rattle.ix_core.specs.Meeting.{AllAreTold, AreInOrder, CoresLearned}
use Rattle.ix_core.specs.Order.{SameCores, SameRings}
use Rattle.ix_core.specs.Turned.{AreDrained, WasIdle}
use Rattle.ix_epochs.specs.Epochs.{EpochRan, HasEnded}
use Rattle.ix_epochs.specs.Rest.{AllRest, CoreRests, keeps_aside, rings_have}
use Rattle.ix_epochs.specs.Workers.{CoresBecame}
use Rattle.ix_epochs.proofs.Learning.{all_rest_learned, cores_learned}
use Rattle.ix_epochs.proofs.Places.{each_joins, get_beyond}
use Rattle.ix_epochs.proofs.Resting.{core_rests, nothing_on_rings}

-- the card's side has the same ends
pub same_rings : (x y : FeedView) → FeedBecame x y → SameRings x.card y.card
same_rings x y so = record { count = so.rings.count; items = λ c p. items c p (cases_lt c (length x.card.ports)); posts = λ c p. posts c p (cases_lt c (length x.card.ports)) } where
  items : (c : ℕ) (p : PortView) → (c < length x.card.ports) ⊎ (length x.card.ports ≤ c) → SamePutEnd (get_or x.card.ports c p).ring (get_or y.card.ports c p).ring
  items c p (inl lt) = (so.rings.ports c p lt).items
  items c p (inr le) = let was = get_beyond x.card.ports c p le in let is = get_beyond y.card.ports c p (omega (arith, so.rings.count, le)) in rw (was, is) (refl, refl)

  posts : (c : ℕ) (p : PortView) → (c < length x.card.ports) ⊎ (length x.card.ports ≤ c) → SameTakeEnd (get_or x.card.ports c p).posts (get_or y.card.ports c p).posts
  posts c p (inl lt) = (so.rings.ports c p lt).posts
  posts c p (inr le) = let was = get_beyond x.card.ports c p le in let is = get_beyond y.card.ports c p (omega (arith, so.rings.count, le)) in rw (was, is) refl

-- what found memory in a turn, and before
pub found_so : (new old : Bool) → new ≡ (old || false) → (old ≡ true → false ≡ true) → new ≡ false
found_so new true e marked = absurd (let f : false ≡ true = marked refl in cc)
found_so new false e marked = e

-- what a card is fed, as one value and apart
pub feed_apart : (x y fed fed' : FeedView) → fed ≡ x → y ≡ fed' → FeedBecame fed fed' → FeedBecame x y
feed_apart x y fed fed' e f so = subst (λ (v : FeedView). FeedBecame x v) (sym f) (subst (λ (v : FeedView). FeedBecame v fed') e so)

module _ {U E : Type 0} (counted : Work → Bool) (name : Work → ℕ) (stepped : U → List (ℕ × ℕ)) (advanced : U → E → ℕ → List Work → U → Type 0) (drained : U → List Buffer → U → Type 0) (env : E) where
  pub cores_join : (x y z : List (Core U E)) → CoresBecame counted name stepped advanced drained env x y → CoresBecame counted name stepped advanced drained env y z
      → CoresBecame counted name stepped advanced drained env x z
  cores_join x y z p q = each_joins (CoreBecame counted name stepped advanced drained env) (core_joins counted name stepped advanced drained env) x y z p q

  -- a core that was idle in a turn, and keeps nothing aside
  pub turn_rests : (old new : Core U E) → new.failed ≡ false → CoreBecame counted name stepped advanced drained env old new → LeavesNothing new → WasIdle old new
      → (new.lost.items ≡ old.lost.items → AreDrained drained new.desks) → keeps_aside new ≡ false → CoreRests drained new
  turn_rests old new found became leaves idle clean keeps = let ran = became.ran found in core_rests drained old new _ found ran.links.count ran.lost leaves idle clean keeps

  pub cores_stay : (x : List (Core U E)) → CoresBecame counted name stepped advanced drained env x x
  cores_stay x = record { count = refl; each = λ c d lt. core_stays counted name stepped advanced drained env (get_or x c d) }

  pub same_cores : (x y : List (Core U E)) → CoresBecame counted name stepped advanced drained env x y → SameCores x y
  same_cores x y so = record { count = so.count; each = λ c d. one c d (cases_lt c (length x)) } where
    one : (c : ℕ) (d : Core U E) → (c < length x) ⊎ (length x ≤ c) → SameEnds (get_or x c d) (get_or y c d)
    one c d (inl lt) = (so.each c d lt).ends
    one c d (inr le) =
        let was = get_beyond x c d le in
        let is = get_beyond y c d (omega (arith, so.count, le)) in
        rw (was, is) (core_stays counted name stepped advanced drained env d).ends

  -- a meeting after a round that left all at rest, where no ring has anything
  pub epoch_over : (f g h : FeedView) (x y z : List (Core U E)) → FeedBecame f g → FeedBecame g h → (HasEnded g.card g.replay → HasEnded h.card h.replay) → CoresBecame counted name stepped advanced drained env x y → CoresLearned y z
      → HasEnded g.card g.replay → AllRest drained y → AreInOrder h.card z → AllAreTold h.card z → rings_have z ≡ false → EpochRan counted name stepped advanced drained env f h x z
  epoch_over f g h x y z feed met ended cores learned over rest order told none = record {
    feed = feed_joins f g h feed met;
    cores = cores_join x y z cores (cores_learned counted name stepped advanced drained env y z learned);
    over = record { order = order; told = told; ended = ended over; empty = nothing_on_rings z none; rest = all_rest_learned drained y z learned rest };
  }

  -- a meeting, and then a round
  pub cores_on : (w x y z : List (Core U E)) → CoresBecame counted name stepped advanced drained env w x → CoresLearned x y → CoresBecame counted name stepped advanced drained env y z
      → CoresBecame counted name stepped advanced drained env w z
  cores_on w x y z p learned q = cores_join w x z p (cores_join x y z (cores_learned counted name stepped advanced drained env x y learned) q)

  -- an epoch that was begun in workers
  pub epoch_begun : (f g h : FeedView) (x y z : List (Core U E)) → FeedBecame f g → CoresBecame counted name stepped advanced drained env x y → EpochRan counted name stepped advanced drained env g h y z
      → EpochRan counted name stepped advanced drained env f h x z
  epoch_begun f g h x y z feed cores so = record { feed = feed_joins f g h feed so.feed; cores = cores_join x y z cores so.cores; over = so.over }
