-- What the cores did in an epoch, event by event, as several cores' histories join.
use Rattle.std.specs.Prelude.{◌≡◌, ◌<◌, ◌≤◌, ◌++◌, ℕ, Bool, List, length, map, slice_index_or}
use Rattle.ix_mbuf.specs.Buffers.{Buffer}
use Rattle.ix_stack.specs.declared.item.Item.{Item}
use Rattle.ix_stack.specs.declared.work.Work.{Work}
use Rattle.ix_nic.specs.Cards.{CardView}
use Rattle.ix_nic.specs.Ports.{PortView, whole}
use Rattle.ix_history.specs.Events.{Event, Happened, Parcel, came, gone, lent, took, worked}
use Rattle.ix_history.specs.Items.{came_from, gone_to, taken_in}
use Rattle.ix_history.specs.Join.{In, IsIdle}
use Rattle.ix_history.specs.Runs.{Runs}
use Rattle.ix_feed.specs.Replays.{FeedView}
use Rattle.ix_core.specs.declared.turning.Core.{Core}
use Rattle.ix_core.specs.Items.{ring_item}
use Rattle.ix_core.specs.Meeting.{other_core}
use Rattle.ix_epochs.specs.Epochs.{EpochRan}
use Rattle.ix_epochs.specs.Ready.{IsReady}

module _ {U I O : Type 0} where
  -- An event of a core, with the number of the core that a flow group came from in place of that core's place among the others.
  abbrev pub named : ℕ → Event U I O → Event U I O
  named core (took x) = took x
  named core (came place s) = came (other_core core place) s
  named core (worked max) = worked max
  named core (gone s) = gone s
  named core (lent h u out v) = lent h u out v

module _ {U E : Type 0} (counted : Work → Bool) (name : Work → ℕ) (stepped : U → List (ℕ × ℕ)) (advanced : U → E → ℕ → List Work → U → Type 0) (drained : U → List Buffer → U → Type 0) (env : E) where
  -- Each core's history leads from its desks before to its desks now. It took what the card put on the core's ring, in order; what one core shipped to
  -- another came there from it; and all cores are idle.
  pub record EpochPlays (card card' : CardView) (cores cores' : List (Core U E)) : Type 0 where
    pub history : ℕ → List (Event U Work (List Buffer))
    pub items : ℕ → List Item
    pub runs : (c : ℕ) (d : Core U E) → c < length cores → Runs (Happened counted name stepped advanced drained env) (slice_index_or cores c d).desks (history c) (slice_index_or cores' c d).desks
    pub took : (c : ℕ) → c < length cores → taken_in (history c) ≡ map ring_item (items c)
    pub put : (c : ℕ) (p : PortView) → c < length cores → whole (slice_index_or card'.ports c p) ≡ whole (slice_index_or card.ports c p) ++ items c
    pub mesh : (c d : ℕ) → c < length cores → d < length cores → gone_to d (history c) ≡ came_from c (history d)
    pub from : (c d : ℕ) (s : Parcel U Work) → d < length cores → In (came c s) (history d) → c < length cores
    -- no batch was above the core's bound
    pub bounds : (c max : ℕ) (d : Core U E) → c < length cores → In (worked max) (history c) → max ≤ (slice_index_or cores c d).batch
    pub rest : (c : ℕ) (d : Core U E) → c < length cores → IsIdle (slice_index_or cores' c d).desks

-- Epochs are played.
abbrev pub EpochsArePlayed : {U E : Type 0} → (Work → Bool) → (Work → ℕ) → (U → List (ℕ × ℕ)) → (U → E → ℕ → List Work → U → Type 0) → (U → List Buffer → U → Type 0) → Type 0
EpochsArePlayed {U} {E} counted name stepped advanced drained = (env : E) (feed feed' : FeedView) (cores cores' : List (Core U E)) → IsReady feed.card cores
    → EpochRan counted name stepped advanced drained env feed feed' cores cores' → EpochPlays counted name stepped advanced drained env feed.card feed'.card cores cores'
