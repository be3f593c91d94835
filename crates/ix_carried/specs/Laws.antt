-- The laws: what the calls of the card do is a course, and the lines that tell of a course fit.
use Rattle.std.specs.Prelude.{◌≡◌, ◌<◌, ◌≤◌, ◌^◌, ℕ, true, List, ◌∷◌, length, slice_index_or, Some, None}
use Rattle.std.specs.List.{AllByRecursion}
use Rattle.ix_base.specs.declared.id.CoreId.{CoreId}
use Rattle.ix_conf.specs.Settings.{Settings}
use Rattle.ix_lines.specs.declared.types.EntryLine.{EntryLine}
use Rattle.ix_lines.specs.declared.types.EntryLine.TheVariants as lines
use Rattle.ix_lines.specs.declared.types.Fate.{Fate}
use Rattle.ix_lines.specs.declared.types.Fate.TheVariants as fates
use Rattle.ix_lines.specs.declared.types.RingLine.{RingLine}
use Rattle.ix_lines.specs.declared.types.SettleLine.{SettleLine}
use Rattle.ix_nic.specs.Cards.{CardView}
use Rattle.ix_nic.specs.Ports.{PortView}
use Rattle.ix_nic.specs.Words.{seats}
use Rattle.ix_stack.specs.declared.item.Item.TheVariants.{End}
use Rattle.ix_wire.specs.declared.entry.Entry.{Entry}
use Rattle.ix_fits.specs.Card.{fit_all, opening_table}
use Rattle.ix_carried.specs.Course.{CardStays, Course, RingsGiven}

-- ## What stays
-- Where a card puts what stands behind its rings, or an end on each, all that is counted stays; so it does over any number of such calls.
pub record CardsStay : Type 0 where
  pub same : (v : CardView) → CardStays v v
  pub retried : (old new : CardView) → new.table ≡ old.table → RingsGiven (λ r. None) old.ports new.ports → CardStays old new
  pub ended : (old new : CardView) → new.table ≡ old.table → RingsGiven (λ r. Some End) old.ports new.ports → CardStays old new
  pub joins : (x y z : CardView) → CardStays x y → CardStays y z → CardStays x z

-- ## What fits
-- a frame's buffer is one of the ring's core
abbrev pub IsOwn : ℕ → CoreId → Fate → Type 0
IsOwn buffers ring (fates.Buf b) = (b.home.0 ≡ ring.0) × (b.slot < buffers)
IsOwn buffers ring (fates.RingFull n) = Unit {0}
IsOwn buffers ring (fates.NoBuffer n) = Unit {0}
IsOwn buffers ring (fates.TooLong n) = Unit {0}

abbrev pub HasOwnBuffer : ℕ → EntryLine → Type 0
HasOwnBuffer buffers (lines.Frame rec at group ring fate) = IsOwn buffers ring fate
HasOwnBuffer buffers (lines.Time t) = Unit {0}
HasOwnBuffer buffers (lines.Tag group) = Unit {0}
HasOwnBuffer buffers (lines.Move group to) = Unit {0}
HasOwnBuffer buffers lines.Settle = Unit {0}

-- The card behind the settle before the first entry: each group is at home, and the settle tells of each ring what is posted to it.
pub record IsOpening (s : Settings) (line : SettleLine) (card : CardView) : Type 0 where
  pub count : length card.ports ≡ s.cores
  pub table : (g : ℕ) → seats card.table g ≡ opening_table s.live g
  pub lines : length line.rings ≡ s.cores
  pub rings : (r : ℕ) (d : PortView) (l : RingLine) → r < s.cores → slice_index_or line.rings r l ≡ record { posted = (slice_index_or card.ports r d).posted; frames = 0; items = 0 }
  pub no_items : (r : ℕ) (d : PortView) → r < s.cores → (slice_index_or card.ports r d).items ≡ 0
  pub no_frames : (r : ℕ) (d : PortView) → r < s.cores → (slice_index_or card.ports r d).frames ≡ 0

-- The lines of a course fit the wire list, with the settles among them, where each accepted frame is in a buffer of its ring's core.
abbrev pub CoursesFit : Type 0
CoursesFit =
    (s : Settings) (frames : List (List ℕ)) (xs : List Entry) (ys : List EntryLine) (settle : SettleLine) (settles : List SettleLine) (old new : CardView)
    → 1 ≤ s.live → s.live ≤ s.cores → length xs < 2 ^ 32 → IsOpening s settle old → Course frames 0 0 xs ys settles old new
    → AllByRecursion (HasOwnBuffer s.buffers) ys → fit_all s frames xs ys (settle ∷ settles) ≡ true
