-- The line that tells of a settle is whole (docs/FITS.md, posted buffers): the numbers of each home add up to the buffers of its core.
use Rattle.std.specs.Prelude.{◌≡◌, ◌<◌, ◌^◌, ℕ, true, List, length, slice_index_or}
use Rattle.ix_base.specs.declared.id.Owned.{Owned}
use Rattle.ix_mbuf.specs.declared.name.Name.{Name}
use Rattle.ix_mbuf.specs.Buffers.{Buffer}
use Rattle.ix_lines.specs.declared.types.HomeLine.{HomeLine}
use Rattle.ix_lines.specs.declared.types.RingLine.{RingLine}
use Rattle.ix_lines.specs.declared.types.SettleLine.{SettleLine}
use Rattle.ix_nic.specs.Cards.{CardView}
use Rattle.ix_nic.specs.declared.offer.Counts.{Counts}
use Rattle.ix_core.specs.declared.counting.Home.{Home}
use Rattle.ix_core.specs.declared.settling.SettleReport.{SettleReport}
use Rattle.ix_core.specs.declared.turning.Core.{Core}
use Rattle.ix_core.specs.Settling.{Settles}
use Rattle.ix_fits.specs.Card.{is_whole}
use Rattle.ix_homes.specs.Homes.{IsHome}

-- what is told of a home
abbrev pub home_line : Home → HomeLine
home_line h = record { pool = h.pool; posted = h.posted; desk = h.desk; held = h.held; app = h.app; queue = h.queue }

-- The line tells what was answered, of each ring and each home in order.
pub record LineTells (line : SettleLine) (report : SettleReport) : Type 0 where
  pub rings_count : length line.rings ≡ length report.rings.items
  pub rings : (c : ℕ) (l : RingLine) (r : Counts) → c < length report.rings.items
      → slice_index_or line.rings c l ≡ record { posted = (slice_index_or report.rings.items c r).posted; frames = (slice_index_or report.rings.items c r).frames; items = (slice_index_or report.rings.items c r).items }
  pub homes_count : length line.homes ≡ length report.homes.items
  pub homes : (c : ℕ) (l : HomeLine) (h : Home) → c < length report.homes.items → slice_index_or line.homes c l ≡ home_line (slice_index_or report.homes.items c h)

-- each pool has so many slots
abbrev pub HaveSlots : {U E : Type 0} → ℕ → List (Core U E) → Type 0
HaveSlots {U} {E} buffers cores = (c : ℕ) (d : Core U E) → c < length cores → (slice_index_or cores c d).pool.n ≡ buffers

-- ## Laws
abbrev pub SettlesAreWhole : (U E : Type 0) → (U → List Buffer → U → Type 0) → ((Name → ℕ) → U → ℕ) → (U → ℕ → Owned) → Type 0
SettlesAreWhole U E drained weight owners = (buffers : ℕ) (line : SettleLine) (report : SettleReport) (card card' : CardView) (cores cores' : List (Core U E)) → buffers < 2 ^ 32
    → HaveSlots buffers cores' → IsHome drained weight card' cores' → Settles owners report card card' cores cores' → LineTells line report
    → is_whole (length cores) buffers line ≡ true
