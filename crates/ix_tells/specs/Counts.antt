-- What a settle tells of a home are the numbers themselves, and no buffer is at two places.
use Rattle.std.specs.Prelude.{◌≡◌, ◌<◌, ◌≤◌, ◌^◌, ℕ, List, length, slice_index_or, sum_by}
use Rattle.ix_base.specs.declared.id.BufId.{BufId}
use Rattle.ix_base.specs.declared.id.Owned.{Owned}
use Rattle.ix_mbuf.specs.declared.name.Name.{Name}
use Rattle.ix_mbuf.specs.Buffers.{Buffer}
use Rattle.ix_mbuf.specs.Owners.{one_if}
use Rattle.ix_lines.specs.declared.types.HomeLine.{HomeLine}
use Rattle.ix_lines.specs.declared.types.SettleLine.{SettleLine}
use Rattle.ix_nic.specs.Cards.{CardView}
use Rattle.ix_core.specs.Counting.{app_over, frames_over, held_over, queue_over}
use Rattle.ix_core.specs.Weights.{desks_weight}
use Rattle.ix_core.specs.declared.settling.SettleReport.{SettleReport}
use Rattle.ix_core.specs.declared.turning.Core.{Core}
use Rattle.ix_core.specs.Settling.{Settles}
use Rattle.ix_homes.specs.Homes.{IsHome}
use Rattle.ix_tells.specs.Wholes.{HaveSlots, LineTells}

-- the line of a home tells what is in its buffers on all cores
pub record CountsHome {U E : Type 0} (owners : U → ℕ → Owned) (home : ℕ) (cores : List (Core U E)) (h : HomeLine) : Type 0 where
  pub desk : h.desk ≡ frames_over home cores
  pub held : h.held ≡ held_over owners home cores
  pub app : h.app ≡ app_over owners home cores
  pub queue : h.queue ≡ queue_over owners home cores

-- what is at the desks of all cores
abbrev pub at_desks : {U E : Type 0} → ((Name → ℕ) → U → ℕ) → List (Core U E) → (Name → ℕ) → ℕ
at_desks weight cores f = sum_by (λ c. desks_weight (weight f) f c.desks) cores

-- ## Laws
-- None of the numbers stands at the end of its type.
abbrev pub SettlesCount : (U E : Type 0) → (U → List Buffer → U → Type 0) → ((Name → ℕ) → U → ℕ) → (U → ℕ → Owned) → Type 0
SettlesCount U E drained weight owners = (buffers : ℕ) (line : SettleLine) (report : SettleReport) (card card' : CardView) (cores cores' : List (Core U E)) → buffers < 2 ^ 32
    → HaveSlots buffers cores' → IsHome drained weight card' cores' → Settles owners report card card' cores cores' → LineTells line report
    → (c : ℕ) (h : HomeLine) → c < length line.homes → CountsHome owners c cores' (slice_index_or line.homes c h)

-- Each buffer is at the desks once at most.
abbrev pub BuffersAreOnce : (U E : Type 0) → (U → List Buffer → U → Type 0) → ((Name → ℕ) → U → ℕ) → Type 0
BuffersAreOnce U E drained weight = (card : CardView) (cores : List (Core U E)) → IsHome drained weight card cores → (id : BufId) → at_desks weight cores (one_if id) ≤ 1
