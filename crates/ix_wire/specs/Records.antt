-- The records of a capture that make entries: those that are not the local side's own. Formats: docs/SCRIPT.md, "Frames".
use Rattle.std.specs.Prelude.{◌≡◌, ◌≤◌, ℕ, ◌+◌, ◌-◌, Bool, List, [], ◌∷◌, length, take, drop, if◌then◌else◌, slice_index}

-- the numbers of the records that are not own, where the first of these has a number
unfoldable pub others_from : ℕ → List Bool → List ℕ
others_from rec [] = []
others_from rec (own ∷ rest) = if own then others_from (rec + 1) rest else rec ∷ others_from (rec + 1) rest

-- those from one record to another
unfoldable pub records_in : List Bool → ℕ → ℕ → List ℕ
records_in own from to = others_from from (take (to + 1 - from) (drop from own))

-- the numbers of all such records, and for each record and the end how many of them stand before it
pub record AreOthers (own : List Bool) (others before : List ℕ) : Type 0 where
  pub all : others ≡ others_from 0 own
  pub count : length before ≡ length own + 1
  pub each : (n : ℕ) → n ≤ length own → slice_index before n ≡ length (others_from 0 (take n own))
