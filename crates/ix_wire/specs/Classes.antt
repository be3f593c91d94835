-- Classes of flow groups in a script of version 1. Formats: docs/SCRIPT.md, "Flow groups".
use Rattle.std.specs.Prelude.{◌≡◌, ◌<◌, ℕ, ◌+◌, ◌*◌, List, slice_index_or}
use Rattle.ix_base.specs.declared.id.CoreId.{CoreId}

-- the groups k, k + 128, k + 256 and k + 384 of each class k are on one core
pub record AreTogether (at : List CoreId) : Type 0 where
  pub each : (k i : ℕ) (d : CoreId) → k < 128 → i < 4 → slice_index_or at (k + 128 * i) d ≡ slice_index_or at k d
