-- Which point of a report fails first, for the cuttings that its own lines tell.
use Rattle.std.specs.Prelude.{◌<◌, ◌⊎◌, ℕ, List, Option, Some, None}
use Rattle.ix_base.specs.declared.id.TheConstants.{FLOW_GROUPS}
use Rattle.ix_conf.specs.Settings.{Settings}
use Rattle.ix_groupdef.specs.Group.{Cycle}
use Rattle.ix_trace.specs.declared.sheet.Sheet.{Sheet}
use Rattle.ix_wire.specs.declared.entry.Entry.{Entry}
use Rattle.ix_fits.specs.Cutting.{IsCutting}
use Rattle.ix_fits.specs.Fits.{CardFits, ConnectionsFit, GroupsFit, OwnersFit, dues_of}
use Rattle.ix_fits.specs.Readings.{cycles_told}
use Rattle.ix_places.specs.Filed.{RepliesFitIn}
use Rattle.ix_decide.specs.declared.points.Point.{Point}
use Rattle.ix_decide.specs.declared.points.Point.TheVariants.{Card, Connections, Groups, Replies}

-- what is read of each group is a cutting of its entries
abbrev pub AreCut : Settings → List (List ℕ) → Sheet → (ℕ → List Cycle) → Type 0
AreCut s frames r cycles = (g : ℕ) → g < FLOW_GROUPS → IsCutting s.batch (dues_of s frames r g) (cycles g)

-- the first three points of a report in these cycles
pub record ThreeFit (s : Settings) (frames : List (List ℕ)) (entries : List Entry) (r : Sheet) (cycles : ℕ → List Cycle) : Type 0 where
  pub card : CardFits s frames entries r
  pub owners : OwnersFit s frames r cycles
  pub groups : GroupsFit s frames r cycles
  pub connections : ConnectionsFit s frames r cycles

-- all four
pub record FourFit (s : Settings) (frames : List (List ℕ)) (entries : List Entry) (r : Sheet) (file : List ℕ) (cycles : ℕ → List Cycle) : Type 0 where
  pub three : ThreeFit s frames entries r cycles
  pub replies : RepliesFitIn s frames entries r file cycles

-- Point 1 fails where the card doesn't fit. It fails too where the card fits, each group is cut and the owners don't fit.
-- Point 2 fails first where the card fits and some group isn't cut, or the owners fit and the groups don't.
-- Point 3 fails first where all these fit and the connections don't.
-- Point 4 fails first where these fit too and the replies don't, in whatever order timers and flushes were taken.
abbrev pub IsFirst : Option Point → Settings → List (List ℕ) → List Entry → Sheet → List ℕ → (ℕ → List Cycle) → Type 0
IsFirst None s frames entries r file cycles = FourFit s frames entries r file cycles
IsFirst (Some Card) s frames entries r file cycles =
    (CardFits s frames entries r → ⊥) ⊎ (CardFits s frames entries r × AreCut s frames r cycles × (OwnersFit s frames r cycles → ⊥))
IsFirst (Some Groups) s frames entries r file cycles =
    CardFits s frames entries r
    × ((AreCut s frames r cycles → ⊥) ⊎ (AreCut s frames r cycles × OwnersFit s frames r cycles × (GroupsFit s frames r cycles → ⊥)))
IsFirst (Some Connections) s frames entries r file cycles =
    CardFits s frames entries r × OwnersFit s frames r cycles × GroupsFit s frames r cycles × (ConnectionsFit s frames r cycles → ⊥)
IsFirst (Some Replies) s frames entries r file cycles = ThreeFit s frames entries r cycles × (RepliesFitIn s frames entries r file cycles → ⊥)

-- in the cycles that the report's own lines tell
abbrev pub IsFirstTold : Option Point → Settings → List (List ℕ) → List Entry → Sheet → List ℕ → Type 0
IsFirstTold point s frames entries r file = IsFirst point s frames entries r file (cycles_told s frames r)
