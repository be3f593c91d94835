-- What the cores of a play have stepped of a group: by the wire list alone, and in which runs on one core.
use Rattle.std.specs.Prelude.{◌≡◌, ◌<◌, ℕ, Bool, false, ◌==◌, if◌then◌else◌, List, [], ◌∷◌, ◌++◌, map, fold, Option, Some, None}
use Rattle.std.specs.List.{AllByRecursion}
use Rattle.ix_base.specs.declared.id.TheConstants.{FLOW_GROUPS}
use Rattle.ix_desk.specs.Desks.{group_at}
use Rattle.ix_desk.specs.Views.{Piece, View}
use Rattle.ix_history.specs.Events.{Event}
use Rattle.ix_history.specs.Join.{Played}
use Rattle.ix_order.specs.Pieces.{core_in}
use Rattle.ix_order.specs.Steppers.{Step, TagsAlternate, none_yet, steps, tagged_by}
use Rattle.ix_order.specs.Wire.{Entry, Table, entries, moves}

-- ## By the wire list
-- the entries that some core steps, each with that core
abbrev pub on_core : ℕ → Option ℕ → List (ℕ × ℕ)
on_core w None = []
on_core w (Some core) = (w, core) ∷ []

abbrev pub with_cores : List Step → List (ℕ × ℕ)
with_cores [] = []
with_cores (s ∷ ss) = on_core s.entry s.core ++ with_cores ss

-- those of a group: its entries in wire order, without those behind an open tag
abbrev pub steps_named : ℕ → Table → List Entry → List (ℕ × ℕ)
steps_named g t es = with_cores (steps g (t g).core 0 none_yet 0 es)

-- ## By the cores
module _ {U I O E : Type 0} (counted : I → Bool) (name : I → ℕ) (stepped : U → List (ℕ × ℕ)) (advanced : U → E → ℕ → List I → U → Type 0) (lends : U → O → U → Type 0) where
  -- The unit of a group, on the core of its last tenure, has stepped just these, one after the other, each on that core. Where no tag is open
  -- they are all entries of the group, and nothing waits.
  pub record StepsAsNamed (g : ℕ) (t : Table) (es : List Entry) (y : ℕ → View U I) : Type 0 where
    pub piece : Piece U I
    pub is : (group_at (y (core_in g (moves g es) t es)) g).current ≡ Some piece
    pub unit : U
    pub there : piece.unit ≡ Some unit
    pub steps_are : stepped unit ≡ steps_named g t es
    pub all : fold (tagged_by g) false es ≡ false → map (λ (s : ℕ × ℕ). s.0) (stepped unit) ≡ entries g 0 es
    pub waits : fold (tagged_by g) false es ≡ false → piece.behind ≡ []

  -- So it is of each group whose tags and moves alternate, once cores have played a wire list, where its unit had stepped nothing at the opening.
  abbrev pub SteppingLaw : Type 0
  SteppingLaw =
      (env : E) (n g : ℕ) (t : Table) (es : List Entry) (unit : ℕ → U) (x y : ℕ → View U I) (history : ℕ → List (Event U I O))
      → Played counted name stepped advanced lends env n t es unit x y history → g < FLOW_GROUPS → TagsAlternate g false es → stepped (unit g) ≡ []
      → StepsAsNamed g t es y

-- ## Runs on one core
-- a longest run of steps on one core, with its first and its last entry
pub record Tenure : Type 0 where
  pub core : ℕ
  pub first : ℕ
  pub last : ℕ

abbrev pub tenure_of : ℕ × ℕ → Tenure
tenure_of s = record { core = s.1; first = s.0; last = s.0 }

-- with one more step, before them
abbrev pub tenures_with : ℕ × ℕ → List Tenure → List Tenure
tenures_with s [] = tenure_of s ∷ []
tenures_with s (t ∷ ts) = if s.1 == t.core then record { core = t.core; first = s.0; last = t.last } ∷ ts else tenure_of s ∷ t ∷ ts

abbrev pub tenures : List (ℕ × ℕ) → List Tenure
tenures [] = []
tenures (s ∷ ss) = tenures_with s (tenures ss)

abbrev pub last_entry : ℕ → List (ℕ × ℕ) → ℕ
last_entry w [] = w
last_entry w (s ∷ ss) = last_entry s.0 ss

-- Some of the steps, the first one and some behind it, are on the core of a tenure, from its first to its last entry.
pub record BeginWith (t : Tenure) (all rest : List (ℕ × ℕ)) : Type 0 where
  pub later : List (ℕ × ℕ)
  pub cut : all ≡ ((t.first, t.core) ∷ later) ++ rest
  pub cores : AllByRecursion (λ (s : ℕ × ℕ). s.1 ≡ t.core) later
  pub ends : last_entry t.first later ≡ t.last

-- They are these runs, one behind the other, ..
abbrev pub AreRuns : List Tenure → List (ℕ × ℕ) → Type 0
AreRuns [] all = all ≡ []
AreRuns (t ∷ ts) all = (rest : List (ℕ × ℕ)) × BeginWith t all rest × AreRuns ts rest

-- .. of which none goes on in the next.
abbrev pub GoesNotOn : ℕ → List Tenure → Type 0
GoesNotOn core [] = Unit {0}
GoesNotOn core (t ∷ ts) = core ≡ t.core → ⊥

abbrev pub AreLongest : List Tenure → Type 0
AreLongest [] = Unit {0}
AreLongest (t ∷ ts) = GoesNotOn t.core ts × AreLongest ts

abbrev pub TenuresAreRuns : Type 0
TenuresAreRuns = (all : List (ℕ × ℕ)) → AreRuns (tenures all) all × AreLongest (tenures all)
