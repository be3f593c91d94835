-- The laws.
use Rattle.std.specs.Prelude.{◌≡◌, ◌<◌, ℕ, Bool, if◌then◌else◌, List, [], ◌∷◌, length, map, ◌++◌}
use Rattle.ix_desk.specs.Views.{View}
use Rattle.ix_desk.specs.Groups.{empty, at_home}
use Rattle.ix_desk.specs.Desks.{group_at}
use Rattle.ix_order.specs.Wire.{Entry, Table}
use Rattle.ix_history.specs.Runs.{Runs, RunsJoin}
use Rattle.ix_history.specs.Events.{RingItem, Parcel, Event, took, came, worked, gone, lent, part_of, Happened}
use Rattle.ix_history.specs.Items.{taken_in, gone_to, came_from, handed_out}
use Rattle.ix_history.specs.Run.{Run}
use Rattle.ix_history.specs.Join.{Played, Joined, NowhereElse}
use Rattle.ix_history.specs.Pieces.{Account, account, Stands}
use Rattle.ix_history.specs.Tenure.{TenureLaw}

-- What two histories that follow one another say together.
pub record SayTogether (U I O : Type 0) : Type 0 where
  pub items : (es fs : List (Event U I O)) → taken_in (es ++ fs) ≡ taken_in es ++ taken_in fs
  pub shipped : (d : ℕ) (es fs : List (Event U I O)) → gone_to d (es ++ fs) ≡ gone_to d es ++ gone_to d fs
  pub landed : (c : ℕ) (es fs : List (Event U I O)) → came_from c (es ++ fs) ≡ came_from c es ++ came_from c fs
  pub handed : (es fs : List (Event U I O)) → handed_out (es ++ fs) ≡ handed_out es ++ handed_out fs

module _ {U I O E : Type 0} (counted : I → Bool) (name : I → ℕ) (stepped : U → List (ℕ × ℕ)) (advanced : U → E → ℕ → List I → U → Type 0) (lends : U → O → U → Type 0) where
  abbrev pub HistoriesJoin : Type 0
  HistoriesJoin = (env : E) → RunsJoin (Happened counted name stepped advanced lends env)

  -- Nothing is a history, each event is one, and two that follow one another are one.
  pub record RunsGoOn : Type 0 where
    pub stays : (env : E) (x : View U I) → Run counted name stepped advanced lends env x x [] [] [] []
    pub took_one : (env : E) (x y : View U I) (i : RingItem I) → Happened counted name stepped advanced lends env x (took i) y → Run counted name stepped advanced lends env x y (i ∷ []) [] [] []
    pub came_one : (env : E) (x y : View U I) (c : ℕ) (s : Parcel U I) → Happened counted name stepped advanced lends env x (came c s) y → Run counted name stepped advanced lends env x y [] ((c, s) ∷ []) [] []
    pub worked_once : (env : E) (x y : View U I) (max : ℕ) → Happened counted name stepped advanced lends env x (worked max) y → Run counted name stepped advanced lends env x y [] [] [] []
    pub gone_one : (env : E) (x y : View U I) (s : Parcel U I) → Happened counted name stepped advanced lends env x (gone s) y → Run counted name stepped advanced lends env x y [] [] [] (s ∷ [])
    pub lent_one : (env : E) (x y : View U I) (g : ℕ) (u : U) (out : O) (v : U) → Happened counted name stepped advanced lends env x (lent g u out v) y → Run counted name stepped advanced lends env x y [] [] (out ∷ []) []
    pub joins : (env : E) (x y z : View U I) (items items' : List (RingItem I)) (ins ins' : List (ℕ × Parcel U I)) (outs outs' : List O) (left left' : List (Parcel U I))
        → Run counted name stepped advanced lends env x y items ins outs left → Run counted name stepped advanced lends env y z items' ins' outs' left'
        → Run counted name stepped advanced lends env x z (items ++ items') (ins ++ ins') (outs ++ outs') (left ++ left')

  -- Whatever was heard of a tenure before, what the desks hold of it follows the account of the history.
  abbrev pub PieceLaw : Type 0
  PieceLaw = (env : E) (g k : ℕ) (x y : View U I) (history : List (Event U I O)) (a : Account U I)
      → length x.groups ≡ 512 → g < 512
      → Runs (Happened counted name stepped advanced lends env) x history y
      → Stands counted name stepped advanced lends env x.core k a (group_at x g)
      → Stands counted name stepped advanced lends env x.core k (account k a (map (part_of g) history)) (group_at y g)

  -- The desk law, for a core on which the unit of g is at home or isn't, over every history from the opening on.
  abbrev pub DeskLaw : Type 0
  DeskLaw = (env : E) (g k : ℕ) (home : Bool) (unit : U) (x y : View U I) (history : List (Event U I O))
      → length x.groups ≡ 512 → g < 512 → group_at x g ≡ (if home then at_home unit else empty)
      → Runs (Happened counted name stepped advanced lends env) x history y
      → TenureLaw counted name stepped advanced lends env x.core g k home unit history y

  -- The join law: of each group, the steps of all cores are those of its entries, and its unit is on the core of its last tenure alone.
  abbrev pub JoinLaw : Type 0
  JoinLaw = (env : E) (n g : ℕ) (t : Table) (es : List Entry) (unit : ℕ → U) (x y : ℕ → View U I) (history : ℕ → List (Event U I O))
      → Played counted name stepped advanced lends env n t es unit x y history → g < 512
      → Joined counted name stepped advanced lends env n g t es (unit g) y (λ c. taken_in (history c)) × NowhereElse counted name stepped advanced lends env n g t es y
