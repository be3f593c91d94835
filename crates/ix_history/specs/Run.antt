-- A history, seen from outside: what went in and what came out.
use Rattle.std.specs.Prelude.{◌≡◌, ℕ, Bool, List, [], ◌∷◌}
use Rattle.ix_desk.specs.Views.{View}
use Rattle.ix_history.specs.Runs.{Runs}
use Rattle.ix_history.specs.Events.{RingItem, Parcel, Event, took, came, worked, gone, lent, Happened}
use Rattle.ix_history.specs.Items.{taken_in, handed_out}

module _ {U I O : Type 0} where
  -- all that came, with the core that it came from
  abbrev pub landed_in : List (Event U I O) → List (ℕ × Parcel U I)
  landed_in [] = []
  landed_in (took x ∷ es) = landed_in es
  landed_in (came c s ∷ es) = (c, s) ∷ landed_in es
  landed_in (worked max ∷ es) = landed_in es
  landed_in (gone s ∷ es) = landed_in es
  landed_in (lent h u out v ∷ es) = landed_in es

  -- all that was shipped
  abbrev pub shipped_in : List (Event U I O) → List (Parcel U I)
  shipped_in [] = []
  shipped_in (took x ∷ es) = shipped_in es
  shipped_in (came c s ∷ es) = shipped_in es
  shipped_in (worked max ∷ es) = shipped_in es
  shipped_in (gone s ∷ es) = s ∷ shipped_in es
  shipped_in (lent h u out v ∷ es) = shipped_in es

module _ {U I O E : Type 0} (counted : I → Bool) (name : I → ℕ) (stepped : U → List (ℕ × ℕ)) (advanced : U → E → ℕ → List I → U → Type 0) (lends : U → O → U → Type 0) (env : E) where
  -- some history leads from x to y: it took these items, these parcels came, units handed these out, and these parcels left, in order
  pub record Run (x y : View U I) (items : List (RingItem I)) (ins : List (ℕ × Parcel U I)) (outs : List O) (left : List (Parcel U I)) : Type 0 where
    pub events : List (Event U I O)
    pub runs : Runs (Happened counted name stepped advanced lends env) x events y
    pub took_all : taken_in events ≡ items
    pub landed_all : landed_in events ≡ ins
    pub handed_all : handed_out events ≡ outs
    pub shipped_all : shipped_in events ≡ left
