-- The tenures that have arrived.
use Rattle.std.specs.Prelude.{ℕ, ◌==◌, ◌≤◌, Bool, List, [], ◌∷◌}
use Rattle.std.specs.List.{list_any}

-- whether the unit of this tenure has arrived
abbrev pub has_arrived : ℕ → List ℕ → Bool
has_arrived k ks = list_any (λ j. j == k) ks

-- no number of the list is above this one
abbrev pub AtMost : ℕ → List ℕ → Type 0
AtMost most [] = Unit {0}
AtMost most (k ∷ ks) = (k ≤ most) × AtMost most ks
