-- What a due call gives and moves.
use Rattle.std.specs.Prelude.{◌≡◌, ℕ, suc, ◌==◌, ◌++◌, List, [], ◌∷◌, Option, None, map, filter, IsPermutation, IsSorted, if◌then◌else◌}
use Rattle.std.specs.Option.{option_map}
use Rattle.std.specs.Ordering.{nat_cmp, ordering_then}
use Rattle.ix_time.specs.declared.places.Clock.{Clock}
use Rattle.ix_time.specs.declared.standings.Standing.{Standing}
use Rattle.ix_time.specs.Places.{empties}
use Rattle.ix_time.specs.Entries.{timed, is_due}

-- The keys are those of the due entries, each once, in order of tick and then key.
pub record GivesDue (now : ℕ) (entries : List (ℕ × ℕ)) (given : List ℕ) : Type 0 where
  pub ticks_and_keys : List (ℕ × ℕ)
  pub keys : given ≡ map (λ d. d.1) ticks_and_keys
  pub exact : IsPermutation (map timed (filter (is_due now) entries)) ticks_and_keys
  pub order : IsSorted (λ a b. ordering_then (nat_cmp a.0 b.0) (nat_cmp a.1 b.1)) ticks_and_keys

-- the due ones among these entries, as ticks and keys
abbrev pub due_of : ℕ → List (ℕ × ℕ) → List (ℕ × ℕ)
due_of now entries = map timed (filter (is_due now) entries)

-- the entries of those places, from the first one's number on, that a due call empties
abbrev pub emptied : Clock → ℕ → ℕ → List (List (ℕ × ℕ)) → List (ℕ × ℕ)
emptied clock now first [] = []
emptied clock now first (entries ∷ places) = (if empties clock now first then entries else []) ++ emptied clock now (suc first) places

-- what a key has once these keys were taken out
abbrev pub without_keys : ℕ → List ℕ → Option Standing → Option Standing
without_keys key [] before = before
without_keys key (k ∷ ks) before = without_keys key ks (if k == key then None else before)

-- what a key has once each key of these entries stands at the index that it has here, counted from the first one's
abbrev pub renumbered_from : ℕ → ℕ → List (ℕ × ℕ) → Option Standing → Option Standing
renumbered_from key first [] before = before
renumbered_from key first (e ∷ es) before =
    renumbered_from key (suc first) es (if e.0 == key then option_map (λ s. record { tick = e.1; index = first }) before else before)

-- the same of all places
abbrev pub renumbered : ℕ → List (List (ℕ × ℕ)) → Option Standing → Option Standing
renumbered key [] before = before
renumbered key (entries ∷ places) before = renumbered key places (renumbered_from key 0 entries before)
