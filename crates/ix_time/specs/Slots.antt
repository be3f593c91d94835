-- The entries of a place, each with its index.
use Rattle.std.specs.Prelude.{ℕ, ◌-◌, ◌==◌, nat_lt, List, [], length, slice_get, slice_index_or, Option, None, if◌then◌else◌}

-- what stands at an index once the entry at another one was taken away and the last one was put there
abbrev pub taken : List (ℕ × ℕ) → ℕ → ℕ → Option (ℕ × ℕ)
taken entries index i =
    if nat_lt i (length entries - 1) then (if i == index then slice_get entries (length entries - 1) else slice_get entries i) else None

-- the entry at an index of a place
abbrev pub entry_at : List (List (ℕ × ℕ)) → ℕ → ℕ → Option (ℕ × ℕ)
entry_at places place index = slice_get (slice_index_or places place []) index

-- the same of all places, once an entry of one place was taken away
abbrev pub taken_at : List (List (ℕ × ℕ)) → ℕ → ℕ → ℕ → ℕ → Option (ℕ × ℕ)
taken_at places place index p i = if p == place then taken (slice_index_or places place []) index i else entry_at places p i
