-- A finite map from keys to ticks, as the list of its entries in order of keys.
use Rattle.std.specs.Prelude.{ℕ, ◌<◌, ◌==◌, ◌++◌, nat_lt, nat_le, not, Bool, false, List, [], ◌∷◌, Option, Some, None, filter, if◌then◌else◌}
use Rattle.std.specs.List.{list_any}

-- each entry's key is above this one
abbrev pub Above : ℕ → List (ℕ × ℕ) → Type 0
Above key [] = Unit {0}
Above key (e ∷ es) = (key < e.0) × Above key es

-- the keys rise
abbrev pub IsRising : List (ℕ × ℕ) → Type 0
IsRising [] = Unit {0}
IsRising (e ∷ es) = Above e.0 es × IsRising es

-- the tick of a key
abbrev pub tick_of : ℕ → List (ℕ × ℕ) → Option ℕ
tick_of key [] = None
tick_of key (e ∷ es) = if key == e.0 then Some e.1 else tick_of key es

-- the entries below the key, the key with this tick, and the entries above it
abbrev pub put : ℕ → ℕ → List (ℕ × ℕ) → List (ℕ × ℕ)
put key tick es = filter (λ e. nat_lt e.0 key) es ++ (key, tick) ∷ filter (λ e. nat_lt key e.0) es

-- the entries with another key
abbrev pub without : ℕ → List (ℕ × ℕ) → List (ℕ × ℕ)
without key es = filter (λ e. not (e.0 == key)) es

-- the entries with none of these keys
abbrev pub without_all : List ℕ → List (ℕ × ℕ) → List (ℕ × ℕ)
without_all keys es = filter (λ e. not (list_any (λ key. key == e.0) keys)) es

abbrev pub is_due : ℕ → (ℕ × ℕ) → Bool
is_due now e = nat_le e.1 now

abbrev pub is_later : ℕ → (ℕ × ℕ) → Bool
is_later now e = not (nat_le e.1 now)

-- the tick first, then the key
abbrev pub timed : (ℕ × ℕ) → (ℕ × ℕ)
timed e = (e.1, e.0)

-- a tick that is after now
abbrev pub later_tick : ℕ → Option ℕ → Option ℕ
later_tick now None = None
later_tick now (Some tick) = if nat_le tick now then None else Some tick

-- there is a tick, and it is at most now
abbrev pub is_reached : ℕ → Option ℕ → Bool
is_reached now None = false
is_reached now (Some tick) = nat_le tick now
