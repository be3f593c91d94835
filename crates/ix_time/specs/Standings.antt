-- Where each key stands, as std's hash map lists it, and the finite map that this is.
use Rattle.std.specs.Prelude.{ℕ, nat_eq, List, [], ◌∷◌, Option}
use Rattle.std.specs.Map.{lookup}
use Rattle.std.specs.Option.{option_map}
use Rattle.ix_time.specs.declared.standings.Standing.{Standing}
use Rattle.ix_time.specs.Entries.{put}

-- the standing of a key
abbrev pub standing_of : ℕ → List (ℕ × Standing) → Option Standing
standing_of key standings = lookup (nat_eq key) standings

-- the tick of a key
abbrev pub tick_in : ℕ → List (ℕ × Standing) → Option ℕ
tick_in key standings = option_map (λ s. s.tick) (standing_of key standings)

-- the deadlines in order of keys
abbrev pub in_order : List (ℕ × Standing) → List (ℕ × ℕ)
in_order [] = []
in_order (e ∷ es) = put e.0 e.1.tick (in_order es)
