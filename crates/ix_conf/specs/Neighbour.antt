-- IPv4 addresses with their hardware addresses.
use Rattle.std.specs.Prelude.{ℕ, ◌==◌, ◌&&◌, not, Bool, true, List, [], ◌∷◌}
use Rattle.std.specs.List.{list_any}

-- one of these has the IPv4 address
abbrev pub has_address : List (ℕ × List ℕ) → ℕ → Bool
has_address neighbours ip = list_any (λ neighbour. neighbour.0 == ip) neighbours

-- no two of these have one IPv4 address
abbrev pub has_distinct_addresses : List (ℕ × List ℕ) → Bool
has_distinct_addresses [] = true
has_distinct_addresses (neighbour ∷ rest) = not (has_address rest neighbour.0) && has_distinct_addresses rest
