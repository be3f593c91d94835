-- The values of the keys whose value is a list.
use Rattle.std.specs.Prelude.{◌≤◌, ℕ, All, codes, List, [], ◌∷◌, length, if◌then◌else◌, nat_lt, Option, Some, None, option_and_then}
use Rattle.toml.specs.Data.{Data, Items, no_items, item, as_array, as_str, as_table, get_member}
use Rattle.ix_conf.specs.Neighbour.{has_distinct_addresses}
use Rattle.ix_conf.specs.Value.{ip_in, mac_in, number_in}
use Rattle.ix_conf.specs.Address.{◌>>=◌}

-- a first element before the others, where all are right
abbrev pub with_first : {A : Type 0} → Option A → Option (List A) → Option (List A)
with_first (Some x) (Some xs) = Some (x ∷ xs)
with_first _ _ = None

-- the elements of an array, where each of them is right
abbrev pub all_of : {A : Type 0} → (Data → Option A) → Items → Option (List A)
all_of read no_items = Some []
all_of read (item element rest) = with_first (read element) (all_of read rest)

abbrev pub at_most : {A : Type 0} → ℕ → List A → Option (List A)
at_most limit xs = if nat_lt limit (length xs) then None else Some xs

abbrev pub neighbour_in : Data → Option (ℕ × List ℕ)
neighbour_in element = do
  members ← as_table element
  ip ← option_and_then ip_in (get_member (codes "ip") members)
  mac ← option_and_then mac_in (get_member (codes "mac") members)
  Some (ip, mac)

abbrev pub distinct_ones : List (ℕ × List ℕ) → Option (List (ℕ × List ℕ))
distinct_ones neighbours = if has_distinct_addresses neighbours then Some neighbours else None

-- at most 64 neighbours, no two of one IPv4 address
abbrev pub neighbours_in : Data → Option (List (ℕ × List ℕ))
neighbours_in found = do
  elements ← as_array found
  neighbours ← all_of neighbour_in elements
  few ← at_most 64 neighbours
  distinct_ones few

abbrev pub peer_in : Data → Option (ℕ × ℕ)
peer_in element = do
  members ← as_table element
  ip ← option_and_then ip_in (get_member (codes "ip") members)
  port ← option_and_then (number_in 1 65535) (get_member (codes "port") members)
  Some (ip, port)

-- at most 64 peers
abbrev pub peers_in : Data → Option (List (ℕ × ℕ))
peers_in found = do
  elements ← as_array found
  peers ← all_of peer_in elements
  at_most 64 peers

-- a text of at most 65,536 bytes
abbrev pub text_in : Data → Option (List ℕ)
text_in found = do
  text ← as_str found
  at_most 65536 text

-- each peer's port is above 0
abbrev pub HasPorts : List (ℕ × ℕ) → Type 0
HasPorts peers = All (λ peer. 1 ≤ peer.1) peers
