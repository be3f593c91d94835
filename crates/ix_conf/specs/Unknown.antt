-- The keys that a configuration may have, at each depth. Keys are looked for through tables and arrays, by their dotted path.
use Rattle.std.specs.Prelude.{ℕ, codes, List, Bool, false, not, ◌||◌, if◌then◌else◌, bytes_eq}
use Rattle.toml.specs.Data.{Data, array, table, Items, no_items, item, Members, no_members, member}
use Rattle.ix_conf.specs.declared.unknown.Place.{Place}
use Rattle.ix_conf.specs.declared.unknown.Place.TheVariants.{Root, Local, Core, Tcp, Neighbour, Push, Peers, Leaf}

-- a table at this place may have the key
unfoldable pub allows : Place → List ℕ → Bool
allows Root key = bytes_eq key (codes "local") || bytes_eq key (codes "core") || bytes_eq key (codes "tcp") || bytes_eq key (codes "neighbour") || bytes_eq key (codes "push")
allows Local key = bytes_eq key (codes "mac") || bytes_eq key (codes "ip") || bytes_eq key (codes "port") || bytes_eq key (codes "app")
allows Core key = bytes_eq key (codes "cores") || bytes_eq key (codes "live") || bytes_eq key (codes "batch") || bytes_eq key (codes "buffers") || bytes_eq key (codes "pace")
allows Tcp key =
    bytes_eq key (codes "window") || bytes_eq key (codes "mss") || bytes_eq key (codes "rto") || bytes_eq key (codes "retries") || bytes_eq key (codes "time_wait")
    || bytes_eq key (codes "checksum")
allows Neighbour key = bytes_eq key (codes "ip") || bytes_eq key (codes "mac")
allows Push key = bytes_eq key (codes "text") || bytes_eq key (codes "peers")
allows Peers key = bytes_eq key (codes "ip") || bytes_eq key (codes "port")
allows Leaf key = false

-- where the value of an allowed key stands
unfoldable pub below : Place → List ℕ → Place
below Root key =
    if bytes_eq key (codes "local") then Local
    else if bytes_eq key (codes "core") then Core
    else if bytes_eq key (codes "tcp") then Tcp
    else if bytes_eq key (codes "neighbour") then Neighbour
    else Push
below Push key = if bytes_eq key (codes "peers") then Peers else Leaf
below _ key = Leaf

-- some key at or below a place is unknown; the elements of an array stand at its place
abbrev mutual
  pub is_unknown : Place → Data → Bool
  is_unknown place (array items) = is_unknown_in_items place items
  is_unknown place (table members) = is_unknown_in_members place members
  is_unknown place _ = false

  pub is_unknown_in_items : Place → Items → Bool
  is_unknown_in_items place no_items = false
  is_unknown_in_items place (item value rest) = is_unknown place value || is_unknown_in_items place rest

  pub is_unknown_in_members : Place → Members → Bool
  is_unknown_in_members place no_members = false
  is_unknown_in_members place (member key value rest) =
      (not (allows place key) || is_unknown (below place key) value) || is_unknown_in_members place rest
