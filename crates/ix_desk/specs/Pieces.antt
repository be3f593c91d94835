-- What the calls make of a piece.
use Rattle.std.specs.Prelude.{ℕ, ◌==◌, Bool, true, false, not, ◌&&◌, if◌then◌else◌, List, [], ◌∷◌, ◌++◌, Option, Some, None, is_some, is_none}
use Rattle.ix_desk.specs.Views.{Piece, Arrival}

abbrev pub is_nil : {X : Type 0} → List X → Bool
is_nil [] = true
is_nil (x ∷ xs) = false

-- the lists of all elements, one after the other
abbrev pub joined : {X I : Type 0} → (X → List I) → List X → List I
joined f [] = []
joined f (x ∷ xs) = f x ++ joined f xs

module _ {U I : Type 0} where
  -- a piece that begins, with what arrived for it
  abbrev pub begun : ℕ → Option (Arrival U I) → Piece U I
  begun k None = record { tenure = k; tagged = false; unit = None; remote = []; local = []; behind = [] }
  begun k (Some a) = record { tenure = k; tagged = false; unit = Some a.unit; remote = a.queue; local = []; behind = [] }

  -- what is to be stepped, in order
  abbrev pub ready : Piece U I → List I
  ready p = p.remote ++ p.local

  -- all items that wait
  abbrev pub piece_waits : Piece U I → List I
  piece_waits p = p.remote ++ (p.local ++ p.behind)

  abbrev pub with_item : Piece U I → I → Piece U I
  with_item p x = record {
    tenure = p.tenure;
    tagged = p.tagged;
    unit = p.unit;
    remote = p.remote;
    local = if p.tagged then p.local else p.local ++ x ∷ [];
    behind = if p.tagged then p.behind ++ x ∷ [] else p.behind;
  }

  abbrev pub with_tag : Piece U I → Piece U I
  with_tag p = record { tenure = p.tenure; tagged = true; unit = p.unit; remote = p.remote; local = p.local; behind = p.behind }

  -- the unit of this tenure has not come
  abbrev pub awaits : ℕ → Piece U I → Bool
  awaits k p = is_none p.unit && (is_nil p.remote && (p.tenure == k))

  -- what comes with the unit is stepped before what waited
  abbrev pub with_arrival : Arrival U I → Piece U I → Piece U I
  with_arrival a p = record { tenure = p.tenure; tagged = p.tagged; unit = Some a.unit; remote = a.queue; local = p.local; behind = p.behind }

  abbrev pub without_unit : Piece U I → Piece U I
  without_unit p = record { tenure = p.tenure; tagged = p.tagged; unit = None; remote = p.remote; local = p.local; behind = p.behind }

  -- its unit in its place, with another value
  abbrev pub with_unit : Piece U I → U → Piece U I
  with_unit p u = record { tenure = p.tenure; tagged = p.tagged; unit = Some u; remote = p.remote; local = p.local; behind = p.behind }

  -- the unit is here, and all that was to be stepped is
  abbrev pub is_done : Piece U I → Bool
  is_done p = is_some p.unit && (is_nil p.remote && is_nil p.local)

  -- something is to be stepped, and the unit that steps it is here
  abbrev pub piece_has_work : Piece U I → Bool
  piece_has_work p = is_some p.unit && not (is_nil (ready p))
