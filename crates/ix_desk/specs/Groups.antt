-- What the calls make of a group.
use Rattle.std.specs.Prelude.{◌≡◌, ◌<◌, ℕ, ◌==◌, Bool, true, false, not, ◌&&◌, ◌||◌, if◌then◌else◌, nat_lt, List, [], ◌∷◌, ◌++◌, Option, Some, None, is_some, is_none, length, slice_index_or, slice_set}
use Rattle.std.specs.List.{list_any}
use Rattle.ix_base.specs.declared.id.CoreId.{CoreId}
use Rattle.ix_desk.specs.declared.unit.DeskItem.{DeskItem}
use Rattle.ix_desk.specs.declared.unit.DeskItem.TheVariants.{Work, Tag, Cut, Start}
use Rattle.ix_desk.specs.Views.{Piece, CutPiece, Arrival, Group}
use Rattle.ix_desk.specs.Pieces.{begun, with_item, with_tag, with_arrival, awaits, without_unit, with_unit, is_done, piece_has_work, piece_waits, joined}

module _ {U I : Type 0} where
  abbrev pub is_untagged : Option (Piece U I) → Bool
  is_untagged None = false
  is_untagged (Some p) = not p.tagged

  abbrev pub is_tagged : Option (Piece U I) → Bool
  is_tagged None = false
  is_tagged (Some p) = p.tagged

  -- The order of a ring: a piece begins, is tagged, and is cut. A tenure is above that of each piece before it.
  abbrev pub fits : Group U I → DeskItem I → Bool
  fits g (Work x) = is_some g.current
  fits g Tag = is_untagged g.current
  fits g (Cut to) = is_tagged g.current
  fits g (Start k) = is_none g.current && (nat_lt g.last k && nat_lt k 4294967295)

  abbrev pub item_put : I → Option (Piece U I) → Option (Piece U I)
  item_put x None = None
  item_put x (Some p) = Some (with_item p x)

  abbrev pub tag_put : Option (Piece U I) → Option (Piece U I)
  tag_put None = None
  tag_put (Some p) = Some (with_tag p)

  abbrev pub cut_of : CoreId → Option (Piece U I) → List (CutPiece U I)
  cut_of to None = []
  cut_of to (Some p) = record { to = to.0; piece = p } ∷ []

  -- what has arrived for a tenure
  abbrev pub arrival_of : ℕ → List (Arrival U I) → Option (Arrival U I)
  arrival_of k [] = None
  arrival_of k (a ∷ rest) = if a.tenure == k then Some a else arrival_of k rest

  -- the arrivals without that one
  abbrev pub arrivals_but : ℕ → List (Arrival U I) → List (Arrival U I)
  arrivals_but k [] = []
  arrivals_but k (a ∷ rest) = if a.tenure == k then rest else a ∷ arrivals_but k rest

  -- a group that took an item
  abbrev pub taken : Group U I → DeskItem I → Group U I
  taken g (Work x) = record { cut = g.cut; current = item_put x g.current; early = g.early; arrived = g.arrived; last = g.last }
  taken g Tag = record { cut = g.cut; current = tag_put g.current; early = g.early; arrived = g.arrived; last = g.last }
  taken g (Cut to) = record { cut = g.cut ++ cut_of to g.current; current = None; early = g.early; arrived = g.arrived; last = g.last }
  taken g (Start k) = record { cut = g.cut; current = Some (begun k (arrival_of k g.early)); early = arrivals_but k g.early; arrived = g.arrived; last = k }

  -- ## Tests by which a piece among those that were cut is looked for
  abbrev pub is_awaiting : ℕ → CutPiece U I → Bool
  is_awaiting k c = awaits k c.piece

  abbrev pub is_seated : CutPiece U I → Bool
  is_seated c = is_some c.piece.unit

  abbrev pub is_finished : CutPiece U I → Bool
  is_finished c = is_done c.piece

  abbrev pub cut_awaits : ℕ → List (CutPiece U I) → Bool
  cut_awaits k [] = false
  cut_awaits k (c ∷ cs) = awaits k c.piece || cut_awaits k cs

  abbrev pub cut_seated : Arrival U I → List (CutPiece U I) → List (CutPiece U I)
  cut_seated a [] = []
  cut_seated a (c ∷ cs) = if awaits a.tenure c.piece then record { to = c.to; piece = with_arrival a c.piece } ∷ cs else c ∷ cut_seated a cs

  abbrev pub current_awaits : ℕ → Option (Piece U I) → Bool
  current_awaits k None = false
  current_awaits k (Some p) = awaits k p

  abbrev pub current_seated : Arrival U I → Option (Piece U I) → Option (Piece U I)
  current_seated a None = None
  current_seated a (Some p) = if awaits a.tenure p then Some (with_arrival a p) else Some p

  -- a group at which a unit arrived: it goes to the piece of its tenure, or waits for that to begin
  abbrev pub landed : Group U I → Arrival U I → Group U I
  landed g a = record {
    cut = cut_seated a g.cut;
    current = if cut_awaits a.tenure g.cut then g.current else current_seated a g.current;
    early = if cut_awaits a.tenure g.cut || current_awaits a.tenure g.current then g.early else g.early ++ a ∷ [];
    arrived = g.arrived ++ a.tenure ∷ [];
    last = g.last;
  }

  -- The unit that is here: that of the oldest piece that has one. One that waits for its piece to begin is not here yet.
  abbrev pub cut_unit : List (CutPiece U I) → Option U
  cut_unit [] = None
  cut_unit (c ∷ cs) = if is_some c.piece.unit then c.piece.unit else cut_unit cs

  abbrev pub current_unit : Option (Piece U I) → Option U
  current_unit None = None
  current_unit (Some p) = p.unit

  abbrev pub unit_of : Group U I → Option U
  unit_of g = if is_some (cut_unit g.cut) then cut_unit g.cut else current_unit g.current

  abbrev pub cut_piece_untaken : CutPiece U I → CutPiece U I
  cut_piece_untaken c = record { to = c.to; piece = without_unit c.piece }

  abbrev pub cut_untaken : List (CutPiece U I) → List (CutPiece U I)
  cut_untaken [] = []
  cut_untaken (c ∷ cs) = if is_some c.piece.unit then cut_piece_untaken c ∷ cs else c ∷ cut_untaken cs

  abbrev pub current_untaken : Option (Piece U I) → Option (Piece U I)
  current_untaken None = None
  current_untaken (Some p) = Some (without_unit p)

  -- a group whose unit was taken
  abbrev pub untaken : Group U I → Group U I
  untaken g = record {
    cut = cut_untaken g.cut;
    current = if is_some (cut_unit g.cut) then g.current else current_untaken g.current;
    early = g.early;
    arrived = g.arrived;
    last = g.last;
  }

  -- a piece that is not there
  abbrev pub no_piece : CutPiece U I
  no_piece = record { to = 0; piece = begun 0 None }

  abbrev pub cut_piece_with : CutPiece U I → U → CutPiece U I
  cut_piece_with c u = record { to = c.to; piece = with_unit c.piece u }

  abbrev pub cut_with : List (CutPiece U I) → U → List (CutPiece U I)
  cut_with [] u = []
  cut_with (c ∷ cs) u = if is_some c.piece.unit then cut_piece_with c u ∷ cs else c ∷ cut_with cs u

  abbrev pub current_with : Option (Piece U I) → U → Option (Piece U I)
  current_with None u = None
  current_with (Some p) u = Some (with_unit p u)

  -- a group whose unit was changed in its place
  unfoldable pub changed : Group U I → U → Group U I
  changed g u = record {
    cut = cut_with g.cut u;
    current = if is_some (cut_unit g.cut) then g.current else current_with g.current u;
    early = g.early;
    arrived = g.arrived;
    last = g.last;
  }

  -- the oldest piece that was cut and is done
  abbrev pub done_of : List (CutPiece U I) → Option (CutPiece U I)
  done_of [] = None
  done_of (c ∷ cs) = if is_done c.piece then Some c else done_of cs

  abbrev pub cut_but_done : List (CutPiece U I) → List (CutPiece U I)
  cut_but_done [] = []
  cut_but_done (c ∷ cs) = if is_done c.piece then cs else c ∷ cut_but_done cs

  -- a group that gave it away
  abbrev pub shipped : Group U I → Group U I
  shipped g = record { cut = cut_but_done g.cut; current = g.current; early = g.early; arrived = g.arrived; last = g.last }

  abbrev pub cut_has_work : CutPiece U I → Bool
  cut_has_work c = piece_has_work c.piece

  abbrev pub current_has_work : Option (Piece U I) → Bool
  current_has_work None = false
  current_has_work (Some p) = piece_has_work p

  -- something of the group is to be stepped here
  abbrev pub group_has_work : Group U I → Bool
  group_has_work g = list_any cut_has_work g.cut || current_has_work g.current

  -- the items that wait: of each piece the remote queue before the local one, and then what came with units whose piece hasn't begun
  abbrev pub cut_waits : List (CutPiece U I) → List I
  cut_waits cs = joined (λ c. piece_waits c.piece) cs

  abbrev pub current_waits : Option (Piece U I) → List I
  current_waits None = []
  current_waits (Some p) = piece_waits p

  abbrev pub early_waits : List (Arrival U I) → List I
  early_waits arrivals = joined (λ a. a.queue) arrivals

  abbrev pub waits : Group U I → List I
  waits g = cut_waits g.cut ++ (current_waits g.current ++ early_waits g.early)

  -- no piece began and nothing arrived
  abbrev pub empty : Group U I
  empty = record { cut = []; current = None; early = []; arrived = []; last = 0 }

  -- the unit is at home here: its first piece has tenure 0
  abbrev pub at_home : U → Group U I
  at_home u = record { cut = []; current = Some (record { tenure = 0; tagged = false; unit = Some u; remote = []; local = []; behind = [] }); early = []; arrived = []; last = 0 }

-- the oldest piece that was cut and has its unit stands at this place
pub record HasUnitAt {U I : Type 0} (cut : List (CutPiece U I)) (i : ℕ) : Type 0 where
  pub within : i < length cut
  pub here : is_some (slice_index_or cut i no_piece).piece.unit ≡ true
  pub unit : cut_unit cut ≡ (slice_index_or cut i no_piece).piece.unit
  pub with : (u : U) → cut_with cut u ≡ slice_set cut i (cut_piece_with (slice_index_or cut i no_piece) u)
  pub untaken : cut_untaken cut ≡ slice_set cut i (cut_piece_untaken (slice_index_or cut i no_piece))

-- no piece that was cut has its unit
pub record HasNoUnit {U I : Type 0} (cut : List (CutPiece U I)) : Type 0 where
  pub unit : cut_unit cut ≡ None
  pub with : (u : U) → cut_with cut u ≡ cut
  pub untaken : cut_untaken cut ≡ cut
