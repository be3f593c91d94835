-- The order of a group's items on a ring: its piece begins, is tagged, and is cut, and tenures rise.
use Rattle.std.specs.Prelude.{◌≡◌, ℕ, ◌+◌, ◌<◌, ◌≤◌, ◌==◌, if◌then◌else◌, nat_lt, nat_le, Bool, true, false, not, ◌&&◌, List, [], ◌∷◌, ◌++◌, Option, is_some, is_none}
use Rattle.ix_order.specs.Wire.{Entry, Item, work, clock, tagged, cut, start, ended, Table, put_on, RingsAre, moves}
use Rattle.ix_order.specs.Pieces.{opened_by, opening, core_in}
use Rattle.ix_order.specs.Stages.{behind_by}
use Rattle.ix_order.specs.Steppers.{TagsAlternate}

-- Whether an item of g may come next, with this piece open, tagged or not, and this greatest tenure so far: a frame and a tag need an open
-- piece, the tag one that isn't tagged, a cut one that is, and a start none. A start's tenure is above those before it, and at most `most`.
abbrev pub comes_next : ℕ → ℕ → Option ℕ → Bool → ℕ → Item → Bool
comes_next most g o f last (work h w) = if g == h then is_some o else true
comes_next most g o f last (clock w) = true
comes_next most g o f last (tagged h) = if g == h then is_some o && not f else true
comes_next most g o f last (cut h c) = if g == h then is_some o && f else true
comes_next most g o f last (start h k) = if g == h then is_none o && (nat_lt last k && nat_le k most) else true
comes_next most g o f last ended = true

-- the greatest tenure of g so far, after an item
abbrev pub last_by : ℕ → ℕ → Item → ℕ
last_by g last (start h k) = if g == h then k else last
last_by g last x = last

-- whether the items of g stand in the order of a ring
abbrev pub in_order : ℕ → ℕ → Option ℕ → Bool → ℕ → List Item → Bool
in_order most g o f last [] = true
in_order most g o f last (x ∷ xs) = comes_next most g o f last x && in_order most g (opened_by g o x) (behind_by g f x) (last_by g last x) xs

-- Where tags and moves of a group alternate, its items stand on each ring in this order.
abbrev pub RingsInOrder : Type 0
RingsInOrder =
    (g r : ℕ) (t : Table) (es : List Entry)
    → (t g).tenure ≡ 0 → RingsAre t es → TagsAlternate g false es → in_order (moves g es) g (opening g r t) false 0 (put_on r t 0 es) ≡ true

-- the tenure, where the item begins the piece of g with tenure k
abbrev pub begins : ℕ → ℕ → Item → List ℕ
begins g k (start h j) = if g == h then (if k == j then k ∷ [] else []) else []
begins g k x = []

-- how the piece of g with tenure k begins: once or more often, or not at all
abbrev pub begun : ℕ → ℕ → List Item → List ℕ
begun g k [] = []
begun g k (x ∷ xs) = begins g k x ++ begun g k xs

-- The piece of each tenure but the first one begins once, on the ring of its core.
pub record PiecesBegin : Type 0 where
  pub begun_on : (g k : ℕ) (t : Table) (es : List Entry) → (t g).tenure < k → k ≤ (t g).tenure + moves g es
      → begun g k (put_on (core_in g k t es) t 0 es) ≡ k ∷ []
  pub begun_elsewhere : (g k r : ℕ) (t : Table) (es : List Entry) → (r ≡ core_in g k t es → ⊥) → begun g k (put_on r t 0 es) ≡ []
  pub begun_first : (g k r : ℕ) (t : Table) (es : List Entry) → k ≤ (t g).tenure → begun g k (put_on r t 0 es) ≡ []
  pub begun_last : (g k r : ℕ) (t : Table) (es : List Entry) → (t g).tenure + moves g es < k → begun g k (put_on r t 0 es) ≡ []
