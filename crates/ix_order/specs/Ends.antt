-- How the piece of a tenure ends: where its cut sends the group, and which piece is open behind all entries.
use Rattle.std.specs.Prelude.{◌≡◌, ℕ, suc, ◌+◌, ◌<◌, ◌≤◌, ◌==◌, if◌then◌else◌, List, [], ◌∷◌, ◌++◌, Option, Some, None, Bool, false}
use Rattle.ix_order.specs.Wire.{Entry, Item, cut, Table, put_on, RingsAre, NameCores, moves}
use Rattle.ix_order.specs.Pieces.{opened_by, if_open, opening, core_in}
use Rattle.ix_order.specs.Stages.{part, ring_part}

-- the open piece after some items
abbrev pub opened : ℕ → Option ℕ → List Item → Option ℕ
opened g o [] = o
opened g o (x ∷ xs) = opened g (opened_by g o x) xs

-- where an item sends the piece of g with tenure k
abbrev pub sends : ℕ → ℕ → Option ℕ → Item → List ℕ
sends g k o (cut h c) = if g == h then if_open k o c else []
sends g k o x = []

-- where the cuts of the piece of g with tenure k send it
abbrev pub sent : ℕ → ℕ → Option ℕ → List Item → List ℕ
sent g k o [] = []
sent g k o (x ∷ xs) = sends g k o x ++ sent g k (opened_by g o x) xs

-- On the ring of its core, a piece is cut once, and sent to the core of the next tenure, if the group is moved on.
pub record PiecesEnd : Type 0 where
  pub sent_on : (g k : ℕ) (t : Table) (es : List Entry) → RingsAre t es → (t g).tenure ≤ k → k < (t g).tenure + moves g es
      → sent g k (opening g (core_in g k t es) t) (put_on (core_in g k t es) t 0 es) ≡ core_in g (suc k) t es ∷ []
  pub sent_elsewhere : (g k r : ℕ) (t : Table) (es : List Entry) → RingsAre t es → (r ≡ core_in g k t es → ⊥) → sent g k (opening g r t) (put_on r t 0 es) ≡ []
  pub sent_last : (g k r : ℕ) (t : Table) (es : List Entry) → RingsAre t es → (t g).tenure + moves g es ≤ k → sent g k (opening g r t) (put_on r t 0 es) ≡ []
  -- behind all entries the piece of the last tenure is open, on the ring of its core alone
  pub last_open : (g r : ℕ) (t : Table) (es : List Entry)
      → let last = (t g).tenure + moves g es in opened g (opening g r t) (put_on r t 0 es) ≡ (if r == core_in g last t es then Some last else None)
  -- a part stands on the ring of its core
  pub parts : (n g k : ℕ) (b : Bool) (t : Table) (es : List Entry) → (t g).core < n → NameCores n es → RingsAre t es
      → part g k b (opening g (core_in g k t es) t) false (put_on (core_in g k t es) t 0 es) ≡ ring_part n g k b t es
  pub parts_elsewhere : (g k r : ℕ) (b : Bool) (t : Table) (es : List Entry) → RingsAre t es → (r ≡ core_in g k t es → ⊥)
      → part g k b (opening g r t) false (put_on r t 0 es) ≡ []
  pub below : (n g k : ℕ) (t : Table) (es : List Entry) → (t g).core < n → NameCores n es → core_in g k t es < n
