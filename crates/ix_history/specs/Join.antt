-- Several cores: what each did, and how it joins.
use Rattle.std.specs.Prelude.{◌≡◌, ◌<◌, ◌⊎◌, ℕ, zero, suc, ◌==◌, Bool, true, false, if◌then◌else◌, List, [], ◌∷◌, ◌++◌, length, map, Some, None}
use Rattle.ix_desk.specs.Views.{Piece, View}
use Rattle.ix_desk.specs.Pieces.{ready, joined}
use Rattle.ix_desk.specs.Groups.{empty, at_home}
use Rattle.ix_desk.specs.Desks.{group_at, has_work, NothingDone}
use Rattle.ix_order.specs.Wire.{Entry, Table, put_on, RingsAre, NameCores, entries, moves}
use Rattle.ix_order.specs.Steppers as who
use Rattle.ix_order.specs.Steppers.{step_of, none_yet, TagsAlternate}
use Rattle.ix_order.specs.Pieces.{opening, core_in, by_tenure}
use Rattle.ix_order.specs.Stages as stages
use Rattle.ix_order.specs.Stages.{ring_part}
use Rattle.ix_history.specs.Runs.{Runs}
use Rattle.ix_history.specs.Events.{RingItem, Parcel, Event, came, Happened}
use Rattle.ix_history.specs.Items.{taken_in, gone_to, came_from, told, items_part}
use Rattle.ix_history.specs.Pieces.{Deed, items_in, Did}

abbrev pub In : {X : Type 0} → X → List X → Type 0
In x [] = ⊥
In x (y ∷ ys) = (x ≡ y) ⊎ In x ys

-- what tenure k steps, by the wire list alone, each with its core
abbrev pub steps_in : ℕ → ℕ → Table → List Entry → ℕ → List (ℕ × ℕ)
steps_in n g t es k = map (λ w. (w, core_in g k t es)) (stages.stepped n g k t es)

-- A core is idle: nothing is to be stepped where a unit is, and nothing is to be given away.
pub record IsIdle {U I : Type 0} (v : View U I) : Type 0 where
  pub work : has_work v ≡ false
  pub done : NothingDone v

-- what the cores took of g, by tenure
module _ {I : Type 0} (name : I → ℕ) (g : ℕ) (t : Table) (es : List Entry) (took : ℕ → List (RingItem I)) where
  -- the part of the piece of tenure k before its tag, or behind it, in what its core took
  abbrev pub tenure_part : Bool → ℕ → List I
  tenure_part b k = items_part name g k b (opening g (core_in g k t es) t) false (took (core_in g k t es))

  -- the remote queue of tenure k: what stood behind the tag of the tenure before it
  abbrev pub tenure_queue : ℕ → List I
  tenure_queue zero = []
  tenure_queue (suc k) = tenure_part true k

  -- what tenure k steps: its remote queue, and then its piece up to the tag
  abbrev pub tenure_items : ℕ → List I
  tenure_items k = tenure_queue k ++ tenure_part false k

module _ {I O : Type 0} where
  -- the items of deeds, each of which was done on some core
  abbrev pub all_items : List (ℕ × Deed I O) → List I
  all_items deeds = joined (λ d. items_in d.1) deeds

  -- their names, each with the core of its deed
  abbrev pub all_names : (I → ℕ) → List (ℕ × Deed I O) → List (ℕ × ℕ)
  all_names name deeds = joined (λ d. map (λ x. (name x, d.0)) (items_in d.1)) deeds

module _ {U I O E : Type 0} (counted : I → Bool) (name : I → ℕ) (stepped : U → List (ℕ × ℕ)) (advanced : U → E → ℕ → List I → U → Type 0) (lends : U → O → U → Type 0) (env : E) where
  -- a deed, on its core
  abbrev pub DidThere : U → ℕ × Deed I O → U → Type 0
  DidThere x d y = Did counted name stepped advanced lends env d.0 x d.1 y

  -- n cores, of which each took what the entries put on its ring; what one shipped to another came there from it; and all are idle
  pub record Played (n : ℕ) (t : Table) (es : List Entry) (unit : ℕ → U) (x y : ℕ → View U I) (history : ℕ → List (Event U I O)) : Type 0 where
    -- what holds at the opening
    pub core : (g : ℕ) → g < 512 → (t g).core < n
    pub tenure : (g : ℕ) → g < 512 → (t g).tenure ≡ 0
    pub names : NameCores n es
    pub rings : RingsAre t es
    pub size : (c : ℕ) → c < n → length (x c).groups ≡ 512
    pub here : (c : ℕ) → c < n → (x c).core ≡ c
    pub opens : (c g : ℕ) → c < n → g < 512 → group_at (x c) g ≡ (if c == (t g).core then at_home (unit g) else empty)
    -- what was done
    pub runs : (c : ℕ) → c < n → Runs (Happened counted name stepped advanced lends env) (x c) (history c) (y c)
    pub items : (c : ℕ) → c < n → map (told name) (taken_in (history c)) ≡ put_on c t 0 es
    pub mesh : (c d : ℕ) → c < n → d < n → gone_to d (history c) ≡ came_from c (history d)
    pub from : (c d : ℕ) (s : Parcel U I) → d < n → In (came c s) (history d) → c < n
    pub rest : (c : ℕ) → c < n → IsIdle (y c)

  -- The unit of g is on the core of the last tenure. It has stepped what each tenure steps, each on its core, and what waits is what stands
  -- behind the last tag.
  pub record Joined (n g : ℕ) (t : Table) (es : List Entry) (unit : U) (y : ℕ → View U I) (took : ℕ → List (RingItem I)) : Type 0 where
    pub piece : Piece U I
    pub is : (group_at (y (core_in g (moves g es) t es)) g).current ≡ Some piece
    pub tenure : piece.tenure ≡ moves g es
    pub last : U
    pub there : piece.unit ≡ Some last
    -- what was done to the unit since the opening, each step and loan by its own relation: what each tenure steps, on its core
    pub deeds : List (ℕ × Deed I O)
    pub runs : Runs DidThere unit deeds last
    pub items : all_items deeds ≡ by_tenure (tenure_items name g t es took) 0 (suc (moves g es))
    pub cores : all_names name deeds ≡ by_tenure (steps_in n g t es) 0 (suc (moves g es))
    pub steps : stepped last ≡ stepped unit ++ by_tenure (steps_in n g t es) 0 (suc (moves g es))
    -- what waits
    pub ready : ready piece ≡ []
    pub waits : piece.behind ≡ tenure_part name g t es took true (moves g es)
    pub behind : map name piece.behind ≡ ring_part n g (moves g es) true t es
    -- what was stepped, and what waits, are the group's entries in the order of the wire
    pub whole : stepped unit ≡ [] → map (λ (s : ℕ × ℕ). s.0) (stepped last) ++ map name piece.behind ≡ entries g 0 es
    -- and where tags and moves alternate, each was stepped in the tenure and on the core that the wire list alone names
    pub steppers : TagsAlternate g false es → by_tenure (λ k. map (step_of k (Some (core_in g k t es))) (stages.stepped n g k t es)) 0 (suc (moves g es))
        ++ map (step_of (suc (moves g es)) None) (map name piece.behind) ≡ who.steps g (t g).core 0 none_yet 0 es

  -- Nothing of g is anywhere else: no piece that was cut, nothing that arrived before its piece began, and no piece on another core.
  pub record NowhereElse (n g : ℕ) (t : Table) (es : List Entry) (y : ℕ → View U I) : Type 0 where
    pub no_cut : (c : ℕ) → c < n → (group_at (y c) g).cut ≡ []
    pub no_early : (c : ℕ) → c < n → (group_at (y c) g).early ≡ []
    pub no_current : (c : ℕ) → c < n → (c ≡ core_in g (moves g es) t es → ⊥) → (group_at (y c) g).current ≡ None
