-- What each wire list of a script is like. Formats: docs/SCRIPT.md, "The wire list".
use Rattle.std.specs.Prelude.{◌≡◌, ◌<◌, ◌≤◌, ◌+◌, ◌^◌, ◌++◌, ℕ, ◌==◌, Bool, true, false, not, List, [], ◌∷◌, Some, length, if◌then◌else◌, All, count_by, fold, nat_lt, slice_get, slice_set}
use Rattle.ix_base.specs.declared.id.CoreId.{CoreId}
use Rattle.ix_cp.specs.Plan.{is_core}
use Rattle.ix_wire.specs.declared.entry.Entry.{Entry}
use Rattle.ix_wire.specs.declared.entry.Entry.TheVariants.{Frame, Tag, Move, Time, Settle}
use Rattle.ix_wire.specs.Table.{opening_cores}

-- What a script is read for: the number of frames after which a settle is added, 0 for never; the number of cores, and how many of them
-- are live at the start; for each record of the capture whether it is the local side's own.
pub record Terms : Type 0 where
  pub pace : ℕ
  pub cores : ℕ
  pub live : ℕ
  pub own : List Bool

abbrev pub terms_of : ℕ → ℕ → ℕ → List Bool → Terms
terms_of pace cores live own = record { pace = pace; cores = cores; live = live; own = own }

-- the record that an entry names is there and not the local side's own, and its flow group and its core are there
abbrev pub IsThere : Terms → Entry → Type 0
IsThere x (Frame rec) = slice_get x.own rec ≡ Some false
IsThere x (Tag group) = group.0 < 512
IsThere x (Move group to) = (group.0 < 512) × (to.0 < x.cores)
IsThere x _ = Unit {0}

-- Each entry is allowed where those before it, from a state on, have come to: `next` is the state behind an entry.
abbrev pub EachAllowed : {S : Type 0} → (S → Entry → Bool) → (S → Entry → S) → S → List Entry → Type 0
EachAllowed allowed next s [] = Unit {0}
EachAllowed allowed next s (e ∷ es) = (allowed s e ≡ true) × EachAllowed allowed next (next s e) es

-- whether a group is tagged behind an entry, where it was so before or not
abbrev pub tagged_by : ℕ → Bool → Entry → Bool
tagged_by group before (Tag tagged) = if tagged.0 == group then true else before
tagged_by group before (Move moved to) = if moved.0 == group then false else before
tagged_by group before _ = before

-- a group is tagged only where it is not tagged, and moves only where it is
abbrev pub alternates : ℕ → Bool → Entry → Bool
alternates group before (Tag tagged) = if tagged.0 == group then not before else true
alternates group before (Move moved to) = if moved.0 == group then before else true
alternates group before _ = true

-- the core of each group behind an entry
abbrev pub moved_by : List CoreId → Entry → List CoreId
moved_by at (Move group to) = slice_set at group.0 to
moved_by at _ = at

-- the core of each group behind these entries, at the start of which the first cores are live
abbrev pub cores_behind : ℕ → List Entry → List CoreId
cores_behind live es = fold moved_by (opening_cores live 512) es

-- a group moves only to another core than the one that it is on
abbrev pub is_elsewhere : List CoreId → Entry → Bool
is_elsewhere at (Move group to) = not (is_core to.0 (slice_get at group.0))
is_elsewhere at _ = true

-- the clock behind an entry
abbrev pub clock_by : ℕ → Entry → ℕ
clock_by clock (Time t) = t
clock_by clock _ = clock

-- the clock does not go back
abbrev pub is_in_time : ℕ → Entry → Bool
is_in_time clock (Time t) = not (nat_lt t clock)
is_in_time clock _ = true

abbrev pub is_frame : Entry → Bool
is_frame (Frame rec) = true
is_frame _ = false

abbrev pub is_turn : Entry → Bool
is_turn (Tag group) = true
is_turn (Move group to) = true
is_turn _ = false

abbrev pub is_control : Entry → Bool
is_control (Tag group) = true
is_control (Move group to) = true
is_control (Time t) = true
is_control _ = false

-- how many entries of a kind stand behind the last settle
abbrev pub since_settle : (Entry → Bool) → ℕ → Entry → ℕ
since_settle kind n Settle = 0
since_settle kind n e = if kind e then n + 1 else n

-- there are at most so many of a kind between two settles
abbrev pub is_within : (Entry → Bool) → ℕ → ℕ → Entry → Bool
is_within kind most n e = if kind e then nat_lt n most else true

-- The entries of a play so far: each names what is there; the tags and moves of each flow group alternate, beginning with a tag; each move
-- goes to another core than the one that its group is on by the moves before it; no time lies before the one before it; between two settles
-- stand at most `pace` frames, unless that is 0, and at most 1,000 tags, moves and times; there are at most 262,144 frames, and at most
-- 16,777,216 tags and moves. Entries are numbered from 0, and a number has 32 bits.
pub record IsWireSoFar (x : Terms) (es : List Entry) : Type 0 where
  pub there : All (IsThere x) es
  pub alternate : (group : ℕ) → group < 512 → EachAllowed (alternates group) (tagged_by group) false es
  pub elsewhere : EachAllowed is_elsewhere moved_by (opening_cores x.live 512) es
  pub times : EachAllowed is_in_time clock_by 0 es
  pub paced : 0 < x.pace → EachAllowed (is_within is_frame x.pace) (since_settle is_frame) 0 es
  pub controls : EachAllowed (is_within is_control 1000) (since_settle is_control) 0 es
  pub frames : count_by is_frame es ≤ 262144
  pub turns : count_by is_turn es ≤ 16777216
  pub count : length es < 2 ^ 32

pub record EndsInSettle (es : List Entry) : Type 0 where
  pub before : List Entry
  pub is : es ≡ before ++ Settle ∷ []

-- The entries of a whole play: behind them no flow group is tagged, and the last of them is a settle.
pub record IsWire (x : Terms) (es : List Entry) : Type 0 where
  pub so_far : IsWireSoFar x es
  pub closed : (group : ℕ) → group < 512 → fold (tagged_by group) false es ≡ false
  pub ends : EndsInSettle es
