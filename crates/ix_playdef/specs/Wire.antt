-- What a flow group is given of a wire list, where every frame of at most 2,048 bytes is accepted.
use Rattle.std.specs.Prelude.{◌≡◌, ℕ, ◌+◌, ◌<◌, List, [], ◌∷◌, ◌++◌, length, slice_get, slice_index_or, Bool, not, ◌&&◌, ◌==◌, nat_lt, if◌then◌else◌, Option, Some, None}
use Rattle.ix_base.specs.declared.id.CoreId.{CoreId}
use Rattle.ix_groupdef.specs.Group.{Cycle, Frames, Time as TimeCycle}
use Rattle.ix_steer.specs.Steering.{group_of_frame}
use Rattle.ix_wire.specs.declared.entry.Entry.{Entry}
use Rattle.ix_wire.specs.declared.entry.Entry.TheVariants as entries
use Rattle.ix_playdef.specs.declared.wire.Given.{Given}
use Rattle.ix_playdef.specs.declared.wire.Given.TheVariants.{Frame, Time}
use Rattle.ix_base.specs.declared.id.TheConstants.{BUFFER_BYTES}

abbrev pub is_taken : ℕ → List ℕ → Bool
is_taken group frame = not (nat_lt BUFFER_BYTES (length frame)) && (group_of_frame frame == group)

-- of the frame of a record, under its wire number
abbrev pub given_frame : ℕ → ℕ → Option (List ℕ) → List Given
given_frame group w None = []
given_frame group w (Some frame) =
    if is_taken group frame then Frame (record { w = record { 0 = w }; frame = frame }) ∷ [] else []

-- of one entry: a frame of the group, or a time, which is of every group
abbrev pub given_by : List (List ℕ) → ℕ → ℕ → Entry → List Given
given_by frames group w (entries.Frame rec) = given_frame group w (slice_get frames rec)
given_by frames group w (entries.Time t) = Time (record { 0 = w }) t ∷ []
given_by frames group w _ = []

-- of entries of which the first has the wire number w
abbrev pub given_from : List (List ℕ) → ℕ → ℕ → List Entry → List Given
given_from frames group w [] = []
given_from frames group w (e ∷ es) = given_by frames group w e ++ given_from frames group (w + 1) es

-- the accepted frames of a group and all times, in wire order, over the frames of a capture
abbrev pub group_entries : List (List ℕ) → ℕ → List Entry → List Given
group_entries frames group entries = given_from frames group 0 entries

-- ## Cycles
-- Each makes one cycle of its group on this core; a frame that is too long makes none.
abbrev pub cycle_by : CoreId → Given → List Cycle
cycle_by core (Frame taken) = if nat_lt BUFFER_BYTES (length taken.frame) then [] else Frames core (taken ∷ []) ∷ []
cycle_by core (Time w t) = TimeCycle core w t ∷ []

abbrev pub cycles_of : CoreId → List Given → List Cycle
cycles_of core [] = []
cycles_of core (g ∷ gs) = cycle_by core g ++ cycles_of core gs

-- ## Lists of what each group is given
pub record AreEmpty (lists : List (List Given)) : Type 0 where
  pub each : (group : ℕ) (d : List Given) → group < length lists → slice_index_or lists group d ≡ []

-- Each of these lists got what its group is given of a frame, ..
pub record GetFrame (w : ℕ) (frame : List ℕ) (lists after : List (List Given)) : Type 0 where
  pub each : (group : ℕ) (d : List Given) → group < length lists → slice_index_or after group d ≡ slice_index_or lists group d ++ given_frame group w (Some frame)

-- .. a time, ..
pub record GetTime (w t : ℕ) (lists after : List (List Given)) : Type 0 where
  pub each : (group : ℕ) (d : List Given) → group < length lists → slice_index_or after group d ≡ slice_index_or lists group d ++ Time (record { 0 = w }) t ∷ []

-- .. an entry.
pub record GetEntry (frames : List (List ℕ)) (w : ℕ) (entry : Entry) (lists after : List (List Given)) : Type 0 where
  pub each : (group : ℕ) (d : List Given) → group < length lists → slice_index_or after group d ≡ slice_index_or lists group d ++ given_by frames group w entry

-- what each group is given of all these entries
pub record AreGiven (frames : List (List ℕ)) (entries : List Entry) (lists : List (List Given)) : Type 0 where
  pub each : (group : ℕ) (d : List Given) → group < length lists → slice_index_or lists group d ≡ group_entries frames group entries
