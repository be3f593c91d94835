-- The entries of a script, with the settles that are added. Formats: docs/SCRIPT.md, "Settles" and "Limits".
use Rattle.std.specs.Prelude.{ℕ, ◌+◌, ◌==◌, List, [], ◌∷◌, ◌++◌, if◌then◌else◌, Result, Ok, Err}
use Rattle.ix_wire.specs.declared.entry.Entry.{Entry}
use Rattle.ix_wire.specs.declared.entry.Entry.TheVariants as entries
use Rattle.ix_wire.specs.declared.fault.ScriptKind.{ScriptKind}
use Rattle.ix_wire.specs.declared.fault.ScriptKind.TheVariants as kinds
use Rattle.ix_wire.specs.Chain.{◌>>=◌}

-- The entries so far and the number of frames after which a settle is added, 0 for never. Of the frames, and of the tags, moves and
-- times, those since the last settle are counted; of all frames, and of all tags and moves together, their number.
pub record Written : Type 0 where
  pub entries : List Entry
  pub pace : ℕ
  pub paced : ℕ
  pub controls : ℕ
  pub frames : ℕ
  pub moves : ℕ

unfoldable pub start : ℕ → Written
start pace = record { entries = []; pace = pace; paced = 0; controls = 0; frames = 0; moves = 0 }

-- a settle
unfoldable pub settled : Written → Written
settled w = record w { entries = w.entries ++ entries.Settle ∷ []; paced = 0; controls = 0 }

-- the settle that is added behind the last frame of the pace
abbrev pub at_pace : Written → Written
at_pace w = if w.paced == w.pace then settled w else w

-- the settle that is added behind the thousandth tag, move or time
abbrev pub at_thousand : Written → Written
at_thousand w = if w.controls == 1000 then settled w else w

-- a frame, of which there are at most 262,144
unfoldable pub with_frame : ℕ → Written → Result Written ScriptKind
with_frame rec w =
    if w.frames == 262144 then Err kinds.TooMany
    else Ok (at_pace (record w { entries = w.entries ++ entries.Frame rec ∷ []; paced = w.paced + 1; frames = w.frames + 1 }))

-- a time, a tag or a move
unfoldable pub with_control : Entry → Written → Written
with_control entry w = at_thousand (record w { entries = w.entries ++ entry ∷ []; controls = w.controls + 1 })

-- a tag or a move, of which there are at most 16,777,216
unfoldable pub with_move : Entry → Written → Result Written ScriptKind
with_move entry w = if w.moves == 16777216 then Err kinds.TooMany else Ok (with_control entry (record w { moves = w.moves + 1 }))

-- the frames of records
abbrev pub with_frames : List ℕ → Written → Result Written ScriptKind
with_frames [] w = Ok w
with_frames (rec ∷ recs) w = with_frame rec w >>= with_frames recs

-- a frame and its own settle
unfoldable pub with_each : ℕ → Written → Result Written ScriptKind
with_each rec w = with_frame rec w >>= λ next. Ok (settled next)

-- the frames of records, each with its own settle
abbrev pub with_all_each : List ℕ → Written → Result Written ScriptKind
with_all_each [] w = Ok w
with_all_each (rec ∷ recs) w = with_each rec w >>= with_all_each recs
