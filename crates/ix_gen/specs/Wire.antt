-- What the script of a generated play reads as: its wire list. Formats: docs/GEN.md and docs/SCRIPT.md.
use Rattle.std.specs.Prelude.{◌≡◌, ◌≤◌, ℕ, zero, suc, ◌+◌, ◌*◌, ◌%◌, ◌==◌, Bool, false, replicate, List, [], ◌∷◌, ◌++◌, if◌then◌else◌, Ok}
use Rattle.ix_base.specs.declared.id.CoreId.{CoreId}
use Rattle.ix_base.specs.declared.id.GroupId.{GroupId}
use Rattle.ix_script.specs.Script.{script_of}
use Rattle.ix_wire.specs.declared.entry.Entry.{Entry}
use Rattle.ix_wire.specs.declared.entry.Entry.TheVariants.{Frame, Tag, Move, Settle}
use Rattle.ix_gen.specs.Settings.{settings_made}
use Rattle.ix_gen.specs.Texts.{class_behind, script_text}

-- So many frames from a record on, where so many came since the last settle. A settle stands behind each 256th.
abbrev pub frames_from : ℕ → ℕ → ℕ → List Entry
frames_from paced rec zero = []
frames_from paced rec (suc n) =
    Frame rec ∷ (if paced + 1 == 256 then Settle ∷ frames_from 0 (rec + 1) n else frames_from (paced + 1) (rec + 1) n)

-- a round of one frame of each client, and its settle
abbrev pub round_entries : ℕ → ℕ → List Entry
round_entries conns round = frames_from 0 (round * conns) conns ++ Settle ∷ []

abbrev pub group : ℕ → GroupId
group g = record { 0 = g }

abbrev pub core : ℕ → CoreId
core c = record { 0 = c }

-- the four groups of a class are tagged, and then go to the next core
abbrev pub move_entries : ℕ → List Entry
move_entries place =
    Tag (group place) ∷ Tag (group (place + 128)) ∷ Tag (group (place + 128 + 128)) ∷ Tag (group (place + 128 + 128 + 128))
    ∷ Move (group place) (core ((place + 1) % 4)) ∷ Move (group (place + 128)) (core ((place + 1) % 4))
    ∷ Move (group (place + 128 + 128)) (core ((place + 1) % 4)) ∷ Move (group (place + 128 + 128 + 128)) (core ((place + 1) % 4)) ∷ []

-- the rounds and moves of the script in their order, and the settle at the end
unfoldable pub wire_made : ℕ → ℕ → List Entry
wire_made number conns =
    round_entries conns 0 ++ round_entries conns 1
    ++ round_entries conns 2 ++ move_entries (class_behind number 0)
    ++ round_entries conns 3 ++ move_entries (class_behind number 1)
    ++ round_entries conns 4 ++ move_entries (class_behind number 2)
    ++ round_entries conns 5 ++ move_entries (class_behind number 3)
    ++ round_entries conns 6
    ++ Settle ∷ []

-- for so many records none is the local side's own
abbrev pub none_own : ℕ → List Bool
none_own n = replicate n false

abbrev pub ScriptIsRead : Type 0
ScriptIsRead =
    (number conns : ℕ) → 1 ≤ conns → conns ≤ 512
    → script_of settings_made (none_own (7 * conns)) (script_text number conns) ≡ Ok (wire_made number conns)
