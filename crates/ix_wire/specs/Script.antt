-- The wire list of a script, or its first faulty line. Formats: docs/SCRIPT.md.
use Rattle.std.specs.Prelude.{◌≡◌, ℕ, ◌+◌, ◌==◌, Bool, false, List, [], ◌∷◌, if◌then◌else◌, Option, Some, None, Result, Ok, Err}
use Rattle.ix_wire.specs.declared.command.Version.TheVariants.{One}
use Rattle.ix_wire.specs.declared.entry.Entry.{Entry}
use Rattle.ix_wire.specs.declared.fault.ScriptFault.{ScriptFault}
use Rattle.ix_wire.specs.declared.fault.ScriptFault.TheVariants as faults
use Rattle.ix_wire.specs.declared.fault.ScriptKind.{ScriptKind}
use Rattle.ix_wire.specs.declared.fault.ScriptKind.TheVariants as kinds
use Rattle.ix_wire.specs.declared.progress.Progress.{Progress}
use Rattle.ix_wire.specs.Chain.{◌>>=◌}
use Rattle.ix_wire.specs.Progress.{line_run}
use Rattle.ix_wire.specs.Table.{earliest, opening_table}
use Rattle.ix_wire.specs.Text.{lines_of}
use Rattle.ix_wire.specs.Wire.{settled, start}

-- what there is before the first line
unfoldable pub opening : ℕ → ℕ → ℕ → Progress
opening pace cores live =
    record { wire = start pace; table = opening_table cores live; clock = 0; version = One; begun = false }

-- the entries with the settle at the end, or the line of the first tag that has no move
abbrev pub entries_unless : Option ℕ → List Entry → Result (List Entry) ScriptFault
entries_unless None entries = Ok entries
entries_unless (Some line) entries = Err (faults.At line kinds.LeftTagged)

unfoldable pub finish : Progress → Result (List Entry) ScriptFault
finish p = entries_unless (earliest p.table.tags) (settled p.wire).entries

-- goes on behind a line, or names it
abbrev pub behind : ℕ → Result Progress ScriptKind → (Progress → Result Progress ScriptFault) → Result Progress ScriptFault
behind number (Ok p) rest = rest p
behind number (Err kind) rest = Err (faults.At number kind)

-- what these lines come to, of a script that has so many lines before them and may have so many in all; or the first faulty line
abbrev pub lines_run : ℕ → List Bool → ℕ → Progress → List (List ℕ) → Result Progress ScriptFault
lines_run limit own number p [] = Ok p
lines_run limit own number p (line ∷ lines) =
    if number == limit then Err (faults.At (number + 1) kinds.TooMany)
    else behind (number + 1) (line_run own (number + 1) line p) (λ next. lines_run limit own (number + 1) next lines)

-- the wire list of a script for a play with this pace, on so many cores, so many of them live at the start, over records of which some are
-- the local side's own
unfoldable pub wire_of : ℕ → ℕ → ℕ → List Bool → List ℕ → Result (List Entry) ScriptFault
wire_of pace cores live own bytes = lines_run 65536 own 0 (opening pace cores live) (lines_of bytes) >>= finish

-- a reader answered the meaning, where `view` is what a contract sees in its answer, or that memory ran out
abbrev pub Gives : {A B : Type 0} → (A → B) → Result A ScriptFault → Result B ScriptFault → Type 0
Gives view (Ok answer) meaning = meaning ≡ Ok (view answer)
Gives view (Err (faults.At line kind)) meaning = meaning ≡ Err (faults.At line kind)
Gives view (Err faults.NoMemory) meaning = Unit {0}
