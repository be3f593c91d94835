-- The cutting that the lines of a report tell is enough.
use Rattle.std.specs.Prelude.{ℕ, List}
use Rattle.ix_conf.specs.Settings.{Settings}
use Rattle.ix_groupdef.specs.Group.{Cycle}
use Rattle.ix_trace.specs.declared.sheet.Sheet.{Sheet}
use Rattle.ix_wire.specs.declared.entry.Entry.{Entry}
use Rattle.ix_fits.specs.Fits.{Choice, FitsFor, dues_of}
use Rattle.ix_fits.specs.Journals.{conns_of}
use Rattle.ix_fits.specs.Read.{cutting_read}

-- what is read of each group
abbrev pub cycles_told : Settings → List (List ℕ) → Sheet → ℕ → List Cycle
cycles_told s frames r g = cutting_read (conns_of g r.conns) (dues_of s frames r g)

abbrev pub choice_told : Settings → List (List ℕ) → Sheet → Choice → Choice
choice_told s frames r c = record { cycles = cycles_told s frames r; places = c.places; replies = c.replies }

-- Where a report fits in some cycles, it fits in those that are read from its own lines, with the same replies in the same order.
abbrev pub ReadingsFit : Type 0
ReadingsFit =
    (s : Settings) (frames : List (List ℕ)) (entries : List Entry) (r : Sheet) (file : List ℕ) (c : Choice)
    → FitsFor s frames entries r file c → FitsFor s frames entries r file (choice_told s frames r c)
