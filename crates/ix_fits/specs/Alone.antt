-- Each entry of a group in a cycle of its own: there is always a cutting.
use Rattle.std.specs.Prelude.{◌≡◌, ◌≤◌, ◌<◌, ℕ, true, false, List, map, fold, is_some}
use Rattle.std.specs.List.{AllByRecursion}
use Rattle.ix_base.specs.declared.id.TheConstants.{FLOW_GROUPS}
use Rattle.ix_conf.specs.Settings.{Settings}
use Rattle.ix_lines.specs.declared.types.EntryLine.{EntryLine}
use Rattle.ix_order.specs.Steppers.{tagged_by}
use Rattle.ix_trace.specs.declared.sheet.Sheet.{Sheet}
use Rattle.ix_wire.specs.declared.entry.Entry.{Entry}
use Rattle.ix_wire.specs.Entries.{IsWire, Terms}
use Rattle.ix_fits.specs.Card.{entry_of}
use Rattle.ix_fits.specs.Cutting.{Due, IsCutting, dues}
use Rattle.ix_fits.specs.Fits.{CardFits, dues_of}
use Rattle.ix_fits.specs.Read.{alone}

-- some core steps it
abbrev pub HasCore : Due → Type 0
HasCore d = is_some d.core ≡ true

-- Where no tag of the group is open behind all entries, each entry of the group is stepped.
abbrev pub AllAreStepped : Type 0
AllAreStepped =
    (frames : List (List ℕ)) (g opening : ℕ) (ls : List EntryLine) → fold (tagged_by g) false (map entry_of ls) ≡ false
    → AllByRecursion HasCore (dues frames g opening ls)

-- So every report whose card fits a script's wire list has a cutting of each group.
abbrev pub CuttingsExist : Type 0
CuttingsExist =
    (s : Settings) (frames : List (List ℕ)) (x : Terms) (es : List Entry) (r : Sheet) (g : ℕ) → 1 ≤ s.batch → IsWire x es → CardFits s frames es r → g < FLOW_GROUPS
    → IsCutting s.batch (dues_of s frames r g) (map alone (dues_of s frames r g))
