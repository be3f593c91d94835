-- Behind a whole wire list no tag is open, and all is stepped.
use Rattle.std.specs.Prelude.{◌≡◌, ◌<◌, ℕ, false, List, fold, length, map}
use Rattle.ix_base.specs.declared.id.TheConstants.{FLOW_GROUPS}
use Rattle.ix_lines.specs.declared.types.EntryLine.{EntryLine}
use Rattle.ix_order.specs.Steppers.{tagged_by}
use Rattle.ix_order.specs.Wire.{Entry}
use Rattle.ix_wire.specs.declared.entry.Entry.{Entry as WireEntry}
use Rattle.ix_wire.specs.Entries.{IsWire, Terms}
use Rattle.ix_fits.specs.Card.{entry_of}
use Rattle.ix_fits.specs.Cutting.{reach}
use Rattle.ix_fits.specs.Wires.{AreSeen}

-- What a script gives leaves no tag of a flow group open, whatever the groups and the verdicts of its frames.
abbrev pub WiresClose : Type 0
WiresClose = (x : Terms) (es : List WireEntry) (ys : List Entry) → IsWire x es → AreSeen es ys → (g : ℕ) → g < FLOW_GROUPS → fold (tagged_by g) false ys ≡ false

-- Where no tag of a group is open, all entries are stepped.
abbrev pub ReachesAll : Type 0
ReachesAll = (g : ℕ) (ls : List EntryLine) → fold (tagged_by g) false (map entry_of ls) ≡ false → reach g ls ≡ length ls
