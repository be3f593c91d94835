-- What a plain program decides.
use Rattle.std.specs.Prelude.{ℕ, List}
use Rattle.std.specs.Bool.{Decides}
use Rattle.ix_conf.specs.Settings.{Settings}
use Rattle.ix_trace.specs.declared.sheet.Sheet.{Sheet}
use Rattle.ix_wire.specs.declared.entry.Entry.{Entry}
use Rattle.ix_fits.specs.Fits.{CardFits, card_fits}

-- Whether the card of a report fits is one test.
abbrev pub CardIsDecided : Type 0
CardIsDecided = (s : Settings) (frames : List (List ℕ)) (entries : List Entry) (r : Sheet) → Decides (card_fits s frames entries r) (CardFits s frames entries r)
