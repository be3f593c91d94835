-- The settles that are still to come.
use Rattle.std.specs.Prelude.{ℕ, Bool, List, map, take, drop, slice_range}
use Rattle.ix_lines.specs.declared.types.EntryLine.TheVariants as lines
use Rattle.ix_lines.specs.declared.types.SettleLine.{SettleLine}
use Rattle.ix_fits.specs.Owners.{Play, are_settles, settles_here}
use Rattle.ix_out.specs.declared.frames_out.OutFrame.{OutFrame}
use Rattle.ix_out.specs.Out.{number_out}

-- those of a report among its entries from a number on, behind a settle at which these frames were out, with the entries from another number on
unfoldable pub settles_from : Play → List SettleLine → List OutFrame → ℕ → ℕ → ℕ → Bool
settles_from p settles outs from next w =
    are_settles p (map number_out outs) (slice_range p.entries from w) (take w p.entries) (drop w p.entries) (drop next settles)

-- the next of them, at the entry with this number
unfoldable pub settle_at : Play → List SettleLine → List OutFrame → ℕ → ℕ → ℕ → Bool
settle_at p settles outs from next w =
    settles_here p (map number_out outs) (slice_range p.entries from w) (take w p.entries) lines.Settle (drop next settles)
