-- The items of a tally.
use Rattle.std.specs.Prelude.{ℕ, Bool, true, false}
use Rattle.ix_travel.specs.declared.tally.Thing.{Thing}
use Rattle.ix_travel.specs.declared.tally.Thing.TheVariants.{Frame, Time}

abbrev pub number_of : Thing → ℕ
number_of (Frame w) = w
number_of (Time w) = w

abbrev pub is_frame : Thing → Bool
is_frame (Frame w) = true
is_frame (Time w) = false
