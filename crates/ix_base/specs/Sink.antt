-- Whether a sink is open.
use Rattle.std.specs.Prelude.{Bool, true, false}
use Rattle.ix_base.specs.declared.file.Sink.{Sink}
use Rattle.ix_base.specs.declared.file.Sink.TheVariants.{Closed, Standard, Open}

abbrev pub is_open : {F : Type 0} → Sink F → Bool
is_open Closed = false
is_open Standard = true
is_open (Open f) = true
