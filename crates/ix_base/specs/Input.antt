-- What is still to be read of a file in memory.
use Rattle.std.specs.Prelude.{ℕ, List, drop}
use Rattle.ix_base.specs.declared.mem.Input.{Input}

abbrev pub input_left : Input → List ℕ
input_left i = drop i.at i.bytes
