use Rattle.ix_uses.proofs.UseLaws.{buffers-stay, no-use-comes-back}
use Rattle.ix_uses.proofs.uses_are_told.Goals as goal

pub returns : goal.returns
returns c = record { stay = buffers-stay; uses = no-use-comes-back }
