use Rattle.std.proofs.Common.{[]}
use Rattle.ix_top.proofs.Runs.{reads_attached}
use Rattle.ix_top.proofs.reading.load.Goals as goal

-- the role wasn't prepared, and nothing was read
pub returns-in-Err-clause-err : goal.returns-in-Err-clause-err
returns-in-Err-clause-err g c = ([], reads_attached _ _ _ c.requires c.attach.ensures.state)
