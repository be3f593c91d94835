use Rattle.std.proofs.lemmas.Result.{err_from_is_err_and}
use Rattle.ix_top.proofs.Runs.{reads_more}
use Rattle.ix_top.proofs.reading.read_role.Goals as goal

-- what was read before, and what the failed chunk read
pub returns-in_err-read_chunk-clause-err : goal.returns-in_err-read_chunk-clause-err
returns-in_err-read_chunk-clause-err g c =
    let p = err_from_is_err_and c.from_residual.result c.from_residual.ensures.1 in
    let more = c.in_err-read_chunk.ensures.err in
    rw p.1 (_, reads_more _ _ _ _ _ _ c.loop-role.invariant.read more.1)
