use Rattle.ix_top.proofs.Meanings.{Refuses-capture}
use Rattle.ix_top.proofs.records.Records.parse.Goals as goal

pub returns-in-Err-clause-err : goal.returns-in-Err-clause-err
returns-in-Err-clause-err c =
    let read = rw c.as_slice.ensures at c.in-Err.ensures.read in
    rw c.capture_status.ensures.status (Refuses-capture c.args.bytes c.in-Err.fault _ read)
