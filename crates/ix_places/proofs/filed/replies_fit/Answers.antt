use Rattle.std.proofs.Common.{sym, true≢false}
use Rattle.ix_places.proofs.DecidedLaws.{many-from_filed}
use Rattle.ix_places.proofs.FitLaws.{fit-decided, ok_then}
use Rattle.ix_places.proofs.filed.replies_fit.Goals as goal

pub returns-in-Some-clause-filed : goal.returns-in-Some-clause-filed
returns-in-Some-clause-filed c =
    ok_then c.are_told.result c.are_told.ensures
    (λ fit decides.
    decides c.args.local.now c.args.records.now (rw c.in-Some.is at c.in_ok-all.ensures.replies) (rw c.in-Some.is at c.in_ok-all.ensures.numbers)
    (rw c.in-Some.is at c.in_ok-all.ensures.many))

pub returns-in-Some-clause-fit : goal.returns-in-Some-clause-fit
returns-in-Some-clause-fit c =
    ok_then c.are_told.result (returns-in-Some-clause-filed c)
    (λ fit decides s frames cycles is_local is_records.
    fit-decided s frames cycles c.args.local.now c.args.records.now c.args.entries.now c.args.report.now c.args.file.now fit decides is_local is_records)

pub returns-in-None-clause-filed : goal.returns-in-None-clause-filed
returns-in-None-clause-filed c = (
  λ e. absurd (true≢false (sym e)),
  λ some.
      let none = rw c.in-None.is at c.in_ok-all.ensures.many in
      absurd (none (many-from_filed c.args.local.now c.args.records.now c.args.entries.now c.args.report.now c.args.file.now some)),
)

pub returns-in-None-clause-fit : goal.returns-in-None-clause-fit
returns-in-None-clause-fit c = λ s frames cycles is_local is_records.
    fit-decided s frames cycles c.args.local.now c.args.records.now c.args.entries.now c.args.report.now c.args.file.now _ (returns-in-None-clause-filed c) is_local is_records
