use Rattle.std.proofs.Common.{◌≡◌, ◌+◌, ℕ, List, refl, sym, ap, subst, ◌∙◌, length, arith}
use Rattle.std.specs.Prelude.{All}
use Rattle.std.proofs.lemmas.List.Elements.{All-from_recursion}
use Rattle.ix_lines.specs.declared.types.EntryLine.{EntryLine}
use Rattle.ix_trace.specs.Sheet.{count_settles}
use Rattle.ix_sheet.specs.Outcome.{HasGroup}
use Rattle.ix_sheet.specs.declared.tests.TheConstants.{ENTRIES}
use Rattle.ix_sheet.proofs.TestLaws.{one_stray}
use Rattle.ix_sheet.proofs.tests.outcome_of.Goals as goal

pub returns : goal.returns
returns c =
    let entries : c.in_ok-entries.entries ≡ ENTRIES = c.in_ok-entries.ensures in
    let closed : length c.in_ok-closed.closed ≡ 1 = ap (λ (ns : List ℕ). length ns) c.in_ok-closed.ensures in
    one_stray (record { settles = c.in_ok-settles.settles; connects = c.new.result; entries = c.in_ok-entries.entries; groups = c.in_ok-groups.groups; closed = c.in_ok-closed.closed })
    c.in_ok-first.first 1 511 refl c.in_ok-groups.ensures c.in_ok-first.ensures.0 c.in_ok-first.ensures.1 c.in_ok-first.ensures.2
    (subst (All HasGroup) (sym entries) (All-from_recursion HasGroup ENTRIES (omega arith, (tt, (tt, tt)))))
    (omega (arith, ap (λ (es : List EntryLine). length es) entries))
    c.in_ok-settles.ensures.1
    (c.in_ok-settles.ensures.0 ∙ sym (ap (λ (es : List EntryLine). count_settles es + 1) entries))
    closed
