use Rattle.std.proofs.Common.{ℕ, List, ◌≤◌, arith, subst}
use Rattle.std.specs.Prelude.{All}
use Rattle.ix_lines.specs.Words.{FitsEntry, max32}
use Rattle.ix_sheet.specs.Ranges.{FitsConn, FitsSettle, FitsStray}
use Rattle.ix_sheet.proofs.ranges.sheet_fits.Goals as goal

pub returns : goal.returns
returns c =
    record {
      head = c.head_fits.ensures;
      settles = subst (All FitsSettle) c.as_slice.ensures c.settles_fit.ensures;
      connects = omega (arith, c.count_fits.ensures, c.len.ensures);
      entries = subst (All FitsEntry) c.as_slice-2.ensures c.entries_fit.ensures;
      entries_count = omega (arith, c.count_fits-2.ensures, c.len-2.ensures);
      strays = subst (All FitsStray) c.as_slice-3.ensures c.strays_fit.ensures;
      conns = subst (All FitsConn) c.as_slice-4.ensures c.conns_fit.ensures;
      conns_count = omega (arith, c.count_fits-3.ensures, c.len-3.ensures);
      closed = subst (λ (ns : List ℕ). All (λ (n : ℕ). n ≤ max32) ns) c.as_slice-5.ensures c.closed_fit.ensures;
      replies = c.end_fits.ensures.replies;
      drops = c.end_fits.ensures.drops;
    }
