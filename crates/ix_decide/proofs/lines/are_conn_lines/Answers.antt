use Rattle.std.proofs.Common.{refl, sym, subst, get_or, arith}
use Rattle.std.proofs.lemmas.Bool.{both_ways}
use Rattle.ix_fits.specs.Journals.{IsConnLine}
use Rattle.ix_groupdef.specs.declared.types.ConnEnd.{ConnEnd}
use Rattle.ix_lines.specs.declared.types.ConnLine.{ConnLine}
use Rattle.ix_decide.proofs.LineLaws.{conns-at, conns-from, conns-long}
use Rattle.ix_decide.proofs.lines.are_conn_lines.Goals as goal

pub returns-then-conns-lines : goal.returns-then-conns-lines
returns-then-conns-lines c = (λ e. absurd (cc), λ are. absurd (c.if-conns-lines.true (conns-long c.args.conns.now c.args.lines.now are)))

pub returns-then-not-is_conn : goal.returns-then-not-is_conn
returns-then-not-is_conn c = (
  λ e. absurd (cc),
  λ are. absurd (both_ways c.is_conn.result c.if-not-is_conn.true (c.is_conn.ensures.1
      ((let here : IsConnLine (get_or c.args.conns.now c.loop-i.i c.index-conns-i.result) (get_or c.args.lines.now c.loop-i.i c.index-lines-i.result) = conns-at c.args.conns.now c.args.lines.now c.loop-i.i _ _ are (omega (arith, c.loop-i-test.true)) in
      subst (λ (s : ConnEnd). IsConnLine s c.index-lines-i.result) (sym c.index-conns-i.is)
      (subst (λ (l : ConnLine). IsConnLine (get_or c.args.conns.now c.loop-i.i c.index-conns-i.result) l) (sym c.index-lines-i.is) here))))),
)

pub returns : goal.returns
returns c = (
  λ e. conns-from c.args.conns.now c.args.lines.now c.loop-i.invariant.long (λ k d f lt. c.loop-i.invariant.each k d f (omega (arith, lt, c.loop-i-test.false))),
  λ are. refl,
)
