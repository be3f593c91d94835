use Rattle.std.proofs.Common.{arith, rules}
use Rattle.ix_core.proofs.Renewals.{fills_done, fills_more, fills_none, fills_out}
use Rattle.ix_core.proofs.renewing.fill.Goals as goal

pub loop-i-init : goal.loop-i-init
loop-i-init c = record { ring = search rules; so = fills_none _ _ }

pub loop-i-preserved : goal.loop-i-preserved
loop-i-preserved c = record {
  ring = search rules;
  so = fills_more _ _ _ _ _ _ _ c.in-Some.buf c.in-Some.ensures.0 c.in-Some.ensures.1 (search rules) (search rules) c.loop-i.invariant.so;
}

pub returns-clause-fills : goal.returns-clause-fills
returns-clause-fills c = fills_done c.loop-i._i _ _ _ _ _ (search rules) (λ id. omega (arith, c.free-free.ensures.together id)) c.loop-i.invariant.so

pub returns-in_default-clause-fills : goal.returns-in_default-clause-fills
returns-in_default-clause-fills c =
    rw (c.in_default.ensures.1) (fills_out c.loop-i._i _ _ _ _ _ c.loop-i-test.true c.in_default.ensures.0 (λ id. omega (arith, c.free-free.ensures.together id)) c.loop-i.invariant.so)
