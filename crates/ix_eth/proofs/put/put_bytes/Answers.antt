use Rattle.std.proofs.Common.{length, arith, ap}
use Rattle.std.proofs.lemmas.Slice.{drop-put_mid}
use Rattle.ix_eth.proofs.put.put_bytes.Goals as goal

pub returns-clause-rest : goal.returns-clause-rest
returns-clause-rest c = λ n h.
    drop-put_mid c.args.at _ c.args.out.now _ n (omega arith) (omega arith) (omega (arith, ap length c.copy_from_slice.ensures.after))
