use Rattle.std.proofs.Common.{refl}
use Rattle.ix_history.proofs.Law.{piece-law}
use Rattle.ix_history.proofs.Tenure.{tenure-law}
use Rattle.ix_history.proofs.laws.desks_follow.Goals as goal

pub returns : goal.returns
returns row c = record {
  tenures = λ env g k home unit x y history len lt opens runs. tenure-law _ _ _ _ _ env g k home unit x y history len lt opens runs;
  pieces = λ env g k x y history a len lt runs s. piece-law _ _ _ _ _ env x.core g k x y history a refl len lt runs s;
}
