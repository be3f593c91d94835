use Rattle.ix_history.proofs.Cores.{cores-join, nowhere-else}
use Rattle.ix_history.proofs.laws.cores_join.Goals as goal

pub returns : goal.returns
returns row c = λ env n g t es unit x y history played group. (
  cores-join _ _ _ _ _ env c.pieces_joined.ensures.ends c.pieces_joined.ensures.steps c.pieces_joined.ensures.steppers row.met.U.HandsOut.lends_steps n g t es unit x y history played group,
  nowhere-else _ _ _ _ _ env c.pieces_joined.ensures.ends c.pieces_joined.ensures.steps c.pieces_joined.ensures.steppers row.met.U.HandsOut.lends_steps n g t es unit x y history played group,
)
