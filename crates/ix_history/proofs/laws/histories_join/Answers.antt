use Rattle.ix_history.proofs.Appends.{say-together, runs-go-on}
use Rattle.ix_history.proofs.Joining.{runs-join}
use Rattle.ix_history.proofs.laws.histories_join.Goals as goal

pub returns : goal.returns
returns row c = record { runs = λ env x y z es fs r s. runs-join _ x y z es fs r s; words = say-together; goes_on = runs-go-on _ _ _ _ _ }
