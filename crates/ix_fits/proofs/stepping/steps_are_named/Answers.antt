use Rattle.ix_fits.proofs.SteppingLaws.{stepping-law}
use Rattle.ix_fits.proofs.stepping.steps_are_named.Goals as goal

pub returns : goal.returns
returns row c = λ env n g t es unit x y history played lt alternate none.
    stepping-law _ _ _ _ _ c.cores_join.ensures env n g t es unit x y history played lt alternate none
