-- What the law of lines says.
use Rattle.ix_lines.specs.Laws.{IsReadAgain, IsWrittenSo, HasNoFeed}

pub record AreExact : Type 0 where
  pub again : IsReadAgain
  pub takes : IsWrittenSo
  pub no_feed : HasNoFeed
