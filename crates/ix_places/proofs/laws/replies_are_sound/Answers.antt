use Rattle.ix_places.proofs.Numbered.{distinct-replies, numbered-replies}
use Rattle.ix_places.proofs.laws.replies_are_sound.Goals as goal

pub returns : goal.returns
returns c = λ places local records sorted are. record {
  distinct = distinct-replies places local records sorted are.same;
  numbers = numbered-replies places local records sorted are.same are.order;
}
