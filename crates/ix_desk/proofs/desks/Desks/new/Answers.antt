use Rattle.ix_desk.proofs.Home.{none-begun}
use Rattle.ix_desk.proofs.desks.Desks.new.Goals as goal

pub seat_home-requires-clause-empty : goal.seat_home-requires-clause-empty
seat_home-requires-clause-empty g c = λ j. rw c.in_ok-groups.ensures (none-begun 512 j)
