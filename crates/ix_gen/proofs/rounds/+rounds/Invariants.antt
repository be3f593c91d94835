use Rattle.ix_gen.proofs.rounds.+rounds.Given as goal

abbrev pub decreases-rounds : goal.decreases-rounds
decreases-rounds c = c.count
