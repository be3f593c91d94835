use Rattle.ix_moments.specs.Runs.{EpochsGoOn}
use Rattle.ix_moments.proofs.Next.{EpochLaws, epochs-go-on}
use Rattle.ix_moments.proofs.Runs.{runs-are-played}
use Rattle.ix_moments.proofs.laws.runs_are_played.Goals as goal

pub returns : goal.returns
returns c =
    let laws : EpochLaws = record {
      reaches = c.plays_take_their_course.ensures.reaches;
      stays = c.plays_take_their_course.ensures.stays;
      plays = c.epochs_are_played.ensures;
      joins = c.cores_join.ensures;
      homes = c.homes_stay.ensures.stay;
      whole = c.settles_are_told.ensures.whole;
      epochs_keep = c.pools_stay.ensures.epochs;
      settles_keep = c.pools_stay.ensures.settles;
      slots = c.pools_stay.ensures.slots;
      frames = c.pools_stay.ensures.frames;
      within = c.rings_stay.ensures.within;
      owners = c.settles_own.ensures;
      printed = c.uses_are_not_printed.ensures;
    } in
    let epochs : EpochsGoOn = epochs-go-on laws in
    record { epochs = epochs; runs = runs-are-played epochs c.plays_begin.ensures c.wires_close.ensures.closed c.plays_are_cut.ensures.renamed }
