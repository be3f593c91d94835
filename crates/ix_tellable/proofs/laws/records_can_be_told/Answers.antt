use Rattle.ix_tellable.proofs.Records.{records_can_be_told}
use Rattle.ix_tellable.proofs.laws.records_can_be_told.Goals as goal

pub returns : goal.returns
returns c =
    records_can_be_told
    (record {
      runs = c.groups_are_sound.ensures.runs;
      in_order = c.groups_are_sound.ensures.in_order;
      strays = c.groups_are_sound.ensures.strays;
      frames = c.groups_are_sound.ensures.frames;
      whole = c.groups_are_sound.ensures.whole;
      deliver = c.runs_are_sound.ensures.told;
      within = c.payloads_lie_within.ensures;
    })
