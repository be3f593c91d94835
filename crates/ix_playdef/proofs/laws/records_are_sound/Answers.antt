use Rattle.ix_playdef.proofs.SoundLaws.{GroupLaws, records_are_sound, records_are_told, takers_are_sound}
use Rattle.ix_playdef.proofs.laws.records_are_sound.Goals as goal

pub returns : goal.returns
returns c =
    let laws : GroupLaws =
    record {
      runs = c.groups_are_sound.ensures.runs;
      few = c.groups_are_sound.ensures.few;
      one = c.groups_are_sound.ensures.one;
      none_lost = c.groups_are_sound.ensures.none_lost;
      own = c.groups_are_sound.ensures.own;
      in_order = c.groups_are_sound.ensures.in_order;
      strays = c.groups_are_sound.ensures.strays;
      left_over = c.groups_are_sound.ensures.left_over;
      legal = c.groups_are_sound.ensures.legal;
      answered = c.groups_are_sound.ensures.answered;
      told = c.groups_are_sound.ensures.told;
    } in
    record {
      takers = takers_are_sound laws c.answers_grow.ensures.grow;
      records = records_are_sound laws c.answers_grow.ensures.grow;
      told = records_are_told c.groups_are_sound.ensures.frames c.groups_are_sound.ensures.whole;
    }
