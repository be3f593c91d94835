use Rattle.std.proofs.Common.{◌∙◌}
use Rattle.ix_decide.proofs.PointLaws.{play-holds}
use Rattle.ix_decide.proofs.points.point_behind_card.Goals as goal

pub point_of_play-requires-clause-play : goal.point_of_play-requires-clause-play
point_of_play-requires-clause-play c =
    play-holds _ c.args.wire.now c.args.capture.now c.spans-spans.ensures.spans c.requires.spans c.in_ok-env.ensures.setting c.in_ok-env.ensures.range c.in_ok-env.ensures.mac
    (c.as_slice-asked.ensures.value ∙ c.in_ok-connects.ensures.asked) c.requires.numbers c.requires.card
