use Rattle.ix_wire.specs.declared.entry.Entry.TheVariants as wire
use Rattle.ix_feed.proofs.Following.{is_there}
use Rattle.ix_feed.proofs.feeding.tag_group.Goals as goal

pub tag-requires-clause-group : goal.tag-requires-clause-group
tag-requires-clause-group c = is_there (wire.Tag c.args.group) c.args.nic.now c.args.replay.now c.requires.feed c.requires.next
