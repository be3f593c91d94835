use Rattle.std.proofs.Common.{arith, subst, sym}
use Rattle.ix_playdef.specs.Replies.{FitsGroup}
use Rattle.ix_playdef.proofs.replies.push_groups.Goals as goal

pub push_group-requires : goal.push_group-requires
push_group-requires c = subst FitsGroup (sym c.index-records-i.is) (c.requires.fit c.loop-i.i c.index-records-i.result (search arith))
