use Rattle.std.proofs.Common.{All, arith, subst, sym}
use Rattle.ix_playdef.specs.Replies.{CanAllBeWritten, CanBeTold, IsWhole}
use Rattle.ix_report.proofs.lines.push_groups.Goals as goal

pub push_group-requires-clause-written : goal.push_group-requires-clause-written
push_group-requires-clause-written c =
    let told : CanBeTold c.index-groups-i.result = subst CanBeTold (sym c.index-groups-i.is) (c.requires.told c.loop-i.i c.index-groups-i.result (search arith)) in
    subst (All CanAllBeWritten) (sym c.as_slice.ensures) told.written

pub push_group-requires-clause-whole : goal.push_group-requires-clause-whole
push_group-requires-clause-whole c =
    let told : CanBeTold c.index-groups-i.result = subst CanBeTold (sym c.index-groups-i.is) (c.requires.told c.loop-i.i c.index-groups-i.result (search arith)) in
    subst (All IsWhole) (sym c.as_slice.ensures) told.whole
