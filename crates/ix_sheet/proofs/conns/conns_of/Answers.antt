use Rattle.std.proofs.Common.{arith, subst, sym}
use Rattle.std.specs.Prelude.{All}
use Rattle.ix_playdef.specs.Replies.{CanAllBeWritten, FitsGroup, IsWhole}
use Rattle.ix_sheet.specs.Outcome.{NamesAll, NamesBuffers}
use Rattle.ix_sheet.proofs.conns.conns_of.Goals as goal

pub push_group-requires-clause-whole : goal.push_group-requires-clause-whole
push_group-requires-clause-whole c =
    let fits : FitsGroup c.index-groups-i.result = subst FitsGroup (sym c.index-groups-i.is) (c.requires.fit c.loop-i.i c.index-groups-i.result (search arith)) in
    subst (All IsWhole) (sym c.as_slice.ensures) fits.told.whole

pub push_group-requires-clause-written : goal.push_group-requires-clause-written
push_group-requires-clause-written c =
    let fits : FitsGroup c.index-groups-i.result = subst FitsGroup (sym c.index-groups-i.is) (c.requires.fit c.loop-i.i c.index-groups-i.result (search arith)) in
    subst (All CanAllBeWritten) (sym c.as_slice.ensures) fits.told.written

pub push_group-requires-clause-named : goal.push_group-requires-clause-named
push_group-requires-clause-named c =
    let named : NamesAll c.args.source.now.entries.now c.index-groups-i.result = subst (NamesAll c.args.source.now.entries.now) (sym c.index-groups-i.is) (c.requires.named c.loop-i.i c.index-groups-i.result (search arith)) in
    subst (All (NamesBuffers c.args.source.now.entries.now)) (sym c.as_slice.ensures) named
