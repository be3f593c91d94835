use Rattle.std.proofs.Common.{length, refl}
use Rattle.ix_lines.specs.declared.types.EntryLine.TheVariants as told
use Rattle.ix_wire.specs.declared.entry.Entry.TheVariants as wire
use Rattle.ix_feed.proofs.Following.{goes_elsewhere, has_turn, is_there}
use Rattle.ix_feed.proofs.feeding.move_group.Goals as goal

pub turn-requires-clause-group : goal.turn-requires-clause-group
turn-requires-clause-group c = (is_there (wire.Move c.args.group c.args.to) c.args.nic.now c.args.replay.now c.requires.feed c.requires.next).0

pub turn-requires-clause-core : goal.turn-requires-clause-core
turn-requires-clause-core c = (is_there (wire.Move c.args.group c.args.to) c.args.nic.now c.args.replay.now c.requires.feed c.requires.next).1

pub turn-requires-clause-other : goal.turn-requires-clause-other
turn-requires-clause-other c = goes_elsewhere c.args.group c.args.to c.args.nic.now c.args.replay.now c.requires.feed c.requires.next

pub turn-requires-clause-turns : goal.turn-requires-clause-turns
turn-requires-clause-turns c = has_turn c.args.group c.args.to c.args.nic.now c.args.replay.now c.requires.feed c.requires.next

pub returns : goal.returns
returns c = record {
  line = told.Move c.args.group c.args.to;
  carried = record {
    call = record {
      line_is = refl;
      table = c.turn.ensures.table;
      put = record { count = c.turn.ensures.rings.count; rings = λ r d lt. c.turn.ensures.rings.rings r d lt };
    };
    entry = c.turn.ensures.entry (length c.args.replay.now.lines);
  };
  noted_is = c.note.ensures;
}
