use Rattle.std.proofs.Common.{arith, rules}
use Rattle.ix_wire.specs.Entries.{terms_of}
use Rattle.ix_wire.specs.Script.{wire_of}
use Rattle.ix_wire.specs.Text.{lines_of}
use Rattle.ix_wire.proofs.WireLaws.{answer_is_wire, wire_of-is_wire}
use Rattle.ix_wire.proofs.reading.read_wire.Goals as goal

pub returns-in_default-clause-kept : goal.returns-in_default-clause-kept
returns-in_default-clause-kept c =
    c.scripts_keep_rules.ensures 65536 (terms_of c.args.pace c.args.cores c.args.live c.args.own.now) (lines_of c.args.bytes.now) (omega arith) c.requires.live.1

pub returns-in_default-begin-clause-kept : goal.returns-in_default-begin-clause-kept
returns-in_default-begin-clause-kept c =
    c.scripts_keep_rules.ensures 65536 (terms_of c.args.pace c.args.cores c.args.live c.args.own.now) (lines_of c.args.bytes.now) (omega arith) c.requires.live.1

pub returns-in-Ok-read_lines-clause-kept : goal.returns-in-Ok-read_lines-clause-kept
returns-in-Ok-read_lines-clause-kept c =
    c.scripts_keep_rules.ensures 65536 (terms_of c.args.pace c.args.cores c.args.live c.args.own.now) (lines_of c.args.bytes.now) (omega arith) c.requires.live.1

pub returns-clause-kept : goal.returns-clause-kept
returns-clause-kept c =
    c.scripts_keep_rules.ensures 65536 (terms_of c.args.pace c.args.cores c.args.live c.args.own.now) (lines_of c.args.bytes.now) (omega arith) c.requires.live.1

pub returns-in-Ok-read_lines-clause-entries : goal.returns-in-Ok-read_lines-clause-entries
unfolding wire_of
returns-in-Ok-read_lines-clause-entries c =
    answer_is_wire (terms_of c.args.pace c.args.cores c.args.live c.args.own.now) c.finish.result
    (wire_of c.args.pace c.args.cores c.args.live c.args.own.now c.args.bytes.now)
    (λ es is. wire_of-is_wire c.plans_go_elsewhere.ensures (terms_of c.args.pace c.args.cores c.args.live c.args.own.now) c.args.bytes.now es c.requires.live.1 is)
    (search rules)
