use Rattle.std.proofs.Common.{◌*◌, ◌∙◌, ap}
use Rattle.ix_script.specs.Script.{script_of}
use Rattle.ix_gen.specs.Settings.{settings_made}
use Rattle.ix_gen.specs.Wire.{none_own}
use Rattle.ix_gen.proofs.RoundLaws.{made_reads}
use Rattle.ix_gen.proofs.made.generate.Goals as goal

pub returns-clause-frames_read : goal.returns-clause-frames_read
returns-clause-frames_read c =
    made_reads c.in_ok-recorded.field-0 c.args.number c.args.conns c.in_ok-capture.capture c.in_ok-recorded.ensures c.requires.1
    c.in_ok-capture.ensures.reads_back

pub returns-clause-script_read : goal.returns-clause-script_read
returns-clause-script_read c =
    ap (script_of settings_made (none_own (7 * c.args.conns))) c.in_ok-script.ensures
    ∙ c.script_is_read.ensures c.args.number c.args.conns c.requires.0 c.requires.1
