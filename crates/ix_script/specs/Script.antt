-- The wire list of a script under a configuration, or its first faulty line. Formats: docs/SCRIPT.md.
use Rattle.std.specs.Prelude.{ℕ, Bool, List, Result}
use Rattle.ix_conf.specs.Settings.{Settings}
use Rattle.ix_conf.specs.declared.settings.Conf.{Conf}
use Rattle.ix_wire.specs.declared.entry.Entry.{Entry}
use Rattle.ix_wire.specs.declared.fault.ScriptFault.{ScriptFault}
use Rattle.ix_wire.specs.Entries.{Terms, terms_of}
use Rattle.ix_wire.specs.Script.{wire_of}

abbrev pub script_of : Settings → List Bool → List ℕ → Result (List Entry) ScriptFault
script_of settings own bytes = wire_of settings.pace settings.cores settings.live own bytes

-- what a script is read for under a configuration
abbrev pub terms_under : Conf → List Bool → Terms
terms_under conf own = terms_of conf.pace conf.cores conf.live own
