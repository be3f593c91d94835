-- The kinds of faults as they are written. Formats: docs/SCRIPT.md, "Faults".
use Rattle.std.specs.Prelude.{ℕ, List, codes}
use Rattle.ix_wire.specs.declared.fault.ScriptKind.{ScriptKind}
use Rattle.ix_wire.specs.declared.fault.ScriptKind.TheVariants.{TooMany, TooLong, Word, Number, NoRecord, Back, NoCore, Live, LastCore, AlreadyTagged, NotTagged, SameCore, LeftTagged, NotSent}

abbrev pub kind_text : ScriptKind → List ℕ
kind_text TooMany = codes "too-many"
kind_text TooLong = codes "too-long"
kind_text Word = codes "word"
kind_text Number = codes "number"
kind_text NoRecord = codes "no-record"
kind_text Back = codes "back"
kind_text NoCore = codes "no-core"
kind_text Live = codes "live"
kind_text LastCore = codes "last-core"
kind_text AlreadyTagged = codes "already-tagged"
kind_text NotTagged = codes "not-tagged"
kind_text SameCore = codes "same-core"
kind_text LeftTagged = codes "left-tagged"
kind_text NotSent = codes "not-sent"
