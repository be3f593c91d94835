-- Numbers and texts of the statuses.
use Rattle.std.specs.Prelude.{ℕ, List, [], ◌++◌, codes}
use Rattle.std.specs.Fmt.{decimal}
use Rattle.ix_check.specs.declared.verdict.Finding.{Finding}
use Rattle.ix_check.specs.declared.verdict.Finding.TheVariants as findings
use Rattle.ix_conf.specs.Key.{key_text}
use Rattle.ix_conf.specs.declared.keys.ConfFault.{ConfFault}
use Rattle.ix_conf.specs.declared.keys.ConfFault.TheVariants as conf_fault
use Rattle.ix_pcap.specs.declared.records.CaptureFault.{CaptureFault}
use Rattle.ix_pcap.specs.declared.records.CaptureFault.TheVariants as fault
use Rattle.ix_wire.specs.Kind.{kind_text}
use Rattle.ix_wire.specs.declared.fault.ScriptFault.{ScriptFault}
use Rattle.ix_wire.specs.declared.fault.ScriptFault.TheVariants as script_fault
use Rattle.ix_top.specs.declared.status.Status.{Status}
use Rattle.ix_top.specs.declared.status.Status.TheVariants.{Done, Usage, Conf, Script, Capture, ReadFault, WriteFault, NoMemory, Refused}
use Rattle.ix_top.specs.declared.status.CaptureRefusal.{CaptureRefusal}
use Rattle.ix_top.specs.declared.status.ConfRefusal.{ConfRefusal}
use Rattle.ix_top.specs.declared.status.ConfRefusal.TheVariants as conf
use Rattle.ix_top.specs.declared.status.ScriptRefusal.{ScriptRefusal}
use Rattle.ix_top.specs.declared.status.ScriptRefusal.TheVariants as script
use Rattle.ix_top.specs.declared.status.CaptureRefusal.TheVariants.{CutHeader, Pcapng, BadMagic, BadVersion, BadLink, TooManyRecords, CutRecord, TooBig}

abbrev pub number_of : Status → ℕ
number_of Done = 0
number_of Usage = 1
number_of (Conf refusal) = 2
number_of (Script refusal) = 3
number_of (Capture refusal) = 4
number_of ReadFault = 5
number_of WriteFault = 6
number_of NoMemory = 7
number_of (Refused finding) = 8

-- The reader's meaning of a configuration has no want of memory; the case makes this total.
abbrev pub conf_refusal : ConfFault → Status
conf_refusal conf_fault.Text = Conf conf.Text
conf_refusal conf_fault.Unknown = Conf conf.Unknown
conf_refusal (conf_fault.Missing key) = Conf (conf.Missing key)
conf_refusal (conf_fault.Range key) = Conf (conf.Range key)
conf_refusal conf_fault.NoMemory = NoMemory

abbrev pub conf_text_of : ConfRefusal → List ℕ
conf_text_of conf.Text = codes "ix: conf: text"
conf_text_of conf.Unknown = codes "ix: conf: unknown"
conf_text_of (conf.Missing key) = codes "ix: conf: missing " ++ key_text key
conf_text_of (conf.Range key) = codes "ix: conf: range " ++ key_text key
conf_text_of conf.TooBig = codes "ix: conf: too-big"

-- The reader's meaning of a capture has no want of memory; the case makes this total.
abbrev pub capture_refusal : CaptureFault → Status
capture_refusal (fault.CutHeader at) = Capture (CutHeader at)
capture_refusal fault.Pcapng = Capture Pcapng
capture_refusal fault.BadMagic = Capture BadMagic
capture_refusal fault.BadVersion = Capture BadVersion
capture_refusal fault.BadLink = Capture BadLink
capture_refusal fault.TooManyRecords = Capture TooManyRecords
capture_refusal (fault.CutRecord at) = Capture (CutRecord at)
capture_refusal fault.NoMemory = NoMemory

-- The reader's meaning of a script has no want of memory; the case makes this total.
abbrev pub script_refusal : ScriptFault → Status
script_refusal (script_fault.At line kind) = Script (script.At line kind)
script_refusal script_fault.NoMemory = NoMemory

abbrev pub script_text_of : ScriptRefusal → List ℕ
script_text_of (script.At line kind) = codes "ix: script: line " ++ decimal line ++ codes ": " ++ kind_text kind
script_text_of script.TooBig = codes "ix: script: too-big"

abbrev pub capture_text_of : CaptureRefusal → List ℕ
capture_text_of (CutHeader at) = codes "ix: capture: cut-header " ++ decimal at
capture_text_of Pcapng = codes "ix: capture: pcapng"
capture_text_of BadMagic = codes "ix: capture: bad-magic"
capture_text_of BadVersion = codes "ix: capture: bad-version"
capture_text_of BadLink = codes "ix: capture: bad-link"
capture_text_of TooManyRecords = codes "ix: capture: too-many-records"
capture_text_of (CutRecord at) = codes "ix: capture: cut-record " ++ decimal at
capture_text_of TooBig = codes "ix: capture: too-big"

abbrev pub finding_text_of : Finding → List ℕ
finding_text_of (findings.Text line) = codes "ix: refused: text " ++ decimal line
finding_text_of (findings.Point number) = codes "ix: refused: point " ++ decimal number

abbrev pub text_of : Status → List ℕ
text_of Done = []
text_of Usage = codes "ix: usage: ix play CONF SCRIPT CAPTURE REPLIES TRACE | ix check CONF SCRIPT CAPTURE REPLIES TRACE"
text_of (Conf refusal) = conf_text_of refusal
text_of (Script refusal) = script_text_of refusal
text_of (Capture refusal) = capture_text_of refusal
text_of ReadFault = codes "ix: read fault"
text_of WriteFault = codes "ix: write fault"
text_of NoMemory = codes "ix: no memory"
text_of (Refused finding) = finding_text_of finding
