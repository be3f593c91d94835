-- What the inputs of a play mean, which status may come, and what was written.
use Rattle.std.specs.Prelude.{◌≡◌, ◌⊎◌, Bool, true, false, ℕ, List, [], length, take, map, Result, Ok, Err, IsOk, Some, nat_lt, if◌then◌else◌}
use Rattle.std.specs.Io.KnownBytes.{IsAtEnd, append_known}
use Rattle.ix_base.specs.declared.role.Role.{Role}
use Rattle.ix_base.specs.declared.role.Role.TheVariants as role
use Rattle.ix_base.specs.Host.{State}
use Rattle.ix_pcap.specs.declared.records.Span.{Span}
use Rattle.ix_pcap.specs.declared.records.CaptureFault.{CaptureFault}
use Rattle.ix_pcap.specs.Capture.{capture_of, frames_of}
use Rattle.ix_top.specs.declared.status.Status.{Status}
use Rattle.ix_top.specs.declared.status.Status.TheVariants.{Done, Usage, Conf, Script, Capture, ReadFault, WriteFault, NoMemory, Refused}
use Rattle.ix_top.specs.declared.status.ConfRefusal.TheVariants as conf
use Rattle.ix_top.specs.declared.status.ScriptRefusal.TheVariants as script
use Rattle.ix_top.specs.declared.status.CaptureRefusal.TheVariants as capture
use Rattle.ix_wire.specs.declared.entry.Entry.{Entry}
use Rattle.ix_wire.specs.declared.fault.ScriptFault.{ScriptFault}
use Rattle.ix_script.specs.Script.{script_of}
use Rattle.ix_top.specs.Status.{capture_refusal, conf_refusal, script_refusal}
use Rattle.ix_conf.specs.Settings.{Settings, conf_of}
use Rattle.ix_conf.specs.declared.keys.ConfFault.{ConfFault}
use Rattle.ix_playdef.specs.Own.{own_frame}
use Rattle.ix_fits.specs.Fits.{Fits}
use Rattle.ix_trace.specs.Rule.{IsValue, report_text}
use Rattle.ix_trace.specs.declared.sheet.Sheet.{Sheet}

-- the inputs of a play, by their bytes
pub record Given : Type 0 where
  pub conf : List ℕ
  pub capture : List ℕ
  pub script : List ℕ

infixl 10 ◌>>=◌
abbrev pub ◌>>=◌ : {A B : Type 0} → Result A Status → (A → Result B Status) → Result B Status
(Ok x) >>= f = f x
(Err e) >>= f = Err e

abbrev pub settings_read : Result Settings ConfFault → Result Settings Status
settings_read (Ok settings) = Ok settings
settings_read (Err fault) = Err (conf_refusal fault)

abbrev pub conf_input : List ℕ → Result Settings Status
conf_input bytes = if nat_lt 65536 (length bytes) then Err (Conf conf.TooBig) else settings_read (conf_of bytes)

abbrev pub frames_read : List ℕ → Result (List Span) CaptureFault → Result (List (List ℕ)) Status
frames_read bytes (Ok spans) = Ok (frames_of bytes spans)
frames_read bytes (Err fault) = Err (capture_refusal fault)

abbrev pub capture_input : List ℕ → Result (List (List ℕ)) Status
capture_input bytes =
    if nat_lt 67108864 (length bytes) then Err (Capture capture.TooBig) else frames_read bytes (capture_of bytes)

abbrev pub entries_read : Result (List Entry) ScriptFault → Result (List Entry) Status
entries_read (Ok entries) = Ok entries
entries_read (Err fault) = Err (script_refusal fault)

-- the script of a play under this configuration over these frames
abbrev pub script_input : Settings → List (List ℕ) → List ℕ → Result (List Entry) Status
script_input settings frames bytes =
    if nat_lt 8388608 (length bytes) then Err (Script script.TooBig)
    else entries_read (script_of settings (map (own_frame settings.mac) frames) bytes)

-- ## A play
-- what the inputs of a play are
pub record Inputs : Type 0 where
  pub settings : Settings
  pub frames : List (List ℕ)
  pub entries : List Entry

-- the inputs of a play, or the first refusal in the order of reading
abbrev pub play_meaning : Given → Result Inputs Status
play_meaning g =
    conf_input g.conf >>= λ settings. capture_input g.capture >>= λ frames. script_input settings frames g.script >>= λ entries.
    Ok (record { settings = settings; frames = frames; entries = entries })

-- The trace is the text of a report that fits these inputs with the replies file (docs/FITS.md). Its numbers fit their types, so it is the one
-- report that the trace reads back as (docs/TRACE.md).
pub record AreFiles (inputs : Inputs) (replies trace : List ℕ) : Type 0 where
  pub report : Sheet
  pub value : IsValue report
  pub fits : Fits inputs.settings inputs.frames inputs.entries report replies
  pub trace_is : trace ≡ report_text report

-- the host tells what the three roles have left
pub record Tells (x : State) (g : Given) : Type 0 where
  pub conf : x.left role.Conf ≡ Some g.conf
  pub capture : x.left role.Capture ≡ Some g.capture
  pub script : x.left role.Script ≡ Some g.script

-- all three are read to their end
pub record AllRead (x : State) : Type 0 where
  pub conf : IsAtEnd (x.left role.Conf)
  pub capture : IsAtEnd (x.left role.Capture)
  pub script : IsAtEnd (x.left role.Script)

-- the status that a play with this meaning answers, where it isn't a fault or want of memory
abbrev pub Answers : Status → Result Inputs Status → Type 0
Answers Done m = IsOk m
Answers WriteFault m = IsOk m
Answers (Conf f) m = m ≡ Err (Conf f)
Answers (Capture f) m = m ≡ Err (Capture f)
Answers (Script f) m = m ≡ Err (Script f)
Answers Usage m = Unit {0}
Answers ReadFault m = Unit {0}
Answers NoMemory m = Unit {0}
Answers (Refused f) m = ⊥

-- a status that stops the reading, with its cause
abbrev pub Refuses : {X : Type 0} → Status → Result X Status → Type 0
Refuses (Conf f) m = m ≡ Err (Conf f)
Refuses (Capture f) m = m ≡ Err (Capture f)
Refuses (Script f) m = m ≡ Err (Script f)
Refuses ReadFault m = Unit {0}
Refuses NoMemory m = Unit {0}
Refuses Usage m = ⊥
Refuses Done m = ⊥
Refuses WriteFault m = ⊥
Refuses (Refused f) m = ⊥

-- a status that a stop of the reading answers
abbrev pub IsStop : Status → Type 0
IsStop (Conf f) = Unit {0}
IsStop (Capture f) = Unit {0}
IsStop (Script f) = Unit {0}
IsStop ReadFault = Unit {0}
IsStop NoMemory = Unit {0}
IsStop Usage = ⊥
IsStop Done = ⊥
IsStop WriteFault = ⊥
IsStop (Refused f) = ⊥

-- the work was done, or memory ran out
abbrev pub IsDoneOrNoMemory : Status → Type 0
IsDoneOrNoMemory Done = Unit {0}
IsDoneOrNoMemory NoMemory = Unit {0}
IsDoneOrNoMemory _ = ⊥

-- the roles that a play reads
abbrev pub is_input : Role → Bool
is_input role.Conf = true
is_input role.Capture = true
is_input role.Script = true
is_input _ = false

-- the roles that a play writes
abbrev pub is_output : Role → Bool
is_output role.Replies = true
is_output role.Trace = true
is_output _ = false

-- Only a play's inputs were read, only its outputs were written, and no other role was prepared.
pub record KeepsOthers (old new : State) : Type 0 where
  pub left : (r : Role) → is_input r ≡ false → new.left r ≡ old.left r
  pub written : (r : Role) → is_output r ≡ false → new.written r ≡ old.written r
  pub attached : (r : Role) → is_input r ≡ false → is_output r ≡ false → new.is_attached r ≡ old.is_attached r

-- No byte was written, and no role that is written was prepared.
pub record WritesNothing (old new : State) : Type 0 where
  pub written : new.written ≡ old.written
  pub replies : new.is_attached role.Replies ≡ old.is_attached role.Replies
  pub trace : new.is_attached role.Trace ≡ old.is_attached role.Trace
  pub played : new.is_attached role.Played ≡ old.is_attached role.Played

-- these bytes were appended to the two roles
pub record Appends (old new : State) (replies trace : List ℕ) : Type 0 where
  pub to_replies : new.written role.Replies ≡ append_known (old.written role.Replies) replies
  pub to_trace : new.written role.Trace ≡ append_known (old.written role.Trace) trace

-- a front of the replies, and the trace not even prepared
pub record AppendsReplies (old new : State) (replies : List ℕ) : Type 0 where
  pub count : ℕ
  pub writes : Appends old new (take count replies) []
  pub trace : new.is_attached role.Trace ≡ old.is_attached role.Trace

-- all replies, and a front of the trace
pub record AppendsBoth (old new : State) (replies trace : List ℕ) : Type 0 where
  pub count : ℕ
  pub writes : Appends old new replies (take count trace)

-- The trace was begun only where all replies were written.
abbrev pub AppendsFront : State → State → List ℕ → List ℕ → Type 0
AppendsFront old new replies trace = AppendsReplies old new replies ⊎ AppendsBoth old new replies trace

-- a play of these inputs wrote both files whole
pub record Played (g : Given) (old new : State) : Type 0 where
  pub inputs : Inputs
  pub replies : List ℕ
  pub trace : List ℕ
  pub meaning : play_meaning g ≡ Ok inputs
  pub files : AreFiles inputs replies trace
  pub writes : Appends old new replies trace

-- a play of these inputs wrote a front of what it was to write
pub record PlayedFront (g : Given) (old new : State) : Type 0 where
  pub inputs : Inputs
  pub replies : List ℕ
  pub trace : List ℕ
  pub meaning : play_meaning g ≡ Ok inputs
  pub files : AreFiles inputs replies trace
  pub writes : AppendsFront old new replies trace
