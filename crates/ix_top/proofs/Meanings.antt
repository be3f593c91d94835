-- Inputs that are refused, and inputs that are read whole.
use Rattle.std.proofs.Common.{◌≡◌, ◌≤◌, ◌++◌, ℕ, List, length, map, Bool, true, false, nat_lt, if◌then◌else◌, refl, ◌∙◌, ap, arith}
use Rattle.std.proofs.lemmas.List.{append-nil, length-map}
use Rattle.std.proofs.lemmas.Bool.Decides.{nat_tests}
use Rattle.std.specs.Prelude.{Result, Ok, Err, Option, Some, None}
use Rattle.std.specs.Io.KnownBytes.{prepend_known, IsAtEnd}
use Rattle.ix_pcap.specs.declared.records.Span.{Span}
use Rattle.ix_pcap.specs.declared.records.CaptureFault.{CaptureFault}
use Rattle.ix_pcap.specs.declared.records.CaptureFault.TheVariants.{CutHeader, Pcapng, BadMagic, BadVersion, BadLink, TooManyRecords, CutRecord, NoMemory}
use Rattle.ix_pcap.specs.Capture.{Gives}
use Rattle.ix_conf.specs.declared.keys.ConfFault.{ConfFault}
use Rattle.ix_conf.specs.declared.keys.ConfFault.TheVariants as conf
use Rattle.ix_conf.specs.declared.settings.Conf.{Conf}
use Rattle.ix_conf.specs.Settings.{Settings, settings_of}
use Rattle.ix_conf.specs.Value.{Gives as Gives-conf}
use Rattle.ix_engine.specs.Courses.{IsWireFor}
use Rattle.ix_playdef.specs.Own.{own_frame}
use Rattle.ix_script.specs.Script.{terms_under}
use Rattle.ix_wire.specs.declared.entry.Entry.{Entry}
use Rattle.ix_wire.specs.Entries.{IsWire}
use Rattle.ix_top.specs.Status.{capture_refusal, conf_refusal}
use Rattle.ix_top.specs.Top.{frames_read, settings_read, Refuses}

-- The status of a refused configuration has its cause.
pub Refuses-conf : (fault : ConfFault) (m : Result Settings ConfFault) → Gives-conf {A = Conf} {M = Settings} settings_of (Err fault) m → Refuses (conf_refusal fault) (settings_read m)
Refuses-conf conf.Text m is = rw is refl
Refuses-conf conf.Unknown m is = rw is refl
Refuses-conf (conf.Missing key) m is = rw is refl
Refuses-conf (conf.Range key) m is = rw is refl
Refuses-conf conf.NoMemory m is = tt

-- The status of a refused capture has its cause.
pub Refuses-capture : (bytes : List ℕ) (fault : CaptureFault) (m : Result (List Span) CaptureFault)
    → Gives {A = List Span} (λ spans. spans) (Err fault) m → Refuses (capture_refusal fault) (frames_read bytes m)
Refuses-capture bytes (CutHeader at) m is = rw is refl
Refuses-capture bytes Pcapng m is = rw is refl
Refuses-capture bytes BadMagic m is = rw is refl
Refuses-capture bytes BadVersion m is = rw is refl
Refuses-capture bytes BadLink m is = rw is refl
Refuses-capture bytes TooManyRecords m is = rw is refl
Refuses-capture bytes (CutRecord at) m is = rw is refl
Refuses-capture bytes NoMemory m is = tt

not_above : (limit n : ℕ) → n ≤ limit → nat_lt limit n ≡ false
not_above limit n within = grind (arith, nat_tests, within)

past : {A : Type 0} (b : Bool) (x y : A) → b ≡ false → (if b then x else y) ≡ y
past true x y is = absurd (cc is)
past false x y is = refl

-- The wire list of a script that was read under a configuration, for each record of the capture whether it is the local side's own.
pub is_wire_for : (conf : Conf) (frames : List (List ℕ)) (entries : List Entry)
    → IsWire (terms_under conf (map (own_frame conf.mac) frames)) entries → IsWireFor (settings_of conf) frames entries
is_wire_for conf frames entries is = record {
  terms = terms_under conf (map (own_frame conf.mac) frames);
  cores = refl;
  live = refl;
  own = length-map frames (own_frame conf.mac);
  is = is;
}

-- What was read to its end is the whole.
pub whole_read : (known : Option (List ℕ)) (bytes all : List ℕ) → Some all ≡ prepend_known bytes known → IsAtEnd known → all ≡ bytes
whole_read None bytes all is end = absurd (cc is)
whole_read (Some rest) bytes all is end =
    let same : all ≡ bytes ++ rest = cc is in
    same ∙ ap (λ (l : List ℕ). bytes ++ l) end ∙ append-nil bytes

-- The meaning of an input that was read to its end and isn't too long is that of the bytes that were read.
pub input-whole : {A : Type 0} (limit : ℕ) (too_big : A) (meaning : List ℕ → A) (known : Option (List ℕ)) (bytes all : List ℕ)
    → length bytes ≤ limit → Some all ≡ prepend_known bytes known → IsAtEnd known
    → (if nat_lt limit (length all) then too_big else meaning all) ≡ meaning bytes
input-whole limit too_big meaning known bytes all within is end =
    rw (whole_read known bytes all is end) (past (nat_lt limit (length bytes)) too_big (meaning bytes) (not_above limit (length bytes) within))
