-- What the groups of a play leave can be written and told.
use Rattle.std.proofs.Common.{◌≤◌, List, [], ◌∷◌, length, map, arith}
use Rattle.std.specs.Prelude.{All}
use Rattle.std.specs.List.{AllByRecursion}
use Rattle.std.proofs.lemmas.List.Elements.{All-cons, All-nil}
use Rattle.ix_conf.specs.Settings.{settings_of}
use Rattle.ix_conf.specs.declared.settings.Conf.{Conf}
use Rattle.ix_groupdef.specs.declared.types.JournalEntry.{JournalEntry}
use Rattle.ix_groupdef.specs.declared.types.Taken.{Taken}
use Rattle.ix_groupdef.specs.Group.{run}
use Rattle.ix_groupdef.specs.Laws.{AreRuns}
use Rattle.ix_groupdef.specs.Life.{Life}
use Rattle.ix_groupdef.specs.Places.{HeardInOrder, accepted}
use Rattle.ix_groupdef.specs.Record.{conn_end}
use Rattle.ix_groupdef.specs.Sent.{CanBeWritten, FramesFit}
use Rattle.ix_groupdef.specs.Setting.{Setting}
use Rattle.ix_groupdef.specs.StrayFrames.{StraysInOrder}
use Rattle.ix_groupdef.specs.Told.{IsFrame}
use Rattle.ix_groupdef.specs.Whole.{AreWhole, JournalsAreWhole}
use Rattle.ix_ip.specs.Packet.{PayloadsLieWithin}
use Rattle.ix_playdef.specs.Replies.{CanAllBeWritten, IsWhole}
use Rattle.ix_playdef.specs.Setting.{cfg_of, setting_of_play}
use Rattle.ix_tcpdef.specs.Delivered.{RunsDeliver}
use Rattle.ix_tcpdef.specs.Sound.{IsInRange}
use Rattle.ix_tcpdef.specs.declared.types.Output.{Output}
use Rattle.ix_tellable.specs.Tellable.{RecordsCanBeTold}
use Rattle.ix_tellable.proofs.Obeys.{all_obey}
use Rattle.ix_tellable.proofs.Parts.{lives-named}
use Rattle.ix_tellable.proofs.Short.{strays-short}

outputs-fit : (os : List Output) → AllByRecursion CanBeWritten os → All CanBeWritten os
outputs-fit [] h = All-nil CanBeWritten
outputs-fit (o ∷ os) h = All-cons CanBeWritten o os h.0 (outputs-fit os h.1)

abbrev CanEntry : JournalEntry → Type 0
CanEntry e = All CanBeWritten e.outputs

entries-fit : (es : List JournalEntry) → AllByRecursion (λ e. AllByRecursion CanBeWritten e.outputs) es → All CanEntry es
entries-fit [] h = All-nil CanEntry
entries-fit (e ∷ es) h = All-cons CanEntry e es (outputs-fit e.outputs h.0) (entries-fit es h.1)

conns-fit : (env : Setting) (ls : List Life) → AllByRecursion (λ l. AllByRecursion (λ e. AllByRecursion CanBeWritten e.outputs) l.journal) ls
    → All CanAllBeWritten (map (conn_end env) ls)
unfolding conn_end
conns-fit env [] h = All-nil CanAllBeWritten
conns-fit env (l ∷ ls) h = All-cons CanAllBeWritten (conn_end env l) (map (conn_end env) ls) (entries-fit l.journal h.0) (conns-fit env ls h.1)

conns-whole : (env : Setting) (ls : List Life) → AllByRecursion (λ l. AreWhole l.journal l.ends) ls → All IsWhole (map (conn_end env) ls)
unfolding conn_end
conns-whole env [] h = All-nil IsWhole
conns-whole env (l ∷ ls) h = All-cons IsWhole (conn_end env l) (map (conn_end env) ls) h.0 (conns-whole env ls h.1)

abbrev IsShortFrame : Taken → Type 0
IsShortFrame t = length t.frame ≤ 2048

all-short : (ts : List Taken) → AllByRecursion IsFrame ts → All IsShortFrame ts
all-short [] h = All-nil IsShortFrame
all-short (t ∷ ts) h = All-cons IsShortFrame t ts h.0.size (all-short ts h.1)

in-range : (conf : Conf) → IsInRange (cfg_of (settings_of conf))
in-range conf =
    record {
      window = conf.window_range;
      mss_least = conf.mss_range.0;
      mss_most = conf.mss_range.1;
      rto_least = conf.rto_range.0;
      rto_most = conf.rto_range.1;
      retries_least = conf.retries_range.0;
      retries_most = conf.retries_range.1;
      time_wait_least = conf.time_wait_range.0;
      time_wait_most = conf.time_wait_range.1;
    }

-- the laws that are used
pub record Laws : Type 0 where
  pub runs : AreRuns
  pub in_order : HeardInOrder
  pub strays : StraysInOrder
  pub frames : FramesFit
  pub whole : JournalsAreWhole
  pub deliver : RunsDeliver
  pub within : PayloadsLieWithin

pub records_can_be_told : Laws → RecordsCanBeTold
records_can_be_told laws conf frames asked cs six entered taken =
    let env : Setting = setting_of_play (settings_of conf) frames in
    let mac : length env.local.mac ≤ 6 = omega (arith, six) in
    let ls : List Life = (run env asked cs).lives in
    record {
      fits = record {
        told = record {
          written = conns-fit env ls (laws.frames env asked cs (in-range conf));
          whole = conns-whole env ls (laws.whole env asked cs entered);
        };
        strays = strays-short laws.within env (run env asked cs).strays (accepted cs) mac (all-short (accepted cs) taken) (laws.strays env asked cs);
      };
      parts = lives-named laws.deliver env (accepted cs) ls (in-range conf) taken (all_obey env asked cs) (laws.runs env asked cs) (laws.in_order env asked cs);
    }
