-- What the groups of a play leave can be written.
use Rattle.std.proofs.Common.{◌≤◌, ℕ, sym, subst, Bool, true, false, List, [], ◌∷◌, ◌++◌, get_or, length, map, arith}
use Rattle.std.specs.Prelude.{All, filter, nat_lt, if◌then◌else◌}
use Rattle.std.specs.List.{AllByRecursion}
use Rattle.std.proofs.lemmas.List.Elements.{All-cons, All-nil}
use Rattle.ix_base.specs.declared.id.CoreId.{CoreId}
use Rattle.ix_base.specs.declared.id.TheConstants.{BUFFER_BYTES}
use Rattle.ix_groupdef.specs.declared.types.GroupRecord.{GroupRecord}
use Rattle.ix_groupdef.specs.declared.types.JournalEntry.{JournalEntry}
use Rattle.ix_groupdef.specs.Group.{Connect, Cycle, Frames, run}
use Rattle.ix_groupdef.specs.Life.{Life}
use Rattle.ix_groupdef.specs.Places.{accepted}
use Rattle.ix_groupdef.specs.Record.{conn_end, record_of}
use Rattle.ix_groupdef.specs.Sent.{CanBeWritten, FramesFit}
use Rattle.ix_groupdef.specs.Setting.{Setting}
use Rattle.ix_groupdef.specs.StrayFrames.{StraysInOrder}
use Rattle.ix_groupdef.specs.Whole.{AreWhole, HasEntry, JournalsAreWhole}
use Rattle.ix_ip.specs.Packet.{PayloadsLieWithin}
use Rattle.ix_playdef.specs.Connects.{core0, is_asked_in}
use Rattle.ix_playdef.specs.Groups.{AreRecordsGiven, record_given}
use Rattle.ix_playdef.specs.Replies.{CanAllBeWritten, CanBeTold, FitsGroup, IsWhole}
use Rattle.ix_playdef.specs.Wire.{cycle_by, cycles_of}
use Rattle.ix_playdef.specs.declared.wire.Given.{Given}
use Rattle.ix_playdef.specs.declared.wire.Given.TheVariants.{Frame, Time}
use Rattle.ix_playdef.proofs.Short.{cycles-short, strays-short}
use Rattle.ix_tcpdef.specs.Sound.{IsInRange}
use Rattle.ix_tcpdef.specs.declared.types.Output.{Output}

outputs-fit : (os : List Output) → AllByRecursion CanBeWritten os → All CanBeWritten os
outputs-fit [] h = All-nil CanBeWritten
outputs-fit (o ∷ os) h = All-cons CanBeWritten o os h.0 (outputs-fit os h.1)

abbrev CanEntry : JournalEntry → Type 0
CanEntry e = All CanBeWritten e.outputs

entries-fit : (es : List JournalEntry) → AllByRecursion (λ e. AllByRecursion CanBeWritten e.outputs) es → All CanEntry es
entries-fit [] h = All-nil CanEntry
entries-fit (e ∷ es) h = All-cons CanEntry e es (outputs-fit e.outputs h.0) (entries-fit es h.1)

conns-fit : (env : Setting) (ls : List Life) → AllByRecursion (λ l. AllByRecursion (λ e. AllByRecursion CanBeWritten e.outputs) l.journal) ls
    → All CanAllBeWritten (map (conn_end env) ls)
unfolding conn_end
conns-fit env [] h = All-nil CanAllBeWritten
conns-fit env (l ∷ ls) h = All-cons CanAllBeWritten (conn_end env l) (map (conn_end env) ls) (entries-fit l.journal h.0) (conns-fit env ls h.1)

-- ## Each cycle of a play has an entry
one-entered : (core : CoreId) (g : Given) → AllByRecursion HasEntry (cycle_by core g)
one-entered core (Time w t) = (tt, tt)
one-entered core (Frame taken) = step (nat_lt BUFFER_BYTES (length taken.frame)) where
  step : (b : Bool) → AllByRecursion HasEntry (if b then [] else Frames core (taken ∷ []) ∷ [])
  step true = tt
  step false = (omega arith, tt)

both-entered : (cs ds : List Cycle) → AllByRecursion HasEntry cs → AllByRecursion HasEntry ds → AllByRecursion HasEntry (cs ++ ds)
both-entered [] ds front back = back
both-entered (c ∷ cs) ds front back = (front.0, both-entered cs ds front.1 back)

all-entered : (core : CoreId) (gs : List Given) → AllByRecursion HasEntry (cycles_of core gs)
all-entered core [] = tt
all-entered core (g ∷ gs) = both-entered (cycle_by core g) (cycles_of core gs) (one-entered core g) (all-entered core gs)

conns-whole : (env : Setting) (ls : List Life) → AllByRecursion (λ l. AreWhole l.journal l.ends) ls → All IsWhole (map (conn_end env) ls)
unfolding conn_end
conns-whole env [] h = All-nil IsWhole
conns-whole env (l ∷ ls) h = All-cons IsWhole (conn_end env l) (map (conn_end env) ls) h.0 (conns-whole env ls h.1)

-- ## A record
pub told-of : (env : Setting) (asked : List Connect) (given : List Given) → IsInRange env.cfg → FramesFit → JournalsAreWhole → CanBeTold (record_of env (run env asked (cycles_of core0 given)))
told-of env asked given range fit whole =
    record {
      written = conns-fit env (run env asked (cycles_of core0 given)).lives (fit env asked (cycles_of core0 given) range);
      whole = conns-whole env (run env asked (cycles_of core0 given)).lives (whole env asked (cycles_of core0 given) (all-entered core0 given));
    }

record-fits : (env : Setting) (connects : List Connect) (group : ℕ) (given : List Given) → IsInRange env.cfg → length env.local.mac ≤ 6
    → FramesFit → JournalsAreWhole → StraysInOrder → PayloadsLieWithin → FitsGroup (record_given env connects group given)
record-fits env connects group given range mac fit whole order within =
    record {
      told = told-of env asked given range fit whole;
      strays = strays-short within env (run env asked (cycles_of core0 given)).strays (accepted (cycles_of core0 given)) mac (cycles-short core0 given)
          (order env asked (cycles_of core0 given));
    }
  where
    asked : List Connect
    asked = filter (is_asked_in env.local.ip group) connects

pub records-fit : (env : Setting) (connects : List Connect) (lists : List (List Given)) (records : List GroupRecord) → IsInRange env.cfg → length env.local.mac ≤ 6
    → FramesFit → JournalsAreWhole → StraysInOrder → PayloadsLieWithin → AreRecordsGiven env connects lists records → All FitsGroup records
records-fit env connects lists records range mac fit whole order within are group d lt =
    subst FitsGroup (sym (are.each group d lt)) (record-fits env connects group (get_or lists group []) range mac fit whole order within)
