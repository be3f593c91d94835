-- What a group leaves of the cycles that are read can be written and told.
use Rattle.std.proofs.Common.{◌≡◌, ◌≤◌, sym, subst, List, [], ◌∷◌, length, map}
use Rattle.std.specs.Prelude.{All}
use Rattle.std.specs.List.{AllByRecursion}
use Rattle.std.proofs.lemmas.List.Elements.{All-append, All-cons, All-nil}
use Rattle.ix_groupdef.specs.declared.types.GroupRecord.{GroupRecord}
use Rattle.ix_groupdef.specs.declared.types.JournalEntry.{JournalEntry}
use Rattle.ix_groupdef.specs.declared.types.Taken.{Taken}
use Rattle.ix_groupdef.specs.Group.{Connect, run}
use Rattle.ix_groupdef.specs.Life.{Life}
use Rattle.ix_groupdef.specs.Places.{accepted}
use Rattle.ix_groupdef.specs.Record.{conn_end, record_of}
use Rattle.ix_groupdef.specs.Sent.{CanBeWritten, FramesFit}
use Rattle.ix_groupdef.specs.Setting.{Setting}
use Rattle.ix_groupdef.specs.StrayFrames.{StraysInOrder}
use Rattle.ix_groupdef.specs.Whole.{AreWhole, HasEntry, JournalsAreWhole}
use Rattle.ix_ip.specs.Packet.{PayloadsLieWithin}
use Rattle.ix_playdef.specs.Replies.{CanAllBeWritten, FitsGroup, IsWhole}
use Rattle.ix_tcpdef.specs.Sound.{IsInRange}
use Rattle.ix_tcpdef.specs.declared.types.Output.{Output}
use Rattle.ix_told.specs.declared.cycle.ReadCycle.{ReadCycle}
use Rattle.ix_told.specs.declared.cycle.ReadCycle.TheVariants as read
use Rattle.ix_told.specs.Reading.{cycle_of}
use Rattle.ix_told.proofs.StrayLaws.{strays-short}

-- ## The cycles that are read
entered : (cs : List ReadCycle) → AllByRecursion HasEntry (map cycle_of cs)
entered [] = tt
entered (read.Frames batch ∷ cs) = (batch.some, entered cs)
entered (read.Time core w t ∷ cs) = (tt, entered cs)

abbrev IsTaken : Taken → Type 0
IsTaken t = length t.frame ≤ 2048

short : (cs : List ReadCycle) → All IsTaken (accepted (map cycle_of cs))
short [] = All-nil IsTaken
short (read.Frames batch ∷ cs) = All-append IsTaken batch.frames (accepted (map cycle_of cs)) batch.short (short cs)
short (read.Time core w t ∷ cs) = short cs

-- ## What connections give
outputs-fit : (os : List Output) → AllByRecursion CanBeWritten os → All CanBeWritten os
outputs-fit [] h = All-nil CanBeWritten
outputs-fit (o ∷ os) h = All-cons CanBeWritten o os h.0 (outputs-fit os h.1)

abbrev CanEntry : JournalEntry → Type 0
CanEntry e = All CanBeWritten e.outputs

entries-fit : (es : List JournalEntry) → AllByRecursion (λ e. AllByRecursion CanBeWritten e.outputs) es → All CanEntry es
entries-fit [] h = All-nil CanEntry
entries-fit (e ∷ es) h = All-cons CanEntry e es (outputs-fit e.outputs h.0) (entries-fit es h.1)

conns-fit : (env : Setting) (ls : List Life) → AllByRecursion (λ l. AllByRecursion (λ e. AllByRecursion CanBeWritten e.outputs) l.journal) ls
    → All CanAllBeWritten (map (conn_end env) ls)
unfolding conn_end
conns-fit env [] h = All-nil CanAllBeWritten
conns-fit env (l ∷ ls) h = All-cons CanAllBeWritten (conn_end env l) (map (conn_end env) ls) (entries-fit l.journal h.0) (conns-fit env ls h.1)

conns-whole : (env : Setting) (ls : List Life) → AllByRecursion (λ l. AreWhole l.journal l.ends) ls → All IsWhole (map (conn_end env) ls)
unfolding conn_end
conns-whole env [] h = All-nil IsWhole
conns-whole env (l ∷ ls) h = All-cons IsWhole (conn_end env l) (map (conn_end env) ls) h.0 (conns-whole env ls h.1)

-- ## A record
pub left-fits : FramesFit → JournalsAreWhole → StraysInOrder → PayloadsLieWithin → (env : Setting) (asked : List Connect) (cs : List ReadCycle) (left : GroupRecord)
    → IsInRange env.cfg → length env.local.mac ≤ 6 → left ≡ record_of env (run env asked (map cycle_of cs)) → FitsGroup left
left-fits fit whole order within env asked cs left range mac is =
    subst FitsGroup (sym is)
    (record {
      told = record {
        written = conns-fit env (run env asked (map cycle_of cs)).lives (fit env asked (map cycle_of cs) range);
        whole = conns-whole env (run env asked (map cycle_of cs)).lives (whole env asked (map cycle_of cs) (entered cs));
      };
      strays = strays-short within env (run env asked (map cycle_of cs)).strays (accepted (map cycle_of cs)) mac (short cs) (order env asked (map cycle_of cs));
    })
