-- Each part that an application was told names one of the frames that its group took.
use Rattle.std.proofs.Common.{◌≡◌, ℕ, ◌+◌, ◌<◌, ◌^◌, refl, sym, subst, Bool, true, false, List, [], ◌∷◌, ◌++◌, length, map, arith, ◌⊎◌, inl, inr}
use Rattle.std.specs.Prelude.{All, if◌then◌else◌, ◌==◌, ◌||◌, Result, Ok, Err}
use Rattle.std.specs.List.{AllByRecursion, list_any}
use Rattle.std.proofs.lemmas.Bool.Decides.{nat_tests}
use Rattle.std.proofs.lemmas.List.Elements.{All-cons, All-nil}
use Rattle.ix_base.specs.declared.frame.Disposition.{Disposition}
use Rattle.ix_base.specs.declared.id.WireNo.{WireNo}
use Rattle.ix_base.specs.declared.segment.Seg.{Seg}
use Rattle.ix_groupdef.specs.declared.types.JournalEntry.{JournalEntry}
use Rattle.ix_groupdef.specs.declared.types.Taken.{Taken}
use Rattle.ix_groupdef.specs.Group.{read_of}
use Rattle.ix_groupdef.specs.Laws.{IsRun, moments, outputs_in}
use Rattle.ix_groupdef.specs.Life.{Life}
use Rattle.ix_groupdef.specs.Places.{Heard, HeardPart, IsPartOf, segment_in, segment_read, segments_in, segments_of}
use Rattle.ix_groupdef.specs.Record.{conn_end}
use Rattle.ix_groupdef.specs.Setting.{Setting}
use Rattle.ix_groupdef.specs.Told.{IsFrame}
use Rattle.ix_side.specs.Side.{side_of}
use Rattle.ix_tcpdef.specs.Calls.{recv_of}
use Rattle.ix_tcpdef.specs.Delivered.{Arrived, CameInOrder, IsTold, RunsDeliver, after, all_recvs, recv_from, recv_in, recvs, told_pieces}
use Rattle.ix_tcpdef.specs.Laws.{AreWritten}
use Rattle.ix_tcpdef.specs.Needs.{IsFramed}
use Rattle.ix_tcpdef.specs.Sound.{IsInRange}
use Rattle.ix_tcpdef.specs.Step.{Moment, last, listening, run_outputs}
use Rattle.ix_tcpdef.specs.declared.types.Connection.{Connection}
use Rattle.ix_tcpdef.specs.declared.types.Input.{Input}
use Rattle.ix_tcpdef.specs.declared.types.Input.TheVariants as inputs
use Rattle.ix_tcpdef.specs.declared.types.Output.{Output}
use Rattle.ix_tcpdef.specs.declared.types.Output.TheVariants as outputs
use Rattle.ix_tcpdef.specs.declared.types.Piece.{Piece}
use Rattle.ix_tcpdef.specs.declared.types.Told.{Told}
use Rattle.ix_tcpdef.specs.declared.types.Told.TheVariants as told
use Rattle.ix_tellable.specs.Tellable.{NamesFrame, NamesFrames, has_number}
use Rattle.ix_tellable.proofs.Framed.{framed_frame, windowed_frame}
use Rattle.ix_tellable.proofs.Obeys.{Obeys}

-- ## Segments of accepted frames
abbrev IsRightHeard : Heard → Type 0
IsRightHeard h = IsFramed h.seg × (h.seg.head.window < 2 ^ 16)

right-part : (xs ys : List Heard) → IsPartOf xs ys → AllByRecursion IsRightHeard ys → AllByRecursion IsRightHeard xs
right-part [] ys p q = tt
right-part (x ∷ xs) [] p q = absurd p
right-part (x ∷ xs) (y ∷ ys) (inl p) q = (subst IsRightHeard (sym p.0) q.0, right-part xs ys p.1 q.1)
right-part (x ∷ xs) (y ∷ ys) (inr p) q = right-part (x ∷ xs) ys p q.1

right-segments : (env : Setting) (ts : List Taken) → AllByRecursion IsFrame ts → AllByRecursion IsRightHeard (segments_of env ts)
right-segments env [] p = tt
right-segments env (t ∷ ts) p = by_case (read_of env t.frame) refl (right-segments env ts p.1)
  where
    by_case : (x : Result Seg Disposition) → read_of env t.frame ≡ x → AllByRecursion IsRightHeard (segments_of env ts) → AllByRecursion IsRightHeard (segment_read x t ++ segments_of env ts)
    by_case (Ok s) is q = ((framed_frame side_of env.local env.check t.frame s is p.0.size, windowed_frame side_of env.local env.check t.frame s is p.0.bytes), q)
    by_case (Err kind) is q = q

written-one : (i : Input) (clock : ℕ) (es : List JournalEntry) → AllByRecursion IsRightHeard (segment_in i ++ segments_in es) → (AllByRecursion IsRightHeard (segments_in es) → AreWritten (moments es))
    → AreWritten (record { input = i; clock = clock } ∷ moments es)
written-one (inputs.Segment v s) clock es p k = (p.0.0, p.0.1, k p.1)
written-one inputs.Timer clock es p k = (tt, tt, k p)
written-one (inputs.Call ask) clock es p k = (tt, tt, k p)
written-one inputs.Flush clock es p k = (tt, tt, k p)

are_written : (es : List JournalEntry) → AllByRecursion IsRightHeard (segments_in es) → AreWritten (moments es)
are_written [] p = tt
are_written (e ∷ es) p = written-one e.input e.clock es p (λ q. are_written es q)

-- ## The wire number of a segment that came is that of a frame
abbrev IsTaken : List Taken → WireNo → Type 0
IsTaken ts w = list_any (has_number w.0) ts ≡ true

abbrev AreTaken : List Taken → List Heard → Type 0
AreTaken ts hs = AllByRecursion (λ (h : Heard). IsTaken ts h.w) hs

any-here : (b c : Bool) → b ≡ true → (b || c) ≡ true
any-here true c e = refl
any-here false c e = absurd (cc)

any-there : (b c : Bool) → c ≡ true → (b || c) ≡ true
any-there true c e = refl
any-there false c e = e

same_number : (w : WireNo) → (w.0 == w.0) ≡ true
same_number w = grind (arith, nat_tests)

taken-more : (t : Taken) (ts : List Taken) (hs : List Heard) → AreTaken ts hs → AreTaken (t ∷ ts) hs
taken-more t ts [] p = tt
taken-more t ts (h ∷ hs) p = (any-there (has_number h.w.0 t) (list_any (has_number h.w.0) ts) p.0, taken-more t ts hs p.1)

taken-segments : (env : Setting) (ts : List Taken) → AreTaken ts (segments_of env ts)
taken-segments env [] = tt
taken-segments env (t ∷ ts) = by_case (read_of env t.frame) (taken-more t ts (segments_of env ts) (taken-segments env ts))
  where
    by_case : (x : Result Seg Disposition) → AreTaken (t ∷ ts) (segments_of env ts) → AreTaken (t ∷ ts) (segment_read x t ++ segments_of env ts)
    by_case (Ok s) q = (any-here (has_number t.w.0 t) (list_any (has_number t.w.0) ts) (same_number t.w), q)
    by_case (Err kind) q = q

taken-part : (ts : List Taken) (xs ys : List Heard) → IsPartOf xs ys → AreTaken ts ys → AreTaken ts xs
taken-part ts [] ys p q = tt
taken-part ts (x ∷ xs) [] p q = absurd p
taken-part ts (x ∷ xs) (y ∷ ys) (inl p) q = (subst (λ (h : Heard). IsTaken ts h.w) (sym p.0) q.0, taken-part ts xs ys p.1 q.1)
taken-part ts (x ∷ xs) (y ∷ ys) (inr p) q = taken-part ts (x ∷ xs) ys p q.1

taken-input : (ts : List Taken) (i : Input) (es : List JournalEntry) (w : WireNo) (seg : Seg) → AreTaken ts (segment_in i ++ segments_in es) → (i ≡ inputs.Segment w seg) → IsTaken ts w
taken-input ts (inputs.Segment v s) es w seg p is =
    let same : v ≡ w = cc in
    subst (IsTaken ts) same p.0
taken-input ts inputs.Timer es w seg p is = absurd (cc)
taken-input ts (inputs.Call ask) es w seg p is = absurd (cc)
taken-input ts inputs.Flush es w seg p is = absurd (cc)

taken-rest : (ts : List Taken) (i : Input) (es : List JournalEntry) → AreTaken ts (segment_in i ++ segments_in es) → AreTaken ts (segments_in es)
taken-rest ts (inputs.Segment v s) es p = p.1
taken-rest ts inputs.Timer es p = p
taken-rest ts (inputs.Call ask) es p = p
taken-rest ts inputs.Flush es p = p

-- what came behind some moments came among them, or by an entry
arrived-taken : (ts : List Taken) (past : List Moment) (es : List JournalEntry) (w : WireNo) (seg : Seg) → AreTaken ts (segments_in es)
    → (Arrived past w seg → IsTaken ts w) → Arrived (after past (moments es)) w seg → IsTaken ts w
arrived-taken ts past [] w seg p before a = before a
arrived-taken ts past (e ∷ es) w seg p before a =
    arrived-taken ts (record { input = e.input; clock = e.clock } ∷ past) es w seg (taken-rest ts e.input es p) here a
  where
    here : (e.input ≡ inputs.Segment w seg) ⊎ Arrived past w seg → IsTaken ts w
    here (inl is) = taken-input ts e.input es w seg p is
    here (inr earlier) = before earlier

-- ## Events
pieces-named : (ts : List Taken) (past : List Moment) (irs at : ℕ) (ps : List Piece) → ((w : WireNo) (seg : Seg) → Arrived past w seg → IsTaken ts w)
    → CameInOrder past irs at ps → AllByRecursion (NamesFrame ts) (map recv_of ps)
pieces-named ts past irs at [] taken came = tt
pieces-named ts past irs at (p ∷ ps) taken came = (taken p.w came.0.seg came.0.arrived, pieces-named ts past irs (at + length p.bytes) ps taken came.1)

told-named : (ts : List Taken) (past : List Moment) (w : Connection) → ((v : WireNo) (seg : Seg) → Arrived past v seg → IsTaken ts v)
    → CameInOrder past w.irs 1 w.pieces → AllByRecursion (NamesFrame ts) (map recv_of (told_pieces w))
told-named ts past w taken came = by_case w.accepted
  where
    by_case : (b : Bool) → AllByRecursion (NamesFrame ts) (map recv_of (if b then w.pieces else []))
    by_case true = pieces-named ts past w.irs 1 w.pieces taken came
    by_case false = tt

both-named : (ts : List Taken) (xs ys : List Output) → AllByRecursion (NamesFrame ts) (xs ++ ys) → AllByRecursion (NamesFrame ts) xs × AllByRecursion (NamesFrame ts) ys
both-named ts [] ys p = (tt, p)
both-named ts (x ∷ xs) ys p = let q = both-named ts xs ys p.1 in ((p.0, q.0), q.1)

named-in : (ts : List Taken) (t : Told) → AllByRecursion (NamesFrame ts) (recv_in t) → NamesFrame ts (outputs.Told t)
named-in ts told.Knock p = tt
named-in ts told.ConnectedUp p = tt
named-in ts told.ConnectedRefused p = tt
named-in ts told.ConnectedTimeout p = tt
named-in ts (told.Recv w from len) p = p.0
named-in ts told.RecvEnd p = tt
named-in ts (told.Sent bytes window) p = tt
named-in ts told.DeadReset p = tt
named-in ts told.DeadTimeout p = tt

named-from : (ts : List Taken) (o : Output) → AllByRecursion (NamesFrame ts) (recv_from o) → NamesFrame ts o
named-from ts (outputs.Told t) p = named-in ts t p
named-from ts (outputs.Frame seg) p = tt
named-from ts (outputs.Ret r) p = tt

outputs-named : (ts : List Taken) (os : List Output) → AllByRecursion (NamesFrame ts) (recvs os) → All (NamesFrame ts) os
outputs-named ts [] p = All-nil (NamesFrame ts)
outputs-named ts (o ∷ os) p =
    let q = both-named ts (recv_from o) (recvs os) p in
    All-cons (NamesFrame ts) o os (named-from ts o q.0) (outputs-named ts os q.1)

abbrev AllNamed : List Taken → JournalEntry → Type 0
AllNamed ts e = All (NamesFrame ts) e.outputs

journal-named : (ts : List Taken) (es : List JournalEntry) → AllByRecursion (NamesFrame ts) (all_recvs (outputs_in es)) → All (AllNamed ts) es
journal-named ts [] p = All-nil (AllNamed ts)
journal-named ts (e ∷ es) p =
    let q = both-named ts (recvs e.outputs) (all_recvs (outputs_in es)) p in
    All-cons (AllNamed ts) e es (outputs-named ts e.outputs q.0) (journal-named ts es q.1)

-- ## Each connection
life-named : RunsDeliver → (env : Setting) (ts : List Taken) (l : Life) → IsInRange env.cfg → AllByRecursion IsFrame ts → Obeys env.cfg l → IsRun l → HeardPart (segments_of env ts) l → All (AllNamed ts) l.journal
life-named deliver env ts l range frames obeys run heard =
    let written : AreWritten (moments l.journal) = are_written l.journal (right-part (segments_in l.journal) (segments_of env ts) heard.part (right-segments env ts frames)) in
    let start : Connection = listening l.flow l.peer_mac l.iss in
    let is : IsTold (after [] (moments l.journal)) (all_recvs (run_outputs l.cfg start (moments l.journal))) (last l.cfg start (moments l.journal)) =
    deliver l.cfg l.flow l.peer_mac l.iss (moments l.journal) (subst IsInRange (sym obeys) range) written in
    let taken : AreTaken ts (segments_in l.journal) = taken-part ts (segments_in l.journal) (segments_of env ts) heard.part (taken-segments env ts) in
    let named : AllByRecursion (NamesFrame ts) (map recv_of (told_pieces (last l.cfg start (moments l.journal)))) =
    told-named ts (after [] (moments l.journal)) (last l.cfg start (moments l.journal))
    (λ w seg a. arrived-taken ts [] l.journal w seg taken (λ never. absurd never) a) is.bytes in
    journal-named ts l.journal
    (subst (λ xs. AllByRecursion (NamesFrame ts) (all_recvs xs)) (sym run.outputs) (subst (AllByRecursion (NamesFrame ts)) is.events named))

pub lives-named : RunsDeliver → (env : Setting) (ts : List Taken) (ls : List Life) → IsInRange env.cfg → AllByRecursion IsFrame ts
    → AllByRecursion (Obeys env.cfg) ls → AllByRecursion IsRun ls → AllByRecursion (HeardPart (segments_of env ts)) ls → All (NamesFrames ts) (map (conn_end env) ls)
unfolding conn_end
lives-named deliver env ts [] range frames obey runs heard = All-nil (NamesFrames ts)
lives-named deliver env ts (l ∷ ls) range frames obey runs heard =
    All-cons (NamesFrames ts) (conn_end env l) (map (conn_end env) ls) (life-named deliver env ts l range frames obey.0 runs.0 heard.0) (lives-named deliver env ts ls range frames obey.1 runs.1 heard.1)
