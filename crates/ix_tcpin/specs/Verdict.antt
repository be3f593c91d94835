-- What a verdict says of a connection, of a segment, and of what is held.
use Rattle.std.specs.Prelude.{◌≡◌, ℕ, ◌+◌, ◌-◌, ◌≤◌, ◌<◌, Bool, true, false, nat_lt, ◌&&◌, ◌==◌, not, if◌then◌else◌, List, [], ◌∷◌, ◌++◌, length, take, drop, Option, Some, None}
use Rattle.std.specs.List.{list_all}
use Rattle.ix_base.specs.declared.id.WireNo.{WireNo}
use Rattle.ix_base.specs.declared.segment.Seg.{Seg}
use Rattle.ix_base.specs.declared.segment.SegHead.{SegHead}
use Rattle.ix_base.specs.Sequence.{past_of}
use Rattle.ix_base.specs.Flags.{has_flag}
use Rattle.ix_tcpdef.specs.Connection.{is_closed, rcv_wnd, seq_of}
use Rattle.ix_tcpdef.specs.Arrival.{Next, Goes, Stops, ◌>>=◌, acceptability, reset, synchronize, unacknowledged}
use Rattle.ix_tcpdef.specs.Acknowledgement.{acknowledgement}
use Rattle.ix_tcpdef.specs.Body.{octets, is_apart, held_among, takes_body}
use Rattle.ix_tcpdef.specs.Calls.{recv_of}
use Rattle.ix_tcpdef.specs.Needs.{IsFramed}
use Rattle.ix_tcpdef.specs.declared.types.Cfg.{Cfg}
use Rattle.ix_tcpdef.specs.declared.types.State.{State}
use Rattle.ix_tcpdef.specs.declared.types.State.TheVariants as st
use Rattle.ix_tcpdef.specs.declared.types.Connection.{Connection}
use Rattle.ix_tcpdef.specs.declared.types.HeldHead.{HeldHead}
use Rattle.ix_tcpdef.specs.declared.types.HeldSegment.{HeldSegment}
use Rattle.ix_tcpdef.specs.declared.types.Job.{Job}
use Rattle.ix_tcpdef.specs.declared.types.Octets.{Octets}
use Rattle.ix_tcpdef.specs.declared.types.Output.{Output}
use Rattle.ix_tcpdef.specs.declared.types.Output.TheVariants as outputs
use Rattle.ix_tcpdef.specs.declared.types.Piece.{Piece}
use Rattle.ix_tcpdef.specs.declared.types.Tcb.{Tcb}
use Rattle.ix_tcpdef.specs.declared.types.Told.{Told}
use Rattle.ix_tcpdef.specs.declared.types.Told.TheVariants as told
use Rattle.ix_base.specs.declared.segment.TheConstants.{FIN}
use Rattle.ix_tcpdef.specs.Stands.{StandsFor}
use Rattle.ix_tcpin.specs.declared.verdict.HeldUse.{HeldUse}
use Rattle.ix_tcpin.specs.declared.verdict.HeldUse.TheVariants as uses
use Rattle.ix_tcpin.specs.declared.verdict.Take.{Take}
use Rattle.ix_tcpin.specs.declared.verdict.Take.TheVariants as takes
use Rattle.ix_tcpin.specs.declared.verdict.Verdict.{Verdict}

-- ## Of what a verdict speaks
-- a segment with this head arrives at a connection that these numbers stand for
pub record Meets (cfg : Cfg) (t : Tcb) (h : SegHead) (w : Connection) (seg : Seg) : Type 0 where
  pub stands : StandsFor cfg t w
  pub framed : IsFramed seg
  pub head : seg.head ≡ h

-- ## What is delivered
-- the part of the body between these places
abbrev pub body_piece : Bool → WireNo → Seg → ℕ → ℕ → Piece
body_piece accepted n seg from to =
    record { w = n; from = seg.head.at + from; bytes = take (to - from) (drop from seg.body); told = accepted }

abbrev pub body_pieces : Bool → WireNo → Seg → Take → List Piece
body_pieces accepted n seg (takes.Deliver from to) = body_piece accepted n seg from to ∷ []
body_pieces accepted n seg _ = []

-- the rest of a held segment from this place of its bytes on
abbrev pub held_piece : Bool → HeldSegment → ℕ → Piece
held_piece accepted s from = record { w = s.w; from = s.from + from; bytes = drop from s.bytes; told = accepted }

abbrev pub used : Bool → HeldSegment → HeldUse → List Piece
used accepted s (uses.Deliver from) = held_piece accepted s from ∷ []
used accepted s _ = []

abbrev pub held_pieces : Bool → List HeldSegment → List HeldUse → List Piece
held_pieces accepted [] us = []
held_pieces accepted (s ∷ ss) [] = []
held_pieces accepted (s ∷ ss) (u ∷ us) = used accepted s u ++ held_pieces accepted ss us

-- the body's part, and then the parts of held segments by rising position
abbrev pub pieces_of : Connection → WireNo → Seg → Verdict → List Piece
pieces_of w n seg v = body_pieces w.accepted n seg v.take ++ held_pieces w.accepted w.held v.held.items

-- ## What stays held
abbrev pub stays : HeldSegment → HeldUse → List HeldSegment
stays s uses.Keep = s ∷ []
stays s _ = []

abbrev pub kept_held : List HeldSegment → List HeldUse → List HeldSegment
kept_held [] us = []
kept_held (s ∷ ss) [] = []
kept_held (s ∷ ss) (u ∷ us) = stays s u ++ kept_held ss us

-- the position at which octets behind a hole begin
abbrev pub held_at : Connection → Seg → ℕ
held_at w seg = w.rcv + past_of (seq_of w seg.head)

-- a part of the body that is held, with its FIN where it reaches the body's end
abbrev pub body_held : Connection → WireNo → Seg → ℕ → ℕ → HeldSegment
body_held w n seg from to =
    record {
      at = held_at w seg;
      w = n;
      from = seg.head.at + from;
      bytes = take (to - from) (drop from seg.body);
      fin = has_flag seg.head.flags FIN && (to == seg.head.len);
    }

abbrev pub held_with : Connection → WireNo → Seg → Take → List HeldSegment → List HeldSegment
held_with w n seg (takes.Hold from to) kept = held_among (body_held w n seg from to) kept
held_with w n seg _ kept = kept

abbrev pub held_of : Connection → WireNo → Seg → Verdict → List HeldSegment
held_of w n seg v = held_with w n seg v.take (kept_held w.held v.held.items)

-- ## What is given, in the order of the step: what is told of the acknowledgement, the parts that are told, the reply, the end of the stream
abbrev pub is_end : Told → Bool
is_end told.RecvEnd = true
is_end _ = false

abbrev pub first_told : List Told → List Output
first_told [] = []
first_told (e ∷ es) = if is_end e then first_told es else outputs.Told e ∷ first_told es

abbrev pub last_told : List Told → List Output
last_told [] = []
last_told (e ∷ es) = if is_end e then outputs.Told e ∷ last_told es else last_told es

abbrev pub told_pieces : List Piece → List Output
told_pieces [] = []
told_pieces (p ∷ ps) = if p.told then recv_of p ∷ told_pieces ps else told_pieces ps

-- a head that is sent without a body
abbrev pub frame_of : SegHead → Output
frame_of h = outputs.Frame (record { head = h; body = [] })

abbrev pub reply_of : Option SegHead → List Output
reply_of (Some h) = frame_of h ∷ []
reply_of None = []

abbrev pub outputs_of : Connection → WireNo → Seg → Verdict → List Output
outputs_of w n seg v =
    first_told v.told.items ++ told_pieces (pieces_of w n seg v) ++ reply_of v.reply ++ last_told v.told.items

-- the connection ended in this step
abbrev pub has_ended : Connection → Connection → Bool
has_ended old new = not (is_closed old.state) && is_closed new.state

-- ## What of the body is taken
-- what a segment makes of a connection up to its body; where it is done with before, nothing of its body is taken
abbrev pub reached : Cfg → SegHead → ℕ → Job → Next
reached cfg h now j = do
  j ← acceptability cfg h now j
  j ← reset cfg h j
  j ← synchronize cfg h j
  j ← unacknowledged h j
  acknowledgement cfg h now j

-- octets that are held where there is room for them
abbrev pub is_held : Octets → Connection → Bool
is_held o c = nat_lt (length c.held) 8 && list_all (is_apart o) c.held

-- the octets in the window, as places in the body
abbrev pub octets_taken : Octets → ℕ → Connection → Take
octets_taken o from c =
    if length o.bytes == 0
    then takes.Nothing
    else if o.at == c.rcv
    then (if c.shut then takes.Discard from (from + length o.bytes) else takes.Deliver from (from + length o.bytes))
    else if is_held o c
    then takes.Hold from (from + length o.bytes)
    else takes.Nothing

abbrev pub body_taken : Cfg → Seg → Connection → Take
body_taken cfg seg c =
    if takes_body c.state
    then (let o : Octets = octets c.rcv (rcv_wnd cfg c) (seq_of c seg.head) seg.head.at seg.body in
    octets_taken o (o.from - seg.head.at) c)
    else takes.Nothing

abbrev pub taken_after : Cfg → Seg → Next → Take
taken_after cfg seg (Goes j) = body_taken cfg seg j.connection
taken_after cfg seg (Stops j) = takes.Nothing

abbrev pub taken_in : State → Cfg → Seg → ℕ → Connection → Take
taken_in st.Closed cfg seg now w = takes.Nothing
taken_in st.Listen cfg seg now w = takes.Nothing
taken_in st.SynSent cfg seg now w = takes.Nothing
taken_in _ cfg seg now w = taken_after cfg seg (reached cfg seg.head now (record { connection = w; outputs = [] }))

abbrev pub take_of : Cfg → Connection → Seg → ℕ → Take
take_of cfg w seg now = taken_in w.state cfg seg now w

-- ## Whatever the numbers stand for
abbrev pub IsWithin : ℕ → Take → Type 0
IsWithin len takes.Nothing = Unit {0}
IsWithin len (takes.Deliver from to) = (from < to) × (to ≤ len)
IsWithin len (takes.Hold from to) = (from < to) × (to ≤ len)
IsWithin len (takes.Discard from to) = (from < to) × (to ≤ len)

-- one use for each held segment, within its bytes
abbrev pub IsUseOf : HeldHead → HeldUse → Type 0
IsUseOf s (uses.Deliver from) = from ≤ s.len
IsUseOf s _ = Unit {0}

abbrev pub AreUsesOf : List HeldHead → List HeldUse → Type 0
AreUsesOf [] [] = Unit {0}
AreUsesOf [] (u ∷ us) = ⊥
AreUsesOf (s ∷ ss) [] = ⊥
AreUsesOf (s ∷ ss) (u ∷ us) = IsUseOf s u × AreUsesOf ss us

-- no part of the stream is among the events
abbrev pub is_part : Told → Bool
is_part (told.Recv w from len) = true
is_part _ = false

abbrev pub AreNoParts : List Told → Type 0
AreNoParts [] = Unit {0}
AreNoParts (e ∷ es) = (is_part e ≡ false) × AreNoParts es

-- len: the body's length; heads: what was held; queued: how many bytes were in the send queue
pub record LiesWithin (len : ℕ) (heads : List HeldHead) (queued : ℕ) (v : Verdict) : Type 0 where
  pub take : IsWithin len v.take
  pub held : AreUsesOf heads v.held.items
  pub acked : v.acked ≤ queued
  pub told : AreNoParts v.told.items
