-- The body and the FIN of a segment: RFC 9293, section 3.10.7.4, seventh and eighth check.
use Rattle.std.specs.Prelude.{ℕ, ◌+◌, ◌-◌, Bool, true, false, nat_lt, nat_le, ◌&&◌, ◌||◌, ◌==◌, not, if◌then◌else◌, List, [], ◌∷◌, ◌++◌, length, take, drop, min, Some, ℤ, pos, ◌+ℤ◌}
use Rattle.std.specs.List.{list_all}
use Rattle.ix_base.specs.declared.segment.SegHead.{SegHead}
use Rattle.ix_base.specs.declared.segment.Seg.{Seg}
use Rattle.ix_base.specs.declared.id.WireNo.{WireNo}
use Rattle.ix_base.specs.Sequence.{is_past, past_of, behind_of, is_next}
use Rattle.ix_base.specs.Flags.{has_flag}
use Rattle.ix_tcpdef.specs.Ticks.{later}
use Rattle.ix_tcpdef.specs.Connection.{rcv_nxt, rcv_wnd, seq_of, on, gives, tells}
use Rattle.ix_tcpdef.specs.Frames.{ack_frame}
use Rattle.ix_tcpdef.specs.declared.types.Cfg.{Cfg}
use Rattle.ix_tcpdef.specs.declared.types.State.{State}
use Rattle.ix_tcpdef.specs.declared.types.State.TheVariants as st
use Rattle.ix_tcpdef.specs.declared.types.Connection.{Connection}
use Rattle.ix_tcpdef.specs.declared.types.HeldSegment.{HeldSegment}
use Rattle.ix_tcpdef.specs.declared.types.Job.{Job}
use Rattle.ix_tcpdef.specs.declared.types.Octets.{Octets}
use Rattle.ix_tcpdef.specs.declared.types.Output.TheVariants as outputs
use Rattle.ix_tcpdef.specs.declared.types.Told.TheVariants as told
use Rattle.ix_base.specs.declared.segment.TheConstants.{FIN}

-- ## Seventh: process the segment text
-- the octets of a body that lie in the window, where its first stands at this distance from RCV.NXT
unfoldable pub octets : ℕ → ℕ → ℤ → ℕ → List ℕ → Octets
octets rcv window seq at body =
    record {
      at = rcv + past_of seq;
      from = at + min (behind_of seq) (length body);
      bytes = take (window - past_of seq) (drop (behind_of seq) body);
      whole = nat_le (length body + past_of seq) (window + behind_of seq);
    }

-- Octets at RCV.NXT are delivered. Of a connection that the application closed they are thrown away; before it is accepted they are kept.
unfoldable pub delivered : Octets → WireNo → Job → Job
delivered o w j =
    let moved : Connection = record j.connection { rcv = j.connection.rcv + length o.bytes; ack_owed = true } in
    if moved.shut
    then on j moved
    else (let kept : Job = on j (record moved {
      unread = moved.unread + length o.bytes;
      pieces = moved.pieces ++ record { w = w; from = o.from; bytes = o.bytes; told = moved.accepted } ∷ [];
    }) in
    if moved.accepted
    then gives kept (outputs.Told (told.Recv w o.from (length o.bytes)))
    else kept)

-- what is left of a held segment where this position is expected
abbrev pub rest_of : HeldSegment → ℕ → Octets
rest_of s rcv = record { at = rcv; from = s.from + (rcv - s.at); bytes = drop (rcv - s.at) s.bytes; whole = true }

abbrev pub holding : List HeldSegment → Job → Job
holding held j = on j (record j.connection { held = held })

-- The held segments that begin at or before RCV.NXT are taken, by rising position. One whose bytes end at or before it is dropped with its
-- FIN. fin: whether a FIN stands behind the bytes that were delivered last.
unfoldable pub filled : List HeldSegment → Bool → Job → Job × Bool
filled [] fin j = (j, fin)
filled (s ∷ rest) fin j =
    if nat_lt j.connection.rcv s.at
    then (j, fin)
    else if nat_le (s.at + length s.bytes) j.connection.rcv
    then filled rest fin (holding rest j)
    else filled rest s.fin (delivered (rest_of s j.connection.rcv) s.w (holding rest j))

-- whether two runs of octets share none
abbrev pub is_apart : Octets → HeldSegment → Bool
is_apart o s = nat_le (o.at + length o.bytes) s.at || nat_le (s.at + length s.bytes) o.at

abbrev pub held_among : HeldSegment → List HeldSegment → List HeldSegment
held_among new [] = new ∷ []
held_among new (s ∷ rest) = if nat_lt new.at s.at then new ∷ s ∷ rest else s ∷ held_among new rest

-- Octets behind a hole are held with their FIN, where fewer than eight segments are held and they overlap none of them.
unfoldable pub waiting : Octets → WireNo → Bool → Connection → Connection
waiting o w fin c =
    if nat_lt (length c.held) 8 && list_all (is_apart o) c.held
    then record c { held = held_among (record { at = o.at; w = w; from = o.from; bytes = o.bytes; fin = fin }) c.held }
    else c

-- What octets in the window make: the job, and whether a FIN stands at RCV.NXT now.
unfoldable pub received : Cfg → Octets → WireNo → Bool → Job → Job × Bool
received cfg o w fin j =
    if o.at == j.connection.rcv
    then filled j.connection.held fin (delivered o w j)
    else (gives (on j (waiting o w fin j.connection)) (ack_frame cfg j.connection), false)

abbrev pub takes_body : State → Bool
takes_body st.Established = true
takes_body st.FinWait1 = true
takes_body st.FinWait2 = true
takes_body _ = false

-- whether the segment's own FIN stands at RCV.NXT, behind its body
abbrev pub ends_next : Seg → Connection → Bool
ends_next seg w = has_flag seg.head.flags FIN && is_next (seq_of w seg.head +ℤ pos (length seg.body))

unfoldable pub body : Cfg → WireNo → Seg → Job → Job × Bool
body cfg w seg j =
    if not (takes_body j.connection.state)
    then (j, ends_next seg j.connection)
    else (let o : Octets = octets j.connection.rcv (rcv_wnd cfg j.connection) (seq_of j.connection seg.head) seg.head.at seg.body in
    if length o.bytes == 0
    then (j, ends_next seg j.connection)
    else received cfg o w (has_flag seg.head.flags FIN && o.whole) j)

-- ## Eighth: check the FIN bit
abbrev pub past_fin : Connection → Connection
past_fin w = record w { rcv = w.rcv + 1; ack_owed = true; held = [] }

-- The peer's stream ends at RCV.NXT; w is the connection with the FIN behind it.
abbrev pub fin_taken_in : State → Cfg → ℕ → Job → Connection → Job
fin_taken_in st.Established cfg now j w = tells (on j (record w { state = st.CloseWait })) told.RecvEnd
fin_taken_in st.FinWait1 cfg now j w = on j (record w { state = st.Closing })
fin_taken_in st.FinWait2 cfg now j w = on j (record w { state = st.TimeWait; deadline = Some (later now cfg.time_wait) })
fin_taken_in _ cfg now j w = on j w

unfoldable pub fin_taken : Cfg → ℕ → Job → Job
fin_taken cfg now j = fin_taken_in j.connection.state cfg now j (past_fin j.connection)

-- A FIN at RCV.NXT is taken. One without a body past it is answered, and not kept.
unfoldable pub finished : Cfg → SegHead → ℕ → Bool → Job → Job
finished cfg h now stands j =
    if stands
    then fin_taken cfg now j
    else if has_flag h.flags FIN && (h.len == 0) && is_past (rcv_nxt j.connection) h.seq
    then gives j (ack_frame cfg j.connection)
    else j

unfoldable pub text_and_fin : Cfg → WireNo → Seg → ℕ → Job → Job
text_and_fin cfg w seg now j =
    let b : Job × Bool = body cfg w seg j in
    finished cfg seg.head now b.1 b.0
