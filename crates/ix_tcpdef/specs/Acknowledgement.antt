-- The acknowledgement of a segment: RFC 9293, section 3.10.7.4, fifth check, and RFC 5681.
use Rattle.std.specs.Prelude.{ℕ, ◌+◌, ◌-◌, ◌*◌, ◌/◌, Bool, true, false, nat_lt, ◌&&◌, ◌||◌, ◌==◌, not, if◌then◌else◌, min, max, Some, None}
use Rattle.ix_base.specs.declared.segment.SegHead.{SegHead}
use Rattle.ix_base.specs.Sequence.{ahead, is_past, is_at_or_past}
use Rattle.ix_base.specs.Flags.{has_flag}
use Rattle.ix_tcpdef.specs.Ticks.{later}
use Rattle.ix_tcpdef.specs.Connection.{snd_una, snd_nxt, acked_data, room, grown, loss_threshold, is_syn_received, is_time_wait, on, gives, tells, ended}
use Rattle.ix_tcpdef.specs.Frames.{ack_frame, reset_frame}
use Rattle.ix_tcpdef.specs.Arrival.{Next, Goes, Stops, ◌>>=◌}
use Rattle.ix_tcpdef.specs.declared.types.Cfg.{Cfg}
use Rattle.ix_tcpdef.specs.declared.types.State.{State}
use Rattle.ix_tcpdef.specs.declared.types.State.TheVariants as st
use Rattle.ix_tcpdef.specs.declared.types.Connection.{Connection}
use Rattle.ix_tcpdef.specs.declared.types.Job.{Job}
use Rattle.ix_tcpdef.specs.declared.types.Output.TheVariants as outputs
use Rattle.ix_tcpdef.specs.declared.types.Told.TheVariants as told
use Rattle.ix_base.specs.declared.segment.TheConstants.{FIN}

-- ## SYN-RECEIVED
-- the peer has acknowledged the SYN-ACK
abbrev pub established : SegHead → Connection → Connection
established h w =
    record w {
      state = st.Established;
      una = w.una + ahead (snd_una w) h.ack;
      wnd = h.window;
      wl1 = h.seq;
      wl2 = h.ack;
      deadline = None;
      expiries = 0;
      knocked = true;
    }

unfoldable pub establishing : SegHead → Job → Next
establishing h j =
    if is_past (snd_una j.connection) h.ack && not (is_past (snd_nxt j.connection) h.ack)
    then Goes (gives (on j (established h j.connection)) (outputs.Told told.Knock))
    else Stops (gives j (reset_frame j.connection h))

-- ## Later states
-- An acknowledgement of what was not sent is answered, and the segment is dropped.
unfoldable pub too_far : Cfg → SegHead → Job → Next
too_far cfg h j =
    if is_past (snd_nxt j.connection) h.ack then Stops (gives j (ack_frame cfg j.connection)) else Goes j

-- RFC 5681, section 2
abbrev pub is_duplicate : SegHead → Connection → Bool
is_duplicate h w =
    (h.ack == snd_una w) && nat_lt w.una w.nxt && (h.len == 0) && not (has_flag h.flags FIN) && (h.window == w.wnd)

-- Fast retransmit at the third duplicate, and fast recovery from then on (RFC 5681, section 3.2). The count stands still at its type's end.
unfoldable pub duplicated : SegHead → Connection → Connection
duplicated h w =
    if not (is_duplicate h w)
    then w
    else if w.recovering
    then record w { cwnd = grown w.cwnd w.mss }
    else if w.dups == 2
    then record w { dups = 3; ssthresh = loss_threshold w; cwnd = grown (loss_threshold w) (3 * w.mss); recovering = true; resend = true }
    else record w { dups = min (w.dups + 1) 255 }

-- the congestion window after so many octets were acknowledged anew: the end of fast recovery, slow start, or congestion avoidance
-- (RFC 5681, sections 3.1 and 3.2)
abbrev pub opened_window : ℕ → Connection → ℕ
opened_window octets w =
    if w.recovering
    then w.ssthresh
    else if nat_lt w.cwnd w.ssthresh
    then grown w.cwnd (min octets w.mss)
    else grown w.cwnd (max 1 (w.mss * w.mss / w.cwnd))

-- SND.UNA advances.
unfoldable pub advanced : Cfg → SegHead → ℕ → Connection → Connection
advanced cfg h now w =
    if is_past (snd_una w) h.ack
    then (let octets : ℕ = ahead (snd_una w) h.ack in
    record w {
      cwnd = opened_window octets w;
      recovering = false;
      dups = 0;
      resend = false;
      una = w.una + octets;
      expiries = 0;
      deadline = if nat_lt (w.una + octets) w.nxt then Some (later now cfg.rto) else None;
    })
    else w

-- whether the segment is newer than the one that the window was taken from
abbrev pub is_newer : SegHead → Connection → Bool
is_newer h w = is_past w.wl1 h.seq || ((w.wl1 == h.seq) && is_at_or_past w.wl2 h.ack)

-- the deadline of the persist timer is cleared: one that stands while nothing is in flight and the state is not TIME-WAIT
abbrev pub unpersisted : Connection → Connection
unpersisted w = record w { expiries = 0; deadline = if is_time_wait w.state then w.deadline else None }

-- The window is taken. before: SND.UNA as it was before this segment.
unfoldable pub windowed : SegHead → ℕ → Connection → Connection
windowed h before w =
    if not (is_at_or_past before h.ack && is_newer h w)
    then w
    else if nat_lt 0 h.window && (w.una == w.nxt)
    then unpersisted (record w { wnd = h.window; wl1 = h.seq; wl2 = h.ack })
    else record w { wnd = h.window; wl1 = h.seq; wl2 = h.ack }

-- told of n bytes that were acknowledged, or of room that was waited for
unfoldable pub told_sent : ℕ → Job → Job
told_sent n j =
    if nat_lt 0 n || (j.connection.wants && nat_lt 0 (room j.connection))
    then tells (on j (record j.connection { wants = false })) (told.Sent n (room j.connection))
    else j

-- The own FIN is acknowledged.
abbrev pub fin_acked_in : State → Cfg → ℕ → Job → Next
fin_acked_in st.FinWait1 cfg now j = Goes (on j (record j.connection { state = st.FinWait2 }))
fin_acked_in st.Closing cfg now j =
    Goes (on j (record j.connection { state = st.TimeWait; deadline = Some (later now cfg.time_wait) }))
fin_acked_in st.LastAck cfg now j = Stops (on j (ended j.connection))
fin_acked_in _ cfg now j = Goes j

unfoldable pub fin_acked : Cfg → ℕ → Job → Next
fin_acked cfg now j =
    if j.connection.fin_sent && (j.connection.una == j.connection.nxt) then fin_acked_in j.connection.state cfg now j else Goes j

-- what an acknowledgement of something that was sent makes of the numbers
abbrev pub acked : Cfg → SegHead → ℕ → Connection → Connection
acked cfg h now w = windowed h (snd_una w) (advanced cfg h now (duplicated h w))

unfoldable pub synchronized : Cfg → SegHead → ℕ → Job → Next
synchronized cfg h now j = do
  j ← too_far cfg h j
  let w : Connection = acked cfg h now j.connection
  fin_acked cfg now (told_sent (acked_data w - acked_data j.connection) (on j w))

unfoldable pub acknowledgement : Cfg → SegHead → ℕ → Job → Next
acknowledgement cfg h now j =
    if is_syn_received j.connection.state then establishing h j else synchronized cfg h now j
