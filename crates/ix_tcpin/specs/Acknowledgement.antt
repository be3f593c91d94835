-- The acknowledgement of a segment over numbers (RFC 9293, section 3.10.7.4, fifth check, and RFC 5681).
use Rattle.std.specs.Prelude.{ℕ, ◌+◌, ◌-◌, ◌*◌, ◌/◌, Bool, true, false, nat_lt, ◌&&◌, ◌||◌, ◌==◌, not, if◌then◌else◌, min, max, Some, None}
use Rattle.ix_base.specs.declared.segment.SegHead.{SegHead}
use Rattle.ix_base.specs.Sequence.{ahead, is_past, is_at_or_past}
use Rattle.ix_base.specs.Flags.{has_flag}
use Rattle.ix_tcpdef.specs.Ticks.{later}
use Rattle.ix_tcpdef.specs.Connection.{is_syn_received, is_time_wait, grown, threshold_after_loss}
use Rattle.ix_tcpdef.specs.declared.types.Cfg.{Cfg}
use Rattle.ix_tcpdef.specs.declared.types.State.{State}
use Rattle.ix_tcpdef.specs.declared.types.State.TheVariants as st
use Rattle.ix_tcpdef.specs.declared.types.Tcb.{Tcb}
use Rattle.ix_tcpdef.specs.declared.types.Told.TheVariants as told
use Rattle.ix_base.specs.declared.segment.TheConstants.{FIN}
use Rattle.ix_tcpin.specs.Heads.{ack_head, reset_head}
use Rattle.ix_tcpin.specs.Work.{Work, Course, Onward, Done, along, on, replies, announces, tells, ends}

-- ## SYN-RECEIVED
abbrev pub established_numbers : SegHead → Tcb → Tcb
established_numbers h t =
    record t { state = st.Established; una = h.ack; wnd = h.window; wl1 = h.seq; wl2 = h.ack; deadline = None; expiries = 0; knocked = true }

unfoldable pub establishing_part : SegHead → Work → Course
establishing_part h k =
    if is_past k.numbers.una h.ack && not (is_past k.numbers.nxt h.ack)
    then Onward (announces (on k (established_numbers h k.numbers)) told.Knock)
    else Done (replies k (reset_head k.numbers h))

-- ## Later states
unfoldable pub too_far_part : Cfg → SegHead → Work → Course
too_far_part cfg h k = if is_past k.numbers.nxt h.ack then Done (replies k (ack_head cfg k.numbers)) else Onward k

abbrev pub is_repeated : SegHead → Tcb → Bool
is_repeated h t = (h.ack == t.una) && not (t.una == t.nxt) && (h.len == 0) && not (has_flag h.flags FIN) && (h.window == t.wnd)

abbrev pub threshold : Tcb → ℕ
threshold t = threshold_after_loss (ahead t.una t.nxt) t.mss

unfoldable pub duplicated_numbers : SegHead → Tcb → Tcb
duplicated_numbers h t =
    if not (is_repeated h t)
    then t
    else if t.recovering
    then record t { cwnd = grown t.cwnd t.mss }
    else if t.dups == 2
    then record t { dups = 3; ssthresh = threshold t; cwnd = grown (threshold t) (3 * t.mss); recovering = true; resend = true }
    else record t { dups = min (t.dups + 1) 255 }

abbrev pub widened : ℕ → Tcb → ℕ
widened octets t =
    if t.recovering
    then t.ssthresh
    else if nat_lt t.cwnd t.ssthresh
    then grown t.cwnd (min octets t.mss)
    else grown t.cwnd (max 1 (t.mss * t.mss / t.cwnd))

-- the bytes of the send queue among the octets that are acknowledged anew
abbrev pub acked_bytes : SegHead → Tcb → ℕ
acked_bytes h t = if is_past t.una h.ack then min (ahead t.una h.ack) t.queued else 0

unfoldable pub advanced_numbers : Cfg → SegHead → ℕ → Tcb → Tcb
advanced_numbers cfg h now t =
    if is_past t.una h.ack
    then record t {
      cwnd = widened (ahead t.una h.ack) t;
      recovering = false;
      dups = 0;
      resend = false;
      una = h.ack;
      queued = t.queued - ahead t.una h.ack;
      expiries = 0;
      deadline = if h.ack == t.nxt then None else Some (later now cfg.rto);
    }
    else t

abbrev pub is_later : SegHead → Tcb → Bool
is_later h t = is_past t.wl1 h.seq || ((t.wl1 == h.seq) && is_at_or_past t.wl2 h.ack)

abbrev pub unpersisted_numbers : Tcb → Tcb
unpersisted_numbers t = record t { expiries = 0; deadline = if is_time_wait t.state then t.deadline else None }

unfoldable pub windowed_numbers : SegHead → ℕ → Tcb → Tcb
windowed_numbers h before t =
    if not (is_at_or_past before h.ack && is_later h t)
    then t
    else if nat_lt 0 h.window && (t.una == t.nxt)
    then unpersisted_numbers (record t { wnd = h.window; wl1 = h.seq; wl2 = h.ack })
    else record t { wnd = h.window; wl1 = h.seq; wl2 = h.ack }

-- how many more bytes the send queue takes
abbrev pub room_left : Tcb → ℕ
room_left t = t.wnd - t.queued

unfoldable pub sent_part : ℕ → Work → Work
sent_part n k =
    if nat_lt 0 n || (k.numbers.wants && nat_lt 0 (room_left k.numbers))
    then tells (on k (record k.numbers { wants = false })) (told.Sent n (room_left k.numbers))
    else k

-- the own FIN is acknowledged
abbrev pub fin_acked_part_in : State → Cfg → ℕ → Work → Course
fin_acked_part_in st.FinWait1 cfg now k = Onward (on k (record k.numbers { state = st.FinWait2 }))
fin_acked_part_in st.Closing cfg now k =
    Onward (on k (record k.numbers { state = st.TimeWait; deadline = Some (later now cfg.time_wait) }))
fin_acked_part_in st.LastAck cfg now k = Done (ends k)
fin_acked_part_in _ cfg now k = Onward k

unfoldable pub fin_acked_part : Cfg → ℕ → Work → Course
fin_acked_part cfg now k =
    if k.numbers.fin_sent && (k.numbers.una == k.numbers.nxt) then fin_acked_part_in k.numbers.state cfg now k else Onward k

unfoldable pub acked_numbers : Cfg → SegHead → ℕ → Tcb → Tcb
acked_numbers cfg h now t = windowed_numbers h t.una (advanced_numbers cfg h now (duplicated_numbers h t))

abbrev pub counts : ℕ → Work → Work
counts n k = record k { verdict = record k.verdict { acked = n } }

unfoldable pub synchronized_part : Cfg → SegHead → ℕ → Work → Course
synchronized_part cfg h now k =
    along (too_far_part cfg h k)
    (λ k. fin_acked_part cfg now (sent_part (acked_bytes h k.numbers) (counts (acked_bytes h k.numbers) (on k (acked_numbers cfg h now k.numbers)))))

unfoldable pub acknowledgement_part : Cfg → SegHead → ℕ → Work → Course
acknowledgement_part cfg h now k =
    if is_syn_received k.numbers.state then establishing_part h k else synchronized_part cfg h now k
