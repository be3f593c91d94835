-- Calls over numbers: RFC 9293, sections 3.10.1 (OPEN), 3.10.2 (SEND), 3.10.3 (RECEIVE) and 3.10.4 (CLOSE).
use Rattle.std.specs.Prelude.{ℕ, ◌+◌, ◌-◌, Bool, true, false, nat_lt, ◌&&◌, ◌||◌, ◌==◌, not, if◌then◌else◌, [], min, is_some, Option, Some, None}
use Rattle.ix_base.specs.Sequence.{number}
use Rattle.ix_base.specs.declared.segment.Ret.{Ret}
use Rattle.ix_base.specs.declared.segment.Ret.TheVariants as rets
use Rattle.ix_base.specs.declared.segment.SegHead.{SegHead}
use Rattle.ix_base.specs.declared.segment.TheConstants.{SYN}
use Rattle.ix_tcpdef.specs.Ticks.{later}
use Rattle.ix_tcpdef.specs.Connection.{offered_window, is_closed, is_listen, is_time_wait}
use Rattle.ix_tcpdef.specs.Calls.{is_open, closed_state}
use Rattle.ix_tcpdef.specs.Opening.{send_mss}
use Rattle.ix_tcpdef.specs.declared.types.Cfg.{Cfg}
use Rattle.ix_tcpdef.specs.declared.types.State.TheVariants as st
use Rattle.ix_tcpdef.specs.declared.types.Tcb.{Tcb}
use Rattle.ix_tcpdef.specs.declared.types.TheConstants.{BEHIND_SYN}

-- the numbers behind a call, and its return
pub record Answer : Type 0 where
  pub numbers : Tcb
  pub ret : Ret

abbrev pub answer : Tcb → Ret → Answer
answer t r = record { numbers = t; ret = r }

-- a handle that the application was told of, that it did not close, and whose connection has not ended
abbrev pub has_handle : Tcb → Bool
has_handle t = (t.knocked || t.accepted) && not t.shut && not (is_closed t.state)

unfoldable pub on_handle : (Tcb → Answer) → Tcb → Answer
on_handle f t = if has_handle t then f t else answer t rets.BadHandle

unfoldable pub accept_part : Tcb → Answer
accept_part t = if t.accepted then answer t rets.NotKnocked else answer (record t { accepted = true }) (rets.Done 0)

-- how many more bytes the send queue takes
abbrev pub queue_room : Tcb → ℕ
queue_room t = t.wnd - t.queued

-- total: how many bytes are given
unfoldable pub sendv_part : ℕ → Tcb → Answer
sendv_part total t =
    if not (t.accepted && is_open t.state)
    then answer t rets.NotOpen
    else (let n : ℕ = min total (queue_room t) in
    answer (record t { queued = t.queued + n; wants = t.wants || nat_lt n total }) (rets.Done n))

unfoldable pub recv_done_part : Cfg → ℕ → Tcb → Answer
recv_done_part cfg n t =
    if not t.accepted
    then answer t rets.NotOpen
    else if nat_lt t.unread n
    then answer t rets.TooMuch
    else answer (record t { unread = t.unread - n; ack_owed = t.ack_owed || ((offered_window cfg t.unread == 0) && nat_lt 0 n) }) (rets.Done n)

abbrev pub shut_numbers : Tcb → Tcb
shut_numbers t =
    record t { state = closed_state t.state; fin_wanted = true; wants = false; unread = 0; held = record { items = [] }; shut = true }

-- the persist timer stands
abbrev pub persists_at : Tcb → Bool
persists_at t = (t.una == t.nxt) && is_some t.deadline && not (is_time_wait t.state)

abbrev pub without_persist : Tcb → Tcb
without_persist t = record t { expiries = 0; deadline = if is_time_wait t.state then t.deadline else None }

unfoldable pub close_part : Tcb → Answer
close_part t = answer (if persists_at t then without_persist (shut_numbers t) else shut_numbers t) (rets.Done 0)

-- ## Connect: the numbers, and the SYN that is sent
pub record Opened : Type 0 where
  pub numbers : Tcb
  pub sent : Option SegHead

abbrev pub opened : Tcb → Option SegHead → Opened
opened t sent = record { numbers = t; sent = sent }

abbrev pub active_numbers : Cfg → ℕ → Tcb → Tcb
active_numbers cfg now t =
    record t {
      state = st.SynSent;
      mss = send_mss cfg None;
      una = number t.iss 0;
      nxt = number t.iss 1;
      wnd = 0;
      wl1 = 0;
      wl2 = 0;
      cwnd = 0;
      ssthresh = 65535;
      deadline = Some (later now cfg.rto);
    }

abbrev pub syn_head : Cfg → Tcb → SegHead
syn_head cfg t =
    record { flow = t.flow; peer_mac = t.peer_mac; seq = number t.iss 0; ack = 0; flags = SYN; window = offered_window cfg t.unread; mss = Some cfg.mss; len = 0; at = BEHIND_SYN }

unfoldable pub connect_part : Cfg → ℕ → Tcb → Opened
connect_part cfg now t =
    if is_listen t.state then opened (active_numbers cfg now t) (Some (syn_head cfg t)) else opened t None
