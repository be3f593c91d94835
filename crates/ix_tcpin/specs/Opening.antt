-- How a connection opens, over numbers: RFC 9293, sections 3.10.7.2 (LISTEN) and 3.10.7.3 (SYN-SENT).
use Rattle.std.specs.Prelude.{ℕ, true, nat_lt, ◌&&◌, ◌==◌, not, if◌then◌else◌, Some, None}
use Rattle.ix_base.specs.declared.segment.SegHead.{SegHead}
use Rattle.ix_base.specs.Sequence.{number}
use Rattle.ix_base.specs.Flags.{has_flag}
use Rattle.ix_tcpdef.specs.Ticks.{later}
use Rattle.ix_tcpdef.specs.Connection.{initial_window}
use Rattle.ix_tcpdef.specs.Opening.{send_mss, opens}
use Rattle.ix_tcpdef.specs.declared.types.Cfg.{Cfg}
use Rattle.ix_tcpdef.specs.declared.types.State.TheVariants as st
use Rattle.ix_tcpdef.specs.declared.types.Tcb.{Tcb}
use Rattle.ix_tcpdef.specs.declared.types.Told.TheVariants as told
use Rattle.ix_base.specs.declared.segment.TheConstants.{ACK, RST, SYN}
use Rattle.ix_tcpin.specs.Heads.{reset_head, syn_ack_head}
use Rattle.ix_tcpin.specs.Work.{Work, on, replies, announces, ends}

abbrev pub passive_numbers : Cfg → SegHead → ℕ → Tcb → Tcb
passive_numbers cfg h now t =
    record t {
      state = st.SynReceived;
      irs = h.seq;
      mss = send_mss cfg h.mss;
      una = number t.iss 0;
      nxt = number t.iss 1;
      rcv_nxt = number h.seq 1;
      wnd = h.window;
      wl1 = h.seq;
      wl2 = t.iss;
      cwnd = initial_window (send_mss cfg h.mss);
      ssthresh = 65535;
      deadline = Some (later now cfg.rto);
    }

-- LISTEN: a SYN is answered by a SYN-ACK. What else it carries is ignored.
unfoldable pub opening_part : Cfg → SegHead → ℕ → Work → Work
opening_part cfg h now k =
    if opens h
    then replies (on k (passive_numbers cfg h now k.numbers)) (syn_ack_head cfg (passive_numbers cfg h now k.numbers))
    else k

abbrev pub connected_numbers : Cfg → SegHead → Tcb → Tcb
connected_numbers cfg h t =
    record t {
      state = st.Established;
      irs = h.seq;
      mss = send_mss cfg h.mss;
      una = number t.iss 1;
      rcv_nxt = number h.seq 1;
      wnd = h.window;
      wl1 = h.seq;
      wl2 = h.ack;
      cwnd = if nat_lt 0 t.expiries then send_mss cfg h.mss else initial_window (send_mss cfg h.mss);
      deadline = None;
      expiries = 0;
      ack_owed = true;
      accepted = true;
    }

-- SYN-SENT
unfoldable pub syn_sent_part : Cfg → SegHead → Work → Work
syn_sent_part cfg h k =
    if has_flag h.flags ACK && not (h.ack == number k.numbers.iss 1)
    then (if has_flag h.flags RST then k else replies k (reset_head k.numbers h))
    else if has_flag h.flags RST
    then (if has_flag h.flags ACK then announces (ends k) told.ConnectedRefused else k)
    else if has_flag h.flags SYN && has_flag h.flags ACK
    then announces (on k (connected_numbers cfg h k.numbers)) told.ConnectedUp
    else k
