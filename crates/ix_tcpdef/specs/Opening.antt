-- How a connection opens: RFC 9293, sections 3.10.1 (OPEN), 3.10.7.2 (LISTEN) and 3.10.7.3 (SYN-SENT).
use Rattle.std.specs.Prelude.{ℕ, Bool, true, nat_lt, ◌&&◌, ◌==◌, not, if◌then◌else◌, min, max, Option, Some, None}
use Rattle.ix_base.specs.declared.segment.SegHead.{SegHead}
use Rattle.ix_base.specs.Sequence.{number}
use Rattle.ix_base.specs.Flags.{has_flag}
use Rattle.ix_tcpdef.specs.Ticks.{later}
use Rattle.ix_tcpdef.specs.Connection.{initial_window, on, gives, ended}
use Rattle.ix_tcpdef.specs.Frames.{reset_frame, syn_frame, syn_ack_frame}
use Rattle.ix_tcpdef.specs.declared.types.Cfg.{Cfg}
use Rattle.ix_tcpdef.specs.declared.types.State.TheVariants as st
use Rattle.ix_tcpdef.specs.declared.types.Connection.{Connection}
use Rattle.ix_tcpdef.specs.declared.types.Job.{Job}
use Rattle.ix_tcpdef.specs.declared.types.Output.TheVariants as outputs
use Rattle.ix_tcpdef.specs.declared.types.Told.TheVariants as told
use Rattle.ix_base.specs.declared.segment.TheConstants.{ACK, RST, SYN}

-- the largest body that is sent to a peer: its option, or 536 where it has none (RFC 9293, section 3.7.1), but no more than is configured
abbrev pub send_mss : Cfg → Option ℕ → ℕ
send_mss cfg (Some mss) = max 64 (min mss cfg.mss)
send_mss cfg None = max 64 (min 536 cfg.mss)

-- a SYN that opens a connection
abbrev pub opens : SegHead → Bool
opens h = not (has_flag h.flags RST) && not (has_flag h.flags ACK) && has_flag h.flags SYN

abbrev pub passive : Cfg → SegHead → ℕ → Connection → Connection
passive cfg h now w =
    record w {
      state = st.SynReceived;
      irs = h.seq;
      mss = send_mss cfg h.mss;
      una = 0;
      nxt = 1;
      rcv = 1;
      wnd = h.window;
      wl1 = h.seq;
      wl2 = w.iss;
      cwnd = initial_window (send_mss cfg h.mss);
      ssthresh = 65535;
      deadline = Some (later now cfg.rto);
    }

-- LISTEN: a SYN is answered by a SYN-ACK. What else it carries is ignored.
unfoldable pub opening : Cfg → SegHead → ℕ → Job → Job
opening cfg h now j =
    if opens h
    then (let w : Connection = passive cfg h now j.connection in
    gives (on j w) (syn_ack_frame cfg w))
    else j

abbrev pub active : Cfg → ℕ → Connection → Connection
active cfg now w =
    record w {
      state = st.SynSent;
      mss = send_mss cfg None;
      una = 0;
      nxt = 1;
      wnd = 0;
      wl1 = 0;
      wl2 = 0;
      cwnd = 0;
      ssthresh = 65535;
      deadline = Some (later now cfg.rto);
    }

-- OPEN: a SYN is sent.
unfoldable pub connecting : Cfg → ℕ → Job → Job
connecting cfg now j =
    let w : Connection = active cfg now j.connection in
    gives (on j w) (syn_frame cfg w)

-- the peer's SYN-ACK is taken; after a loss of the SYN the congestion window is one segment (RFC 5681, section 3.1)
abbrev pub connected : Cfg → SegHead → Connection → Connection
connected cfg h w =
    record w {
      state = st.Established;
      irs = h.seq;
      mss = send_mss cfg h.mss;
      una = 1;
      rcv = 1;
      wnd = h.window;
      wl1 = h.seq;
      wl2 = h.ack;
      cwnd = if nat_lt 0 w.expiries then send_mss cfg h.mss else initial_window (send_mss cfg h.mss);
      deadline = None;
      expiries = 0;
      ack_owed = true;
      accepted = true;
    }

-- SYN-SENT
unfoldable pub syn_sent : Cfg → SegHead → Job → Job
syn_sent cfg h j =
    if has_flag h.flags ACK && not (h.ack == number j.connection.iss 1)
    then (if has_flag h.flags RST then j else gives j (reset_frame j.connection h))
    else if has_flag h.flags RST
    then (if has_flag h.flags ACK then gives (on j (ended j.connection)) (outputs.Told told.ConnectedRefused) else j)
    else if has_flag h.flags SYN && has_flag h.flags ACK
    then gives (on j (connected cfg h j.connection)) (outputs.Told told.ConnectedUp)
    else j
