-- The numbers that stand for a connection (RFC 9293, sections 3.3.1 and 3.4).
use Rattle.std.specs.Prelude.{◌≡◌, ℕ, ◌-◌, List, length, drop, map}
use Rattle.ix_base.specs.Sequence.{number}
use Rattle.ix_tcpdef.specs.Connection.{snd_una, snd_nxt, rcv_nxt, queued}
use Rattle.ix_tcpdef.specs.Sound.{IsInRange, IsKept, HasOpened}
use Rattle.ix_tcpdef.specs.declared.types.Cfg.{Cfg}
use Rattle.ix_tcpdef.specs.declared.types.Connection.{Connection}
use Rattle.ix_tcpdef.specs.declared.types.HeldSegment.{HeldSegment}
use Rattle.ix_tcpdef.specs.declared.types.HeldHead.{HeldHead}
use Rattle.ix_tcpdef.specs.declared.types.Tcb.{Tcb}

-- a held segment without its bytes
abbrev pub head_of : ℕ → HeldSegment → HeldHead
head_of irs s = record { at = number irs s.at; len = length s.bytes; fin = s.fin }

-- the numbers of a connection
abbrev pub tcb_of : Connection → Tcb
tcb_of w =
    record {
      flow = w.flow;
      peer_mac = w.peer_mac;
      state = w.state;
      iss = w.iss;
      irs = w.irs;
      una = snd_una w;
      nxt = snd_nxt w;
      wnd = w.wnd;
      wl1 = w.wl1;
      wl2 = w.wl2;
      rcv_nxt = rcv_nxt w;
      unread = w.unread;
      mss = w.mss;
      queued = queued w;
      expiries = w.expiries;
      deadline = w.deadline;
      held = record { items = map (head_of w.irs) w.held };
      cwnd = w.cwnd;
      ssthresh = w.ssthresh;
      dups = w.dups;
      recovering = w.recovering;
      resend = w.resend;
      fin_wanted = w.fin_wanted;
      fin_sent = w.fin_sent;
      wants = w.wants;
      ack_owed = w.ack_owed;
      knocked = w.knocked;
      accepted = w.accepted;
      shut = w.shut;
    }

-- the bytes of the send queue from SND.UNA on, sent or not
abbrev pub send_queue : Connection → List ℕ
send_queue w = drop (w.una - 1) w.sent

-- ## What is asked where numbers stand for a connection
-- These numbers stand for this connection, which keeps what a connection and a configuration in its ranges keep together, and opened in
-- order. Each step keeps it.
pub record StandsFor (cfg : Cfg) (t : Tcb) (w : Connection) : Type 0 where
  pub range : IsInRange cfg
  pub kept : IsKept cfg w
  pub opened : HasOpened w
  pub numbers : t ≡ tcb_of w
