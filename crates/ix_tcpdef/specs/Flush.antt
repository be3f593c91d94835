-- What a connection sends on its own: the end of a cycle, and its timer (RFC 9293, sections 3.8.6 and 3.10.8; RFC 5681, section 3.1).
use Rattle.std.specs.Prelude.{ℕ, zero, suc, ◌+◌, ◌-◌, ◌*◌, ◌^◌, Bool, true, false, nat_lt, nat_le, ◌&&◌, ◌||◌, ◌==◌, not, if◌then◌else◌, List, [], ◌∷◌, ◌++◌, length, take, drop, min, Option, Some, None, is_none}
use Rattle.ix_base.specs.Sequence.{number}
use Rattle.ix_tcpdef.specs.Ticks.{later}
use Rattle.ix_tcpdef.specs.Connection.{loss_threshold, is_time_wait, is_syn_sent, on, gives, tells, ended}
use Rattle.ix_tcpdef.specs.Frames.{plain_frame, ack_frame, syn_frame, syn_ack_frame, data_frame, fin_frame}
use Rattle.ix_tcpdef.specs.declared.types.Cfg.{Cfg}
use Rattle.ix_tcpdef.specs.declared.types.State.{State}
use Rattle.ix_tcpdef.specs.declared.types.State.TheVariants as st
use Rattle.ix_tcpdef.specs.declared.types.Connection.{Connection}
use Rattle.ix_tcpdef.specs.declared.types.Job.{Job}
use Rattle.ix_tcpdef.specs.declared.types.Output.{Output}
use Rattle.ix_tcpdef.specs.declared.types.Output.TheVariants as outputs
use Rattle.ix_tcpdef.specs.declared.types.Told.TheVariants as told
use Rattle.ix_base.specs.declared.segment.TheConstants.{ACK}

-- the bytes that were sent and are not acknowledged, and those that were never sent
abbrev pub unacked : Connection → List ℕ
unacked w = take (w.nxt - w.una) (drop (w.una - 1) w.sent)

abbrev pub unsent : Connection → List ℕ
unsent w = drop (w.nxt - 1) w.sent

-- ## The first unacknowledged segment, sent again
-- bytes at SND.UNA, as many as one segment takes, or else the FIN
abbrev pub first_of : Cfg → Connection → List ℕ → Output
first_of cfg w [] = fin_frame cfg w w.una
first_of cfg w (b ∷ bytes) = data_frame cfg w w.una (take w.mss (b ∷ bytes))

abbrev pub first_unacked_in : State → Cfg → Connection → Output
first_unacked_in st.SynSent cfg w = syn_frame cfg w
first_unacked_in st.SynReceived cfg w = syn_ack_frame cfg w
first_unacked_in _ cfg w = first_of cfg w (unacked w)

unfoldable pub first_unacked : Cfg → Connection → Output
first_unacked cfg w = first_unacked_in w.state cfg w

-- ## Flush, first: a resend that fast retransmit asked for
abbrev pub resends : State → Bool
resends st.Established = true
resends st.CloseWait = true
resends st.FinWait1 = true
resends st.Closing = true
resends st.LastAck = true
resends _ = false

unfoldable pub resent : Cfg → Job → Job
resent cfg j =
    if j.connection.resend && resends j.connection.state
    then gives (on j (record j.connection { resend = false })) (first_unacked cfg j.connection)
    else j

-- ## Second: data that both windows let out
abbrev pub sends : State → Bool
sends st.Established = true
sends st.CloseWait = true
sends st.FinWait1 = true
sends st.LastAck = true
sends _ = false

-- how many octets may be sent: what is left of the peer's window and of the congestion window (RFC 5681, section 3.1)
abbrev pub usable : Connection → ℕ
usable w = w.una + min w.wnd w.cwnd - w.nxt

abbrev pub sendable : Connection → List ℕ
sendable w = take (usable w) (unsent w)

-- bytes from this position on, in segments of at most the send MSS; most: there are no more segments than that
abbrev pub data_frames : Cfg → Connection → ℕ → ℕ → List ℕ → List Output
data_frames cfg w zero at bytes = []
data_frames cfg w (suc most) at [] = []
data_frames cfg w (suc most) at (b ∷ bytes) =
    data_frame cfg w at (take w.mss (b ∷ bytes)) ∷ data_frames cfg w most (at + length (take w.mss (b ∷ bytes))) (drop w.mss (b ∷ bytes))

unfoldable pub data_sent : Cfg → Job → Job
data_sent cfg j =
    if sends j.connection.state
    then (let bytes : List ℕ = sendable j.connection in
    record {
      connection = record j.connection { nxt = j.connection.nxt + length bytes };
      outputs = j.outputs ++ data_frames cfg j.connection (length bytes) j.connection.nxt bytes;
    })
    else j

-- ## Third: the FIN, behind all data
unfoldable pub fin_sent : Cfg → Job → Job
fin_sent cfg j =
    if sends j.connection.state && j.connection.fin_wanted && not j.connection.fin_sent && (length (unsent j.connection) == 0)
    then gives (on j (record j.connection { nxt = j.connection.nxt + 1; fin_sent = true })) (fin_frame cfg j.connection j.connection.nxt)
    else j

-- ## Fourth: an acknowledgement that is owed, where nothing carried it
unfoldable pub ack_sent : Cfg → Job → Job
ack_sent cfg j =
    let paid : Job = on j (record j.connection { ack_owed = false }) in
    if j.connection.ack_owed && (length j.outputs == 0) then gives paid (ack_frame cfg j.connection) else paid

-- ## Fifth: the deadline of the retransmission timer or of the persist timer
abbrev pub waits_for_window : Connection → Bool
waits_for_window w = (w.wnd == 0) && (nat_lt 0 (length (unsent w)) || w.wants)

unfoldable pub armed : Cfg → ℕ → Connection → Connection
armed cfg now w =
    if is_none w.deadline && (nat_lt w.una w.nxt || ((w.una == w.nxt) && waits_for_window w))
    then record w { deadline = Some (later now cfg.rto) }
    else w

unfoldable pub flushed : Cfg → ℕ → Job → Job
flushed cfg now j =
    let sent : Job = ack_sent cfg (fin_sent cfg (data_sent cfg (resent cfg j))) in
    on sent (armed cfg now sent.connection)

-- ## The timer
abbrev pub is_due : Option ℕ → ℕ → Bool
is_due (Some at) now = nat_le at now
is_due None now = false

-- the timeout doubles with each expiry, up to a minute of ticks (RFC 6298, section 5.5)
abbrev pub backed_off : Cfg → ℕ → ℕ
backed_off cfg expiries = min (cfg.rto * 2 ^ expiries) 60000

-- Nothing came for too long: the connection ends.
unfoldable pub timed_out : Job → Job
timed_out j =
    if is_syn_sent j.connection.state
    then gives (on j (ended j.connection)) (outputs.Told told.ConnectedTimeout)
    else tells (on j (ended j.connection)) told.DeadTimeout

-- the congestion window after a timeout (RFC 5681, section 3.1): one segment, and half of what was in flight at the first of several
abbrev pub collapsed_in : State → Connection → Connection
collapsed_in st.SynSent w = w
collapsed_in st.SynReceived w = record w { cwnd = w.mss }
collapsed_in _ w =
    record w {
      ssthresh = if w.expiries == 0 then loss_threshold w else w.ssthresh;
      cwnd = w.mss;
      dups = 0;
      recovering = false;
      resend = false;
    }

unfoldable pub collapsed : Connection → Connection
collapsed w = collapsed_in w.state w

-- something is in flight
unfoldable pub retransmitted : Cfg → ℕ → Job → Job
retransmitted cfg now j =
    if nat_le cfg.retries (j.connection.expiries + 1)
    then timed_out j
    else (let expiries : ℕ = j.connection.expiries + 1 in
    let w : Connection = record (collapsed j.connection) { expiries = expiries; deadline = Some (later now (backed_off cfg expiries)) } in
    gives (on j w) (first_unacked cfg w))

-- nothing is in flight: a probe of a closed window, which no number of expiries ends (RFC 9293, section 3.8.6.1)
unfoldable pub probed : Cfg → ℕ → Job → Job
probed cfg now j =
    let expiries : ℕ = min (j.connection.expiries + 1) 8 in
    gives (on j (record j.connection { expiries = expiries; deadline = Some (later now (backed_off cfg expiries)) }))
    (plain_frame cfg j.connection (number j.connection.iss (j.connection.una - 1)) ACK [])

unfoldable pub expired : Cfg → ℕ → Job → Job
expired cfg now j =
    if not (is_due j.connection.deadline now)
    then j
    else if is_time_wait j.connection.state
    then on j (ended j.connection)
    else if nat_lt j.connection.una j.connection.nxt
    then retransmitted cfg now j
    else probed cfg now j
