-- Words of one connection (RFC 9293, section 3.3.1).
use Rattle.std.specs.Prelude.{ℕ, ◌+◌, ◌-◌, ◌*◌, ◌/◌, Bool, true, false, nat_lt, ◌&&◌, not, if◌then◌else◌, [], ◌∷◌, ◌++◌, length, min, max, None, ℤ}
use Rattle.ix_base.specs.declared.segment.SegHead.{SegHead}
use Rattle.ix_base.specs.Sequence.{number, offset}
use Rattle.ix_tcpdef.specs.declared.types.Cfg.{Cfg}
use Rattle.ix_tcpdef.specs.declared.types.State.{State}
use Rattle.ix_tcpdef.specs.declared.types.State.TheVariants as st
use Rattle.ix_tcpdef.specs.declared.types.Connection.{Connection}
use Rattle.ix_tcpdef.specs.declared.types.Job.{Job}
use Rattle.ix_tcpdef.specs.declared.types.Output.{Output}
use Rattle.ix_tcpdef.specs.declared.types.Output.TheVariants as outputs
use Rattle.ix_tcpdef.specs.declared.types.Told.{Told}

-- ## Sequence numbers
abbrev pub snd_una : Connection → ℕ
snd_una w = number w.iss w.una

abbrev pub snd_nxt : Connection → ℕ
snd_nxt w = number w.iss w.nxt

abbrev pub rcv_nxt : Connection → ℕ
rcv_nxt w = number w.irs w.rcv

-- how far a segment begins past RCV.NXT; its other octets are counted on from there
abbrev pub seq_of : Connection → SegHead → ℤ
seq_of w h = offset (rcv_nxt w) h.seq

-- ## Windows
-- the window that is offered where so many bytes are unread
abbrev pub offered_window : Cfg → ℕ → ℕ
offered_window cfg unread = cfg.window - unread

-- RCV.WND
abbrev pub rcv_wnd : Cfg → Connection → ℕ
rcv_wnd cfg w = offered_window cfg w.unread

-- how many bytes are acknowledged; byte i stands at position i + 1
abbrev pub acked_data : Connection → ℕ
acked_data w = min (w.una - 1) (length w.sent)

-- the bytes in the send queue from SND.UNA on, sent or not
abbrev pub queued : Connection → ℕ
queued w = length w.sent - acked_data w

-- how many more bytes the send queue takes
abbrev pub room : Connection → ℕ
room w = w.wnd - queued w

-- ## Congestion control (RFC 5681, section 2)
abbrev pub flight_size : Connection → ℕ
flight_size w = w.nxt - w.una

-- the initial window (RFC 5681, section 3.1)
abbrev pub initial_window : ℕ → ℕ
initial_window smss = if nat_lt 2190 smss then 2 * smss else if nat_lt 1095 smss then 3 * smss else 4 * smss

-- the congestion window grows up to this size
abbrev pub grown : ℕ → ℕ → ℕ
grown cwnd by = min (cwnd + by) 131072

-- the threshold after a loss, where so many octets are in flight (RFC 5681, section 3.1, equation 4)
abbrev pub threshold_after_loss : ℕ → ℕ → ℕ
threshold_after_loss flight mss = max (flight / 2) (2 * mss)

abbrev pub loss_threshold : Connection → ℕ
loss_threshold w = threshold_after_loss (flight_size w) w.mss

-- ## States
abbrev pub is_listen : State → Bool
is_listen st.Listen = true
is_listen _ = false

abbrev pub is_syn_sent : State → Bool
is_syn_sent st.SynSent = true
is_syn_sent _ = false

abbrev pub is_syn_received : State → Bool
is_syn_received st.SynReceived = true
is_syn_received _ = false

abbrev pub is_time_wait : State → Bool
is_time_wait st.TimeWait = true
is_time_wait _ = false

abbrev pub is_closed : State → Bool
is_closed st.Closed = true
is_closed _ = false

-- ## A step under way
abbrev pub on : Job → Connection → Job
on j w = record j { connection = w }

abbrev pub gives : Job → Output → Job
gives j o = record j { outputs = j.outputs ++ o ∷ [] }

-- an event of an accepted connection, which is not told of one that the application closed
abbrev pub tells : Job → Told → Job
tells j t = if j.connection.accepted && not j.connection.shut then gives j (outputs.Told t) else j

-- The connection ends: it is CLOSED, no deadline stands and nothing is held.
abbrev pub ended : Connection → Connection
ended w = record w { state = st.Closed; deadline = None; held = [] }
