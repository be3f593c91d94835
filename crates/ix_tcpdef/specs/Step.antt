-- One step of a connection, and runs of steps.
use Rattle.std.specs.Prelude.{ℕ, Bool, false, true, if◌then◌else◌, List, [], ◌∷◌, None}
use Rattle.ix_base.specs.declared.id.Flow.{Flow}
use Rattle.ix_base.specs.declared.id.WireNo.{WireNo}
use Rattle.ix_base.specs.declared.segment.Seg.{Seg}
use Rattle.ix_tcpdef.specs.Arrival.{Next, Goes, ◌>>=◌, job_of, acceptability, reset, synchronize, unacknowledged}
use Rattle.ix_tcpdef.specs.Acknowledgement.{acknowledgement}
use Rattle.ix_tcpdef.specs.Body.{text_and_fin}
use Rattle.ix_tcpdef.specs.Opening.{opening, syn_sent}
use Rattle.ix_tcpdef.specs.Flush.{flushed, expired}
use Rattle.ix_tcpdef.specs.Calls.{called}
use Rattle.ix_tcpdef.specs.declared.types.Cfg.{Cfg}
use Rattle.ix_tcpdef.specs.declared.types.State.{State}
use Rattle.ix_tcpdef.specs.declared.types.State.TheVariants as st
use Rattle.ix_tcpdef.specs.declared.types.Connection.{Connection}
use Rattle.ix_tcpdef.specs.declared.types.Job.{Job}
use Rattle.ix_tcpdef.specs.declared.types.Input.{Input}
use Rattle.ix_tcpdef.specs.declared.types.Input.TheVariants as inputs
use Rattle.ix_tcpdef.specs.declared.types.Output.{Output}

-- a connection before its opening
abbrev pub listening : Flow → List ℕ → ℕ → Connection
listening flow peer_mac iss =
    record {
      flow = flow;
      peer_mac = peer_mac;
      state = st.Listen;
      iss = iss;
      irs = 0;
      mss = 536;
      sent = [];
      una = 0;
      nxt = 0;
      rcv = 0;
      wnd = 0;
      wl1 = 0;
      wl2 = 0;
      pieces = [];
      held = [];
      unread = 0;
      deadline = None;
      expiries = 0;
      cwnd = 0;
      ssthresh = 65535;
      dups = 0;
      recovering = false;
      resend = false;
      fin_wanted = false;
      fin_sent = false;
      wants = false;
      ack_owed = false;
      knocked = false;
      accepted = false;
      shut = false;
    }

-- A segment in SYN-RECEIVED and later, check by check. The third check is of security, the sixth of urgent data; there is none of either.
unfoldable pub checked : Cfg → WireNo → Seg → ℕ → Job → Next
checked cfg w seg now j = do
  j ← acceptability cfg seg.head now j
  j ← reset cfg seg.head j
  j ← synchronize cfg seg.head j
  j ← unacknowledged seg.head j
  j ← acknowledgement cfg seg.head now j
  Goes (text_and_fin cfg w seg now j)

abbrev pub arrived_in : State → Cfg → WireNo → Seg → ℕ → Job → Job
arrived_in st.Closed cfg w seg now j = j
arrived_in st.Listen cfg w seg now j = opening cfg seg.head now j
arrived_in st.SynSent cfg w seg now j = syn_sent cfg seg.head j
arrived_in _ cfg w seg now j = job_of (checked cfg w seg now j)

unfoldable pub arrived : Cfg → WireNo → Seg → ℕ → Job → Job
arrived cfg w seg now j = arrived_in j.connection.state cfg w seg now j

-- Before its opening and after its end a connection sends nothing on its own.
abbrev pub is_alive : State → Bool
is_alive st.Listen = false
is_alive st.Closed = false
is_alive _ = true

unfoldable pub stepped : Cfg → Input → ℕ → Job → Job
stepped cfg (inputs.Segment w seg) now j = arrived cfg w seg now j
stepped cfg inputs.Timer now j = if is_alive j.connection.state then expired cfg now j else j
stepped cfg (inputs.Call ask) now j = called cfg ask now j
stepped cfg inputs.Flush now j = if is_alive j.connection.state then flushed cfg now j else j

-- ## One step: the next connection, and what it gives
unfoldable pub step : Cfg → Connection → Input → ℕ → Job
step cfg w input now = stepped cfg input now (record { connection = w; outputs = [] })

-- ## A run over inputs with their clocks
pub record Moment : Type 0 where
  pub input : Input
  pub clock : ℕ

-- the last connection
abbrev pub last : Cfg → Connection → List Moment → Connection
last cfg w [] = w
last cfg w (m ∷ ms) = last cfg (step cfg w m.input m.clock).connection ms

-- per input, what it gave
abbrev pub run_outputs : Cfg → Connection → List Moment → List (List Output)
run_outputs cfg w [] = []
run_outputs cfg w (m ∷ ms) = (step cfg w m.input m.clock).outputs ∷ run_outputs cfg (step cfg w m.input m.clock).connection ms
