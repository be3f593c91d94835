-- What a connection does when its timer expires, over numbers.
use Rattle.std.specs.Prelude.{ℕ, ◌+◌, ◌-◌, ◌%◌, ◌^◌, true, false, nat_le, ◌&&◌, ◌==◌, not, if◌then◌else◌, [], ◌∷◌, min, Option, Some, None}
use Rattle.ix_tcpdef.specs.Ticks.{later}
use Rattle.ix_tcpdef.specs.Connection.{is_time_wait, threshold_after_loss}
use Rattle.ix_tcpdef.specs.Flush.{backed_off}
use Rattle.ix_tcpdef.specs.declared.types.Cfg.{Cfg}
use Rattle.ix_tcpdef.specs.declared.types.State.{State}
use Rattle.ix_tcpdef.specs.declared.types.State.TheVariants as st
use Rattle.ix_tcpdef.specs.declared.types.Tcb.{Tcb}
use Rattle.ix_tcpdef.specs.declared.types.Told.{Told}
use Rattle.ix_tcpdef.specs.declared.types.Told.TheVariants as told
use Rattle.ix_base.specs.declared.segment.TheConstants.{ACK}
use Rattle.ix_tcpout.specs.declared.outs.OutSeg.{OutSeg}
use Rattle.ix_tcpout.specs.declared.outs.Outs.{Outs}
use Rattle.ix_tcpout.specs.Heads.{bare, again_in}
use Rattle.ix_tcpout.specs.Parts.{flight}

-- the numbers then, and what is given
pub record Fired : Type 0 where
  pub numbers : Tcb
  pub outs : Outs

abbrev pub one : OutSeg → Outs
one entry = record { entries = record { items = entry ∷ [] }; told = None; ended = false }

abbrev pub ending : Option Told → Outs
ending t = record { entries = record { items = [] }; told = t; ended = true }

-- the connection ends
abbrev pub closed : Tcb → Tcb
closed t = record t { state = st.Closed; deadline = None; held = record { items = [] } }

-- what is told where nothing came for too long
abbrev pub timeout_in : State → Tcb → Option Told
timeout_in st.SynSent t = Some told.ConnectedTimeout
timeout_in _ t = if t.accepted && not t.shut then Some told.DeadTimeout else None

-- the congestion window after a timeout (RFC 5681, section 3.1)
abbrev pub collapse_in : State → Tcb → Tcb
collapse_in st.SynSent t = t
collapse_in st.SynReceived t = record t { cwnd = t.mss }
collapse_in _ t =
    record t {
      ssthresh = if t.expiries == 0 then threshold_after_loss (flight t) t.mss else t.ssthresh;
      cwnd = t.mss;
      dups = 0;
      recovering = false;
      resend = false;
    }

-- one more expiry
abbrev pub counted : Cfg → ℕ → ℕ → Tcb → Tcb
counted cfg now expiries t = record t { expiries = expiries; deadline = Some (later now (backed_off cfg expiries)) }

-- something is in flight: it is sent again, unless that was done too often
unfoldable pub retransmission : Cfg → ℕ → Tcb → Fired
retransmission cfg now t =
    if nat_le cfg.retries (t.expiries + 1)
    then record { numbers = closed t; outs = ending (timeout_in t.state t) }
    else (let numbers : Tcb = counted cfg now (t.expiries + 1) (collapse_in t.state t) in
    record { numbers = numbers; outs = one (again_in t.state cfg numbers) })

-- nothing is in flight: a closed window is probed
unfoldable pub probe : Cfg → ℕ → Tcb → Fired
probe cfg now t =
    record {
      numbers = counted cfg now (min (t.expiries + 1) 8) t;
      outs = one (bare cfg t ((t.una + (2 ^ 32 - 1)) % 2 ^ 32) ACK);
    }

unfoldable pub fired : Cfg → ℕ → Tcb → Fired
fired cfg now t =
    if is_time_wait t.state
    then record { numbers = closed t; outs = ending None }
    else if not (t.una == t.nxt)
    then retransmission cfg now t
    else probe cfg now t
