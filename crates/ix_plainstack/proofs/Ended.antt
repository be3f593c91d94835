-- A connection that has ended stays so.
use Rattle.std.proofs.Common.{◌≡◌, ℕ, refl, ap, ◌∙◌, Bool, true, false, []}
use Rattle.std.specs.Prelude.{if◌then◌else◌, ◌&&◌, ◌||◌, not}
use Rattle.ix_base.specs.declared.segment.Ret.TheVariants as rets
use Rattle.ix_tcpdef.specs.Connection.{is_closed, is_listen}
use Rattle.ix_tcpdef.specs.Calls.{is_connect, answered, returns, called}
use Rattle.ix_tcpdef.specs.Opening.{connecting}
use Rattle.ix_tcpdef.specs.Flush.{flushed, expired}
use Rattle.ix_tcpdef.specs.Step.{step, stepped, arrived, arrived_in, is_alive}
use Rattle.ix_tcpdef.specs.declared.types.Ask.{Ask}
use Rattle.ix_tcpdef.specs.declared.types.Cfg.{Cfg}
use Rattle.ix_tcpdef.specs.declared.types.State.{State}
use Rattle.ix_tcpdef.specs.declared.types.State.TheVariants as st
use Rattle.ix_tcpdef.specs.declared.types.Connection.{Connection}
use Rattle.ix_tcpdef.specs.declared.types.Input.{Input}
use Rattle.ix_tcpdef.specs.declared.types.Input.TheVariants as inputs
use Rattle.ix_tcpdef.specs.declared.types.Job.{Job}

closed_is : (s : State) → is_closed s ≡ true → s ≡ st.Closed
closed_is st.Closed e = refl
closed_is _ e = absurd (cc)

abbrev start : Connection → Job
start w = record { connection = w; outputs = [] }

-- no call opens it again, and no handle of it is live
closed-called : (cfg : Cfg) (ask : Ask) (now : ℕ) (w : Connection) → is_closed w.state ≡ true → is_closed (called cfg ask now (start w)).connection.state ≡ true
unfolding called
closed-called cfg ask now w e =
    ap (λ s. is_closed (in_state s).connection.state) (closed_is w.state e) ∙ by_case (is_connect ask) (w.knocked || w.accepted) w.shut
  where
    in_state : State → Job
    in_state s =
        if is_connect ask
        then (if is_listen s then connecting cfg now (start w) else start w)
        else if (w.knocked || w.accepted) && not w.shut && not (is_closed s)
        then answered cfg ask (start w)
        else returns (start w) rets.BadHandle

    by_case : (c a b : Bool) → is_closed (if c then start w else if a && not b && false then answered cfg ask (start w) else returns (start w) rets.BadHandle).connection.state ≡ true
    by_case true a b = e
    by_case false false b = e
    by_case false true true = e
    by_case false true false = e

-- who has ended stays ended
pub ended-step : (cfg : Cfg) (w : Connection) (i : Input) (now : ℕ) → is_closed w.state ≡ true → is_closed (step cfg w i now).connection.state ≡ true
unfolding step stepped arrived
ended-step cfg w (inputs.Segment n seg) now e =
    ap (λ s. is_closed (arrived_in s cfg n seg now (start w)).connection.state) (closed_is w.state e) ∙ e
ended-step cfg w inputs.Timer now e =
    ap (λ s. is_closed (if is_alive s then expired cfg now (start w) else start w).connection.state) (closed_is w.state e) ∙ e
ended-step cfg w (inputs.Call ask) now e = closed-called cfg ask now w e
ended-step cfg w inputs.Flush now e =
    ap (λ s. is_closed (if is_alive s then flushed cfg now (start w) else start w).connection.state) (closed_is w.state e) ∙ e
