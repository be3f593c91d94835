-- What a connection keeps, over a step.
use Rattle.std.proofs.Common.{◌≡◌, ℕ, [], refl, ap}
use Rattle.std.proofs.lemmas.Bool.{cond_both}
use Rattle.ix_base.specs.declared.segment.Seg.{Seg}
use Rattle.ix_base.specs.declared.id.WireNo.{WireNo}
use Rattle.ix_tcpdef.specs.Step.{checked, arrived_in, arrived, is_alive, stepped, step}
use Rattle.ix_tcpdef.specs.Arrival.{acceptability, reset, synchronize, unacknowledged}
use Rattle.ix_tcpdef.specs.Acknowledgement.{acknowledgement}
use Rattle.ix_tcpdef.specs.Needs.{IsFramed}
use Rattle.ix_tcpdef.specs.Delivered.{expects}
use Rattle.ix_tcpdef.specs.Sound.{IsInRange, IsKept, IsWritten, HasWindow}
use Rattle.std.specs.Prelude.{true, ◌<◌, ◌^◌}
use Rattle.ix_tcpdef.proofs.KeptArrival.{LeavesKept, kept-then, passes-then, passes-acceptability, passes-reset, passes-synchronize, passes-unacknowledged}
use Rattle.ix_tcpdef.proofs.KeptOpening.{kept-opening, kept-syn_sent}
use Rattle.ix_tcpdef.proofs.KeptAck.{kept-acknowledgement}
use Rattle.ix_tcpdef.proofs.KeptBody.{kept-text_and_fin}
use Rattle.ix_tcpdef.proofs.KeptFlush.{kept-flushed, kept-expired}
use Rattle.ix_tcpdef.proofs.KeptCalls.{kept-called}
use Rattle.ix_tcpdef.specs.declared.types.State.{State}
use Rattle.ix_tcpdef.specs.declared.types.State.TheVariants as st
use Rattle.ix_tcpdef.specs.declared.types.Cfg.{Cfg}
use Rattle.ix_tcpdef.specs.declared.types.Connection.{Connection}
use Rattle.ix_tcpdef.specs.declared.types.Input.{Input}
use Rattle.ix_tcpdef.specs.declared.types.Input.TheVariants as inputs
use Rattle.ix_tcpdef.specs.declared.types.Job.{Job}

kept-checked : (cfg : Cfg) (w : WireNo) (seg : Seg) (now : ℕ) (j : Job) → IsFramed seg → seg.head.window < 2 ^ 16 → expects j.connection.state ≡ true → IsKept cfg j.connection → LeavesKept cfg (checked cfg w seg now j)
unfolding checked
kept-checked cfg w seg now j framed window c k =
    passes-then cfg j (acceptability cfg seg.head now j) _ (passes-acceptability cfg seg.head now j k)
    (passes-then cfg j (reset cfg seg.head j) _ (passes-reset cfg seg.head j k)
    (passes-then cfg j (synchronize cfg seg.head j) _ (passes-synchronize cfg seg.head j k)
    (passes-then cfg j (unacknowledged seg.head j) _ (passes-unacknowledged cfg seg.head j k)
    (kept-then cfg (acknowledgement cfg seg.head now j) _ (kept-acknowledgement cfg seg.head now j window c k)
    (λ i kept. record { kept = kept-text_and_fin cfg w seg now i framed kept })))))

-- a segment, by state
kept-arrived_in : (s : State) (cfg : Cfg) (w : WireNo) (seg : Seg) (now : ℕ) (j : Job) → j.connection.state ≡ s → IsInRange cfg → IsFramed seg → seg.head.window < 2 ^ 16 → IsKept cfg j.connection → IsKept cfg (arrived_in s cfg w seg now j).connection
kept-arrived_in st.Closed cfg w seg now j is range framed window k = k
kept-arrived_in st.Listen cfg w seg now j is range framed window k = kept-opening cfg seg.head now j range window is k
kept-arrived_in st.SynSent cfg w seg now j is range framed window k = kept-syn_sent cfg seg.head j range window is k
kept-arrived_in _ cfg w seg now j is range framed window k = (kept-checked cfg w seg now j framed window (ap expects is) k).kept

kept-stepped : (cfg : Cfg) (i : Input) (now : ℕ) (j : Job) → IsInRange cfg → IsWritten i → HasWindow i → IsKept cfg j.connection → IsKept cfg (stepped cfg i now j).connection
unfolding stepped arrived
kept-stepped cfg (inputs.Segment w seg) now j range written window k =
    kept-arrived_in j.connection.state cfg w seg now j refl range written window k
kept-stepped cfg inputs.Timer now j range written window k =
    cond_both (is_alive j.connection.state) _ _ (λ (r : Job). IsKept cfg r.connection) (λ alive. kept-expired cfg now j range alive k) (λ _. k)
kept-stepped cfg (inputs.Call ask) now j range written window k = kept-called cfg ask now j range k
kept-stepped cfg inputs.Flush now j range written window k =
    cond_both (is_alive j.connection.state) _ _ (λ (r : Job). IsKept cfg r.connection) (λ _. kept-flushed cfg now j k) (λ _. k)

pub kept-step : (cfg : Cfg) (w : Connection) (i : Input) (now : ℕ) → IsInRange cfg → IsWritten i → HasWindow i → IsKept cfg w → IsKept cfg (step cfg w i now).connection
unfolding step
kept-step cfg w i now range written window k =
    kept-stepped cfg i now (record { connection = w; outputs = [] }) range written window k
