-- The card behind a settle.
use Rattle.std.proofs.Common.{◌<◌, List, [], ◌∷◌, length, ap, arith}
use Rattle.ix_core.specs.declared.settling.SettleReport.{SettleReport}
use Rattle.ix_core.specs.Settling.{Settles}
use Rattle.ix_nic.specs.Cards.{CardView}
use Rattle.ix_nic.specs.Ports.{PortView}
use Rattle.ix_feed.specs.Told.{CardIsClear}
use Rattle.ix_epochs.specs.Ready.{IsReady}
use Rattle.ix_plainstack.specs.Stack.{owners_at}
use Rattle.ix_engine.specs.Openings.{StackCore}

-- it has nothing behind a ring, and no ring has ended
pub clear_after : (report : SettleReport) (x y : CardView) (old new : List StackCore) → Settles owners_at report x y old new → IsReady y new → CardIsClear y
clear_after report x y old [] settles ready = record { ports = λ r d lt. absurd (omega (arith, lt, ready.order.count)) }
clear_after report x y old (k ∷ ks) settles ready = record {
  ports = λ r d lt.
      let below : r < length (k ∷ ks) = omega (arith, lt, ready.order.count) in
      let before : r < length old = omega (arith, below, settles.count) in
      record { none = (ready.ports r d k below).none_behind; not_ended = ap (λ (z : PortView). z.ended) (settles.each r d k before).port_rest };
}
