-- Numbers stand for a connection over every step, and what an arrival keeps on its way.
use Rattle.std.proofs.Common.{◌≡◌, suc, Bool, true, false, if◌then◌else◌, List, [], ◌∷◌, refl, ap}
use Rattle.std.specs.Prelude.{nat_lt}
use Rattle.std.specs.List.{insert}
use Rattle.ix_tcpdef.specs.Arrivals.{held_place, HoldsInPlace, AcknowledgementsKeep}
use Rattle.ix_tcpdef.specs.Body.{held_among}
use Rattle.ix_tcpdef.specs.Standing.{StandsFirst, StandsOn}
use Rattle.ix_tcpdef.specs.declared.types.HeldSegment.{HeldSegment}
use Rattle.ix_tcpdef.proofs.DeliverStep.{kept-listening}
use Rattle.ix_tcpdef.proofs.KeptAck.{kept-acknowledgement}
use Rattle.ix_tcpdef.proofs.KeptStep.{kept-step}
use Rattle.ix_tcpdef.proofs.OpeningLemmas.{begins_opening, steps_open}

pub stands_first : StandsFirst
stands_first cfg flow peer_mac iss range =
    record { range = range; kept = kept-listening cfg flow peer_mac iss; opened = begins_opening flow peer_mac iss; numbers = refl }

pub stands_on : StandsOn
stands_on cfg t u w input now written window s numbers =
    record {
      range = s.range;
      kept = kept-step cfg w input now s.range written window s.kept;
      opened = steps_open cfg w input now s.opened;
      numbers = numbers;
    }

pub acknowledgements_keep : AcknowledgementsKeep
acknowledgements_keep cfg h now j window known k = (kept-acknowledgement cfg h now j window known k).kept

pub holds_in_place : HoldsInPlace
holds_in_place new [] = refl
holds_in_place new (s ∷ rest) = by_test (nat_lt new.at s.at) (holds_in_place new rest)
  where
    by_test : (b : Bool) → held_among new rest ≡ insert rest (held_place new.at rest) new → (if b then new ∷ s ∷ rest else s ∷ held_among new rest) ≡ insert (s ∷ rest) (if b then 0 else suc (held_place new.at rest)) new
    by_test true e = refl
    by_test false e = ap (λ (t : List HeldSegment). s ∷ t) e
