-- Messages of another core, and the flow groups among them.
use Rattle.std.specs.Prelude.{◌≡◌, ◌<◌, ◌⊎◌, ℕ, Bool, false, List, [], ◌∷◌, ◌++◌, map, length}
use Rattle.ix_mbuf.specs.Buffers.{Buffer}
use Rattle.ix_ring.specs.Views.{TakeView}
use Rattle.ix_ring.specs.Ends.{taken, known}
use Rattle.ix_desk.specs.declared.unit.Shipment.{Shipment}
use Rattle.ix_desk.specs.Views.{View}
use Rattle.ix_desk.specs.Pieces.{joined}
use Rattle.ix_desk.specs.Desks.{welcome_at}
use Rattle.ix_stack.specs.declared.work.Work.{Work}
use Rattle.ix_core.specs.declared.message.Message.{Message}
use Rattle.ix_core.specs.declared.message.Message.TheVariants.{Ship, Home}
use Rattle.ix_history.specs.Events.{Parcel}
use Rattle.ix_core.specs.Runs.{Calm}

module _ {U E : Type 0} where
  abbrev pub parcel_of : Shipment U Work E → Parcel U Work
  parcel_of s = record { group = s.group.0; tenure = s.tenure; to = s.to.0; unit = s.unit; queue = s.queue }

  -- a flow group from the core at a place
  abbrev pub landing_of : ℕ → Shipment U Work E → ℕ × Parcel U Work
  landing_of place s = (place, parcel_of s)

  abbrev pub ship_in : Message U E → List (Shipment U Work E)
  ship_in (Ship s) = s ∷ []
  ship_in (Home b) = []

  abbrev pub home_in : Message U E → List Buffer
  home_in (Ship s) = []
  home_in (Home b) = b ∷ []

  -- the first of these units isn't awaited, or there is none
  abbrev pub FirstUnawaited : View U Work → List (Shipment U Work E) → Type 0
  FirstUnawaited v [] = Unit {0}
  FirstUnawaited v (s ∷ ss) = welcome_at v s.group.0 s.tenure s.to.0 ≡ false

-- So many messages that a turn took so far: each stands behind those of its kind.
pub record TakesSome {U E : Type 0} (count : ℕ) (old new : TakeView (Message U E)) (ships ships' : List (Shipment U Work E)) (returns returns' : List Buffer) : Type 0 where
  pub messages : List (Message U E)
  pub took : taken new ≡ taken old ++ messages
  pub shipments : ships' ≡ ships ++ joined ship_in messages
  pub homes : returns' ≡ returns ++ joined home_in messages
  pub number : length messages ≡ count

-- Messages that a turn took: as many as it may, or all that there were.
pub record TakesMessages {U E : Type 0} (most count : ℕ) (old new : TakeView (Message U E)) (ships ships' : List (Shipment U Work E)) (returns returns' : List Buffer) : Type 0 where
  pub so : TakesSome count old new ships ships' returns returns'
  pub stops : (count ≡ most) ⊎ ((count < most) × (known new ≡ []))

module _ {U E : Type 0} (counted : Work → Bool) (name : Work → ℕ) (stepped : U → List (ℕ × ℕ)) (advanced : U → E → ℕ → List Work → U → Type 0) (drained : U → List Buffer → U → Type 0) (env : E) where
  -- Units that came from a core went to the desks, in order.
  pub record Landed (place : ℕ) (x y : View U Work) (before after : List (Shipment U Work E)) : Type 0 where
    pub ships : List (Shipment U Work E)
    pub run : Calm counted name stepped advanced drained env x y [] (map (landing_of place) ships) [] []
    pub whole : before ≡ ships ++ after

  -- Units that came from a core went to the desks, in order; the next one isn't awaited.
  pub record Lands (place : ℕ) (x y : View U Work) (before after : List (Shipment U Work E)) : Type 0 where
    pub landed : Landed place x y before after
    pub waits : FirstUnawaited y after
