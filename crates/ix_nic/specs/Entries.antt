-- Entries that are carried out one after the other.
use Rattle.std.specs.Prelude.{◌≡◌, ◌<◌, ◌++◌, ℕ, suc, List, [], ◌∷◌, length, slice_index_or}
use Rattle.ix_order.specs.Wire.{Entry, put_on, turned, RingsAre}
use Rattle.ix_order.specs.Wire as order
use Rattle.ix_nic.specs.Cards.{CardView}
use Rattle.ix_nic.specs.Held.{KeepsBuffers}
use Rattle.ix_nic.specs.Ports.{PortView}
use Rattle.ix_nic.specs.Words.{CarriesOut, seats, words_on}

-- The entries are carried out in order, the first being the w-th.
abbrev pub CarryOut : List Entry → ℕ → CardView → CardView → Type 0
CarryOut [] w old new = new ≡ old
CarryOut (e ∷ es) w old new = (mid : CardView) × (CarriesOut e w old mid × CarryOut es (suc w) mid new)

-- the table after some entries
abbrev pub turned_by : order.Table → List Entry → order.Table
turned_by t [] = t
turned_by t (e ∷ es) = turned_by (turned t e) es

-- Each ring was given what the entries put on it by the law on pieces, and what that law asks of frames holds.
pub record AreCarriedOut (es : List Entry) (w : ℕ) (old new : CardView) : Type 0 where
  pub count : length new.ports ≡ length old.ports
  pub rings : (r : ℕ) (d : PortView) → r < length old.ports
      → words_on (slice_index_or new.ports r d) ≡ words_on (slice_index_or old.ports r d) ++ put_on r (seats old.table) w es
  pub placed : RingsAre (seats old.table) es
  pub table : (g : ℕ) → seats new.table g ≡ turned_by (seats old.table) es g
  pub buffers : KeepsBuffers old.ports new.ports

abbrev pub EntriesAreCarriedOut : Type 0
EntriesAreCarriedOut = (es : List Entry) (w : ℕ) (old new : CardView) → CarryOut es w old new → AreCarriedOut es w old new
