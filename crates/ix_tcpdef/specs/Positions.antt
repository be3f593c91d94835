-- Numbers modulo 2^32, read as positions (RFC 9293, section 3.4).
use Rattle.std.specs.Prelude.{◌≡◌, ℕ, ◌+◌, ◌-◌, ◌%◌, ◌^◌, ◌<◌, ◌≤◌, nat_lt, nat_le}
use Rattle.std.specs.Prelude.{List}
use Rattle.ix_base.specs.declared.id.Flow.{Flow}
use Rattle.ix_tcpdef.specs.Step.{listening, step}
use Rattle.ix_tcpdef.specs.declared.types.Cfg.{Cfg}
use Rattle.ix_tcpdef.specs.declared.types.Connection.{Connection}
use Rattle.ix_tcpdef.specs.declared.types.Input.{Input}
use Rattle.ix_tcpdef.specs.Sound.{HasOpened}
use Rattle.ix_base.specs.Sequence.{number, ahead, is_past, is_at_or_past}

-- Where the position q is not before p, it is as far from it as its number.
abbrev pub CountsAhead : Type 0
CountsAhead = (start p q : ℕ) → p ≤ q → q < p + 2 ^ 32 → ahead (number start p) (number start q) ≡ q - p

-- Less than 2^31 apart, numbers compare as their positions.
abbrev pub TestsPast : Type 0
TestsPast = (start p q : ℕ) → q < p + 2 ^ 31 → p ≤ q + 2 ^ 31 → is_past (number start p) (number start q) ≡ nat_lt p q

abbrev pub TestsAtOrPast : Type 0
TestsAtOrPast = (start p q : ℕ) → q < p + 2 ^ 31 → p ≤ q + 2 ^ 31 → is_at_or_past (number start p) (number start q) ≡ nat_le p q

-- Less than 2^32 apart, positions of one number are one.
abbrev pub TellsApart : Type 0
TellsApart = (start p q : ℕ) → p ≤ q → q < p + 2 ^ 32 → number start p ≡ number start q → p ≡ q

-- the number of a position that is n further on
abbrev pub GoesOn : Type 0
GoesOn = (start p n : ℕ) → number start (p + n) ≡ (number start p + n) % 2 ^ 32

-- A number stands for the position that is as far ahead as it is.
abbrev pub FindsPosition : Type 0
FindsPosition = (start p x : ℕ) → x < 2 ^ 32 → number start (p + ahead (number start p) x) ≡ x

-- ## Openings
-- A connection before its opening opens in order, and each step keeps that.
abbrev pub BeginsOpening : Type 0
BeginsOpening = (flow : Flow) (peer_mac : List ℕ) (iss : ℕ) → HasOpened (listening flow peer_mac iss)

abbrev pub StepsOpen : Type 0
StepsOpen = (cfg : Cfg) (w : Connection) (input : Input) (now : ℕ) → HasOpened w → HasOpened (step cfg w input now).connection
