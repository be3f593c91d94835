-- What is true of the frames of each step and of each run.
use Rattle.std.specs.Prelude.{◌≡◌, ℕ, ◌+◌, ◌-◌, ◌≤◌, true, false, ◌⊎◌, List, [], ◌∷◌, ◌++◌, length, drop, min}
use Rattle.std.specs.List.{All}
use Rattle.ix_base.specs.declared.segment.Seg.{Seg}
use Rattle.ix_base.specs.Sequence.{number}
use Rattle.ix_base.specs.Flags.{has_flag}
use Rattle.ix_tcpdef.specs.Connection.{rcv_nxt}
use Rattle.ix_tcpdef.specs.Sound.{IsInRange, IsKept, IsWritten, HasWindow}
use Rattle.ix_tcpdef.specs.Step.{Moment, step, last}
use Rattle.ix_tcpdef.specs.declared.types.Cfg.{Cfg}
use Rattle.ix_tcpdef.specs.declared.types.Connection.{Connection}
use Rattle.ix_tcpdef.specs.declared.types.Output.{Output}
use Rattle.ix_tcpdef.specs.declared.types.Output.TheVariants as outputs
use Rattle.ix_base.specs.declared.segment.TheConstants.{ACK, RST}

-- A frame with ACK, other than a RST, acknowledges RCV.NXT.
abbrev pub Acknowledges : Connection → Output → Type 0
Acknowledges w (outputs.Frame seg) =
    has_flag seg.head.flags ACK ≡ true → has_flag seg.head.flags RST ≡ false → seg.head.ack ≡ rcv_nxt w
Acknowledges w _ = Unit {0}

-- A body is the bytes of the own stream at its position. old: the connection before the step; new: after it.
pub record CarriesStream (old new : Connection) (seg : Seg) : Type 0 where
  -- the position that the sequence number stands for
  pub at : ℕ
  pub first : 1 ≤ at
  -- so a body has one place: it stands between SND.UNA before the step and SND.NXT after it
  pub from : old.una ≤ at
  pub to : at + length seg.body ≤ new.nxt
  pub seq : seg.head.seq ≡ number new.iss at
  -- from there on the stream begins with the body
  pub rest : List ℕ
  pub body : drop (at - 1) new.sent ≡ seg.body ++ rest
  -- the body was sent before, or ends in both windows
  pub window : (at + length seg.body ≤ old.nxt) ⊎ ((old.nxt ≤ at) × (at + length seg.body ≤ old.una + min old.wnd old.cwnd))

abbrev pub Carries : Connection → Connection → Output → Type 0
Carries old new (outputs.Frame seg) = (seg.body ≡ []) ⊎ CarriesStream old new seg
Carries old new _ = Unit {0}

-- what a step of old to new gives
pub record SendsFairly (old new : Connection) (given : List Output) : Type 0 where
  pub acks : All (Acknowledges new) given
  pub bodies : All (Carries old new) given

-- ## Runs
-- the inputs of a run are written as they have to be
abbrev pub AreWritten : List Moment → Type 0
AreWritten [] = Unit {0}
AreWritten (m ∷ ms) = IsWritten m.input × HasWindow m.input × AreWritten ms

-- each step of a run sends fairly
abbrev pub EachSendsFairly : Cfg → Connection → List Moment → Type 0
EachSendsFairly cfg w [] = Unit {0}
EachSendsFairly cfg w (m ∷ ms) =
    SendsFairly w (step cfg w m.input m.clock).connection (step cfg w m.input m.clock).outputs × EachSendsFairly cfg (step cfg w m.input m.clock).connection ms

abbrev pub RunsKeep : Type 0
RunsKeep = (cfg : Cfg) (w : Connection) (ms : List Moment) → IsInRange cfg → AreWritten ms → IsKept cfg w → IsKept cfg (last cfg w ms)

abbrev pub RunsSendFairly : Type 0
RunsSendFairly = (cfg : Cfg) (w : Connection) (ms : List Moment) → IsInRange cfg → AreWritten ms → IsKept cfg w → EachSendsFairly cfg w ms
