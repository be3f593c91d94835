-- What the parts of a step need of a connection.
use Rattle.std.specs.Prelude.{◌≡◌, ℕ, ◌+◌, ◌-◌, ◌^◌, ◌<◌, ◌≤◌, Bool, true, false, List, [], ◌∷◌, length}
use Rattle.std.specs.List.{All}
use Rattle.ix_base.specs.declared.segment.Seg.{Seg}
use Rattle.ix_tcpdef.specs.declared.types.Cfg.{Cfg}
use Rattle.ix_tcpdef.specs.declared.types.State.{State}
use Rattle.ix_tcpdef.specs.declared.types.State.TheVariants as st
use Rattle.ix_tcpdef.specs.declared.types.Connection.{Connection}
use Rattle.ix_tcpdef.specs.declared.types.HeldSegment.{HeldSegment}
use Rattle.ix_tcpdef.specs.declared.types.Piece.{Piece}

-- the bytes of held segments end at or before this position
abbrev pub EndsBy : ℕ → List HeldSegment → Type 0
EndsBy top [] = Unit {0}
EndsBy top (s ∷ rest) = (s.at + length s.bytes ≤ top) × EndsBy top rest

-- the bytes of held segments lie in frames of less than 2^16 bytes
abbrev pub LiesInFrames : List HeldSegment → Type 0
LiesInFrames [] = Unit {0}
LiesInFrames (s ∷ rest) = (s.from + length s.bytes < 2 ^ 16) × LiesInFrames rest

-- parts lie in frames of less than 2^16 bytes
abbrev pub AreParts : List Piece → Type 0
AreParts pieces = All (λ p. length p.bytes < 2 ^ 16) pieces

-- the states behind the handshake, in which the streams are carried
abbrev pub carries : State → Bool
carries st.Listen = false
carries st.SynSent = false
carries st.SynReceived = false
carries st.Closed = false
carries _ = true

-- What a part of a step needs of a connection that was opened.
pub record IsReady (cfg : Cfg) (w : Connection) : Type 0 where
  pub unread : w.unread ≤ cfg.window
  pub held : EndsBy (w.rcv + (cfg.window - w.unread)) w.held
  pub frames : LiesInFrames w.held
  pub mss : 64 ≤ w.mss
  pub cwnd : 0 < w.cwnd
  pub flight : w.nxt ≤ w.una + 65536

-- the receiving side stays as it was
pub record SameReceiver (old new : Connection) : Type 0 where
  pub rcv : new.rcv ≡ old.rcv
  pub unread : new.unread ≡ old.unread
  pub held : new.held ≡ old.held

-- a segment whose body has the length that its head says, and lies in its frame
pub record IsFramed (seg : Seg) : Type 0 where
  pub len : length seg.body ≡ seg.head.len
  pub place : seg.head.at + seg.head.len ≤ 65535
