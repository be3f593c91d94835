-- What a connection keeps.
use Rattle.std.specs.Prelude.{◌≡◌, ℕ, ◌+◌, ◌-◌, ◌^◌, ◌<◌, ◌≤◌, Bool, true, false, ◌||◌, List, [], ◌∷◌, length}
use Rattle.ix_tcpdef.specs.Needs.{EndsBy, LiesInFrames, AreParts, carries, IsFramed}
use Rattle.ix_tcpdef.specs.Connection.{is_listen, is_syn_sent, is_syn_received}
use Rattle.ix_tcpdef.specs.declared.types.Cfg.{Cfg}
use Rattle.ix_tcpdef.specs.declared.types.State.{State}
use Rattle.ix_tcpdef.specs.declared.types.State.TheVariants as st
use Rattle.ix_tcpdef.specs.declared.types.Connection.{Connection}
use Rattle.ix_tcpdef.specs.declared.types.HeldSegment.{HeldSegment}
use Rattle.ix_tcpdef.specs.declared.types.Input.{Input}
use Rattle.ix_tcpdef.specs.declared.types.Input.TheVariants as inputs

-- the ranges of a configuration's numbers
pub record IsInRange (cfg : Cfg) : Type 0 where
  pub window : 64 ≤ cfg.window
  pub mss_least : 64 ≤ cfg.mss
  pub mss_most : cfg.mss ≤ 1460
  pub rto_least : 1 ≤ cfg.rto
  pub rto_most : cfg.rto ≤ 60000
  pub retries_least : 1 ≤ cfg.retries
  pub retries_most : cfg.retries ≤ 8
  pub time_wait_least : 1 ≤ cfg.time_wait
  pub time_wait_most : cfg.time_wait ≤ 60000

-- ## The standing condition
-- unread bytes and held segments fit the receive buffer
pub record FitsBuffer (window rcv unread : ℕ) (held : List HeldSegment) : Type 0 where
  pub unread_fits : unread ≤ window
  pub held_fits : EndsBy (rcv + (window - unread)) held

-- the states in which both windows of congestion control are known
abbrev pub has_windows : State → Bool
has_windows st.Listen = false
has_windows st.SynSent = false
has_windows st.Closed = false
has_windows _ = true

-- the send MSS and the peer's window lie in their ranges, and the windows of congestion control are open
pub record FitsPeer (state : State) (mss wnd cwnd ssthresh : ℕ) : Type 0 where
  pub mss_least : is_listen state ≡ false → 64 ≤ mss
  pub mss_most : is_listen state ≡ false → mss ≤ 1460
  pub wnd_most : is_listen state ≡ false → wnd ≤ 65535
  pub cwnd_open : has_windows state ≡ true → 0 < cwnd
  pub ssthresh_open : has_windows state ≡ true → 0 < ssthresh

-- what a connection and a configuration keep together
pub record IsStanding (cfg : Cfg) (w : Connection) : Type 0 where
  pub buffer : FitsBuffer cfg.window w.rcv w.unread w.held
  pub peer : FitsPeer w.state w.mss w.wnd w.cwnd w.ssthresh

-- ## What each connection keeps, whatever the configuration
-- the states in which the own stream is not closed
abbrev pub may_send : State → Bool
may_send st.Listen = true
may_send st.SynSent = true
may_send st.SynReceived = true
may_send st.Established = true
may_send st.CloseWait = true
may_send _ = false

-- the states in which no application knows of the connection
abbrev pub is_unknown : State → Bool
is_unknown st.Listen = true
is_unknown st.SynSent = true
is_unknown st.SynReceived = true
is_unknown _ = false

abbrev pub bit : Bool → ℕ
bit true = 1
bit false = 0

-- given: how many bytes were given to be sent
pub record SendsInOrder (state : State) (una nxt given : ℕ) (fin_wanted fin_sent : Bool) : Type 0 where
  -- SND.UNA <= SND.NXT, which stands behind no more than the SYN, all that was given, and the FIN
  pub order : una ≤ nxt
  pub within : nxt ≤ given + 1 + bit fin_sent
  pub fin : fin_sent ≡ true → nxt ≡ given + 2
  -- what is in flight fits a window, but for the FIN
  pub flight : nxt ≤ una + 65535 + bit fin_sent
  -- behind the handshake the SYN is acknowledged; in SYN-SENT it alone was sent
  pub stream : carries state ≡ true → 1 ≤ una
  pub syn : is_syn_sent state ≡ true → nxt ≡ 1
  -- the FIN was sent only where it is wanted, and is wanted only where the stream was closed
  pub wanted : fin_sent ≡ true → fin_wanted ≡ true
  pub unwanted : may_send state ≡ true → fin_wanted ≡ false

-- held segments are not empty, and rise from this position on without overlap
abbrev pub RisesFrom : ℕ → List HeldSegment → Type 0
RisesFrom low [] = Unit {0}
RisesFrom low (s ∷ rest) = (low ≤ s.at) × (0 < length s.bytes) × RisesFrom (s.at + length s.bytes) rest

-- what is held stands behind a hole, in at most eight segments
pub record HoldsInOrder (rcv : ℕ) (held : List HeldSegment) : Type 0 where
  pub rising : RisesFrom (rcv + 1) held
  pub frames : LiesInFrames held
  pub most : length held ≤ 8

pub record HasSizes (mss wnd expiries : ℕ) : Type 0 where
  pub mss_least : 64 ≤ mss
  pub mss_most : mss ≤ 1460
  pub wnd_most : wnd ≤ 65535
  pub expiries_most : expiries ≤ 8

pub record IsSound (w : Connection) : Type 0 where
  pub sender : SendsInOrder w.state w.una w.nxt (length w.sent) w.fin_wanted w.fin_sent
  pub receiver : HoldsInOrder w.rcv w.held
  pub sizes : HasSizes w.mss w.wnd w.expiries
  -- an application knows of a connection behind its handshake alone
  pub unknown : is_unknown w.state ≡ true → (w.knocked || w.accepted) ≡ false
  -- before it nothing came, and nothing was lost
  pub untouched : is_unknown w.state ≡ true → w.held ≡ []
  pub unlost : is_unknown w.state ≡ true → w.ssthresh ≡ 65535
  pub pieces : AreParts w.pieces

-- Before its opening nothing was given to be sent, and in SYN-RECEIVED the SYN alone was sent and is not acknowledged. This tells position 0
-- from position 2^32 there.
pub record OpensInOrder (state : State) (una nxt : ℕ) (sent : List ℕ) : Type 0 where
  pub listening : is_listen state ≡ true → sent ≡ []
  pub synchronizing : is_syn_received state ≡ true → (una ≡ 0) × (nxt ≡ 1)

abbrev pub HasOpened : Connection → Type 0
HasOpened w = OpensInOrder w.state w.una w.nxt w.sent

-- what each connection keeps, from its opening on
pub record IsOrderly (w : Connection) : Type 0 where
  pub sound : IsSound w
  pub opened : HasOpened w

-- ## All of it
pub record IsKept (cfg : Cfg) (w : Connection) : Type 0 where
  pub sound : IsSound w
  pub standing : IsStanding cfg w

-- ## What is asked of an input
abbrev pub IsWritten : Input → Type 0
IsWritten (inputs.Segment w seg) = IsFramed seg
IsWritten _ = Unit {0}

-- the window of a segment has 16 bits
abbrev pub HasWindow : Input → Type 0
HasWindow (inputs.Segment w seg) = seg.head.window < 2 ^ 16
HasWindow _ = Unit {0}
