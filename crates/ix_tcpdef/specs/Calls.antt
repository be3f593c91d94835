-- Calls of the application: RFC 9293, sections 3.10.1 (OPEN), 3.10.2 (SEND), 3.10.3 (RECEIVE) and 3.10.4 (CLOSE).
use Rattle.std.specs.Prelude.{ℕ, ◌-◌, Bool, true, false, nat_lt, ◌&&◌, ◌||◌, ◌==◌, not, if◌then◌else◌, List, [], ◌∷◌, ◌++◌, length, take, min, map, is_some}
use Rattle.ix_base.specs.declared.segment.Ret.{Ret}
use Rattle.ix_base.specs.declared.segment.Ret.TheVariants as rets
use Rattle.ix_tcpdef.specs.Connection.{room, rcv_wnd, is_closed, is_listen, is_time_wait, on, gives}
use Rattle.ix_tcpdef.specs.Acknowledgement.{unpersisted}
use Rattle.ix_tcpdef.specs.Opening.{connecting}
use Rattle.ix_tcpdef.specs.declared.types.Cfg.{Cfg}
use Rattle.ix_tcpdef.specs.declared.types.State.{State}
use Rattle.ix_tcpdef.specs.declared.types.State.TheVariants as st
use Rattle.ix_tcpdef.specs.declared.types.Output.{Output}
use Rattle.ix_tcpdef.specs.declared.types.Output.TheVariants as outputs
use Rattle.ix_tcpdef.specs.declared.types.Told.TheVariants as told
use Rattle.ix_tcpdef.specs.declared.types.Ask.{Ask}
use Rattle.ix_tcpdef.specs.declared.types.Ask.TheVariants as asks
use Rattle.ix_tcpdef.specs.declared.types.Connection.{Connection}
use Rattle.ix_tcpdef.specs.declared.types.Piece.{Piece}
use Rattle.ix_tcpdef.specs.declared.types.Job.{Job}

-- a handle that the application was told of, that it did not close, and whose connection has not ended
abbrev pub is_live : Connection → Bool
is_live w = (w.knocked || w.accepted) && not w.shut && not (is_closed w.state)

abbrev pub returns : Job → Ret → Job
returns j r = gives j (outputs.Ret r)

-- ## Accept
abbrev pub as_told : Piece → Piece
as_told p = record p { told = true }

abbrev pub recv_of : Piece → Output
recv_of p = outputs.Told (told.Recv p.w p.from (length p.bytes))

abbrev pub is_close_wait : State → Bool
is_close_wait st.CloseWait = true
is_close_wait _ = false

-- the end of the stream that came before the connection was accepted
abbrev pub kept_end : Connection → List Output
kept_end w = if is_close_wait w.state then outputs.Told told.RecvEnd ∷ [] else []

-- What came before is told after the answer: the parts in order, then the end of the stream.
unfoldable pub accept : Job → Job
accept j =
    if j.connection.accepted
    then returns j rets.NotKnocked
    else record {
      connection = record j.connection { accepted = true; pieces = map as_told j.connection.pieces };
      outputs = j.outputs ++ outputs.Ret (rets.Done 0) ∷ [] ++ map recv_of j.connection.pieces ++ kept_end j.connection;
    }

-- ## Sendv
abbrev pub is_open : State → Bool
is_open st.Established = true
is_open st.CloseWait = true
is_open _ = false

-- As many bytes as there is room for join the send queue; where that is not all, the application is told of room later.
unfoldable pub sendv : List ℕ → Job → Job
sendv bytes j =
    if not (j.connection.accepted && is_open j.connection.state)
    then returns j rets.NotOpen
    else (let n : ℕ = min (length bytes) (room j.connection) in
    returns (on j (record j.connection { sent = j.connection.sent ++ take n bytes; wants = j.connection.wants || nat_lt n (length bytes) })) (rets.Done n))

-- ## RecvDone
-- Bytes are given back; an acknowledgement is owed where that opens a closed window.
unfoldable pub recv_done : Cfg → ℕ → Job → Job
recv_done cfg n j =
    if not j.connection.accepted
    then returns j rets.NotOpen
    else if nat_lt j.connection.unread n
    then returns j rets.TooMuch
    else returns (on j (record j.connection { unread = j.connection.unread - n; ack_owed = j.connection.ack_owed || ((rcv_wnd cfg j.connection == 0) && nat_lt 0 n) })) (rets.Done n)

-- ## Close
abbrev pub closed_state : State → State
closed_state st.Established = st.FinWait1
closed_state st.CloseWait = st.LastAck
closed_state s = s

abbrev pub shut_down : Connection → Connection
shut_down w =
    record w { state = closed_state w.state; fin_wanted = true; wants = false; unread = 0; held = []; shut = true }

abbrev pub persists : Connection → Bool
persists w = (w.una == w.nxt) && is_some w.deadline && not (is_time_wait w.state)

unfoldable pub close : Job → Job
close j =
    returns (on j (if persists j.connection then unpersisted (shut_down j.connection) else shut_down j.connection)) (rets.Done 0)

-- ## A call
-- on a live handle
unfoldable pub answered : Cfg → Ask → Job → Job
answered cfg asks.Connect j = j
answered cfg asks.Accept j = accept j
answered cfg (asks.Sendv bytes) j = sendv bytes j
answered cfg (asks.RecvDone n) j = recv_done cfg n j
answered cfg asks.Close j = close j

abbrev pub is_connect : Ask → Bool
is_connect asks.Connect = true
is_connect _ = false

-- Connect speaks of no handle; it opens what was not opened yet.
unfoldable pub called : Cfg → Ask → ℕ → Job → Job
called cfg ask now j =
    if is_connect ask
    then (if is_listen j.connection.state then connecting cfg now j else j)
    else if is_live j.connection
    then answered cfg ask j
    else returns j rets.BadHandle
