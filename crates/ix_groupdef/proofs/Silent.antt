-- Of the calls only Accept tells anything, and it tells no Knock; nor does a flush tell anything.
use Rattle.std.proofs.Common.{◌≡◌, ℕ, zero, suc, refl, Bool, true, false, List, [], ◌∷◌, ◌++◌, map, length}
use Rattle.std.specs.Prelude.{if◌then◌else◌, ◌&&◌, ◌==◌, not, nat_lt}
use Rattle.std.specs.List.{AllByRecursion}
use Rattle.ix_base.specs.declared.segment.Ret.TheVariants as rets
use Rattle.ix_tcpdef.specs.Connection.{is_listen}
use Rattle.ix_tcpdef.specs.Opening.{connecting}
use Rattle.ix_tcpdef.specs.Flush.{unacked, unsent, first_of, first_unacked_in, first_unacked, resends, resent, sends, sendable, data_frames, data_sent, fin_sent, ack_sent, flushed}
use Rattle.ix_tcpdef.specs.Calls.{recv_of, is_close_wait, kept_end, accept, sendv, is_open, recv_done, close, answered, is_live, called}
use Rattle.ix_tcpdef.specs.Step.{is_alive, stepped, step}
use Rattle.ix_tcpdef.specs.declared.types.Ask.{Ask}
use Rattle.ix_tcpdef.specs.declared.types.Ask.TheVariants as asks
use Rattle.ix_tcpdef.specs.declared.types.Cfg.{Cfg}
use Rattle.ix_tcpdef.specs.declared.types.State.{State}
use Rattle.ix_tcpdef.specs.declared.types.State.TheVariants as st
use Rattle.ix_tcpdef.specs.declared.types.Connection.{Connection}
use Rattle.ix_tcpdef.specs.declared.types.Input.TheVariants as inputs
use Rattle.ix_tcpdef.specs.declared.types.Job.{Job}
use Rattle.ix_tcpdef.specs.declared.types.Piece.{Piece}
use Rattle.ix_tcpdef.specs.declared.types.Output.{Output}
use Rattle.ix_tcpdef.specs.declared.types.Output.TheVariants as outputs
use Rattle.ix_tcpdef.specs.declared.types.Told.TheVariants as told

-- ## Outputs that are no event
abbrev pub IsUntold : Output → Type 0
IsUntold (outputs.Told x) = ⊥
IsUntold _ = Unit {0}

abbrev pub AreUntold : List Output → Type 0
AreUntold os = AllByRecursion IsUntold os

untold-append : (xs ys : List Output) → AreUntold xs → AreUntold ys → AreUntold (xs ++ ys)
untold-append [] ys p q = q
untold-append (x ∷ xs) ys p q = (p.0, untold-append xs ys p.1 q)

untold-push : (xs : List Output) (o : Output) → AreUntold xs → IsUntold o → AreUntold (xs ++ o ∷ [])
untold-push xs o p q = untold-append xs (o ∷ []) p (q, tt)

untold-if : (b : Bool) (j k : Job) → AreUntold j.outputs → AreUntold k.outputs → AreUntold (if b then j else k).outputs
untold-if true j k p q = p
untold-if false j k p q = q

-- ## A flush
untold-first_of : (cfg : Cfg) (w : Connection) (bs : List ℕ) → IsUntold (first_of cfg w bs)
untold-first_of cfg w [] = tt
untold-first_of cfg w (b ∷ bs) = tt

untold-first_unacked : (cfg : Cfg) (w : Connection) → IsUntold (first_unacked cfg w)
unfolding first_unacked
untold-first_unacked cfg w = in_state w.state
  where
    in_state : (s : State) → IsUntold (first_unacked_in s cfg w)
    in_state st.SynSent = tt
    in_state st.SynReceived = tt
    in_state _ = untold-first_of cfg w (unacked w)

untold-data_frames : (cfg : Cfg) (w : Connection) (most at : ℕ) (bytes : List ℕ) → AreUntold (data_frames cfg w most at bytes)
untold-data_frames cfg w zero at bytes = tt
untold-data_frames cfg w (suc most) at [] = tt
untold-data_frames cfg w (suc most) at (b ∷ bytes) = (tt, untold-data_frames cfg w most _ _)

untold-resent : (cfg : Cfg) (j : Job) → AreUntold j.outputs → AreUntold (resent cfg j).outputs
unfolding resent
untold-resent cfg j p =
    untold-if (j.connection.resend && resends j.connection.state) _ _ (untold-push j.outputs _ p (untold-first_unacked cfg j.connection)) p

untold-data_sent : (cfg : Cfg) (j : Job) → AreUntold j.outputs → AreUntold (data_sent cfg j).outputs
unfolding data_sent
untold-data_sent cfg j p =
    untold-if (sends j.connection.state) _ _
    (untold-append j.outputs _ p (untold-data_frames cfg j.connection (length (sendable j.connection)) j.connection.nxt (sendable j.connection))) p

untold-fin_sent : (cfg : Cfg) (j : Job) → AreUntold j.outputs → AreUntold (fin_sent cfg j).outputs
unfolding fin_sent
untold-fin_sent cfg j p =
    untold-if (sends j.connection.state && j.connection.fin_wanted && not j.connection.fin_sent && (length (unsent j.connection) == 0)) _ _
    (untold-push j.outputs _ p tt) p

untold-ack_sent : (cfg : Cfg) (j : Job) → AreUntold j.outputs → AreUntold (ack_sent cfg j).outputs
unfolding ack_sent
untold-ack_sent cfg j p =
    untold-if (j.connection.ack_owed && (length j.outputs == 0)) _ _ (untold-push j.outputs _ p tt) p

untold-flushed : (cfg : Cfg) (now : ℕ) (j : Job) → AreUntold j.outputs → AreUntold (flushed cfg now j).outputs
unfolding flushed
untold-flushed cfg now j p =
    untold-ack_sent cfg _ (untold-fin_sent cfg _ (untold-data_sent cfg _ (untold-resent cfg j p)))

pub untold-flush : (cfg : Cfg) (w : Connection) (now : ℕ) → AreUntold (step cfg w inputs.Flush now).outputs
unfolding step stepped
untold-flush cfg w now = untold-if (is_alive w.state) _ _ (untold-flushed cfg now _ tt) tt

-- ## Calls
abbrev pub is_accept : Ask → Bool
is_accept asks.Accept = true
is_accept _ = false

abbrev start : Connection → Job
start w = record { connection = w; outputs = [] }

untold-connecting : (cfg : Cfg) (now : ℕ) (w : Connection) → AreUntold (connecting cfg now (start w)).outputs
unfolding connecting
untold-connecting cfg now w = (tt, tt)

untold-sendv : (bytes : List ℕ) (w : Connection) → AreUntold (sendv bytes (start w)).outputs
unfolding sendv
untold-sendv bytes w = untold-if (not (w.accepted && is_open w.state)) _ _ (tt, tt) (tt, tt)

untold-recv_done : (cfg : Cfg) (n : ℕ) (w : Connection) → AreUntold (recv_done cfg n (start w)).outputs
unfolding recv_done
untold-recv_done cfg n w = untold-if (not w.accepted) _ _ (tt, tt) (untold-if (nat_lt w.unread n) _ _ (tt, tt) (tt, tt))

untold-close : (w : Connection) → AreUntold (close (start w)).outputs
unfolding close
untold-close w = (tt, tt)

untold-called : (cfg : Cfg) (ask : Ask) (now : ℕ) (w : Connection) → is_accept ask ≡ false → AreUntold (called cfg ask now (start w)).outputs
unfolding called answered
untold-called cfg asks.Connect now w e = untold-if (is_listen w.state) _ _ (untold-connecting cfg now w) tt
untold-called cfg asks.Accept now w e = absurd (cc)
untold-called cfg (asks.Sendv bytes) now w e = untold-if (is_live w) _ _ (untold-sendv bytes w) (tt, tt)
untold-called cfg (asks.RecvDone n) now w e = untold-if (is_live w) _ _ (untold-recv_done cfg n w) (tt, tt)
untold-called cfg asks.Close now w e = untold-if (is_live w) _ _ (untold-close w) (tt, tt)

pub untold-call : (cfg : Cfg) (w : Connection) (ask : Ask) (now : ℕ) → is_accept ask ≡ false → AreUntold (step cfg w (inputs.Call ask) now).outputs
unfolding step stepped
untold-call cfg w ask now e = untold-called cfg ask now w e

-- ## No call tells a Knock
abbrev pub IsNoKnock : Output → Type 0
IsNoKnock (outputs.Told told.Knock) = ⊥
IsNoKnock _ = Unit {0}

abbrev pub HaveNoKnock : List Output → Type 0
HaveNoKnock os = AllByRecursion IsNoKnock os

no_knock-append : (xs ys : List Output) → HaveNoKnock xs → HaveNoKnock ys → HaveNoKnock (xs ++ ys)
no_knock-append [] ys p q = q
no_knock-append (x ∷ xs) ys p q = (p.0, no_knock-append xs ys p.1 q)

no_knock-if : (b : Bool) (j k : Job) → HaveNoKnock j.outputs → HaveNoKnock k.outputs → HaveNoKnock (if b then j else k).outputs
no_knock-if true j k p q = p
no_knock-if false j k p q = q

no_knock-recvs : (ps : List Piece) → HaveNoKnock (map recv_of ps)
no_knock-recvs [] = tt
no_knock-recvs (p ∷ ps) = (tt, no_knock-recvs ps)

no_knock-kept_end : (w : Connection) → HaveNoKnock (kept_end w)
no_knock-kept_end w = by_case (is_close_wait w.state)
  where
    by_case : (b : Bool) → HaveNoKnock (if b then outputs.Told told.RecvEnd ∷ [] else [])
    by_case true = (tt, tt)
    by_case false = tt

no_knock-accept : (w : Connection) → HaveNoKnock (accept (start w)).outputs
unfolding accept
no_knock-accept w =
    no_knock-if w.accepted _ _ (tt, tt)
    (no_knock-append (outputs.Ret (rets.Done 0) ∷ [] ++ map recv_of w.pieces) (kept_end w) (no_knock-append (outputs.Ret (rets.Done 0) ∷ []) (map recv_of w.pieces) (tt, tt) (no_knock-recvs w.pieces)) (no_knock-kept_end w))

no_knock-untold : (os : List Output) → AreUntold os → HaveNoKnock os
no_knock-untold [] p = tt
no_knock-untold (outputs.Frame seg ∷ os) p = (tt, no_knock-untold os p.1)
no_knock-untold (outputs.Told x ∷ os) p = absurd (p.0)
no_knock-untold (outputs.Ret r ∷ os) p = (tt, no_knock-untold os p.1)

no_knock-accepted : (cfg : Cfg) (now : ℕ) (w : Connection) → HaveNoKnock (called cfg asks.Accept now (start w)).outputs
unfolding called answered
no_knock-accepted cfg now w = no_knock-if (is_live w) _ _ (no_knock-accept w) (tt, tt)

pub no_knock-call : (cfg : Cfg) (w : Connection) (ask : Ask) (now : ℕ) → HaveNoKnock (step cfg w (inputs.Call ask) now).outputs
unfolding step stepped
no_knock-call cfg w asks.Accept now = no_knock-accepted cfg now w
no_knock-call cfg w asks.Connect now = no_knock-untold _ (untold-called cfg asks.Connect now w refl)
no_knock-call cfg w (asks.Sendv bytes) now = no_knock-untold _ (untold-called cfg (asks.Sendv bytes) now w refl)
no_knock-call cfg w (asks.RecvDone n) now = no_knock-untold _ (untold-called cfg (asks.RecvDone n) now w refl)
no_knock-call cfg w asks.Close now = no_knock-untold _ (untold-called cfg asks.Close now w refl)
