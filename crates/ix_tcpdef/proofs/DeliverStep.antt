-- What is told of the peer's stream, over whole steps and runs.
use Rattle.std.proofs.Common.{◌≡◌, ℕ, zero, suc, ◌+◌, ◌-◌, ◌^◌, ◌<◌, Bool, true, false, if◌then◌else◌, length, take, drop, List, [], ◌∷◌, ◌++◌, map, arith, refl, sym, ap, subst, ◌∙◌, inl, inr, append_assoc}
use Rattle.std.specs.Prelude.{nat_lt, nat_le, ◌&&◌, ◌||◌, ◌==◌, not, Option, None, Some, min, is_none}
use Rattle.std.proofs.lemmas.Bool.{cond_both}
use Rattle.std.proofs.lemmas.List.Elements.{All-nil}
use Rattle.std.proofs.Math.Seq.{drop-append_seam}
use Rattle.ix_base.specs.declared.segment.SegHead.{SegHead}
use Rattle.ix_base.specs.declared.segment.Seg.{Seg}
use Rattle.ix_base.specs.declared.segment.Ret.TheVariants as rets
use Rattle.ix_base.specs.declared.id.WireNo.{WireNo}
use Rattle.ix_base.specs.declared.id.Flow.{Flow}
use Rattle.ix_base.specs.Sequence.{number, offset, is_past, is_at_or_past}
use Rattle.ix_base.specs.Flags.{has_flag}
use Rattle.ix_tcpdef.specs.Ticks.{later}
use Rattle.ix_tcpdef.specs.Connection.{snd_una, snd_nxt, rcv_nxt, rcv_wnd, seq_of, acked_data, room, is_listen, is_syn_sent, is_syn_received, is_time_wait, gives, on, ended}
use Rattle.ix_tcpdef.specs.Frames.{plain_frame, ack_frame, reset_frame, syn_frame, syn_ack_frame, fin_frame}
use Rattle.ix_tcpdef.specs.Opening.{opens, passive, opening, active, connecting, connected, syn_sent}
use Rattle.ix_tcpdef.specs.Arrival.{Next, Goes, Stops, ◌>>=◌, job_of, span, is_acceptable, acceptability, reset, synchronize, unacknowledged}
use Rattle.ix_tcpdef.specs.Acknowledgement.{established, establishing, too_far, is_duplicate, duplicated, advanced, is_newer, windowed, told_sent, fin_acked_in, fin_acked, acked, synchronized, acknowledgement}
use Rattle.ix_tcpdef.specs.Body.{octets, delivered, received, takes_body, body, past_fin, fin_taken_in, fin_taken, finished, text_and_fin}
use Rattle.ix_tcpdef.specs.Flush.{unacked, unsent, first_of, first_unacked_in, first_unacked, resends, resent, sends, sendable, data_frames, data_sent, fin_sent, ack_sent, waits_for_window, armed, flushed, is_due, backed_off, timed_out, collapsed_in, collapsed, retransmitted, probed, expired}
use Rattle.ix_tcpdef.specs.Calls.{is_live, as_told, recv_of, kept_end, is_close_wait, accept, is_open, sendv, recv_done, closed_state, shut_down, persists, close, answered, is_connect, called}
use Rattle.ix_tcpdef.specs.Sound.{IsInRange, IsKept, is_unknown}
use Rattle.ix_tcpdef.specs.Step.{Moment, checked, arrived_in, arrived, is_alive, stepped, step, last, run_outputs, listening}
use Rattle.ix_tcpdef.specs.Laws.{AreWritten}
use Rattle.ix_base.specs.Prefix.{IsPrefix, prefix_nil}
use Rattle.ix_tcpdef.specs.Delivered.{recv_from, recvs, all_recvs, after, Came, CameInOrder, IsTold, told_pieces, bytes_of, from_position, AreOf, expects, in_window, AgreesAt, PeerAgrees}
use Rattle.ix_tcpdef.proofs.KeptStep.{kept-step}
use Rattle.ix_tcpdef.proofs.KeptCalls.{live-known, listen-is, closed-unknown}
use Rattle.ix_tcpdef.proofs.DeliverBody.{Past, Says, CameSo, AllCame, Heard, from-later, total, HeldCame, is_receiving, is_early, is_finishing, Delivers, DeliversAt, recvs-append, append-none, delivers-silent, delivers-tells, delivers-state, delivers-ended, delivers-body, delivered-state, filled-state, waiting-state}
use Rattle.ix_tcpdef.specs.declared.types.Cfg.{Cfg}
use Rattle.ix_tcpdef.specs.declared.types.State.{State}
use Rattle.ix_tcpdef.specs.declared.types.State.TheVariants as st
use Rattle.ix_tcpdef.specs.declared.types.Connection.{Connection}
use Rattle.ix_tcpdef.specs.declared.types.HeldSegment.{HeldSegment}
use Rattle.ix_tcpdef.specs.declared.types.Piece.{Piece}
use Rattle.ix_tcpdef.specs.declared.types.Octets.{Octets}
use Rattle.ix_tcpdef.specs.declared.types.Job.{Job}
use Rattle.ix_tcpdef.specs.declared.types.Ask.{Ask}
use Rattle.ix_tcpdef.specs.declared.types.Ask.TheVariants as asks
use Rattle.ix_tcpdef.specs.declared.types.Input.{Input}
use Rattle.ix_tcpdef.specs.declared.types.Input.TheVariants as inputs
use Rattle.ix_tcpdef.specs.declared.types.Output.{Output}
use Rattle.ix_tcpdef.specs.declared.types.Output.TheVariants as outputs
use Rattle.ix_tcpdef.specs.declared.types.Told.TheVariants as told
use Rattle.ix_base.specs.declared.segment.TheConstants.{ACK, FIN, RST, SYN}

-- ## Parts that leave the receiving side as it was
pub record SameTold (v w : Connection) : Type 0 where
  state : v.state ≡ w.state
  irs : v.irs ≡ w.irs
  rcv : v.rcv ≡ w.rcv
  accepted : v.accepted ≡ w.accepted
  shut : v.shut ≡ w.shut
  pieces : v.pieces ≡ w.pieces
  held : v.held ≡ w.held
  unread : v.unread ≡ w.unread

same-told : (v : Connection) → SameTold v v
same-told v = record { state = refl; irs = refl; rcv = refl; accepted = refl; shut = refl; pieces = refl; held = refl; unread = refl }

delivers-same : (past : Past) (before : List Output) (v w : Connection) (os : List Output) → SameTold v w → DeliversAt past before v os → DeliversAt past before w os
delivers-same past before v w os s d =
    subst (λ (x : List HeldSegment). Delivers past before w.state w.irs w.rcv w.accepted w.shut w.pieces x os) s.held
    (subst (λ (x : List Piece). Delivers past before w.state w.irs w.rcv w.accepted w.shut x v.held os) s.pieces
    (subst (λ (x : Bool). Delivers past before w.state w.irs w.rcv w.accepted x v.pieces v.held os) s.shut
    (subst (λ (x : Bool). Delivers past before w.state w.irs w.rcv x v.shut v.pieces v.held os) s.accepted
    (subst (λ (x : ℕ). Delivers past before w.state w.irs x v.accepted v.shut v.pieces v.held os) s.rcv
    (subst (λ (x : ℕ). Delivers past before w.state x v.rcv v.accepted v.shut v.pieces v.held os) s.irs
    (subst (λ (x : State). Delivers past before x v.irs v.rcv v.accepted v.shut v.pieces v.held os) s.state d))))))

same-then : (u v w : Connection) → SameTold u v → SameTold v w → SameTold u w
same-then u v w a b =
    record { state = a.state ∙ b.state; irs = a.irs ∙ b.irs; rcv = a.rcv ∙ b.rcv; accepted = a.accepted ∙ b.accepted; shut = a.shut ∙ b.shut; pieces = a.pieces ∙ b.pieces; held = a.held ∙ b.held; unread = a.unread ∙ b.unread }

told-duplicated : (h : SegHead) (w : Connection) → SameTold w (duplicated h w)
unfolding duplicated
told-duplicated h w =
    let same : SameTold w w = same-told w in
    let P : Connection → Type 0 = SameTold w in
    cond_both (not (is_duplicate h w)) _ _ P (λ _. same)
    (λ _. cond_both w.recovering _ _ P (λ _. record { state = refl; irs = refl; rcv = refl; accepted = refl; shut = refl; pieces = refl; held = refl; unread = refl })
    (λ _. cond_both (w.dups == 2) _ _ P
    (λ _. record { state = refl; irs = refl; rcv = refl; accepted = refl; shut = refl; pieces = refl; held = refl; unread = refl })
    (λ _. record { state = refl; irs = refl; rcv = refl; accepted = refl; shut = refl; pieces = refl; held = refl; unread = refl })))

told-advanced : (cfg : Cfg) (h : SegHead) (now : ℕ) (w : Connection) → SameTold w (advanced cfg h now w)
unfolding advanced
told-advanced cfg h now w =
    cond_both (is_past (snd_una w) h.ack) _ _ (SameTold w)
    (λ _. record { state = refl; irs = refl; rcv = refl; accepted = refl; shut = refl; pieces = refl; held = refl; unread = refl })
    (λ _. same-told w)

told-windowed : (h : SegHead) (before : ℕ) (w : Connection) → SameTold w (windowed h before w)
unfolding windowed
told-windowed h before w =
    cond_both (not (is_at_or_past before h.ack && is_newer h w)) _ _ (SameTold w) (λ _. same-told w)
    (λ _. cond_both (nat_lt 0 h.window && (w.una == w.nxt)) _ _ (SameTold w)
    (λ _. record { state = refl; irs = refl; rcv = refl; accepted = refl; shut = refl; pieces = refl; held = refl; unread = refl })
    (λ _. record { state = refl; irs = refl; rcv = refl; accepted = refl; shut = refl; pieces = refl; held = refl; unread = refl }))

told-acked : (cfg : Cfg) (h : SegHead) (now : ℕ) (w : Connection) → SameTold w (acked cfg h now w)
told-acked cfg h now w =
    same-then w _ _ (told-duplicated h w) (same-then _ _ _ (told-advanced cfg h now (duplicated h w)) (told-windowed h (snd_una w) (advanced cfg h now (duplicated h w))))

-- ## A segment, check by check
-- settled: where the segment goes on behind its acknowledgement, the connection is no longer in SYN-RECEIVED
abbrev pub Settled : Next → Type 0
Settled (Goes j) = is_syn_received j.connection.state ≡ false
Settled (Stops j) = Unit {0}

record DeliversNext (past : Past) (before : List Output) (n : Next) : Type 0 where
  at : DeliversAt past before (job_of n).connection (job_of n).outputs

-- a check that lets a segment go on leaves the job as it was, and has found this
abbrev pub LetsBy : Type 0 → Job → Next → Type 0
LetsBy E j (Goes k) = (k ≡ j) × E
LetsBy E j (Stops k) = Unit {0}

delivers-then : (E : Type 0) (past : Past) (before : List Output) (j : Job) (n : Next) (f : Job → Next) → LetsBy E j n → DeliversNext past before n → (E → DeliversAt past before j.connection j.outputs → DeliversNext past before (f j)) → DeliversNext past before (n >>= f)
delivers-then E past before j (Goes k) f lets d more =
    subst (λ (v : Job). DeliversNext past before (f v)) (sym lets.0) (more lets.1 (subst (λ (v : Job). DeliversAt past before v.connection v.outputs) lets.0 d.at))
delivers-then E past before j (Stops k) f lets d more = record { at = d.at }

pub lets-acceptability : (cfg : Cfg) (h : SegHead) (now : ℕ) (j : Job) → LetsBy (Unit {0}) j (acceptability cfg h now j)
unfolding acceptability
lets-acceptability cfg h now j =
    let P : Next → Type 0 = LetsBy (Unit {0}) j in
    cond_both (is_acceptable (span h) (rcv_wnd cfg j.connection) (seq_of j.connection h)) _ _ P (λ _. (refl, tt))
    (λ _. cond_both (has_flag h.flags RST) _ _ P (λ _. tt)
    (λ _. cond_both (has_flag h.flags FIN && is_time_wait j.connection.state) _ _ P (λ _. tt) (λ _. tt)))

pub lets-reset : (cfg : Cfg) (h : SegHead) (j : Job) → LetsBy (Unit {0}) j (reset cfg h j)
unfolding reset
lets-reset cfg h j =
    let P : Next → Type 0 = LetsBy (Unit {0}) j in
    cond_both (not (has_flag h.flags RST)) _ _ P (λ _. (refl, tt))
    (λ _. cond_both (h.seq == rcv_nxt j.connection) _ _ P (λ _. tt) (λ _. tt))

not-set : (b : Bool) → not b ≡ true → b ≡ false
not-set false e = refl
not-set true e = cc

pub lets-synchronize : (cfg : Cfg) (h : SegHead) (j : Job) → LetsBy (has_flag h.flags SYN ≡ false) j (synchronize cfg h j)
unfolding synchronize
lets-synchronize cfg h j =
    let P : Next → Type 0 = LetsBy (has_flag h.flags SYN ≡ false) j in
    cond_both (not (has_flag h.flags SYN)) _ _ P (λ e. (refl, not-set (has_flag h.flags SYN) e))
    (λ _. cond_both (is_syn_received j.connection.state) _ _ P (λ _. tt) (λ _. tt))

pub lets-unacknowledged : (h : SegHead) (j : Job) → LetsBy (Unit {0}) j (unacknowledged h j)
unfolding unacknowledged
lets-unacknowledged h j =
    cond_both (has_flag h.flags ACK) _ _ (LetsBy (Unit {0}) j) (λ _. (refl, tt)) (λ _. tt)

delivers-frame : (past : Past) (before : List Output) (cfg : Cfg) (j : Job) → DeliversAt past before j.connection j.outputs → DeliversAt past before j.connection (j.outputs ++ ack_frame cfg j.connection ∷ [])
delivers-frame past before cfg j d = delivers-silent past before j.connection j.outputs (ack_frame cfg j.connection ∷ []) refl d

delivers-acceptability : (past : Past) (before : List Output) (cfg : Cfg) (h : SegHead) (now : ℕ) (j : Job) → DeliversAt past before j.connection j.outputs → DeliversNext past before (acceptability cfg h now j)
unfolding acceptability
delivers-acceptability past before cfg h now j d =
    let P : Next → Type 0 = DeliversNext past before in
    cond_both (is_acceptable (span h) (rcv_wnd cfg j.connection) (seq_of j.connection h)) _ _ P (λ _. record { at = d })
    (λ _. cond_both (has_flag h.flags RST) _ _ P (λ _. record { at = d })
    (λ _. cond_both (has_flag h.flags FIN && is_time_wait j.connection.state) _ _ P
    (λ _. record { at = delivers-frame past before cfg j d })
    (λ _. record { at = delivers-frame past before cfg j d })))

delivers-reset : (past : Past) (before : List Output) (cfg : Cfg) (h : SegHead) (j : Job) → DeliversAt past before j.connection j.outputs → DeliversNext past before (reset cfg h j)
unfolding reset
delivers-reset past before cfg h j d =
    let P : Next → Type 0 = DeliversNext past before in
    cond_both (not (has_flag h.flags RST)) _ _ P (λ _. record { at = d })
    (λ _. cond_both (h.seq == rcv_nxt j.connection) _ _ P
    (λ _. record { at = delivers-tells past before (on j (ended j.connection)) told.DeadReset refl (delivers-ended past before j.connection j.outputs d) })
    (λ _. record { at = delivers-frame past before cfg j d }))

delivers-synchronize : (past : Past) (before : List Output) (cfg : Cfg) (h : SegHead) (j : Job) → DeliversAt past before j.connection j.outputs → DeliversNext past before (synchronize cfg h j)
unfolding synchronize
delivers-synchronize past before cfg h j d =
    let P : Next → Type 0 = DeliversNext past before in
    cond_both (not (has_flag h.flags SYN)) _ _ P (λ _. record { at = d })
    (λ _. cond_both (is_syn_received j.connection.state) _ _ P
    (λ _. record { at = delivers-ended past before j.connection j.outputs d })
    (λ _. record { at = delivers-frame past before cfg j d }))

delivers-unacknowledged : (past : Past) (before : List Output) (h : SegHead) (j : Job) → DeliversAt past before j.connection j.outputs → DeliversNext past before (unacknowledged h j)
unfolding unacknowledged
delivers-unacknowledged past before h j d =
    cond_both (has_flag h.flags ACK) _ _ (DeliversNext past before) (λ _. record { at = d }) (λ _. record { at = d })

received-is : (s : State) → is_syn_received s ≡ true → s ≡ st.SynReceived
received-is st.SynReceived e = refl
received-is _ e = cc

delivers-established : (past : Past) (before : List Output) (h : SegHead) (w : Connection) (os : List Output) → is_syn_received w.state ≡ true → DeliversAt past before w os → DeliversAt past before (established h w) os
delivers-established past before h w os e d =
    let is : w.state ≡ st.SynReceived = received-is w.state e in
    record {
      events = d.events;
      none = λ r. cc;
      none_held = λ r. cc;
      place = λ _. d.place (ap is_receiving is);
      early = λ _. d.early (ap is_early is);
      late = λ r. cc;
      came = d.came;
      waits = d.waits;
    }

-- what the acknowledgement leaves
record Settles (past : Past) (before : List Output) (n : Next) : Type 0 where
  at : DeliversAt past before (job_of n).connection (job_of n).outputs
  settled : Settled n

settles-establishing : (past : Past) (before : List Output) (h : SegHead) (j : Job) → is_syn_received j.connection.state ≡ true → DeliversAt past before j.connection j.outputs → Settles past before (establishing h j)
unfolding establishing
settles-establishing past before h j e d =
    cond_both (is_past (snd_una j.connection) h.ack && not (is_past (snd_nxt j.connection) h.ack)) _ _ (Settles past before)
    (λ _. record { at = delivers-silent past before (established h j.connection) j.outputs (outputs.Told told.Knock ∷ []) refl (delivers-established past before h j.connection j.outputs e d); settled = refl })
    (λ _. record { at = delivers-silent past before j.connection j.outputs (reset_frame j.connection h ∷ []) refl d; settled = tt })

delivers-told_sent : (past : Past) (before : List Output) (n : ℕ) (j : Job) → DeliversAt past before j.connection j.outputs → DeliversAt past before (told_sent n j).connection (told_sent n j).outputs
unfolding told_sent
delivers-told_sent past before n j d =
    cond_both (nat_lt 0 n || (j.connection.wants && nat_lt 0 (room j.connection))) _ _ (λ (r : Job). DeliversAt past before r.connection r.outputs)
    (λ _. delivers-tells past before (on j (record j.connection { wants = false })) _ refl d)
    (λ _. d)

told_sent-state : (n : ℕ) (j : Job) → (told_sent n j).connection.state ≡ j.connection.state
unfolding told_sent
told_sent-state n j =
    let P : Job → Type 0 = λ r. r.connection.state ≡ j.connection.state in
    cond_both (nat_lt 0 n || (j.connection.wants && nat_lt 0 (room j.connection))) _ _ P
    (λ _. cond_both (j.connection.accepted && not j.connection.shut) _ _ P (λ _. refl) (λ _. refl))
    (λ _. refl)

settles-fin_acked_in : (s : State) (past : Past) (before : List Output) (cfg : Cfg) (now : ℕ) (j : Job) → j.connection.state ≡ s → is_syn_received s ≡ false → DeliversAt past before j.connection j.outputs → Settles past before (fin_acked_in s cfg now j)
settles-fin_acked_in st.FinWait1 past before cfg now j is known d =
    record { at = delivers-state past before j.connection st.FinWait2 j.outputs refl refl refl (λ _. d.late (ap is_finishing is)) d; settled = refl }
settles-fin_acked_in st.Closing past before cfg now j is known d =
    record { at = delivers-state past before j.connection st.TimeWait j.outputs refl refl refl (λ e. cc) d; settled = refl }
settles-fin_acked_in st.LastAck past before cfg now j is known d =
    record { at = delivers-ended past before j.connection j.outputs d; settled = tt }
settles-fin_acked_in _ past before cfg now j is known d = record { at = d; settled = ap is_syn_received is ∙ known }

settles-fin_acked : (past : Past) (before : List Output) (cfg : Cfg) (now : ℕ) (j : Job) → is_syn_received j.connection.state ≡ false → DeliversAt past before j.connection j.outputs → Settles past before (fin_acked cfg now j)
unfolding fin_acked
settles-fin_acked past before cfg now j known d =
    cond_both (j.connection.fin_sent && (j.connection.una == j.connection.nxt)) _ _ (Settles past before)
    (λ _. settles-fin_acked_in j.connection.state past before cfg now j refl known d)
    (λ _. record { at = d; settled = known })

settles-synchronized : (past : Past) (before : List Output) (cfg : Cfg) (h : SegHead) (now : ℕ) (j : Job) → is_syn_received j.connection.state ≡ false → DeliversAt past before j.connection j.outputs → Settles past before (synchronized cfg h now j)
unfolding synchronized too_far
settles-synchronized past before cfg h now j known d = by_test (is_past (snd_nxt j.connection) h.ack)
  where
    by_test : (a : Bool) → Settles past before ((if a then Stops (gives j (ack_frame cfg j.connection)) else Goes j) >>= (λ j. fin_acked cfg now (told_sent (acked_data (acked cfg h now j.connection) - acked_data j.connection) (on j (acked cfg h now j.connection)))))
    by_test true = record { at = delivers-frame past before cfg j d; settled = tt }
    by_test false =
        settles-fin_acked past before cfg now _
        (ap is_syn_received (told_sent-state _ (on j (acked cfg h now j.connection)) ∙ sym (told-acked cfg h now j.connection).state) ∙ known)
        (delivers-told_sent past before _ (on j (acked cfg h now j.connection)) (delivers-same past before j.connection (acked cfg h now j.connection) j.outputs (told-acked cfg h now j.connection) d))

settles-acknowledgement : (past : Past) (before : List Output) (cfg : Cfg) (h : SegHead) (now : ℕ) (j : Job) → DeliversAt past before j.connection j.outputs → Settles past before (acknowledgement cfg h now j)
unfolding acknowledgement
settles-acknowledgement past before cfg h now j d =
    cond_both (is_syn_received j.connection.state) _ _ (Settles past before)
    (λ e. settles-establishing past before h j e d)
    (λ e. settles-synchronized past before cfg h now j e d)

-- ## The window of a segment that goes on
record SameWindow (v w : Connection) : Type 0 where
  irs : v.irs ≡ w.irs
  rcv : v.rcv ≡ w.rcv
  unread : v.unread ≡ w.unread

abbrev WindowStays : Connection → Next → Type 0
WindowStays v (Goes j) = SameWindow v j.connection
WindowStays v (Stops j) = Unit {0}

window-told_sent : (v : Connection) (n : ℕ) (j : Job) → SameWindow v j.connection → SameWindow v (told_sent n j).connection
unfolding told_sent
window-told_sent v n j same =
    let P : Job → Type 0 = λ r. SameWindow v r.connection in
    cond_both (nat_lt 0 n || (j.connection.wants && nat_lt 0 (room j.connection))) _ _ P
    (λ _. cond_both (j.connection.accepted && not j.connection.shut) _ _ P (λ _. same-fields v j.connection _ same refl refl refl) (λ _. same-fields v j.connection _ same refl refl refl))
    (λ _. same)
  where
    same-fields : (u v w : Connection) → SameWindow u v → v.irs ≡ w.irs → v.rcv ≡ w.rcv → v.unread ≡ w.unread → SameWindow u w
    same-fields u v w s irs rcv unread = record { irs = s.irs ∙ irs; rcv = s.rcv ∙ rcv; unread = s.unread ∙ unread }

window-fin_acked_in : (s : State) (v : Connection) (cfg : Cfg) (now : ℕ) (j : Job) → SameWindow v j.connection → WindowStays v (fin_acked_in s cfg now j)
window-fin_acked_in st.FinWait1 v cfg now j same = record { irs = same.irs; rcv = same.rcv; unread = same.unread }
window-fin_acked_in st.Closing v cfg now j same = record { irs = same.irs; rcv = same.rcv; unread = same.unread }
window-fin_acked_in st.LastAck v cfg now j same = tt
window-fin_acked_in _ v cfg now j same = same

window-fin_acked : (v : Connection) (cfg : Cfg) (now : ℕ) (j : Job) → SameWindow v j.connection → WindowStays v (fin_acked cfg now j)
unfolding fin_acked
window-fin_acked v cfg now j same =
    cond_both (j.connection.fin_sent && (j.connection.una == j.connection.nxt)) _ _ (WindowStays v)
    (λ _. window-fin_acked_in j.connection.state v cfg now j same)
    (λ _. same)

window-synchronized : (cfg : Cfg) (h : SegHead) (now : ℕ) (j : Job) → WindowStays j.connection (synchronized cfg h now j)
unfolding synchronized too_far
window-synchronized cfg h now j = by_test (is_past (snd_nxt j.connection) h.ack)
  where
    by_test : (a : Bool) → WindowStays j.connection ((if a then Stops (gives j (ack_frame cfg j.connection)) else Goes j) >>= (λ j. fin_acked cfg now (told_sent (acked_data (acked cfg h now j.connection) - acked_data j.connection) (on j (acked cfg h now j.connection)))))
    by_test true = tt
    by_test false =
        let same : SameTold j.connection (acked cfg h now j.connection) = told-acked cfg h now j.connection in
        window-fin_acked j.connection cfg now _ (window-told_sent j.connection _ (on j (acked cfg h now j.connection)) (record { irs = same.irs; rcv = same.rcv; unread = same.unread }))

window-acknowledgement : (cfg : Cfg) (h : SegHead) (now : ℕ) (j : Job) → WindowStays j.connection (acknowledgement cfg h now j)
unfolding acknowledgement establishing
window-acknowledgement cfg h now j =
    let P : Next → Type 0 = WindowStays j.connection in
    cond_both (is_syn_received j.connection.state) _ _ P
    (λ _. cond_both (is_past (snd_una j.connection) h.ack && not (is_past (snd_nxt j.connection) h.ack)) _ _ P (λ _. record { irs = refl; rcv = refl; unread = refl }) (λ _. tt))
    (λ _. window-synchronized cfg h now j)

heard-same : (past : Past) (cfg : Cfg) (n : WireNo) (seg : Seg) (v w : Connection) → SameWindow v w → Heard past cfg n seg v → Heard past cfg n seg w
heard-same past cfg n seg v w s heard =
    let P : ℕ → ℕ → ℕ → Type 0 = λ irs rcv unread. Says past.peer (octets rcv (cfg.window - unread) (offset (number irs rcv) seg.head.seq) seg.head.at seg.body).at (octets rcv (cfg.window - unread) (offset (number irs rcv) seg.head.seq) seg.head.at seg.body).bytes in
    record {
      arrived = heard.arrived;
      says = subst (λ n. P w.irs w.rcv n) s.unread (subst (λ n. P w.irs n v.unread) s.rcv (subst (λ n. P n v.rcv v.unread) s.irs heard.says));
    }

-- ## The FIN
-- the FIN is taken, and the state is one in which octets are not delivered in order
delivers-past_fin : (past : Past) (before : List Output) (w : Connection) (s : State) (os : List Output) → is_unknown s ≡ false → is_receiving s ≡ false → is_early s ≡ false → (is_finishing s ≡ true → w.shut ≡ true) → DeliversAt past before w os → DeliversAt past before (record (past_fin w) { state = s }) os
delivers-past_fin past before w s os known still after late d =
    record {
      events = d.events;
      none = λ e. let no : true ≡ false = sym e ∙ known in cc;
      none_held = λ _. refl;
      place = λ e. let no : true ≡ false = sym e ∙ still in cc;
      early = λ e. let no : true ≡ false = sym e ∙ after in cc;
      late = late;
      came = d.came;
      waits = tt;
    }

delivers-fin_here : (past : Past) (before : List Output) (w : Connection) (os : List Output) → is_receiving w.state ≡ false → DeliversAt past before w os → DeliversAt past before (past_fin w) os
delivers-fin_here past before w os still d =
    record {
      events = d.events;
      none = d.none;
      none_held = λ _. refl;
      place = λ e. let no : true ≡ false = sym e ∙ still in cc;
      early = d.early;
      late = d.late;
      came = d.came;
      waits = tt;
    }

delivers-fin_taken_in : (s : State) (past : Past) (before : List Output) (cfg : Cfg) (now : ℕ) (j : Job) → j.connection.state ≡ s → is_syn_received s ≡ false → DeliversAt past before j.connection j.outputs → DeliversAt past before (fin_taken_in s cfg now j (past_fin j.connection)).connection (fin_taken_in s cfg now j (past_fin j.connection)).outputs
delivers-fin_taken_in st.Established past before cfg now j is known d =
    delivers-tells past before (on j (record (past_fin j.connection) { state = st.CloseWait })) told.RecvEnd refl (delivers-past_fin past before j.connection st.CloseWait j.outputs refl refl refl (λ e. cc) d)
delivers-fin_taken_in st.FinWait1 past before cfg now j is known d =
    delivers-past_fin past before j.connection st.Closing j.outputs refl refl refl (λ e. cc) d
delivers-fin_taken_in st.FinWait2 past before cfg now j is known d =
    delivers-past_fin past before j.connection st.TimeWait j.outputs refl refl refl (λ e. cc) d
delivers-fin_taken_in st.SynReceived past before cfg now j is known d = cc
delivers-fin_taken_in _ past before cfg now j is known d =
    delivers-fin_here past before j.connection j.outputs (ap is_receiving is) d

delivers-finished : (past : Past) (before : List Output) (cfg : Cfg) (h : SegHead) (now : ℕ) (stands : Bool) (j : Job) → is_syn_received j.connection.state ≡ false → DeliversAt past before j.connection j.outputs → DeliversAt past before (finished cfg h now stands j).connection (finished cfg h now stands j).outputs
unfolding finished fin_taken
delivers-finished past before cfg h now stands j known d =
    let P : Job → Type 0 = λ r. DeliversAt past before r.connection r.outputs in
    cond_both stands _ _ P
    (λ _. delivers-fin_taken_in j.connection.state past before cfg now j refl known d)
    (λ _. cond_both (has_flag h.flags FIN && (h.len == 0) && is_past (rcv_nxt j.connection) h.seq) _ _ P (λ _. delivers-frame past before cfg j d) (λ _. d))

body-state : (cfg : Cfg) (w : WireNo) (seg : Seg) (j : Job) → (body cfg w seg j).0.connection.state ≡ j.connection.state
unfolding body received
body-state cfg w seg j =
    let P : Job × Bool → Type 0 = λ r. r.0.connection.state ≡ j.connection.state in
    let o : Octets = octets j.connection.rcv (rcv_wnd cfg j.connection) (seq_of j.connection seg.head) seg.head.at seg.body in
    cond_both (not (takes_body j.connection.state)) _ _ P (λ _. refl)
    (λ _. cond_both (length o.bytes == 0) _ _ P (λ _. refl)
    (λ _. cond_both (o.at == j.connection.rcv) _ _ P
    (λ _. filled-state j.connection.held _ (delivered o w j) ∙ delivered-state o w j)
    (λ _. waiting-state o w _ j.connection)))

delivers-text : (past : Past) (before : List Output) (cfg : Cfg) (w : WireNo) (seg : Seg) (now : ℕ) (j : Job) → Heard past cfg w seg j.connection → is_syn_received j.connection.state ≡ false → DeliversAt past before j.connection j.outputs → DeliversAt past before (text_and_fin cfg w seg now j).connection (text_and_fin cfg w seg now j).outputs
unfolding text_and_fin
delivers-text past before cfg w seg now j arrived known d =
    delivers-finished past before cfg seg.head now (body cfg w seg j).1 (body cfg w seg j).0 (ap is_syn_received (body-state cfg w seg j) ∙ known) (delivers-body past before cfg w seg j arrived d)

delivers-last : (past : Past) (before : List Output) (cfg : Cfg) (w : WireNo) (seg : Seg) (now : ℕ) (v : Connection) (n : Next) → Heard past cfg w seg v → WindowStays v n → Settles past before n → DeliversNext past before (n >>= (λ j. Goes (text_and_fin cfg w seg now j)))
delivers-last past before cfg w seg now v (Goes j) heard stays s =
    record { at = delivers-text past before cfg w seg now j (heard-same past cfg w seg v j.connection stays heard) s.settled s.at }
delivers-last past before cfg w seg now v (Stops j) heard stays s = record { at = s.at }

delivers-checked : (past : Past) (before : List Output) (cfg : Cfg) (w : WireNo) (seg : Seg) (now : ℕ) (j : Job) → (has_flag seg.head.flags SYN ≡ false → Heard past cfg w seg j.connection) → DeliversAt past before j.connection j.outputs → DeliversNext past before (checked cfg w seg now j)
unfolding checked
delivers-checked past before cfg w seg now j heard d =
    delivers-then (Unit {0}) past before j (acceptability cfg seg.head now j) _ (lets-acceptability cfg seg.head now j) (delivers-acceptability past before cfg seg.head now j d) (λ _ d.
    delivers-then (Unit {0}) past before j (reset cfg seg.head j) _ (lets-reset cfg seg.head j) (delivers-reset past before cfg seg.head j d) (λ _ d.
    delivers-then (has_flag seg.head.flags SYN ≡ false) past before j (synchronize cfg seg.head j) _ (lets-synchronize cfg seg.head j) (delivers-synchronize past before cfg seg.head j d) (λ plain d.
    delivers-then (Unit {0}) past before j (unacknowledged seg.head j) _ (lets-unacknowledged seg.head j) (delivers-unacknowledged past before seg.head j d) (λ _ d.
    delivers-last past before cfg w seg now j.connection (acknowledgement cfg seg.head now j) (heard plain) (window-acknowledgement cfg seg.head now j) (settles-acknowledgement past before cfg seg.head now j d)))))

-- ## Before the handshake
-- nothing came yet, whatever the initial number is
delivers-first : (past : Past) (before : List Output) (w : Connection) (s : State) (irs : ℕ) (accepted : Bool) (os : List Output) → is_unknown w.state ≡ true → w.shut ≡ false → is_finishing s ≡ false → DeliversAt past before w os → Delivers past before s irs 1 accepted w.shut w.pieces w.held os
delivers-first past before w s irs accepted os unknown open_yet still d =
    let none : w.pieces ≡ [] = d.none unknown in
    let none_held : w.held ≡ [] = d.none_held unknown in
    record {
      events = of_none accepted w.accepted w.pieces none d.events;
      none = λ _. none;
      none_held = λ _. none_held;
      place = λ _. sym (ap (λ (ps : List Piece). 1 + total ps) none ∙ refl);
      early = λ _. open_yet;
      late = λ e. let no : true ≡ false = sym e ∙ still in cc;
      came = subst (λ (ps : List Piece). AllCame past irs 1 ps) (sym none) tt;
      waits = subst (λ (held : List HeldSegment). HeldCame past irs held) (sym none_held) tt;
    }
  where
    of_none : (a b : Bool) (ps : List Piece) → ps ≡ [] → map recv_of (if b then ps else []) ≡ before ++ recvs os → map recv_of (if a then ps else []) ≡ before ++ recvs os
    of_none a b [] e f = both a b f
      where
        both : (a b : Bool) → map recv_of (if b then [] else []) ≡ before ++ recvs os → map recv_of (if a then [] else []) ≡ before ++ recvs os
        both true true f = f
        both true false f = f
        both false true f = f
        both false false f = f
    of_none a b (p ∷ ps) e f = cc

delivers-opening : (past : Past) (before : List Output) (cfg : Cfg) (h : SegHead) (now : ℕ) (j : Job) → j.connection.state ≡ st.Listen → DeliversAt past before j.connection j.outputs → DeliversAt past before (opening cfg h now j).connection (opening cfg h now j).outputs
unfolding opening
delivers-opening past before cfg h now j is d =
    cond_both (opens h) _ _ (λ (r : Job). DeliversAt past before r.connection r.outputs)
    (λ _. delivers-silent past before (passive cfg h now j.connection) j.outputs (syn_ack_frame cfg (passive cfg h now j.connection) ∷ []) refl
    (delivers-first past before j.connection st.SynReceived h.seq j.connection.accepted j.outputs (ap is_unknown is) (d.early (ap is_early is)) refl d))
    (λ _. d)

delivers-connecting : (past : Past) (before : List Output) (cfg : Cfg) (now : ℕ) (j : Job) → j.connection.state ≡ st.Listen → DeliversAt past before j.connection j.outputs → DeliversAt past before (connecting cfg now j).connection (connecting cfg now j).outputs
unfolding connecting
delivers-connecting past before cfg now j is d =
    delivers-silent past before (active cfg now j.connection) j.outputs (syn_frame cfg (active cfg now j.connection) ∷ []) refl (record {
      events = d.events;
      none = λ _. d.none (ap is_unknown is);
      none_held = λ _. d.none_held (ap is_unknown is);
      place = λ e. cc;
      early = λ _. d.early (ap is_early is);
      late = λ e. cc;
      came = d.came;
      waits = d.waits;
    })

delivers-syn_sent : (past : Past) (before : List Output) (cfg : Cfg) (h : SegHead) (j : Job) → j.connection.state ≡ st.SynSent → DeliversAt past before j.connection j.outputs → DeliversAt past before (syn_sent cfg h j).connection (syn_sent cfg h j).outputs
unfolding syn_sent
delivers-syn_sent past before cfg h j is d =
    let P : Job → Type 0 = λ r. DeliversAt past before r.connection r.outputs in
    cond_both (has_flag h.flags ACK && not (h.ack == number j.connection.iss 1)) _ _ P
    (λ _. cond_both (has_flag h.flags RST) _ _ P (λ _. d) (λ _. delivers-silent past before j.connection j.outputs (reset_frame j.connection h ∷ []) refl d))
    (λ _. cond_both (has_flag h.flags RST) _ _ P
    (λ _. cond_both (has_flag h.flags ACK) _ _ P (λ _. delivers-silent past before (ended j.connection) j.outputs (outputs.Told told.ConnectedRefused ∷ []) refl (delivers-ended past before j.connection j.outputs d)) (λ _. d))
    (λ _. cond_both (has_flag h.flags SYN && has_flag h.flags ACK) _ _ P
    (λ _. delivers-silent past before (connected cfg h j.connection) j.outputs (outputs.Told told.ConnectedUp ∷ []) refl
    (delivers-first past before j.connection st.Established h.seq true j.outputs (ap is_unknown is) (d.early (ap is_early is)) refl d))
    (λ _. d)))

delivers-arrived_in : (s : State) (past : Past) (before : List Output) (cfg : Cfg) (w : WireNo) (seg : Seg) (now : ℕ) (j : Job) → j.connection.state ≡ s → (expects j.connection.state ≡ true → has_flag seg.head.flags SYN ≡ false → Heard past cfg w seg j.connection) → DeliversAt past before j.connection j.outputs → DeliversAt past before (arrived_in s cfg w seg now j).connection (arrived_in s cfg w seg now j).outputs
delivers-arrived_in st.Closed past before cfg w seg now j is heard d = d
delivers-arrived_in st.Listen past before cfg w seg now j is heard d = delivers-opening past before cfg seg.head now j is d
delivers-arrived_in st.SynSent past before cfg w seg now j is heard d = delivers-syn_sent past before cfg seg.head j is d
delivers-arrived_in _ past before cfg w seg now j is heard d =
    (delivers-checked past before cfg w seg now j (heard (ap expects is)) d).at

-- ## Flush and timer: frames alone
silent-first_of : (cfg : Cfg) (w : Connection) (bytes : List ℕ) → recv_from (first_of cfg w bytes) ≡ []
silent-first_of cfg w [] = refl
silent-first_of cfg w (b ∷ bytes) = refl

silent-first_in : (s : State) (cfg : Cfg) (w : Connection) → recvs (first_unacked_in s cfg w ∷ []) ≡ []
silent-first_in st.SynSent cfg w = refl
silent-first_in st.SynReceived cfg w = refl
silent-first_in _ cfg w = ap (λ (t : List Output). t ++ []) (silent-first_of cfg w (unacked w))

silent-frames : (cfg : Cfg) (w : Connection) (most at : ℕ) (bytes : List ℕ) → recvs (data_frames cfg w most at bytes) ≡ []
silent-frames cfg w zero at bytes = refl
silent-frames cfg w (suc most) at [] = refl
silent-frames cfg w (suc most) at (b ∷ bytes) =
    silent-frames cfg w most (at + length (take w.mss (b ∷ bytes))) (drop w.mss (b ∷ bytes))

delivers-resent : (past : Past) (before : List Output) (cfg : Cfg) (j : Job) → DeliversAt past before j.connection j.outputs → DeliversAt past before (resent cfg j).connection (resent cfg j).outputs
unfolding resent first_unacked
delivers-resent past before cfg j d =
    cond_both (j.connection.resend && resends j.connection.state) _ _ (λ (r : Job). DeliversAt past before r.connection r.outputs)
    (λ _. delivers-silent past before j.connection j.outputs (first_unacked_in j.connection.state cfg j.connection ∷ []) (silent-first_in j.connection.state cfg j.connection) d)
    (λ _. d)

delivers-data_sent : (past : Past) (before : List Output) (cfg : Cfg) (j : Job) → DeliversAt past before j.connection j.outputs → DeliversAt past before (data_sent cfg j).connection (data_sent cfg j).outputs
unfolding data_sent
delivers-data_sent past before cfg j d =
    cond_both (sends j.connection.state) _ _ (λ (r : Job). DeliversAt past before r.connection r.outputs)
    (λ _. delivers-silent past before j.connection j.outputs (data_frames cfg j.connection (length (sendable j.connection)) j.connection.nxt (sendable j.connection)) (silent-frames cfg j.connection (length (sendable j.connection)) j.connection.nxt (sendable j.connection)) d)
    (λ _. d)

delivers-fin_sent : (past : Past) (before : List Output) (cfg : Cfg) (j : Job) → DeliversAt past before j.connection j.outputs → DeliversAt past before (fin_sent cfg j).connection (fin_sent cfg j).outputs
unfolding fin_sent
delivers-fin_sent past before cfg j d =
    cond_both (sends j.connection.state && j.connection.fin_wanted && not j.connection.fin_sent && (length (unsent j.connection) == 0)) _ _ (λ (r : Job). DeliversAt past before r.connection r.outputs)
    (λ _. delivers-silent past before j.connection j.outputs (fin_frame cfg j.connection j.connection.nxt ∷ []) refl d)
    (λ _. d)

delivers-ack_sent : (past : Past) (before : List Output) (cfg : Cfg) (j : Job) → DeliversAt past before j.connection j.outputs → DeliversAt past before (ack_sent cfg j).connection (ack_sent cfg j).outputs
unfolding ack_sent
delivers-ack_sent past before cfg j d =
    cond_both (j.connection.ack_owed && (length j.outputs == 0)) _ _ (λ (r : Job). DeliversAt past before r.connection r.outputs)
    (λ _. delivers-frame past before cfg j d)
    (λ _. d)

delivers-armed : (past : Past) (before : List Output) (cfg : Cfg) (now : ℕ) (w : Connection) (os : List Output) → DeliversAt past before w os → DeliversAt past before (armed cfg now w) os
unfolding armed
delivers-armed past before cfg now w os d =
    cond_both (is_none w.deadline && (nat_lt w.una w.nxt || ((w.una == w.nxt) && waits_for_window w))) _ _ (λ (v : Connection). DeliversAt past before v os) (λ _. d) (λ _. d)

delivers-flushed : (past : Past) (before : List Output) (cfg : Cfg) (now : ℕ) (j : Job) → DeliversAt past before j.connection j.outputs → DeliversAt past before (flushed cfg now j).connection (flushed cfg now j).outputs
unfolding flushed
delivers-flushed past before cfg now j d =
    delivers-armed past before cfg now _ _ (delivers-ack_sent past before cfg _ (delivers-fin_sent past before cfg _ (delivers-data_sent past before cfg _ (delivers-resent past before cfg j d))))

delivers-collapsed_in : (s : State) (past : Past) (before : List Output) (w : Connection) (os : List Output) → DeliversAt past before w os → DeliversAt past before (collapsed_in s w) os
delivers-collapsed_in st.SynSent past before w os d = d
delivers-collapsed_in st.SynReceived past before w os d = d
delivers-collapsed_in _ past before w os d = d

delivers-timed_out : (past : Past) (before : List Output) (j : Job) → DeliversAt past before j.connection j.outputs → DeliversAt past before (timed_out j).connection (timed_out j).outputs
unfolding timed_out
delivers-timed_out past before j d =
    cond_both (is_syn_sent j.connection.state) _ _ (λ (r : Job). DeliversAt past before r.connection r.outputs)
    (λ _. delivers-silent past before (ended j.connection) j.outputs (outputs.Told told.ConnectedTimeout ∷ []) refl (delivers-ended past before j.connection j.outputs d))
    (λ _. delivers-tells past before (on j (ended j.connection)) told.DeadTimeout refl (delivers-ended past before j.connection j.outputs d))

delivers-retransmitted : (past : Past) (before : List Output) (cfg : Cfg) (now : ℕ) (j : Job) → DeliversAt past before j.connection j.outputs → DeliversAt past before (retransmitted cfg now j).connection (retransmitted cfg now j).outputs
unfolding retransmitted collapsed first_unacked
delivers-retransmitted past before cfg now j d =
    cond_both (nat_le cfg.retries (j.connection.expiries + 1)) _ _ (λ (r : Job). DeliversAt past before r.connection r.outputs)
    (λ _. delivers-timed_out past before j d)
    (λ _. delivers-silent past before (collapsed_in j.connection.state j.connection) j.outputs (first_unacked_in (collapsed_in j.connection.state j.connection).state cfg (record (collapsed_in j.connection.state j.connection) { expiries = j.connection.expiries + 1; deadline = Some (later now (backed_off cfg (j.connection.expiries + 1))) }) ∷ [])
    (silent-first_in (collapsed_in j.connection.state j.connection).state cfg (record (collapsed_in j.connection.state j.connection) { expiries = j.connection.expiries + 1; deadline = Some (later now (backed_off cfg (j.connection.expiries + 1))) }))
    (delivers-collapsed_in j.connection.state past before j.connection j.outputs d))

delivers-expired : (past : Past) (before : List Output) (cfg : Cfg) (now : ℕ) (j : Job) → DeliversAt past before j.connection j.outputs → DeliversAt past before (expired cfg now j).connection (expired cfg now j).outputs
unfolding expired probed
delivers-expired past before cfg now j d =
    let P : Job → Type 0 = λ r. DeliversAt past before r.connection r.outputs in
    cond_both (not (is_due j.connection.deadline now)) _ _ P (λ _. d)
    (λ _. cond_both (is_time_wait j.connection.state) _ _ P (λ _. delivers-ended past before j.connection j.outputs d)
    (λ _. cond_both (nat_lt j.connection.una j.connection.nxt) _ _ P
    (λ _. delivers-retransmitted past before cfg now j d)
    (λ _. delivers-silent past before j.connection j.outputs (plain_frame cfg j.connection (number j.connection.iss (j.connection.una - 1)) ACK [] ∷ []) refl d)))

-- ## Calls
told-pieces : (ps : List Piece) → map recv_of (map as_told ps) ≡ map recv_of ps
told-pieces [] = refl
told-pieces (p ∷ ps) = ap (λ (t : List Output). recv_of p ∷ t) (told-pieces ps)

told-total : (ps : List Piece) → total (map as_told ps) ≡ total ps
told-total [] = refl
told-total (p ∷ ps) = ap (λ n. length p.bytes + n) (told-total ps)

told-came : (past : Past) (irs at : ℕ) (ps : List Piece) → AllCame past irs at ps → AllCame past irs at (map as_told ps)
told-came past irs at [] c = tt
told-came past irs at (p ∷ ps) c = (c.0, told-came past irs (at + length p.bytes) ps c.1)

told-none : (ps : List Piece) → ps ≡ [] → map as_told ps ≡ []
told-none ps e = ap (map as_told) e

recvs-pieces : (ps : List Piece) → recvs (map recv_of ps) ≡ map recv_of ps
recvs-pieces [] = refl
recvs-pieces (p ∷ ps) = ap (λ (t : List Output). recv_of p ∷ t) (recvs-pieces ps)

silent-end : (w : Connection) → recvs (kept_end w) ≡ []
silent-end w = cond_both (is_close_wait w.state) _ _ (λ (os : List Output). recvs os ≡ []) (λ _. refl) (λ _. refl)

none-before : (a : Bool) (ps : List Piece) (given : List Output) → a ≡ false → map recv_of (if a then ps else []) ≡ given → [] ≡ given
none-before false ps given e f = f
none-before true ps given e f = cc

delivers-accepted : (past : Past) (before : List Output) (w : Connection) (os : List Output) → w.accepted ≡ false → DeliversAt past before w os → DeliversAt past before (record w { accepted = true; pieces = map as_told w.pieces }) (os ++ outputs.Ret (rets.Done 0) ∷ [] ++ map recv_of w.pieces ++ kept_end w)
delivers-accepted past before w os e d =
    let first : List Output = os ++ outputs.Ret (rets.Done 0) ∷ [] in
    let nothing : [] ≡ before ++ recvs os = none-before w.accepted w.pieces (before ++ recvs os) e d.events in
    let given : recvs (os ++ outputs.Ret (rets.Done 0) ∷ [] ++ map recv_of w.pieces ++ kept_end w) ≡ recvs os ++ map recv_of w.pieces =
    recvs-append (os ++ outputs.Ret (rets.Done 0) ∷ [] ++ map recv_of w.pieces) (kept_end w)
    ∙ ap (λ (t : List Output). recvs (os ++ outputs.Ret (rets.Done 0) ∷ [] ++ map recv_of w.pieces) ++ t) (silent-end w)
    ∙ append-none (recvs (os ++ outputs.Ret (rets.Done 0) ∷ [] ++ map recv_of w.pieces))
    ∙ recvs-append (os ++ outputs.Ret (rets.Done 0) ∷ []) (map recv_of w.pieces)
    ∙ ap (λ (t : List Output). t ++ recvs (map recv_of w.pieces)) (recvs-append os (outputs.Ret (rets.Done 0) ∷ []) ∙ append-none (recvs os))
    ∙ ap (λ (t : List Output). recvs os ++ t) (recvs-pieces w.pieces) in
    record {
      events = told-pieces w.pieces
          ∙ ap (λ (t : List Output). t ++ map recv_of w.pieces) nothing
          ∙ append_assoc before (recvs os) (map recv_of w.pieces)
          ∙ ap (λ (t : List Output). before ++ t) (sym given);
      none = λ r. told-none w.pieces (d.none r);
      none_held = d.none_held;
      place = λ r. d.place r ∙ ap (λ n. 1 + n) (sym (told-total w.pieces));
      early = d.early;
      late = d.late;
      came = told-came past w.irs 1 w.pieces d.came;
      waits = d.waits;
    }

delivers-accept : (past : Past) (before : List Output) (j : Job) → DeliversAt past before j.connection j.outputs → DeliversAt past before (accept j).connection (accept j).outputs
unfolding accept
delivers-accept past before j d =
    cond_both j.connection.accepted _ _ (λ (r : Job). DeliversAt past before r.connection r.outputs)
    (λ _. delivers-silent past before j.connection j.outputs (outputs.Ret rets.NotKnocked ∷ []) refl d)
    (λ e. delivers-accepted past before j.connection j.outputs e d)

closed-receiving : (s : State) → is_unknown s ≡ false → is_receiving (closed_state s) ≡ false
closed-receiving st.SynReceived e = cc
closed-receiving st.Established e = refl
closed-receiving st.CloseWait e = refl
closed-receiving _ e = refl

closed-early : (s : State) → is_unknown s ≡ false → is_early (closed_state s) ≡ false
closed-early st.Listen e = cc
closed-early st.SynSent e = cc
closed-early st.SynReceived e = cc
closed-early st.Established e = refl
closed-early st.CloseWait e = refl
closed-early _ e = refl

delivers-shut_down : (past : Past) (before : List Output) (w : Connection) (os : List Output) → is_unknown w.state ≡ false → DeliversAt past before w os → DeliversAt past before (shut_down w) os
delivers-shut_down past before w os known d =
    record {
      events = d.events;
      none = λ e. let no : true ≡ false = sym e ∙ closed-unknown w.state ∙ known in cc;
      none_held = λ _. refl;
      place = λ e. let no : true ≡ false = sym e ∙ closed-receiving w.state known in cc;
      early = λ e. let no : true ≡ false = sym e ∙ closed-early w.state known in cc;
      late = λ _. refl;
      came = d.came;
      waits = tt;
    }

delivers-close : (past : Past) (before : List Output) (j : Job) → is_unknown j.connection.state ≡ false → DeliversAt past before j.connection j.outputs → DeliversAt past before (close j).connection (close j).outputs
unfolding close
delivers-close past before j known d =
    cond_both (persists j.connection) _ _ (λ (v : Connection). DeliversAt past before v (j.outputs ++ outputs.Ret (rets.Done 0) ∷ []))
    (λ _. delivers-silent past before (shut_down j.connection) j.outputs (outputs.Ret (rets.Done 0) ∷ []) refl (delivers-shut_down past before j.connection j.outputs known d))
    (λ _. delivers-silent past before (shut_down j.connection) j.outputs (outputs.Ret (rets.Done 0) ∷ []) refl (delivers-shut_down past before j.connection j.outputs known d))

delivers-answered : (past : Past) (before : List Output) (cfg : Cfg) (ask : Ask) (j : Job) → is_unknown j.connection.state ≡ false → DeliversAt past before j.connection j.outputs → DeliversAt past before (answered cfg ask j).connection (answered cfg ask j).outputs
unfolding answered sendv recv_done
delivers-answered past before cfg asks.Connect j known d = d
delivers-answered past before cfg asks.Accept j known d = delivers-accept past before j d
delivers-answered past before cfg (asks.Sendv bytes) j known d =
    cond_both (not (j.connection.accepted && is_open j.connection.state)) _ _ (λ (r : Job). DeliversAt past before r.connection r.outputs)
    (λ _. delivers-silent past before j.connection j.outputs _ refl d)
    (λ _. delivers-silent past before j.connection j.outputs (outputs.Ret (rets.Done (min (length bytes) (room j.connection))) ∷ []) refl d)
delivers-answered past before cfg (asks.RecvDone n) j known d =
    let P : Job → Type 0 = λ r. DeliversAt past before r.connection r.outputs in
    cond_both (not j.connection.accepted) _ _ P
    (λ _. delivers-silent past before j.connection j.outputs (outputs.Ret rets.NotOpen ∷ []) refl d)
    (λ _. cond_both (nat_lt j.connection.unread n) _ _ P
    (λ _. delivers-silent past before j.connection j.outputs (outputs.Ret rets.TooMuch ∷ []) refl d)
    (λ _. delivers-silent past before j.connection j.outputs (outputs.Ret (rets.Done n) ∷ []) refl d))
delivers-answered past before cfg asks.Close j known d = delivers-close past before j known d

delivers-called : (past : Past) (before : List Output) (cfg : Cfg) (ask : Ask) (now : ℕ) (j : Job) → IsKept cfg j.connection → DeliversAt past before j.connection j.outputs → DeliversAt past before (called cfg ask now j).connection (called cfg ask now j).outputs
unfolding called
delivers-called past before cfg ask now j k d =
    let P : Job → Type 0 = λ r. DeliversAt past before r.connection r.outputs in
    cond_both (is_connect ask) _ _ P
    (λ _. cond_both (is_listen j.connection.state) _ _ P (λ e. delivers-connecting past before cfg now j (listen-is j.connection.state e) d) (λ _. d))
    (λ _. cond_both (is_live j.connection) _ _ P
    (λ live. delivers-answered past before cfg ask j (live-known cfg j.connection k live) d)
    (λ _. delivers-silent past before j.connection j.outputs (outputs.Ret rets.BadHandle ∷ []) refl d))

-- ## A step and a run
-- the past with one more moment
abbrev next_past : Moment → Past → Past
next_past m past = record { moments = m ∷ past.moments; peer = past.peer }

came-later : (m : Moment) (past : Past) (irs at : ℕ) (w : WireNo) (from : ℕ) (bytes : List ℕ) → CameSo past irs at w from bytes → CameSo (next_past m past) irs at w from bytes
came-later m past irs at w from bytes so =
    let c : Came past.moments irs at w from bytes = so.came in
    record {
      came = record { seg = c.seg; arrived = inr c.arrived; k = c.k; place = c.place; seq = c.seq; rest = c.rest; body = c.body };
      says = so.says;
    }

came-all-later : (m : Moment) (past : Past) (irs at : ℕ) (ps : List Piece) → AllCame past irs at ps → AllCame (next_past m past) irs at ps
came-all-later m past irs at [] c = tt
came-all-later m past irs at (p ∷ ps) c = (came-later m past irs at p.w p.from p.bytes c.0, came-all-later m past irs (at + length p.bytes) ps c.1)

held-later : (m : Moment) (past : Past) (irs : ℕ) (held : List HeldSegment) → HeldCame past irs held → HeldCame (next_past m past) irs held
held-later m past irs [] c = tt
held-later m past irs (s ∷ rest) c = (came-later m past irs s.at s.w s.from s.bytes c.0, held-later m past irs rest c.1)

delivers-later : (m : Moment) (past : Past) (before : List Output) (w : Connection) → DeliversAt past before w [] → DeliversAt (next_past m past) before w []
delivers-later m past before w d =
    record {
      events = d.events;
      none = d.none;
      none_held = d.none_held;
      place = d.place;
      early = d.early;
      late = d.late;
      came = came-all-later m past w.irs 1 w.pieces d.came;
      waits = held-later m past w.irs w.held d.waits;
    }

-- what the octets of an input say that lie in the window
abbrev SaysIn : Cfg → Option (List ℕ) → Connection → Input → Type 0
SaysIn cfg p w (inputs.Segment n seg) =
    expects w.state ≡ true → has_flag seg.head.flags SYN ≡ false → Says p (in_window cfg w seg).at (in_window cfg w seg).bytes
SaysIn cfg p w _ = Unit {0}

abbrev AllSay : Cfg → Option (List ℕ) → Connection → List Moment → Type 0
AllSay cfg p w [] = Unit {0}
AllSay cfg p w (m ∷ ms) = SaysIn cfg p w m.input × AllSay cfg p (step cfg w m.input m.clock).connection ms

delivers-stepped : (i : Input) (clock : ℕ) (past : Past) (before : List Output) (cfg : Cfg) (w : Connection) → SaysIn cfg past.peer w i → IsKept cfg w → DeliversAt (next_past (record { input = i; clock = clock }) past) before w [] → DeliversAt (next_past (record { input = i; clock = clock }) past) before (step cfg w i clock).connection (step cfg w i clock).outputs
unfolding step stepped arrived
delivers-stepped (inputs.Segment n seg) clock past before cfg w says k d =
    delivers-arrived_in w.state _ before cfg n seg clock (record { connection = w; outputs = [] }) refl (λ e plain. record { arrived = inl refl; says = says e plain }) d
delivers-stepped inputs.Timer clock past before cfg w says k d =
    cond_both (is_alive w.state) _ _ (λ (r : Job). DeliversAt (next_past (record { input = inputs.Timer; clock = clock }) past) before r.connection r.outputs)
    (λ _. delivers-expired _ before cfg clock (record { connection = w; outputs = [] }) d)
    (λ _. d)
delivers-stepped (inputs.Call ask) clock past before cfg w says k d =
    delivers-called _ before cfg ask clock (record { connection = w; outputs = [] }) k d
delivers-stepped inputs.Flush clock past before cfg w says k d =
    cond_both (is_alive w.state) _ _ (λ (r : Job). DeliversAt (next_past (record { input = inputs.Flush; clock = clock }) past) before r.connection r.outputs)
    (λ _. delivers-flushed _ before cfg clock (record { connection = w; outputs = [] }) d)
    (λ _. d)

-- the outputs of a step are those of the steps before the next
delivers-next : (past : Past) (before : List Output) (w : Connection) (os : List Output) → DeliversAt past before w os → DeliversAt past (before ++ recvs os) w []
delivers-next past before w os d =
    record {
      events = d.events ∙ sym (append-none (before ++ recvs os));
      none = d.none;
      none_held = d.none_held;
      place = d.place;
      early = d.early;
      late = d.late;
      came = d.came;
      waits = d.waits;
    }

delivers-run : (ms : List Moment) (past : Past) (before : List Output) (cfg : Cfg) (w : Connection) → IsInRange cfg → AreWritten ms → AllSay cfg past.peer w ms → IsKept cfg w → DeliversAt past before w [] → DeliversAt (record { moments = after past.moments ms; peer = past.peer }) (before ++ all_recvs (run_outputs cfg w ms)) (last cfg w ms) []
delivers-run [] past before cfg w range written say k d =
    subst (λ (t : List Output). DeliversAt past t w []) (sym (append-none before)) d
delivers-run (m ∷ ms) past before cfg w range written say k d =
    let next : Connection = (step cfg w m.input m.clock).connection in
    subst (λ (t : List Output). DeliversAt (record { moments = after (m ∷ past.moments) ms; peer = past.peer }) t (last cfg (step cfg w m.input m.clock).connection ms) [])
    (append_assoc before (recvs (step cfg w m.input m.clock).outputs) (all_recvs (run_outputs cfg (step cfg w m.input m.clock).connection ms)))
    (delivers-run ms (next_past m past) (before ++ recvs (step cfg w m.input m.clock).outputs) cfg (step cfg w m.input m.clock).connection range written.2 say.1 (kept-step cfg w m.input m.clock range written.0 written.1 k)
    (delivers-next (next_past m past) before (step cfg w m.input m.clock).connection (step cfg w m.input m.clock).outputs
    (delivers-stepped m.input m.clock past before cfg w say.0 k (delivers-later m past before w d))))

pub kept-listening : (cfg : Cfg) (flow : Flow) (peer_mac : List ℕ) (iss : ℕ) → IsKept cfg (listening flow peer_mac iss)
kept-listening cfg flow peer_mac iss =
    record {
      sound = record {
        sender = record { order = omega arith; within = omega arith; fin = λ e. cc; flight = omega arith; stream = λ e. cc; syn = λ e. cc; wanted = λ e. cc; unwanted = λ _. refl };
        receiver = record { rising = tt; frames = tt; most = omega arith };
        sizes = record { mss_least = omega arith; mss_most = omega arith; wnd_most = omega arith; expiries_most = omega arith };
        unknown = λ _. refl;
        untouched = λ _. refl;
        unlost = λ _. refl;
        pieces = All-nil (λ (p : Piece). length p.bytes < 2 ^ 16);
      };
      standing = record {
        buffer = record { unread_fits = omega arith; held_fits = tt };
        peer = record { mss_least = λ e. cc; mss_most = λ e. cc; wnd_most = λ e. cc; cwnd_open = λ e. cc; ssthresh_open = λ e. cc };
      };
    }

delivers-opened : (p : Option (List ℕ)) (cfg : Cfg) (flow : Flow) (peer_mac : List ℕ) (iss : ℕ) (ms : List Moment) → IsInRange cfg → AreWritten ms → AllSay cfg p (listening flow peer_mac iss) ms → DeliversAt (record { moments = after [] ms; peer = p }) ([] ++ all_recvs (run_outputs cfg (listening flow peer_mac iss) ms)) (last cfg (listening flow peer_mac iss) ms) []
delivers-opened p cfg flow peer_mac iss ms range written say =
    delivers-run ms (record { moments = []; peer = p }) [] cfg (listening flow peer_mac iss) range written say (kept-listening cfg flow peer_mac iss)
    (record { events = refl; none = λ _. refl; none_held = λ _. refl; place = λ e. cc; early = λ _. refl; late = λ e. cc; came = tt; waits = tt })

-- where nothing is known of the peer, nothing is said
nothing-said : (cfg : Cfg) (w : Connection) (i : Input) → SaysIn cfg None w i
nothing-said cfg w (inputs.Segment n seg) = λ _ _. tt
nothing-said cfg w inputs.Timer = tt
nothing-said cfg w (inputs.Call ask) = tt
nothing-said cfg w inputs.Flush = tt

none-say : (cfg : Cfg) (w : Connection) (ms : List Moment) → AllSay cfg None w ms
none-say cfg w [] = tt
none-say cfg w (m ∷ ms) = (nothing-said cfg w m.input, none-say cfg (step cfg w m.input m.clock).connection ms)

-- what came, whatever it says
came-of : (past : Past) (irs at : ℕ) (ps : List Piece) → AllCame past irs at ps → CameInOrder past.moments irs at ps
came-of past irs at [] c = tt
came-of past irs at (p ∷ ps) c = (c.0.came, came-of past irs (at + length p.bytes) ps c.1)

pub delivered-run : (cfg : Cfg) (flow : Flow) (peer_mac : List ℕ) (iss : ℕ) (ms : List Moment) → IsInRange cfg → AreWritten ms → IsTold (after [] ms) (all_recvs (run_outputs cfg (listening flow peer_mac iss) ms)) (last cfg (listening flow peer_mac iss) ms)
delivered-run cfg flow peer_mac iss ms range written =
    let past : Past = record { moments = after [] ms; peer = None } in
    let w : Connection = last cfg (listening flow peer_mac iss) ms in
    let d : DeliversAt past ([] ++ all_recvs (run_outputs cfg (listening flow peer_mac iss) ms)) w [] =
    delivers-opened None cfg flow peer_mac iss ms range written (none-say cfg (listening flow peer_mac iss) ms) in
    record { events = d.events ∙ append-none (all_recvs (run_outputs cfg (listening flow peer_mac iss) ms)); bytes = came-of past w.irs 1 w.pieces d.came }

-- ## Where the peer agrees with itself
agreed-say : (cfg : Cfg) (peer : List ℕ) (w : Connection) (i : Input) → AgreesAt cfg peer w i → SaysIn cfg (Some peer) w i
agreed-say cfg peer w (inputs.Segment n seg) a = a
agreed-say cfg peer w inputs.Timer a = tt
agreed-say cfg peer w (inputs.Call ask) a = tt
agreed-say cfg peer w inputs.Flush a = tt

agree-say : (cfg : Cfg) (peer : List ℕ) (w : Connection) (ms : List Moment) → PeerAgrees cfg peer w ms → AllSay cfg (Some peer) w ms
agree-say cfg peer w [] a = tt
agree-say cfg peer w (m ∷ ms) a =
    (agreed-say cfg peer w m.input a.0, agree-say cfg peer (step cfg w m.input m.clock).connection ms a.1)

-- parts that are the peer's at their positions, one behind another, begin its stream
begins : (moments : List Moment) (peer : List ℕ) (irs at : ℕ) (ps : List Piece) → 0 < at → AllCame (record { moments = moments; peer = Some peer }) irs at ps → IsPrefix (bytes_of ps) (from_position at peer)
begins moments peer irs at [] lt c = prefix_nil (from_position at peer)
begins moments peer irs at (p ∷ ps) lt c =
    let here : AreOf peer at p.bytes = c.0.says in
    let more : IsPrefix (bytes_of ps) (from_position (at + length p.bytes) peer) = begins moments peer irs (at + length p.bytes) ps (omega (arith, lt)) c.1 in
    let rest : here.rest ≡ from_position (at + length p.bytes) peer =
    sym (from-later at (length p.bytes) peer lt ∙ ap (λ (t : List ℕ). drop (length p.bytes) t) here.here ∙ drop-append_seam p.bytes here.rest) in
    record {
      rest = more.rest;
      joined = here.here ∙ ap (λ (t : List ℕ). p.bytes ++ t) (rest ∙ more.joined) ∙ sym (append_assoc p.bytes (bytes_of ps) more.rest);
    }

told-begin : (accepted : Bool) (ps : List Piece) (peer : List ℕ) → IsPrefix (bytes_of ps) peer → IsPrefix (bytes_of (if accepted then ps else [])) peer
told-begin true ps peer p = p
told-begin false ps peer p = prefix_nil peer

pub agreed-run : (cfg : Cfg) (flow : Flow) (peer_mac : List ℕ) (iss : ℕ) (ms : List Moment) (peer : List ℕ) → IsInRange cfg → AreWritten ms → PeerAgrees cfg peer (listening flow peer_mac iss) ms → IsPrefix (bytes_of (told_pieces (last cfg (listening flow peer_mac iss) ms))) peer
agreed-run cfg flow peer_mac iss ms peer range written agrees =
    let w : Connection = last cfg (listening flow peer_mac iss) ms in
    let d : DeliversAt (record { moments = after [] ms; peer = Some peer }) ([] ++ all_recvs (run_outputs cfg (listening flow peer_mac iss) ms)) w [] =
    delivers-opened (Some peer) cfg flow peer_mac iss ms range written (agree-say cfg peer (listening flow peer_mac iss) ms agrees) in
    told-begin w.accepted w.pieces peer (begins (after [] ms) peer w.irs 1 w.pieces (omega arith) d.came)
