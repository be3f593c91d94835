-- What the arrival of a segment sends.
use Rattle.std.proofs.Common.{◌≡◌, ℕ, ◌+◌, ◌-◌, Bool, true, false, if◌then◌else◌, length, List, [], ◌∷◌, ◌++◌, refl, inl, inr}
use Rattle.std.specs.Prelude.{nat_lt, nat_le, ◌&&◌, ◌||◌, ◌==◌, not, Some, ◌⊎◌}
use Rattle.std.specs.List.{All, list_all}
use Rattle.std.proofs.lemmas.Bool.{cond_both}
use Rattle.std.proofs.lemmas.List.Elements.{All-append, All-cons, All-nil, All-weaker}
use Rattle.ix_base.specs.declared.segment.SegHead.{SegHead}
use Rattle.ix_base.specs.declared.segment.Seg.{Seg}
use Rattle.ix_base.specs.declared.id.WireNo.{WireNo}
use Rattle.ix_base.specs.Sequence.{number, is_past}
use Rattle.ix_base.specs.Flags.{has_flag}
use Rattle.ix_tcpdef.specs.Ticks.{later}
use Rattle.ix_tcpdef.specs.Connection.{snd_una, snd_nxt, rcv_nxt, rcv_wnd, seq_of, acked_data, room, is_syn_received, is_time_wait, gives, tells, on, ended}
use Rattle.ix_tcpdef.specs.Frames.{ack_frame, reset_frame, syn_frame, syn_ack_frame}
use Rattle.ix_tcpdef.specs.Arrival.{Next, Goes, Stops, ◌>>=◌, job_of, span, is_acceptable, acceptability, reset, synchronize, unacknowledged}
use Rattle.ix_tcpdef.specs.Opening.{opens, passive, opening, active, connecting, syn_sent}
use Rattle.ix_tcpdef.specs.Acknowledgement.{established, establishing, too_far, acked, told_sent, fin_acked_in, fin_acked, synchronized, acknowledgement}
use Rattle.ix_tcpdef.specs.Body.{octets, delivered, rest_of, holding, filled, is_apart, waiting, received, takes_body, body, past_fin, fin_taken_in, fin_taken, finished, text_and_fin}
use Rattle.ix_tcpdef.specs.Step.{checked, arrived_in, arrived}
use Rattle.ix_tcpdef.specs.Laws.{Acknowledges, Carries, SendsFairly}
use Rattle.ix_tcpdef.specs.declared.types.Cfg.{Cfg}
use Rattle.ix_tcpdef.specs.declared.types.State.{State}
use Rattle.ix_tcpdef.specs.declared.types.State.TheVariants as st
use Rattle.ix_tcpdef.specs.declared.types.Connection.{Connection}
use Rattle.ix_tcpdef.specs.declared.types.HeldSegment.{HeldSegment}
use Rattle.ix_tcpdef.specs.declared.types.Octets.{Octets}
use Rattle.ix_tcpdef.specs.declared.types.Job.{Job}
use Rattle.ix_tcpdef.specs.declared.types.Output.{Output}
use Rattle.ix_tcpdef.specs.declared.types.Output.TheVariants as outputs
use Rattle.ix_tcpdef.specs.declared.types.Told.{Told}
use Rattle.ix_tcpdef.specs.declared.types.Told.TheVariants as told
use Rattle.ix_base.specs.declared.segment.TheConstants.{ACK, FIN, RST, SYN}

-- ## No frame yet
abbrev pub IsQuiet : Output → Type 0
IsQuiet (outputs.Frame seg) = ⊥
IsQuiet _ = Unit {0}

pub record AreQuiet (os : List Output) : Type 0 where
  pub each : All IsQuiet os

quiet-acks : (w : Connection) (o : Output) → IsQuiet o → Acknowledges w o
quiet-acks w (outputs.Frame seg) q = absurd q
quiet-acks w (outputs.Told t) q = tt
quiet-acks w (outputs.Ret r) q = tt

quiet-bodies : (old new : Connection) (o : Output) → IsQuiet o → Carries old new o
quiet-bodies old new (outputs.Frame seg) q = absurd q
quiet-bodies old new (outputs.Told t) q = tt
quiet-bodies old new (outputs.Ret r) q = tt

pub fair-quiet : (old new : Connection) (os : List Output) → AreQuiet os → SendsFairly old new os
fair-quiet old new os q =
    record {
      acks = All-weaker IsQuiet (Acknowledges new) (quiet-acks new) os q.each;
      bodies = All-weaker IsQuiet (Carries old new) (quiet-bodies old new) os q.each;
    }

pub quiet-none : AreQuiet []
quiet-none = record { each = All-nil IsQuiet }

pub quiet-more : (os : List Output) (o : Output) → AreQuiet os → IsQuiet o → AreQuiet (os ++ o ∷ [])
quiet-more os o q one = record { each = All-append IsQuiet os (o ∷ []) q.each (All-cons IsQuiet o [] one (All-nil IsQuiet)) }

pub quiet-tells : (j : Job) (t : Told) → AreQuiet j.outputs → AreQuiet (tells j t).outputs
quiet-tells j t q =
    cond_both (j.connection.accepted && not j.connection.shut) _ _ (λ (r : Job). AreQuiet r.outputs) (λ _. quiet-more j.outputs (outputs.Told t) q tt) (λ _. q)

-- ## One frame more
pub fair-more : (old new : Connection) (os : List Output) (o : Output) → Acknowledges new o → Carries old new o → SendsFairly old new os → SendsFairly old new (os ++ o ∷ [])
fair-more old new os o ack carried f =
    record {
      acks = All-append (Acknowledges new) os (o ∷ []) f.acks (All-cons (Acknowledges new) o [] ack (All-nil (Acknowledges new)));
      bodies = All-append (Carries old new) os (o ∷ []) f.bodies (All-cons (Carries old new) o [] carried (All-nil (Carries old new)));
    }

-- an acknowledgement of a connection that expects the same afterwards
pub fair-ack : (cfg : Cfg) (old w new : Connection) (os : List Output) → rcv_nxt w ≡ rcv_nxt new → SendsFairly old new os → SendsFairly old new (os ++ ack_frame cfg w ∷ [])
fair-ack cfg old w new os same f = fair-more old new os (ack_frame cfg w) (λ _ _. same) (inl refl) f

fair-reset : (old w new : Connection) (h : SegHead) (os : List Output) → SendsFairly old new os → SendsFairly old new (os ++ reset_frame w h ∷ [])
fair-reset old w new h os f = fair-more old new os (reset_frame w h) (λ _ e. let no : true ≡ false = e in cc) (inl refl) f

-- ## Parts
-- where the segment goes on, no frame was sent yet
abbrev pub Fair : Connection → Next → Type 0
Fair old (Goes j) = AreQuiet j.outputs
Fair old (Stops j) = SendsFairly old j.connection j.outputs

pub record IsFair (old : Connection) (n : Next) : Type 0 where
  pub fair : Fair old n

fair-acceptability : (cfg : Cfg) (old : Connection) (h : SegHead) (now : ℕ) (j : Job) → AreQuiet j.outputs → IsFair old (acceptability cfg h now j)
unfolding acceptability
fair-acceptability cfg old h now j q =
    by_tests (is_acceptable (span h) (rcv_wnd cfg j.connection) (seq_of j.connection h)) (has_flag h.flags RST) (has_flag h.flags FIN && is_time_wait j.connection.state)
  where
    by_tests : (a b c : Bool) → IsFair old (if a then Goes j else if b then Stops j else if c then Stops (gives (on j (record j.connection { deadline = Some (later now cfg.time_wait) })) (ack_frame cfg j.connection)) else Stops (gives j (ack_frame cfg j.connection)))
    by_tests true b c = record { fair = q }
    by_tests false true c = record { fair = fair-quiet old j.connection j.outputs q }
    by_tests false false true = record { fair = fair-ack cfg old j.connection _ j.outputs refl (fair-quiet old _ j.outputs q) }
    by_tests false false false = record { fair = fair-ack cfg old j.connection j.connection j.outputs refl (fair-quiet old j.connection j.outputs q) }

fair-reset_part : (cfg : Cfg) (old : Connection) (h : SegHead) (j : Job) → AreQuiet j.outputs → IsFair old (reset cfg h j)
unfolding reset
fair-reset_part cfg old h j q = by_tests (has_flag h.flags RST) (h.seq == rcv_nxt j.connection)
  where
    by_tests : (a b : Bool) → IsFair old (if not a then Goes j else if b then Stops (tells (on j (ended j.connection)) told.DeadReset) else Stops (gives j (ack_frame cfg j.connection)))
    by_tests false b = record { fair = q }
    by_tests true true = record { fair = fair-quiet old _ _ (quiet-tells (on j (ended j.connection)) told.DeadReset q) }
    by_tests true false = record { fair = fair-ack cfg old j.connection j.connection j.outputs refl (fair-quiet old j.connection j.outputs q) }

fair-synchronize : (cfg : Cfg) (old : Connection) (h : SegHead) (j : Job) → AreQuiet j.outputs → IsFair old (synchronize cfg h j)
unfolding synchronize
fair-synchronize cfg old h j q = by_tests (has_flag h.flags SYN) (is_syn_received j.connection.state)
  where
    by_tests : (a b : Bool) → IsFair old (if not a then Goes j else if b then Stops (on j (ended j.connection)) else Stops (gives j (ack_frame cfg j.connection)))
    by_tests false b = record { fair = q }
    by_tests true true = record { fair = fair-quiet old _ j.outputs q }
    by_tests true false = record { fair = fair-ack cfg old j.connection j.connection j.outputs refl (fair-quiet old j.connection j.outputs q) }

fair-unacknowledged : (old : Connection) (h : SegHead) (j : Job) → AreQuiet j.outputs → IsFair old (unacknowledged h j)
unfolding unacknowledged
fair-unacknowledged old h j q = by_test (has_flag h.flags ACK)
  where
    by_test : (a : Bool) → IsFair old (if a then Goes j else Stops j)
    by_test true = record { fair = q }
    by_test false = record { fair = fair-quiet old j.connection j.outputs q }

fair-establishing : (old : Connection) (h : SegHead) (j : Job) → AreQuiet j.outputs → IsFair old (establishing h j)
unfolding establishing
fair-establishing old h j q = by_test (is_past (snd_una j.connection) h.ack && not (is_past (snd_nxt j.connection) h.ack))
  where
    by_test : (a : Bool) → IsFair old (if a then Goes (gives (on j (established h j.connection)) (outputs.Told told.Knock)) else Stops (gives j (reset_frame j.connection h)))
    by_test true = record { fair = quiet-more j.outputs (outputs.Told told.Knock) q tt }
    by_test false = record { fair = fair-reset old j.connection j.connection h j.outputs (fair-quiet old j.connection j.outputs q) }

quiet-told_sent : (n : ℕ) (j : Job) → AreQuiet j.outputs → AreQuiet (told_sent n j).outputs
unfolding told_sent
quiet-told_sent n j q =
    cond_both (nat_lt 0 n || (j.connection.wants && nat_lt 0 (room j.connection))) _ _ (λ (r : Job). AreQuiet r.outputs)
    (λ _. quiet-tells (on j (record j.connection { wants = false })) _ q)
    (λ _. q)

fair-fin_acked_in : (s : State) (cfg : Cfg) (old : Connection) (now : ℕ) (j : Job) → AreQuiet j.outputs → IsFair old (fin_acked_in s cfg now j)
fair-fin_acked_in st.LastAck cfg old now j q = record { fair = fair-quiet old _ j.outputs q }
fair-fin_acked_in st.FinWait1 cfg old now j q = record { fair = q }
fair-fin_acked_in st.Closing cfg old now j q = record { fair = q }
fair-fin_acked_in _ cfg old now j q = record { fair = q }

fair-fin_acked : (cfg : Cfg) (old : Connection) (now : ℕ) (j : Job) → AreQuiet j.outputs → IsFair old (fin_acked cfg now j)
unfolding fin_acked
fair-fin_acked cfg old now j q =
    cond_both (j.connection.fin_sent && (j.connection.una == j.connection.nxt)) _ _ (IsFair old)
    (λ _. fair-fin_acked_in j.connection.state cfg old now j q)
    (λ _. record { fair = q })

fair-synchronized : (cfg : Cfg) (old : Connection) (h : SegHead) (now : ℕ) (j : Job) → AreQuiet j.outputs → IsFair old (synchronized cfg h now j)
unfolding synchronized too_far
fair-synchronized cfg old h now j q = by_test (is_past (snd_nxt j.connection) h.ack)
  where
    by_test : (a : Bool) → IsFair old ((if a then Stops (gives j (ack_frame cfg j.connection)) else Goes j) >>= (λ j. fin_acked cfg now (told_sent (acked_data (acked cfg h now j.connection) - acked_data j.connection) (on j (acked cfg h now j.connection)))))
    by_test true = record { fair = fair-ack cfg old j.connection j.connection j.outputs refl (fair-quiet old j.connection j.outputs q) }
    by_test false = fair-fin_acked cfg old now _ (quiet-told_sent _ (on j (acked cfg h now j.connection)) q)

fair-acknowledgement : (cfg : Cfg) (old : Connection) (h : SegHead) (now : ℕ) (j : Job) → AreQuiet j.outputs → IsFair old (acknowledgement cfg h now j)
unfolding acknowledgement
fair-acknowledgement cfg old h now j q =
    cond_both (is_syn_received j.connection.state) _ _ (IsFair old) (λ _. fair-establishing old h j q) (λ _. fair-synchronized cfg old h now j q)

-- ## The body and the FIN
quiet-delivered : (o : Octets) (w : WireNo) (j : Job) → AreQuiet j.outputs → AreQuiet (delivered o w j).outputs
unfolding delivered
quiet-delivered o w j q =
    let P : Job → Type 0 = λ r. AreQuiet r.outputs in
    cond_both j.connection.shut _ _ P (λ _. q)
    (λ _. cond_both j.connection.accepted _ _ P (λ _. quiet-more j.outputs _ q tt) (λ _. q))

quiet-filled : (left : List HeldSegment) (fin : Bool) (j : Job) → AreQuiet j.outputs → AreQuiet (filled left fin j).0.outputs
unfolding filled
quiet-filled [] fin j q = q
quiet-filled (s ∷ rest) fin j q =
    let P : Job × Bool → Type 0 = λ r. AreQuiet r.0.outputs in
    cond_both (nat_lt j.connection.rcv s.at) _ _ P (λ _. q)
    (λ _. cond_both (nat_le (s.at + length s.bytes) j.connection.rcv) _ _ P
    (λ _. quiet-filled rest fin (holding rest j) q)
    (λ _. quiet-filled rest s.fin (delivered (rest_of s j.connection.rcv) s.w (holding rest j)) (quiet-delivered (rest_of s j.connection.rcv) s.w (holding rest j) q)))

waiting-expects : (o : Octets) (w : WireNo) (fin : Bool) (c : Connection) → rcv_nxt c ≡ rcv_nxt (waiting o w fin c)
unfolding waiting
waiting-expects o w fin c =
    cond_both (nat_lt (length c.held) 8 && list_all (is_apart o) c.held) _ _ (λ (v : Connection). rcv_nxt c ≡ rcv_nxt v) (λ _. refl) (λ _. refl)

-- no frame was sent, or no FIN stands at RCV.NXT
abbrev pub FairBody : Connection → Job × Bool → Type 0
FairBody old r = AreQuiet r.0.outputs ⊎ ((r.1 ≡ false) × SendsFairly old r.0.connection r.0.outputs)

fair-received : (cfg : Cfg) (old : Connection) (o : Octets) (w : WireNo) (fin : Bool) (j : Job) → AreQuiet j.outputs → FairBody old (received cfg o w fin j)
unfolding received
fair-received cfg old o w fin j q =
    cond_both (o.at == j.connection.rcv) _ _ (FairBody old)
    (λ _. inl (quiet-filled j.connection.held fin (delivered o w j) (quiet-delivered o w j q)))
    (λ _. inr (refl, fair-ack cfg old j.connection (waiting o w fin j.connection) j.outputs (waiting-expects o w fin j.connection) (fair-quiet old (waiting o w fin j.connection) j.outputs q)))

fair-body : (cfg : Cfg) (old : Connection) (w : WireNo) (seg : Seg) (j : Job) → AreQuiet j.outputs → FairBody old (body cfg w seg j)
unfolding body
fair-body cfg old w seg j q =
    let o : Octets = octets j.connection.rcv (rcv_wnd cfg j.connection) (seq_of j.connection seg.head) seg.head.at seg.body in
    cond_both (not (takes_body j.connection.state)) _ _ (FairBody old) (λ _. inl q)
    (λ _. cond_both (length o.bytes == 0) _ _ (FairBody old) (λ _. inl q)
    (λ _. fair-received cfg old o w _ j q))

quiet-fin_taken_in : (s : State) (cfg : Cfg) (now : ℕ) (j : Job) (w : Connection) → AreQuiet j.outputs → AreQuiet (fin_taken_in s cfg now j w).outputs
quiet-fin_taken_in st.Established cfg now j w q = quiet-tells (on j (record w { state = st.CloseWait })) told.RecvEnd q
quiet-fin_taken_in st.FinWait1 cfg now j w q = q
quiet-fin_taken_in st.FinWait2 cfg now j w q = q
quiet-fin_taken_in _ cfg now j w q = q

quiet-of : (old : Connection) (j : Job) → (AreQuiet j.outputs ⊎ ((true ≡ false) × SendsFairly old j.connection j.outputs)) → AreQuiet j.outputs
quiet-of old j (inl q) = q
quiet-of old j (inr p) = let no : true ≡ false = p.0 in cc

fair-of : (old : Connection) (j : Job) → (AreQuiet j.outputs ⊎ ((false ≡ false) × SendsFairly old j.connection j.outputs)) → SendsFairly old j.connection j.outputs
fair-of old j (inl q) = fair-quiet old j.connection j.outputs q
fair-of old j (inr p) = p.1

fair-finished : (cfg : Cfg) (old : Connection) (h : SegHead) (now : ℕ) (stands : Bool) (j : Job) → (AreQuiet j.outputs ⊎ ((stands ≡ false) × SendsFairly old j.connection j.outputs)) → SendsFairly old (finished cfg h now stands j).connection (finished cfg h now stands j).outputs
unfolding finished fin_taken
fair-finished cfg old h now true j f =
    fair-quiet old _ _ (quiet-fin_taken_in j.connection.state cfg now j (past_fin j.connection) (quiet-of old j f))
fair-finished cfg old h now false j f =
    cond_both (has_flag h.flags FIN && (h.len == 0) && is_past (rcv_nxt j.connection) h.seq) _ _ (λ (r : Job). SendsFairly old r.connection r.outputs)
    (λ _. fair-ack cfg old j.connection j.connection j.outputs refl (fair-of old j f))
    (λ _. fair-of old j f)

fair-text_and_fin : (cfg : Cfg) (old : Connection) (w : WireNo) (seg : Seg) (now : ℕ) (j : Job) → AreQuiet j.outputs → SendsFairly old (text_and_fin cfg w seg now j).connection (text_and_fin cfg w seg now j).outputs
unfolding text_and_fin
fair-text_and_fin cfg old w seg now j q = fair-finished cfg old seg.head now (body cfg w seg j).1 (body cfg w seg j).0 (fair-body cfg old w seg j q)

-- whatever a part leaves at the end
record EndsFairly (old : Connection) (n : Next) : Type 0 where
  fair : SendsFairly old (job_of n).connection (job_of n).outputs

ends-then : (old : Connection) (n : Next) (f : Job → Next) → IsFair old n → ((j : Job) → AreQuiet j.outputs → EndsFairly old (f j)) → EndsFairly old (n >>= f)
ends-then old (Goes j) f k more = more j k.fair
ends-then old (Stops j) f k more = record { fair = k.fair }

fair-checked : (cfg : Cfg) (old : Connection) (w : WireNo) (seg : Seg) (now : ℕ) (j : Job) → AreQuiet j.outputs → EndsFairly old (checked cfg w seg now j)
unfolding checked
fair-checked cfg old w seg now j q =
    ends-then old (acceptability cfg seg.head now j) _ (fair-acceptability cfg old seg.head now j q) (λ j q.
    ends-then old (reset cfg seg.head j) _ (fair-reset_part cfg old seg.head j q) (λ j q.
    ends-then old (synchronize cfg seg.head j) _ (fair-synchronize cfg old seg.head j q) (λ j q.
    ends-then old (unacknowledged seg.head j) _ (fair-unacknowledged old seg.head j q) (λ j q.
    ends-then old (acknowledgement cfg seg.head now j) _ (fair-acknowledgement cfg old seg.head now j q) (λ j q.
    record { fair = fair-text_and_fin cfg old w seg now j q })))))

-- ## Before the handshake
fair-opening : (cfg : Cfg) (old : Connection) (h : SegHead) (now : ℕ) (j : Job) → AreQuiet j.outputs → SendsFairly old (opening cfg h now j).connection (opening cfg h now j).outputs
unfolding opening
fair-opening cfg old h now j q =
    cond_both (opens h) _ _ (λ (r : Job). SendsFairly old r.connection r.outputs)
    (λ _. fair-more old (passive cfg h now j.connection) j.outputs (syn_ack_frame cfg (passive cfg h now j.connection)) (λ _ _. refl) (inl refl) (fair-quiet old _ j.outputs q))
    (λ _. fair-quiet old j.connection j.outputs q)

pub fair-connecting : (cfg : Cfg) (old : Connection) (now : ℕ) (j : Job) → AreQuiet j.outputs → SendsFairly old (connecting cfg now j).connection (connecting cfg now j).outputs
unfolding connecting
fair-connecting cfg old now j q =
    fair-more old (active cfg now j.connection) j.outputs (syn_frame cfg (active cfg now j.connection)) (λ e _. let no : false ≡ true = e in cc) (inl refl) (fair-quiet old _ j.outputs q)

fair-syn_sent : (cfg : Cfg) (old : Connection) (h : SegHead) (j : Job) → AreQuiet j.outputs → SendsFairly old (syn_sent cfg h j).connection (syn_sent cfg h j).outputs
unfolding syn_sent
fair-syn_sent cfg old h j q =
    let P : Job → Type 0 = λ r. SendsFairly old r.connection r.outputs in
    let still : SendsFairly old j.connection j.outputs = fair-quiet old j.connection j.outputs q in
    cond_both (has_flag h.flags ACK && not (h.ack == number j.connection.iss 1)) _ _ P
    (λ _. cond_both (has_flag h.flags RST) _ _ P (λ _. still) (λ _. fair-reset old j.connection j.connection h j.outputs still))
    (λ _. cond_both (has_flag h.flags RST) _ _ P
    (λ _. cond_both (has_flag h.flags ACK) _ _ P (λ _. fair-quiet old _ _ (quiet-more j.outputs (outputs.Told told.ConnectedRefused) q tt)) (λ _. still))
    (λ _. cond_both (has_flag h.flags SYN && has_flag h.flags ACK) _ _ P (λ _. fair-quiet old _ _ (quiet-more j.outputs (outputs.Told told.ConnectedUp) q tt)) (λ _. still)))

fair-arrived_in : (s : State) (cfg : Cfg) (old : Connection) (w : WireNo) (seg : Seg) (now : ℕ) (j : Job) → AreQuiet j.outputs → SendsFairly old (arrived_in s cfg w seg now j).connection (arrived_in s cfg w seg now j).outputs
fair-arrived_in st.Closed cfg old w seg now j q = fair-quiet old j.connection j.outputs q
fair-arrived_in st.Listen cfg old w seg now j q = fair-opening cfg old seg.head now j q
fair-arrived_in st.SynSent cfg old w seg now j q = fair-syn_sent cfg old seg.head j q
fair-arrived_in _ cfg old w seg now j q = (fair-checked cfg old w seg now j q).fair

pub fair-arrived : (cfg : Cfg) (old : Connection) (w : WireNo) (seg : Seg) (now : ℕ) (j : Job) → AreQuiet j.outputs → SendsFairly old (arrived cfg w seg now j).connection (arrived cfg w seg now j).outputs
unfolding arrived
fair-arrived cfg old w seg now j q = fair-arrived_in j.connection.state cfg old w seg now j q
