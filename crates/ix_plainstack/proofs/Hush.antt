-- What a connection tells before it is accepted: a knock, and nothing else while it lives.
use Rattle.std.proofs.Common.{◌≡◌, ℕ, zero, suc, ◌+◌, refl, sym, ◌∙◌, Bool, true, false, List, [], ◌∷◌, ◌++◌, ◌⊎◌, inl, inr}
use Rattle.std.specs.List.{AllByRecursion}
use Rattle.std.specs.Prelude.{if◌then◌else◌, ◌&&◌, ◌||◌, not, length, ◌==◌, nat_lt, nat_le}
use Rattle.ix_base.specs.declared.id.WireNo.{WireNo}
use Rattle.ix_base.specs.declared.segment.Seg.{Seg}
use Rattle.ix_base.specs.declared.segment.SegHead.{SegHead}
use Rattle.ix_base.specs.Sequence.{is_past, is_at_or_past, number}
use Rattle.ix_base.specs.Flags.{has_flag}
use Rattle.ix_tcpdef.specs.Connection.{is_closed, gives, tells, on, room, is_syn_received, is_time_wait, is_syn_sent, snd_una, snd_nxt, rcv_nxt, rcv_wnd, seq_of, ended}
use Rattle.ix_tcpdef.specs.Opening.{opens, opening, syn_sent}
use Rattle.ix_tcpdef.specs.Arrival.{Next, Goes, Stops, ◌>>=◌, job_of, span, is_acceptable, acceptability, reset, synchronize, unacknowledged}
use Rattle.ix_tcpdef.specs.Acknowledgement.{establishing, too_far, is_duplicate, duplicated, advanced, is_newer, windowed, told_sent, fin_acked_in, fin_acked, acked, synchronized, acknowledgement}
use Rattle.ix_tcpdef.specs.Body.{delivered, rest_of, holding, filled, waiting, received, takes_body, body, past_fin, fin_taken_in, fin_taken, finished, text_and_fin}
use Rattle.ix_tcpdef.specs.Flush.{unacked, first_of, first_unacked_in, first_unacked, sendable, data_frames, resends, resent, sends, data_sent, fin_sent, ack_sent, armed, flushed, is_due, timed_out, collapsed_in, collapsed, retransmitted, probed, expired}
use Rattle.ix_tcpdef.specs.Step.{checked, arrived_in, arrived, is_alive, stepped, step}
use Rattle.ix_tcpdef.specs.declared.types.Cfg.{Cfg}
use Rattle.ix_tcpdef.specs.declared.types.State.{State}
use Rattle.ix_tcpdef.specs.declared.types.State.TheVariants as st
use Rattle.ix_tcpdef.specs.declared.types.Connection.{Connection}
use Rattle.ix_tcpdef.specs.declared.types.HeldSegment.{HeldSegment}
use Rattle.ix_tcpdef.specs.declared.types.Input.{Input}
use Rattle.ix_tcpdef.specs.declared.types.Input.TheVariants as inputs
use Rattle.ix_tcpdef.specs.declared.types.Job.{Job}
use Rattle.ix_tcpdef.specs.declared.types.Octets.{Octets}
use Rattle.ix_tcpdef.specs.declared.types.Output.{Output}
use Rattle.ix_tcpdef.specs.declared.types.Output.TheVariants as outputs
use Rattle.ix_tcpdef.specs.declared.types.Told.{Told}
use Rattle.ix_tcpdef.specs.declared.types.Told.TheVariants as told
use Rattle.ix_base.specs.declared.segment.TheConstants.{ACK, FIN, RST, SYN}
use Rattle.ix_plainstack.proofs.Behind.{never}

-- ## Outputs
abbrev pub IsFrame : Output → Type 0
IsFrame (outputs.Frame seg) = Unit {0}
IsFrame _ = ⊥

abbrev pub IsCalm : Output → Type 0
IsCalm (outputs.Frame seg) = Unit {0}
IsCalm (outputs.Told told.Knock) = Unit {0}
IsCalm _ = ⊥

abbrev pub AreFrames : List Output → Type 0
AreFrames os = AllByRecursion IsFrame os

abbrev pub AreCalm : List Output → Type 0
AreCalm os = AllByRecursion IsCalm os

abbrev pub Knocks : List Output → Type 0
Knocks [] = ⊥
Knocks (o ∷ os) = (o ≡ outputs.Told told.Knock) ⊎ Knocks os

frames-append : (xs ys : List Output) → AreFrames xs → AreFrames ys → AreFrames (xs ++ ys)
frames-append [] ys p q = q
frames-append (x ∷ xs) ys p q = (p.0, frames-append xs ys p.1 q)

calm-append : (xs ys : List Output) → AreCalm xs → AreCalm ys → AreCalm (xs ++ ys)
calm-append [] ys p q = q
calm-append (x ∷ xs) ys p q = (p.0, calm-append xs ys p.1 q)

knocks-left : (xs ys : List Output) → Knocks xs → Knocks (xs ++ ys)
knocks-left [] ys p = absurd p
knocks-left (x ∷ xs) ys (inl e) = inl e
knocks-left (x ∷ xs) ys (inr p) = inr (knocks-left xs ys p)

knocks-right : (xs ys : List Output) → Knocks ys → Knocks (xs ++ ys)
knocks-right [] ys p = p
knocks-right (x ∷ xs) ys p = inr (knocks-right xs ys p)

frame-calm : (o : Output) → IsFrame o → IsCalm o
frame-calm (outputs.Frame seg) p = tt
frame-calm (outputs.Told x) p = absurd p
frame-calm (outputs.Ret r) p = absurd p

frames-calm : (os : List Output) → AreFrames os → AreCalm os
frames-calm [] p = tt
frames-calm (o ∷ os) p = (frame-calm o p.0, frames-calm os p.1)

-- k: whether a knock was told before. It is not accepted and not shut; what it gave are frames and knocks, frames alone while no knock is
-- told, and a knock where one is told now.
pub record Hush (k accepted shut knocked : Bool) (os : List Output) : Type 0 where
  pub still : accepted ≡ false
  pub unshut : shut ≡ false
  pub calm : AreCalm os
  pub quiet : knocked ≡ false → AreFrames os
  pub heard : knocked ≡ true → (k ≡ true) ⊎ Knocks os

abbrev Ok : Bool → Job → Type 0
Ok k j = Hush k j.connection.accepted j.connection.shut j.connection.knocked j.outputs

module _ (k : Bool) where
  job_if : (b : Bool) (x y : Job) → Ok k x → Ok k y → Ok k (if b then x else y)
  job_if true x y p q = p
  job_if false x y p q = q

  next_if : (b : Bool) (x y : Next) → Ok k (job_of x) → Ok k (job_of y) → Ok k (job_of (if b then x else y))
  next_if true x y p q = p
  next_if false x y p q = q

  pair_if : (b : Bool) (x y : Job × Bool) → Ok k x.0 → Ok k y.0 → Ok k (if b then x else y).0
  pair_if true x y p q = p
  pair_if false x y p q = q

  next_then : (n : Next) (g : Job → Next) → Ok k (job_of n) → ((j : Job) → Ok k j → Ok k (job_of (g j))) → Ok k (job_of (n >>= g))
  next_then (Goes j) g p f = f j p
  next_then (Stops j) g p f = p

  -- frames are given
  more-frames : (accepted shut knocked : Bool) (xs ys : List Output) → Hush k accepted shut knocked xs → AreFrames ys → Hush k accepted shut knocked (xs ++ ys)
  more-frames accepted shut knocked xs ys p q =
      record {
        still = p.still;
        unshut = p.unshut;
        calm = calm-append xs ys p.calm (frames-calm ys q);
        quiet = λ e. frames-append xs ys (p.quiet e) q;
        heard = λ e. by_case (p.heard e);
      }
    where
      by_case : (k ≡ true) ⊎ Knocks xs → (k ≡ true) ⊎ Knocks (xs ++ ys)
      by_case (inl e) = inl e
      by_case (inr n) = inr (knocks-left xs ys n)

  ok-gives : (j : Job) (o : Output) → IsFrame o → Ok k j → Ok k (gives j o)
  ok-gives j o f p = more-frames j.connection.accepted j.connection.shut j.connection.knocked j.outputs (o ∷ []) p (f, tt)

  -- nothing is told of one that is not accepted
  ok-tells : (j : Job) (t : Told) → Ok k j → Ok k (tells j t)
  ok-tells j t p = by_test (j.connection.accepted) refl
    where
      by_test : (b : Bool) → j.connection.accepted ≡ b → Ok k (if b && not j.connection.shut then gives j (outputs.Told t) else j)
      by_test true e = absurd (never j.connection.accepted e p.still)
      by_test false e = p

  -- ## Arrival
  ok-acceptability : (cfg : Cfg) (h : SegHead) (now : ℕ) (j : Job) → Ok k j → Ok k (job_of (acceptability cfg h now j))
  unfolding acceptability
  ok-acceptability cfg h now j p =
      next_if (is_acceptable (span h) (rcv_wnd cfg j.connection) (seq_of j.connection h)) _ _ p
      (next_if (has_flag h.flags RST) _ _ p
      (next_if (has_flag h.flags FIN && is_time_wait j.connection.state) _ _ (more-frames j.connection.accepted j.connection.shut j.connection.knocked j.outputs _ p (tt, tt)) (ok-gives j _ tt p)))

  ok-reset : (cfg : Cfg) (h : SegHead) (j : Job) → Ok k j → Ok k (job_of (reset cfg h j))
  unfolding reset
  ok-reset cfg h j p =
      next_if (not (has_flag h.flags RST)) _ _ p (next_if (h.seq == rcv_nxt j.connection) _ _ (ok-tells (on j (ended j.connection)) _ p) (ok-gives j _ tt p))

  ok-synchronize : (cfg : Cfg) (h : SegHead) (j : Job) → Ok k j → Ok k (job_of (synchronize cfg h j))
  unfolding synchronize
  ok-synchronize cfg h j p =
      next_if (not (has_flag h.flags SYN)) _ _ p (next_if (is_syn_received j.connection.state) _ _ p (ok-gives j _ tt p))

  ok-unacknowledged : (h : SegHead) (j : Job) → Ok k j → Ok k (job_of (unacknowledged h j))
  unfolding unacknowledged
  ok-unacknowledged h j p = next_if (has_flag h.flags ACK) _ _ p p

  -- ## Acknowledgement: here the knock is told
  ok-establishing : (h : SegHead) (j : Job) → Ok k j → Ok k (job_of (establishing h j))
  unfolding establishing
  ok-establishing h j p =
      next_if (is_past (snd_una j.connection) h.ack && not (is_past (snd_nxt j.connection) h.ack)) _ _
      (record {
        still = p.still;
        unshut = p.unshut;
        calm = calm-append j.outputs (outputs.Told told.Knock ∷ []) p.calm (tt, tt);
        quiet = λ e. absurd (cc);
        heard = λ _. inr (knocks-right j.outputs (outputs.Told told.Knock ∷ []) (inl refl));
      })
      (ok-gives j _ tt p)

  ok-too_far : (cfg : Cfg) (h : SegHead) (j : Job) → Ok k j → Ok k (job_of (too_far cfg h j))
  unfolding too_far
  ok-too_far cfg h j p = next_if (is_past (snd_nxt j.connection) h.ack) _ _ (ok-gives j _ tt p) p

  -- a connection with the same marks
  abbrev Same : Connection → Connection → Type 0
  Same w v = (v.accepted ≡ w.accepted) × (v.shut ≡ w.shut) × (v.knocked ≡ w.knocked)

  same_if : (w : Connection) (b : Bool) (x y : Connection) → Same w x → Same w y → Same w (if b then x else y)
  same_if w true x y p q = p
  same_if w false x y p q = q

  same-duplicated : (h : SegHead) (w : Connection) → Same w (duplicated h w)
  unfolding duplicated
  same-duplicated h w =
      same_if w (not (is_duplicate h w)) _ _ (refl, refl, refl) (same_if w w.recovering _ _ (refl, refl, refl) (same_if w (w.dups == 2) _ _ (refl, refl, refl) (refl, refl, refl)))

  same-advanced : (cfg : Cfg) (h : SegHead) (now : ℕ) (w : Connection) → Same w (advanced cfg h now w)
  unfolding advanced
  same-advanced cfg h now w = same_if w (is_past (snd_una w) h.ack) _ _ (refl, refl, refl) (refl, refl, refl)

  same-windowed : (h : SegHead) (before : ℕ) (w : Connection) → Same w (windowed h before w)
  unfolding windowed
  same-windowed h before w =
      same_if w (not (is_at_or_past before h.ack && is_newer h w)) _ _ (refl, refl, refl) (same_if w (nat_lt 0 h.window && (w.una == w.nxt)) _ _ (refl, refl, refl) (refl, refl, refl))

  same-acked : (cfg : Cfg) (h : SegHead) (now : ℕ) (w : Connection) → Same w (acked cfg h now w)
  same-acked cfg h now w =
      let d : Connection = duplicated h w in
      let a : Connection = advanced cfg h now d in
      let x = same-windowed h (snd_una w) a in
      let y = same-advanced cfg h now d in
      let z = same-duplicated h w in
      (x.0 ∙ y.0 ∙ z.0, x.1 ∙ y.1 ∙ z.1, x.2 ∙ y.2 ∙ z.2)

  ok-same : (w v : Connection) (os : List Output) → Same w v → Hush k w.accepted w.shut w.knocked os → Hush k v.accepted v.shut v.knocked os
  ok-same w v os s p =
      record { still = s.0 ∙ p.still; unshut = s.1 ∙ p.unshut; calm = p.calm; quiet = λ e. p.quiet (sym s.2 ∙ e); heard = λ e. p.heard (sym s.2 ∙ e) }

  ok-told_sent : (n : ℕ) (j : Job) → Ok k j → Ok k (told_sent n j)
  unfolding told_sent
  ok-told_sent n j p =
      job_if (nat_lt 0 n || (j.connection.wants && nat_lt 0 (room j.connection))) _ _ (ok-tells (on j (record j.connection { wants = false })) _ p) p

  ok-fin_acked_in : (t : State) (cfg : Cfg) (now : ℕ) (j : Job) → Ok k j → Ok k (job_of (fin_acked_in t cfg now j))
  ok-fin_acked_in st.FinWait1 cfg now j p = p
  ok-fin_acked_in st.Closing cfg now j p = p
  ok-fin_acked_in st.LastAck cfg now j p = p
  ok-fin_acked_in _ cfg now j p = p

  ok-fin_acked : (cfg : Cfg) (now : ℕ) (j : Job) → Ok k j → Ok k (job_of (fin_acked cfg now j))
  unfolding fin_acked
  ok-fin_acked cfg now j p =
      next_if (j.connection.fin_sent && (j.connection.una == j.connection.nxt)) _ _ (ok-fin_acked_in j.connection.state cfg now j p) p

  ok-synchronized : (cfg : Cfg) (h : SegHead) (now : ℕ) (j : Job) → Ok k j → Ok k (job_of (synchronized cfg h now j))
  unfolding synchronized
  ok-synchronized cfg h now j p =
      next_then (too_far cfg h j) _ (ok-too_far cfg h j p)
      (λ i q. ok-fin_acked cfg now _ (ok-told_sent _ (on i (acked cfg h now i.connection)) (ok-same i.connection (acked cfg h now i.connection) i.outputs (same-acked cfg h now i.connection) q)))

  ok-acknowledgement : (cfg : Cfg) (h : SegHead) (now : ℕ) (j : Job) → Ok k j → Ok k (job_of (acknowledgement cfg h now j))
  unfolding acknowledgement
  ok-acknowledgement cfg h now j p = next_if (is_syn_received j.connection.state) _ _ (ok-establishing h j p) (ok-synchronized cfg h now j p)

  -- ## The body and the FIN
  ok-unless : (b : Bool) (x y : Job) → b ≡ false → Ok k y → Ok k (if b then x else y)
  ok-unless true x y e p = absurd (cc)
  ok-unless false x y e p = p

  ok-delivered : (o : Octets) (w : WireNo) (j : Job) → Ok k j → Ok k (delivered o w j)
  unfolding delivered
  ok-delivered o w j p = job_if j.connection.shut _ _ p (ok-unless j.connection.accepted _ _ p.still p)

  ok-filled : (held : List HeldSegment) (fin : Bool) (j : Job) → Ok k j → Ok k (filled held fin j).0
  unfolding filled
  ok-filled [] fin j p = p
  ok-filled (h ∷ rest) fin j p =
      pair_if (nat_lt j.connection.rcv h.at) _ _ p
      (pair_if (nat_le (h.at + length h.bytes) j.connection.rcv) _ _ (ok-filled rest fin (holding rest j) p)
      (ok-filled rest h.fin (delivered (rest_of h j.connection.rcv) h.w (holding rest j)) (ok-delivered (rest_of h j.connection.rcv) h.w (holding rest j) p)))

  same-waiting : (o : Octets) (w : WireNo) (fin : Bool) (c : Connection) → Same c (waiting o w fin c)
  unfolding waiting
  same-waiting o w fin c = same_if c _ _ _ (refl, refl, refl) (refl, refl, refl)

  ok-received : (cfg : Cfg) (o : Octets) (w : WireNo) (fin : Bool) (j : Job) → Ok k j → Ok k (received cfg o w fin j).0
  unfolding received
  ok-received cfg o w fin j p =
      pair_if (o.at == j.connection.rcv) _ _ (ok-filled j.connection.held fin (delivered o w j) (ok-delivered o w j p))
      (ok-gives (on j (waiting o w fin j.connection)) _ tt (ok-same j.connection (waiting o w fin j.connection) j.outputs (same-waiting o w fin j.connection) p))

  ok-body : (cfg : Cfg) (w : WireNo) (seg : Seg) (j : Job) → Ok k j → Ok k (body cfg w seg j).0
  unfolding body
  ok-body cfg w seg j p = pair_if (not (takes_body j.connection.state)) _ _ p (pair_if _ _ _ p (ok-received cfg _ w _ j p))

  ok-fin_taken_in : (t : State) (cfg : Cfg) (now : ℕ) (j : Job) (w : Connection) → Hush k w.accepted w.shut w.knocked j.outputs → Ok k (fin_taken_in t cfg now j w)
  ok-fin_taken_in st.Established cfg now j w p = ok-tells (on j (record w { state = st.CloseWait })) _ p
  ok-fin_taken_in st.FinWait1 cfg now j w p = p
  ok-fin_taken_in st.FinWait2 cfg now j w p = p
  ok-fin_taken_in _ cfg now j w p = p

  ok-finished : (cfg : Cfg) (h : SegHead) (now : ℕ) (stands : Bool) (j : Job) → Ok k j → Ok k (finished cfg h now stands j)
  unfolding finished fin_taken
  ok-finished cfg h now stands j p =
      job_if stands _ _ (ok-fin_taken_in j.connection.state cfg now j (past_fin j.connection) p) (job_if _ _ _ (ok-gives j _ tt p) p)

  ok-text_and_fin : (cfg : Cfg) (w : WireNo) (seg : Seg) (now : ℕ) (j : Job) → Ok k j → Ok k (text_and_fin cfg w seg now j)
  unfolding text_and_fin
  ok-text_and_fin cfg w seg now j p = ok-finished cfg seg.head now _ _ (ok-body cfg w seg j p)

  ok-checked : (cfg : Cfg) (w : WireNo) (seg : Seg) (now : ℕ) (j : Job) → Ok k j → Ok k (job_of (checked cfg w seg now j))
  unfolding checked
  ok-checked cfg w seg now j p =
      next_then (acceptability cfg seg.head now j) _ (ok-acceptability cfg seg.head now j p) (λ b p.
      next_then (reset cfg seg.head b) _ (ok-reset cfg seg.head b p) (λ c p.
      next_then (synchronize cfg seg.head c) _ (ok-synchronize cfg seg.head c p) (λ d p.
      next_then (unacknowledged seg.head d) _ (ok-unacknowledged seg.head d p) (λ e p.
      next_then (acknowledgement cfg seg.head now e) _ (ok-acknowledgement cfg seg.head now e p) (λ i p. ok-text_and_fin cfg w seg now i p)))))

  ok-opening : (cfg : Cfg) (h : SegHead) (now : ℕ) (j : Job) → Ok k j → Ok k (opening cfg h now j)
  unfolding opening
  ok-opening cfg h now j p = job_if (opens h) _ _ (more-frames j.connection.accepted j.connection.shut j.connection.knocked j.outputs _ p (tt, tt)) p

  -- ## It is accepted, or has ended, or was hush
  abbrev Ends : Job → Type 0
  Ends j = (j.connection.accepted ≡ true) ⊎ ((is_closed j.connection.state ≡ true) ⊎ Hush k j.connection.accepted j.connection.shut j.connection.knocked j.outputs)

  end_if : (b : Bool) (x y : Job) → Ends x → Ends y → Ends (if b then x else y)
  end_if true x y p q = p
  end_if false x y p q = q

  ends-syn_sent : (cfg : Cfg) (h : SegHead) (j : Job) → Ok k j → Ends (syn_sent cfg h j)
  unfolding syn_sent
  ends-syn_sent cfg h j p =
      end_if (has_flag h.flags ACK && not (h.ack == number j.connection.iss 1)) _ _ (end_if (has_flag h.flags RST) _ _ (inr (inr p)) (inr (inr (ok-gives j _ tt p))))
      (end_if (has_flag h.flags RST) _ _ (end_if (has_flag h.flags ACK) _ _ (inr (inl refl)) (inr (inr p)))
      (end_if (has_flag h.flags SYN && has_flag h.flags ACK) _ _ (inl refl) (inr (inr p))))

  ends-arrived_in : (t : State) (cfg : Cfg) (w : WireNo) (seg : Seg) (now : ℕ) (j : Job) → Ok k j → Ends (arrived_in t cfg w seg now j)
  ends-arrived_in st.Closed cfg w seg now j p = inr (inr p)
  ends-arrived_in st.Listen cfg w seg now j p = inr (inr (ok-opening cfg seg.head now j p))
  ends-arrived_in st.SynSent cfg w seg now j p = ends-syn_sent cfg seg.head j p
  ends-arrived_in _ cfg w seg now j p = inr (inr (ok-checked cfg w seg now j p))

  -- ## Flush and timer
  frame-first_of : (cfg : Cfg) (w : Connection) (bs : List ℕ) → IsFrame (first_of cfg w bs)
  frame-first_of cfg w [] = tt
  frame-first_of cfg w (b ∷ bs) = tt

  frame-first_unacked_in : (s : State) (cfg : Cfg) (w : Connection) → IsFrame (first_unacked_in s cfg w)
  frame-first_unacked_in st.SynSent cfg w = tt
  frame-first_unacked_in st.SynReceived cfg w = tt
  frame-first_unacked_in _ cfg w = frame-first_of cfg w (unacked w)

  frame-first_unacked : (cfg : Cfg) (w : Connection) → IsFrame (first_unacked cfg w)
  unfolding first_unacked
  frame-first_unacked cfg w = frame-first_unacked_in w.state cfg w

  frames-data_frames : (cfg : Cfg) (w : Connection) (most at : ℕ) (bytes : List ℕ) → AreFrames (data_frames cfg w most at bytes)
  frames-data_frames cfg w zero at bytes = tt
  frames-data_frames cfg w (suc most) at [] = tt
  frames-data_frames cfg w (suc most) at (b ∷ bytes) = (tt, frames-data_frames cfg w most _ _)

  ok-resent : (cfg : Cfg) (j : Job) → Ok k j → Ok k (resent cfg j)
  unfolding resent
  ok-resent cfg j p =
      job_if (j.connection.resend && resends j.connection.state) _ _
      (more-frames j.connection.accepted j.connection.shut j.connection.knocked j.outputs (first_unacked cfg j.connection ∷ []) p (frame-first_unacked cfg j.connection, tt)) p

  ok-data_sent : (cfg : Cfg) (j : Job) → Ok k j → Ok k (data_sent cfg j)
  unfolding data_sent
  ok-data_sent cfg j p =
      job_if (sends j.connection.state) _ _
      (more-frames j.connection.accepted j.connection.shut j.connection.knocked j.outputs _ p (frames-data_frames cfg j.connection (length (sendable j.connection)) j.connection.nxt (sendable j.connection))) p

  ok-fin_sent : (cfg : Cfg) (j : Job) → Ok k j → Ok k (fin_sent cfg j)
  unfolding fin_sent
  ok-fin_sent cfg j p = job_if _ _ _ (more-frames j.connection.accepted j.connection.shut j.connection.knocked j.outputs _ p (tt, tt)) p

  ok-ack_sent : (cfg : Cfg) (j : Job) → Ok k j → Ok k (ack_sent cfg j)
  unfolding ack_sent
  ok-ack_sent cfg j p = job_if _ _ _ (more-frames j.connection.accepted j.connection.shut j.connection.knocked j.outputs _ p (tt, tt)) p

  same-armed : (cfg : Cfg) (now : ℕ) (w : Connection) → Same w (armed cfg now w)
  unfolding armed
  same-armed cfg now w = same_if w _ _ _ (refl, refl, refl) (refl, refl, refl)

  ok-flushed : (cfg : Cfg) (now : ℕ) (j : Job) → Ok k j → Ok k (flushed cfg now j)
  unfolding flushed
  ok-flushed cfg now j p =
      let sent : Job = ack_sent cfg (fin_sent cfg (data_sent cfg (resent cfg j))) in
      ok-same sent.connection (armed cfg now sent.connection) sent.outputs (same-armed cfg now sent.connection)
      (ok-ack_sent cfg _ (ok-fin_sent cfg _ (ok-data_sent cfg _ (ok-resent cfg j p))))

  ends-timed_out : (j : Job) → Ok k j → Ends (timed_out j)
  unfolding timed_out
  ends-timed_out j p = end_if (is_syn_sent j.connection.state) _ _ (inr (inl refl)) (inr (inr (ok-tells (on j (ended j.connection)) _ p)))

  same-collapsed_in : (t : State) (w : Connection) → Same w (collapsed_in t w)
  same-collapsed_in st.SynSent w = (refl, refl, refl)
  same-collapsed_in st.SynReceived w = (refl, refl, refl)
  same-collapsed_in _ w = (refl, refl, refl)

  ends-retransmitted : (cfg : Cfg) (now : ℕ) (j : Job) → Ok k j → Ends (retransmitted cfg now j)
  unfolding retransmitted collapsed
  ends-retransmitted cfg now j p =
      let c : Connection = collapsed_in j.connection.state j.connection in
      end_if (nat_le cfg.retries (j.connection.expiries + 1)) _ _ (ends-timed_out j p)
      (inr (inr (more-frames c.accepted c.shut c.knocked j.outputs _ (ok-same j.connection c j.outputs (same-collapsed_in j.connection.state j.connection) p) (frame-first_unacked cfg _, tt))))

  ends-probed : (cfg : Cfg) (now : ℕ) (j : Job) → Ok k j → Ends (probed cfg now j)
  unfolding probed
  ends-probed cfg now j p = inr (inr (more-frames j.connection.accepted j.connection.shut j.connection.knocked j.outputs _ p (tt, tt)))

  ends-expired : (cfg : Cfg) (now : ℕ) (j : Job) → Ok k j → Ends (expired cfg now j)
  unfolding expired
  ends-expired cfg now j p =
      end_if (not (is_due j.connection.deadline now)) _ _ (inr (inr p))
      (end_if (is_time_wait j.connection.state) _ _ (inr (inl refl))
      (end_if (nat_lt j.connection.una j.connection.nxt) _ _ (ends-retransmitted cfg now j p) (ends-probed cfg now j p)))

-- ## A step that is no call
abbrev pub is_call : Input → Bool
is_call (inputs.Call ask) = true
is_call _ = false

start-hush : (w : Connection) → w.accepted ≡ false → w.shut ≡ false → Hush w.knocked w.accepted w.shut w.knocked []
start-hush w a s = record { still = a; unshut = s; calm = tt; quiet = λ _. tt; heard = λ e. inl e }

pub hush-step : (cfg : Cfg) (w : Connection) (i : Input) (now : ℕ) → is_call i ≡ false → w.accepted ≡ false → w.shut ≡ false → Ends w.knocked (step cfg w i now)
unfolding step stepped arrived
hush-step cfg w (inputs.Segment n seg) now c a s = ends-arrived_in w.knocked w.state cfg n seg now _ (start-hush w a s)
hush-step cfg w inputs.Timer now c a s = end_if w.knocked (is_alive w.state) _ _ (ends-expired w.knocked cfg now _ (start-hush w a s)) (inr (inr (start-hush w a s)))
hush-step cfg w (inputs.Call ask) now c a s = absurd (cc)
hush-step cfg w inputs.Flush now c a s = end_if w.knocked (is_alive w.state) _ _ (inr (inr (ok-flushed w.knocked cfg now _ (start-hush w a s)))) (inr (inr (start-hush w a s)))
