-- What a step leaves of the segments that a connection holds and was delivered: no more than before, but for the segment that came.
use Rattle.std.proofs.Common.{◌≡◌, ℕ, ◌+◌, ◌≤◌, refl, ap, Bool, true, false, List, [], ◌∷◌, ◌++◌, take, map, arith, length-append}
use Rattle.std.specs.Prelude.{if◌then◌else◌, ◌&&◌, ◌||◌, not, min, length, ◌==◌, nat_lt, nat_le}
use Rattle.ix_base.specs.declared.id.WireNo.{WireNo}
use Rattle.ix_base.specs.declared.segment.Seg.{Seg}
use Rattle.ix_base.specs.declared.segment.SegHead.{SegHead}
use Rattle.ix_base.specs.Sequence.{is_past, is_at_or_past, number}
use Rattle.ix_base.specs.Flags.{has_flag}
use Rattle.ix_tcpdef.specs.Connection.{tells, on, room, is_syn_received, is_time_wait, is_syn_sent, is_listen, snd_una, snd_nxt, rcv_nxt, rcv_wnd, seq_of, ended}
use Rattle.ix_tcpdef.specs.Opening.{opens, opening, connecting, syn_sent}
use Rattle.ix_tcpdef.specs.Arrival.{Next, Goes, Stops, ◌>>=◌, job_of, span, is_acceptable, acceptability, reset, synchronize, unacknowledged}
use Rattle.ix_tcpdef.specs.Acknowledgement.{establishing, too_far, is_duplicate, duplicated, advanced, is_newer, windowed, told_sent, fin_acked_in, fin_acked, acked, synchronized, acknowledgement}
use Rattle.ix_tcpdef.specs.Body.{delivered, rest_of, holding, filled, held_among, waiting, received, takes_body, body, past_fin, fin_taken_in, fin_taken, finished, text_and_fin}
use Rattle.ix_tcpdef.specs.Flush.{resends, resent, sends, data_sent, fin_sent, ack_sent, armed, flushed, is_due, timed_out, collapsed_in, collapsed, retransmitted, probed, expired}
use Rattle.ix_tcpdef.specs.Calls.{as_told, accept, sendv, is_open, recv_done, persists, close, answered, is_connect, is_live, called}
use Rattle.ix_tcpdef.specs.Onward.{knows_peer}
use Rattle.ix_tcpdef.specs.Step.{checked, arrived_in, arrived, is_alive, stepped, step}
use Rattle.ix_tcpdef.specs.declared.types.Ask.{Ask}
use Rattle.ix_tcpdef.specs.declared.types.Ask.TheVariants as asks
use Rattle.ix_tcpdef.specs.declared.types.Cfg.{Cfg}
use Rattle.ix_tcpdef.specs.declared.types.State.{State}
use Rattle.ix_tcpdef.specs.declared.types.State.TheVariants as st
use Rattle.ix_tcpdef.specs.declared.types.Connection.{Connection}
use Rattle.ix_tcpdef.specs.declared.types.HeldSegment.{HeldSegment}
use Rattle.ix_tcpdef.specs.declared.types.Input.{Input}
use Rattle.ix_tcpdef.specs.declared.types.Input.TheVariants as inputs
use Rattle.ix_tcpdef.specs.declared.types.Job.{Job}
use Rattle.ix_tcpdef.specs.declared.types.Octets.{Octets}
use Rattle.ix_tcpdef.specs.declared.types.Piece.{Piece}
use Rattle.ix_tcpdef.specs.declared.types.Told.{Told}
use Rattle.ix_base.specs.declared.segment.TheConstants.{ACK, FIN, RST, SYN}

-- ## Weights of wire numbers
abbrev pub held_sum : (ℕ → ℕ) → List HeldSegment → ℕ
held_sum f [] = 0
held_sum f (h ∷ hs) = f h.w.0 + held_sum f hs

-- of a part that ends here, where bytes up to this one are done with
abbrev pub part_sum : (ℕ → ℕ) → ℕ → ℕ → WireNo → ℕ
part_sum f done end w = if nat_lt done end then f w.0 else 0

-- of parts, the first of which begins behind so many bytes
abbrev pub parts_sum : (ℕ → ℕ) → ℕ → ℕ → List Piece → ℕ
parts_sum f done told [] = 0
parts_sum f done told (p ∷ ps) = part_sum f done (told + length p.bytes) p.w + parts_sum f done (told + length p.bytes) ps

part_most : (f : ℕ → ℕ) (b : Bool) (n : ℕ) → (if b then f n else 0) ≤ f n
part_most f true n = omega arith
part_most f false n = omega arith

parts-push : (f : ℕ → ℕ) (done told : ℕ) (ps : List Piece) (p : Piece) → parts_sum f done told (ps ++ p ∷ []) ≤ parts_sum f done told ps + f p.w.0
parts-push f done told [] p = omega (arith, part_most f (nat_lt done (told + length p.bytes)) p.w.0)
parts-push f done told (q ∷ ps) p = omega (arith, parts-push f done (told + length q.bytes) ps p)

parts-told : (f : ℕ → ℕ) (done told : ℕ) (ps : List Piece) → parts_sum f done told (map as_told ps) ≡ parts_sum f done told ps
parts-told f done told [] = refl
parts-told f done told (p ∷ ps) = ap (λ n. part_sum f done (told + length p.bytes) p.w + n) (parts-told f done (told + length p.bytes) ps)

if_held : (f : ℕ → ℕ) (b : Bool) (x y : List HeldSegment) (n : ℕ) → held_sum f x ≡ n → held_sum f y ≡ n → held_sum f (if b then x else y) ≡ n
if_held f true x y n p q = p
if_held f false x y n p q = q

among-sum : (f : ℕ → ℕ) (h : HeldSegment) (hs : List HeldSegment) → held_sum f (held_among h hs) ≡ f h.w.0 + held_sum f hs
among-sum f h [] = refl
among-sum f h (s ∷ hs) = if_held f (nat_lt h.at s.at) _ _ (f h.w.0 + held_sum f (s ∷ hs)) refl (omega (arith, among-sum f h hs))

-- What is held and was delivered weighs no more than this, with a credit that is not used yet; SND.UNA and what was given to be sent are not
-- below these.
pub record Owes (f top : ℕ → ℕ) (most una given credit : ℕ) (held : List HeldSegment) (pieces : List Piece) (at : ℕ) (sent : List ℕ) : Type 0 where
  pub weight : (done : ℕ) → held_sum f held + parts_sum f done 0 pieces + credit ≤ top done
  pub alone : held_sum f held + credit ≤ most
  pub acked : una ≤ at
  pub taken : given ≤ length sent

abbrev Ok : (ℕ → ℕ) → (ℕ → ℕ) → ℕ → ℕ → ℕ → ℕ → Connection → Type 0
Ok f top most una given credit w = Owes f top most una given credit w.held w.pieces w.una w.sent

module _ (f top : ℕ → ℕ) (most una given : ℕ) where
  -- ## What a test chooses
  ok_if : (e : ℕ) (b : Bool) (x y : Connection) → Ok f top most una given e x → Ok f top most una given e y → Ok f top most una given e (if b then x else y)
  ok_if e true x y p q = p
  ok_if e false x y p q = q

  job_if : (e : ℕ) (b : Bool) (x y : Job) → Ok f top most una given e x.connection → Ok f top most una given e y.connection → Ok f top most una given e (if b then x else y).connection
  job_if e true x y p q = p
  job_if e false x y p q = q

  -- the same where the answer to the test is known
  job_where : (e : ℕ) (b : Bool) (x y : Job) → (b ≡ true → Ok f top most una given e x.connection) → (b ≡ false → Ok f top most una given e y.connection) → Ok f top most una given e (if b then x else y).connection
  job_where e true x y p q = p refl
  job_where e false x y p q = q refl

  next_if : (e : ℕ) (b : Bool) (x y : Next) → Ok f top most una given e (job_of x).connection → Ok f top most una given e (job_of y).connection → Ok f top most una given e (job_of (if b then x else y)).connection
  next_if e true x y p q = p
  next_if e false x y p q = q

  pair_if : (e : ℕ) (b : Bool) (x y : Job × Bool) → Ok f top most una given e x.0.connection → Ok f top most una given e y.0.connection → Ok f top most una given e (if b then x else y).0.connection
  pair_if e true x y p q = p
  pair_if e false x y p q = q

  next_then : (e d : ℕ) (n : Next) (g : Job → Next) → Ok f top most una given e (job_of n).connection → ((j : Job) → Ok f top most una given e j.connection → Ok f top most una given d (job_of (g j)).connection)
      → ((j : Job) → Ok f top most una given e j.connection → Ok f top most una given d j.connection) → Ok f top most una given d (job_of (n >>= g)).connection
  next_then e d (Goes j) g p k u = k j p
  next_then e d (Stops j) g p k u = u j p

  -- ## Nothing held, an acknowledgement, a credit that is not used
  ok-none : (e : ℕ) (held : List HeldSegment) (pieces : List Piece) (at : ℕ) (sent : List ℕ) → Owes f top most una given e held pieces at sent → Owes f top most una given e [] pieces at sent
  ok-none e held pieces at sent p =
      record { weight = λ done. omega (arith, p.weight done); alone = omega (arith, p.alone); acked = p.acked; taken = p.taken }

  ok-acked : (e n : ℕ) (held : List HeldSegment) (pieces : List Piece) (at : ℕ) (sent : List ℕ) → Owes f top most una given e held pieces at sent → Owes f top most una given e held pieces (at + n) sent
  ok-acked e n held pieces at sent p = record { weight = p.weight; alone = p.alone; acked = omega (arith, p.acked); taken = p.taken }

  ok-unused : (e : ℕ) (held : List HeldSegment) (pieces : List Piece) (at : ℕ) (sent : List ℕ) → Owes f top most una given e held pieces at sent → Owes f top most una given 0 held pieces at sent
  ok-unused e held pieces at sent p =
      record { weight = λ done. omega (arith, p.weight done); alone = omega (arith, p.alone); acked = p.acked; taken = p.taken }

  ok-ended : (e : ℕ) (w : Connection) → Ok f top most una given e w → Ok f top most una given e (ended w)
  ok-ended e w p = ok-none e w.held w.pieces w.una w.sent p

  ok-tells : (e : ℕ) (j : Job) (t : Told) → Ok f top most una given e j.connection → Ok f top most una given e (tells j t).connection
  ok-tells e j t p = job_if e (j.connection.accepted && not j.connection.shut) _ _ p p

  -- ## Arrival
  ok-acceptability : (e : ℕ) (cfg : Cfg) (h : SegHead) (now : ℕ) (j : Job) → Ok f top most una given e j.connection → Ok f top most una given e (job_of (acceptability cfg h now j)).connection
  unfolding acceptability
  ok-acceptability e cfg h now j p =
      next_if e (is_acceptable (span h) (rcv_wnd cfg j.connection) (seq_of j.connection h)) _ _ p
      (next_if e (has_flag h.flags RST) _ _ p (next_if e (has_flag h.flags FIN && is_time_wait j.connection.state) _ _ p p))

  ok-reset : (e : ℕ) (cfg : Cfg) (h : SegHead) (j : Job) → Ok f top most una given e j.connection → Ok f top most una given e (job_of (reset cfg h j)).connection
  unfolding reset
  ok-reset e cfg h j p =
      next_if e (not (has_flag h.flags RST)) _ _ p
      (next_if e (h.seq == rcv_nxt j.connection) _ _ (ok-tells e (on j (ended j.connection)) _ (ok-ended e j.connection p)) p)

  ok-synchronize : (e : ℕ) (cfg : Cfg) (h : SegHead) (j : Job) → Ok f top most una given e j.connection → Ok f top most una given e (job_of (synchronize cfg h j)).connection
  unfolding synchronize
  ok-synchronize e cfg h j p =
      next_if e (not (has_flag h.flags SYN)) _ _ p (next_if e (is_syn_received j.connection.state) _ _ (ok-ended e j.connection p) p)

  ok-unacknowledged : (e : ℕ) (h : SegHead) (j : Job) → Ok f top most una given e j.connection → Ok f top most una given e (job_of (unacknowledged h j)).connection
  unfolding unacknowledged
  ok-unacknowledged e h j p = next_if e (has_flag h.flags ACK) _ _ p p

  -- ## Acknowledgement
  ok-establishing : (e : ℕ) (h : SegHead) (j : Job) → Ok f top most una given e j.connection → Ok f top most una given e (job_of (establishing h j)).connection
  unfolding establishing
  ok-establishing e h j p =
      next_if e (is_past (snd_una j.connection) h.ack && not (is_past (snd_nxt j.connection) h.ack)) _ _
      (ok-acked e _ j.connection.held j.connection.pieces j.connection.una j.connection.sent p) p

  ok-too_far : (e : ℕ) (cfg : Cfg) (h : SegHead) (j : Job) → Ok f top most una given e j.connection → Ok f top most una given e (job_of (too_far cfg h j)).connection
  unfolding too_far
  ok-too_far e cfg h j p = next_if e (is_past (snd_nxt j.connection) h.ack) _ _ p p

  ok-duplicated : (e : ℕ) (h : SegHead) (w : Connection) → Ok f top most una given e w → Ok f top most una given e (duplicated h w)
  unfolding duplicated
  ok-duplicated e h w p = ok_if e (not (is_duplicate h w)) _ _ p (ok_if e w.recovering _ _ p (ok_if e (w.dups == 2) _ _ p p))

  ok-advanced : (e : ℕ) (cfg : Cfg) (h : SegHead) (now : ℕ) (w : Connection) → Ok f top most una given e w → Ok f top most una given e (advanced cfg h now w)
  unfolding advanced
  ok-advanced e cfg h now w p = ok_if e (is_past (snd_una w) h.ack) _ _ (ok-acked e _ w.held w.pieces w.una w.sent p) p

  ok-windowed : (e : ℕ) (h : SegHead) (before : ℕ) (w : Connection) → Ok f top most una given e w → Ok f top most una given e (windowed h before w)
  unfolding windowed
  ok-windowed e h before w p =
      ok_if e (not (is_at_or_past before h.ack && is_newer h w)) _ _ p (ok_if e (nat_lt 0 h.window && (w.una == w.nxt)) _ _ p p)

  ok-told_sent : (e n : ℕ) (j : Job) → Ok f top most una given e j.connection → Ok f top most una given e (told_sent n j).connection
  unfolding told_sent
  ok-told_sent e n j p =
      job_if e (nat_lt 0 n || (j.connection.wants && nat_lt 0 (room j.connection))) _ _ (ok-tells e (on j (record j.connection { wants = false })) _ p) p

  ok-fin_acked_in : (e : ℕ) (t : State) (cfg : Cfg) (now : ℕ) (j : Job) → Ok f top most una given e j.connection → Ok f top most una given e (job_of (fin_acked_in t cfg now j)).connection
  ok-fin_acked_in e st.FinWait1 cfg now j p = p
  ok-fin_acked_in e st.Closing cfg now j p = p
  ok-fin_acked_in e st.LastAck cfg now j p = ok-ended e j.connection p
  ok-fin_acked_in e _ cfg now j p = p

  ok-fin_acked : (e : ℕ) (cfg : Cfg) (now : ℕ) (j : Job) → Ok f top most una given e j.connection → Ok f top most una given e (job_of (fin_acked cfg now j)).connection
  unfolding fin_acked
  ok-fin_acked e cfg now j p =
      next_if e (j.connection.fin_sent && (j.connection.una == j.connection.nxt)) _ _ (ok-fin_acked_in e j.connection.state cfg now j p) p

  ok-acked_all : (e : ℕ) (cfg : Cfg) (h : SegHead) (now : ℕ) (w : Connection) → Ok f top most una given e w → Ok f top most una given e (acked cfg h now w)
  ok-acked_all e cfg h now w p = ok-windowed e h (snd_una w) _ (ok-advanced e cfg h now _ (ok-duplicated e h w p))

  ok-synchronized : (e : ℕ) (cfg : Cfg) (h : SegHead) (now : ℕ) (j : Job) → Ok f top most una given e j.connection → Ok f top most una given e (job_of (synchronized cfg h now j)).connection
  unfolding synchronized
  ok-synchronized e cfg h now j p =
      next_then e e (too_far cfg h j) _ (ok-too_far e cfg h j p)
      (λ k q. ok-fin_acked e cfg now _ (ok-told_sent e _ (on k (acked cfg h now k.connection)) (ok-acked_all e cfg h now k.connection q)))
      (λ k q. q)

  ok-acknowledgement : (e : ℕ) (cfg : Cfg) (h : SegHead) (now : ℕ) (j : Job) → Ok f top most una given e j.connection → Ok f top most una given e (job_of (acknowledgement cfg h now j)).connection
  unfolding acknowledgement
  ok-acknowledgement e cfg h now j p =
      next_if e (is_syn_received j.connection.state) _ _ (ok-establishing e h j p) (ok-synchronized e cfg h now j p)

  -- ## The body: the credit is used
  ok-delivered : (o : Octets) (w : WireNo) (j : Job) → Ok f top most una given (f w.0) j.connection → Ok f top most una given 0 (delivered o w j).connection
  unfolding delivered
  ok-delivered o w j p =
      job_if 0 j.connection.shut _ _ unused
      (job_if 0 j.connection.accepted _ _ more more)
    where
      unused : Ok f top most una given 0 j.connection
      unused = ok-unused (f w.0) j.connection.held j.connection.pieces j.connection.una j.connection.sent p

      more : Owes f top most una given 0 j.connection.held (j.connection.pieces ++ record { w = w; from = o.from; bytes = o.bytes; told = j.connection.accepted } ∷ []) j.connection.una j.connection.sent
      more =
          record {
            weight = λ done. omega (arith, p.weight done, parts-push f done 0 j.connection.pieces (record { w = w; from = o.from; bytes = o.bytes; told = j.connection.accepted }));
            alone = omega (arith, p.alone);
            acked = p.acked;
            taken = p.taken;
          }

  held-if : (b : Bool) (x y : Job) (held : List HeldSegment) → x.connection.held ≡ held → y.connection.held ≡ held → (if b then x else y).connection.held ≡ held
  held-if true x y held p q = p
  held-if false x y held p q = q

  held-delivered : (o : Octets) (w : WireNo) (j : Job) → (delivered o w j).connection.held ≡ j.connection.held
  unfolding delivered
  held-delivered o w j = held-if j.connection.shut _ _ j.connection.held refl (held-if j.connection.accepted _ _ j.connection.held refl refl)

  -- one of those that are held is used, and goes
  ok-first : (e : ℕ) (h : HeldSegment) (rest : List HeldSegment) (j : Job) → j.connection.held ≡ h ∷ rest → Ok f top most una given e j.connection → Ok f top most una given (f h.w.0 + e) (holding rest j).connection
  ok-first e h rest j is p =
      let same : held_sum f j.connection.held ≡ f h.w.0 + held_sum f rest = ap (held_sum f) is in
      record {
        weight = λ done. omega (arith, p.weight done, same);
        alone = omega (arith, p.alone, same);
        acked = p.acked;
        taken = p.taken;
      }

  ok-filled : (held : List HeldSegment) (fin : Bool) (j : Job) → j.connection.held ≡ held → Ok f top most una given 0 j.connection → Ok f top most una given 0 (filled held fin j).0.connection
  unfolding filled
  ok-filled [] fin j is p = p
  ok-filled (h ∷ rest) fin j is p =
      let next : Ok f top most una given (f h.w.0 + 0) (holding rest j).connection = ok-first 0 h rest j is p in
      let gone : Ok f top most una given 0 (holding rest j).connection = ok-unused (f h.w.0 + 0) rest j.connection.pieces j.connection.una j.connection.sent next in
      let used : Ok f top most una given (f h.w.0) (holding rest j).connection =
      record { weight = λ done. omega (arith, next.weight done); alone = omega (arith, next.alone); acked = p.acked; taken = p.taken } in
      pair_if 0 (nat_lt j.connection.rcv h.at) _ _ p
      (pair_if 0 (nat_le (h.at + length h.bytes) j.connection.rcv) _ _ (ok-filled rest fin (holding rest j) refl gone)
      (ok-filled rest h.fin (delivered (rest_of h j.connection.rcv) h.w (holding rest j)) (held-delivered (rest_of h j.connection.rcv) h.w (holding rest j))
      (ok-delivered (rest_of h j.connection.rcv) h.w (holding rest j) used)))

  ok-waiting : (o : Octets) (w : WireNo) (fin : Bool) (c : Connection) → Ok f top most una given (f w.0) c → Ok f top most una given 0 (waiting o w fin c)
  unfolding waiting
  ok-waiting o w fin c p =
      ok_if 0 _ _ _
      (record {
        weight = λ done. omega (arith, p.weight done, among-sum f (record { at = o.at; w = w; from = o.from; bytes = o.bytes; fin = fin }) c.held);
        alone = omega (arith, p.alone, among-sum f (record { at = o.at; w = w; from = o.from; bytes = o.bytes; fin = fin }) c.held);
        acked = p.acked;
        taken = p.taken;
      })
      (ok-unused (f w.0) c.held c.pieces c.una c.sent p)

  ok-received : (cfg : Cfg) (o : Octets) (w : WireNo) (fin : Bool) (j : Job) → Ok f top most una given (f w.0) j.connection → Ok f top most una given 0 (received cfg o w fin j).0.connection
  unfolding received
  ok-received cfg o w fin j p =
      pair_if 0 (o.at == j.connection.rcv) _ _
      (ok-filled j.connection.held fin (delivered o w j) (held-delivered o w j) (ok-delivered o w j p))
      (ok-waiting o w fin j.connection p)

  ok-body : (cfg : Cfg) (w : WireNo) (seg : Seg) (j : Job) → Ok f top most una given (f w.0) j.connection → Ok f top most una given 0 (body cfg w seg j).0.connection
  unfolding body
  ok-body cfg w seg j p =
      let unused : Ok f top most una given 0 j.connection = ok-unused (f w.0) j.connection.held j.connection.pieces j.connection.una j.connection.sent p in
      pair_if 0 (not (takes_body j.connection.state)) _ _ unused (pair_if 0 _ _ _ unused (ok-received cfg _ w _ j p))

  ok-fin_taken_in : (t : State) (cfg : Cfg) (now : ℕ) (j : Job) (w : Connection) → Ok f top most una given 0 w → Ok f top most una given 0 (fin_taken_in t cfg now j w).connection
  ok-fin_taken_in st.Established cfg now j w p = ok-tells 0 (on j (record w { state = st.CloseWait })) _ p
  ok-fin_taken_in st.FinWait1 cfg now j w p = p
  ok-fin_taken_in st.FinWait2 cfg now j w p = p
  ok-fin_taken_in _ cfg now j w p = p

  ok-finished : (cfg : Cfg) (h : SegHead) (now : ℕ) (stands : Bool) (j : Job) → Ok f top most una given 0 j.connection → Ok f top most una given 0 (finished cfg h now stands j).connection
  unfolding finished fin_taken
  ok-finished cfg h now stands j p =
      job_if 0 stands _ _
      (ok-fin_taken_in j.connection.state cfg now j (past_fin j.connection) (ok-none 0 j.connection.held j.connection.pieces j.connection.una j.connection.sent p)) (job_if 0 _ _ _ p p)

  ok-text_and_fin : (cfg : Cfg) (w : WireNo) (seg : Seg) (now : ℕ) (j : Job) → Ok f top most una given (f w.0) j.connection → Ok f top most una given 0 (text_and_fin cfg w seg now j).connection
  unfolding text_and_fin
  ok-text_and_fin cfg w seg now j p = ok-finished cfg seg.head now _ _ (ok-body cfg w seg j p)

  -- ## A segment behind the opening
  ok-checked : (cfg : Cfg) (w : WireNo) (seg : Seg) (now : ℕ) (j : Job) → Ok f top most una given (f w.0) j.connection → Ok f top most una given 0 (job_of (checked cfg w seg now j)).connection
  unfolding checked
  ok-checked cfg w seg now j p =
      next_then (f w.0) 0 (acceptability cfg seg.head now j) _ (ok-acceptability (f w.0) cfg seg.head now j p) (λ a p.
      next_then (f w.0) 0 (reset cfg seg.head a) _ (ok-reset (f w.0) cfg seg.head a p) (λ b p.
      next_then (f w.0) 0 (synchronize cfg seg.head b) _ (ok-synchronize (f w.0) cfg seg.head b p) (λ c p.
      next_then (f w.0) 0 (unacknowledged seg.head c) _ (ok-unacknowledged (f w.0) seg.head c p) (λ d p.
      next_then (f w.0) 0 (acknowledgement cfg seg.head now d) _ (ok-acknowledgement (f w.0) cfg seg.head now d p) (λ i p. ok-text_and_fin cfg w seg now i p) unused) unused) unused) unused) unused
    where
      unused : (k : Job) → Ok f top most una given (f w.0) k.connection → Ok f top most una given 0 k.connection
      unused k q = ok-unused (f w.0) k.connection.held k.connection.pieces k.connection.una k.connection.sent q

  -- ## Flush and timer
  ok-resent : (cfg : Cfg) (j : Job) → Ok f top most una given 0 j.connection → Ok f top most una given 0 (resent cfg j).connection
  unfolding resent
  ok-resent cfg j p = job_if 0 (j.connection.resend && resends j.connection.state) _ _ p p

  ok-data_sent : (cfg : Cfg) (j : Job) → Ok f top most una given 0 j.connection → Ok f top most una given 0 (data_sent cfg j).connection
  unfolding data_sent
  ok-data_sent cfg j p = job_if 0 (sends j.connection.state) _ _ p p

  ok-fin_sent : (cfg : Cfg) (j : Job) → Ok f top most una given 0 j.connection → Ok f top most una given 0 (fin_sent cfg j).connection
  unfolding fin_sent
  ok-fin_sent cfg j p = job_if 0 _ _ _ p p

  ok-ack_sent : (cfg : Cfg) (j : Job) → Ok f top most una given 0 j.connection → Ok f top most una given 0 (ack_sent cfg j).connection
  unfolding ack_sent
  ok-ack_sent cfg j p = job_if 0 _ _ _ p p

  ok-armed : (cfg : Cfg) (now : ℕ) (w : Connection) → Ok f top most una given 0 w → Ok f top most una given 0 (armed cfg now w)
  unfolding armed
  ok-armed cfg now w p = ok_if 0 _ _ _ p p

  ok-flushed : (cfg : Cfg) (now : ℕ) (j : Job) → Ok f top most una given 0 j.connection → Ok f top most una given 0 (flushed cfg now j).connection
  unfolding flushed
  ok-flushed cfg now j p =
      ok-armed cfg now _ (ok-ack_sent cfg _ (ok-fin_sent cfg _ (ok-data_sent cfg _ (ok-resent cfg j p))))

  ok-timed_out : (j : Job) → Ok f top most una given 0 j.connection → Ok f top most una given 0 (timed_out j).connection
  unfolding timed_out
  ok-timed_out j p =
      job_if 0 (is_syn_sent j.connection.state) _ _ (ok-ended 0 j.connection p) (ok-tells 0 (on j (ended j.connection)) _ (ok-ended 0 j.connection p))

  ok-collapsed_in : (t : State) (w : Connection) → Ok f top most una given 0 w → Ok f top most una given 0 (collapsed_in t w)
  ok-collapsed_in st.SynSent w p = p
  ok-collapsed_in st.SynReceived w p = p
  ok-collapsed_in _ w p = p

  ok-retransmitted : (cfg : Cfg) (now : ℕ) (j : Job) → Ok f top most una given 0 j.connection → Ok f top most una given 0 (retransmitted cfg now j).connection
  unfolding retransmitted collapsed
  ok-retransmitted cfg now j p =
      job_if 0 (nat_le cfg.retries (j.connection.expiries + 1)) _ _ (ok-timed_out j p) (ok-collapsed_in j.connection.state j.connection p)

  ok-probed : (cfg : Cfg) (now : ℕ) (j : Job) → Ok f top most una given 0 j.connection → Ok f top most una given 0 (probed cfg now j).connection
  unfolding probed
  ok-probed cfg now j p = p

  ok-expired : (cfg : Cfg) (now : ℕ) (j : Job) → Ok f top most una given 0 j.connection → Ok f top most una given 0 (expired cfg now j).connection
  unfolding expired
  ok-expired cfg now j p =
      job_if 0 (not (is_due j.connection.deadline now)) _ _ p
      (job_if 0 (is_time_wait j.connection.state) _ _ (ok-ended 0 j.connection p)
      (job_if 0 (nat_lt j.connection.una j.connection.nxt) _ _ (ok-retransmitted cfg now j p) (ok-probed cfg now j p)))

  -- ## Calls
  ok-accept : (j : Job) → Ok f top most una given 0 j.connection → Ok f top most una given 0 (accept j).connection
  unfolding accept
  ok-accept j p =
      job_if 0 j.connection.accepted _ _ p
      (record {
        weight = λ done. omega (arith, p.weight done, parts-told f done 0 j.connection.pieces);
        alone = p.alone;
        acked = p.acked;
        taken = p.taken;
      })

  ok-sendv : (bytes : List ℕ) (j : Job) → Ok f top most una given 0 j.connection → Ok f top most una given 0 (sendv bytes j).connection
  unfolding sendv
  ok-sendv bytes j p =
      job_if 0 (not (j.connection.accepted && is_open j.connection.state)) _ _ p
      (record {
        weight = p.weight;
        alone = p.alone;
        acked = p.acked;
        taken = omega (arith, p.taken, length-append j.connection.sent (take (min (length bytes) (room j.connection)) bytes));
      })

  ok-recv_done : (cfg : Cfg) (n : ℕ) (j : Job) → Ok f top most una given 0 j.connection → Ok f top most una given 0 (recv_done cfg n j).connection
  unfolding recv_done
  ok-recv_done cfg n j p = job_if 0 (not j.connection.accepted) _ _ p (job_if 0 (nat_lt j.connection.unread n) _ _ p p)

  ok-close : (j : Job) → Ok f top most una given 0 j.connection → Ok f top most una given 0 (close j).connection
  unfolding close
  ok-close j p =
      let none = ok-none 0 j.connection.held j.connection.pieces j.connection.una j.connection.sent p in
      ok_if 0 (persists j.connection) _ _ none none

  ok-answered : (cfg : Cfg) (ask : Ask) (j : Job) → Ok f top most una given 0 j.connection → Ok f top most una given 0 (answered cfg ask j).connection
  unfolding answered
  ok-answered cfg asks.Connect j p = p
  ok-answered cfg asks.Accept j p = ok-accept j p
  ok-answered cfg (asks.Sendv bytes) j p = ok-sendv bytes j p
  ok-answered cfg (asks.RecvDone n) j p = ok-recv_done cfg n j p
  ok-answered cfg asks.Close j p = ok-close j p

-- ## Openings: nothing is acknowledged yet
module _ (f top : ℕ → ℕ) (most given e : ℕ) where
  ok-opened : (held : List HeldSegment) (pieces : List Piece) (at to : ℕ) (sent : List ℕ) → Owes f top most 0 given e held pieces at sent → Owes f top most 0 given e held pieces to sent
  ok-opened held pieces at to sent p = record { weight = p.weight; alone = p.alone; acked = omega arith; taken = p.taken }

  ok-opening : (cfg : Cfg) (h : SegHead) (now : ℕ) (j : Job) → Ok f top most 0 given e j.connection → Ok f top most 0 given e (opening cfg h now j).connection
  unfolding opening
  ok-opening cfg h now j p =
      job_if f top most 0 given e (opens h) _ _ (ok-opened j.connection.held j.connection.pieces j.connection.una 0 j.connection.sent p) p

  ok-connecting : (cfg : Cfg) (now : ℕ) (j : Job) → Ok f top most 0 given e j.connection → Ok f top most 0 given e (connecting cfg now j).connection
  unfolding connecting
  ok-connecting cfg now j p = ok-opened j.connection.held j.connection.pieces j.connection.una 0 j.connection.sent p

  ok-syn_sent : (cfg : Cfg) (h : SegHead) (j : Job) → Ok f top most 0 given e j.connection → Ok f top most 0 given e (syn_sent cfg h j).connection
  unfolding syn_sent
  ok-syn_sent cfg h j p =
      job_if f top most 0 given e (has_flag h.flags ACK && not (h.ack == number j.connection.iss 1)) _ _ (job_if f top most 0 given e (has_flag h.flags RST) _ _ p p)
      (job_if f top most 0 given e (has_flag h.flags RST) _ _ (job_if f top most 0 given e (has_flag h.flags ACK) _ _ (ok-ended f top most 0 given e j.connection p) p)
      (job_if f top most 0 given e (has_flag h.flags SYN && has_flag h.flags ACK) _ _ (ok-opened j.connection.held j.connection.pieces j.connection.una 1 j.connection.sent p) p))

-- ## A step
-- the weight of the segment that comes
abbrev pub input_weight : (ℕ → ℕ) → Input → ℕ
input_weight f (inputs.Segment w seg) = f w.0
input_weight f _ = 0

-- where the peer's initial number is not known, nothing is acknowledged
abbrev pub acked_from : State → ℕ → ℕ
acked_from s una = if knows_peer s then una else 0

module _ (f top : ℕ → ℕ) (most given : ℕ) (cfg : Cfg) where
  ok-arrived_in : (t : State) (una : ℕ) (w : WireNo) (seg : Seg) (now : ℕ) (j : Job) → Ok f top most (acked_from t una) given (f w.0) j.connection → Ok f top most (acked_from t una) given 0 (arrived_in t cfg w seg now j).connection
  ok-arrived_in st.Closed una w seg now j p = ok-unused f top most una given (f w.0) j.connection.held j.connection.pieces j.connection.una j.connection.sent p
  ok-arrived_in st.Listen una w seg now j p = ok-opening f top most given 0 cfg seg.head now j (ok-unused f top most 0 given (f w.0) j.connection.held j.connection.pieces j.connection.una j.connection.sent p)
  ok-arrived_in st.SynSent una w seg now j p = ok-syn_sent f top most given 0 cfg seg.head j (ok-unused f top most 0 given (f w.0) j.connection.held j.connection.pieces j.connection.una j.connection.sent p)
  ok-arrived_in _ una w seg now j p = ok-checked f top most una given cfg w seg now j p

  -- by the state before the call
  ok-connect : (t : State) (una now : ℕ) (j : Job) → Ok f top most (acked_from t una) given 0 j.connection → Ok f top most (acked_from t una) given 0 (if is_listen t then connecting cfg now j else j).connection
  ok-connect st.Listen una now j p = ok-connecting f top most given 0 cfg now j p
  ok-connect _ una now j p = p

  ok-called : (una now : ℕ) (ask : Ask) (j : Job) → Ok f top most (acked_from j.connection.state una) given 0 j.connection → Ok f top most (acked_from j.connection.state una) given 0 (called cfg ask now j).connection
  unfolding called
  ok-called una now ask j p =
      job_if f top most (acked_from j.connection.state una) given 0 (is_connect ask) _ _ (ok-connect j.connection.state una now j p)
      (job_if f top most (acked_from j.connection.state una) given 0 (is_live j.connection) _ _ (ok-answered f top most (acked_from j.connection.state una) given cfg ask j p) p)

  pub ok-step : (w : Connection) (i : Input) (now : ℕ) → Ok f top most (acked_from w.state w.una) given (input_weight f i) w → Ok f top most (acked_from w.state w.una) given 0 (step cfg w i now).connection
  unfolding step stepped arrived
  ok-step w (inputs.Segment n seg) now p = ok-arrived_in w.state w.una n seg now _ p
  ok-step w inputs.Timer now p = job_if f top most (acked_from w.state w.una) given 0 (is_alive w.state) _ _ (ok-expired f top most (acked_from w.state w.una) given cfg now _ p) p
  ok-step w (inputs.Call ask) now p = ok-called w.una now ask _ p
  ok-step w inputs.Flush now p = job_if f top most (acked_from w.state w.una) given 0 (is_alive w.state) _ _ (ok-flushed f top most (acked_from w.state w.una) given cfg now _ p) p
