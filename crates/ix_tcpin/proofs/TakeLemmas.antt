-- What is taken of the body over numbers is what the step takes of it.
use Rattle.std.proofs.Common.{◌≡◌, ℕ, ◌+◌, ◌-◌, ◌^◌, ◌<◌, ◌≤◌, Bool, true, false, if◌then◌else◌, List, [], length, arith, refl, ap, sym, subst, ◌∙◌, inl, inr}
use Rattle.std.specs.Prelude.{nat_lt, ◌&&◌, ◌||◌, ◌==◌, not, map}
use Rattle.std.specs.List.{list_all}
use Rattle.std.proofs.lemmas.Bool.{cases_Bool, cond_both}
use Rattle.ix_base.specs.declared.id.WireNo.{WireNo}
use Rattle.ix_base.specs.declared.segment.Seg.{Seg}
use Rattle.ix_base.specs.declared.segment.SegHead.{SegHead}
use Rattle.ix_base.specs.Sequence.{number, is_past, past_of}
use Rattle.ix_base.specs.Flags.{has_flag}
use Rattle.ix_tcpdef.specs.Connection.{rcv_wnd, seq_of, is_closed, is_syn_received, is_time_wait}
use Rattle.ix_tcpdef.specs.Arrival.{Next, Goes, Stops, ◌>>=◌, span, is_acceptable, acceptability, reset, synchronize, unacknowledged}
use Rattle.ix_tcpdef.specs.Acknowledgement.{acknowledgement}
use Rattle.ix_tcpdef.specs.Body.{octets, takes_body}
use Rattle.ix_tcpdef.specs.Needs.{IsFramed}
use Rattle.ix_tcpdef.specs.Opening.{opens}
use Rattle.ix_tcpdef.specs.Sound.{IsKept, HasOpened}
use Rattle.ix_tcpdef.specs.Arrivals.{AcknowledgementsKeep}
use Rattle.ix_tcpdef.specs.Delivered.{expects}
use Rattle.ix_tcpdef.specs.declared.types.Cfg.{Cfg}
use Rattle.ix_tcpdef.specs.declared.types.State.{State}
use Rattle.ix_tcpdef.specs.declared.types.State.TheVariants as st
use Rattle.ix_tcpdef.specs.declared.types.Connection.{Connection}
use Rattle.ix_tcpdef.specs.declared.types.HeldHead.{HeldHead}
use Rattle.ix_tcpdef.specs.declared.types.Job.{Job}
use Rattle.ix_tcpdef.specs.declared.types.Octets.{Octets}
use Rattle.ix_tcpdef.specs.declared.types.Tcb.{Tcb}
use Rattle.ix_tcpdef.specs.declared.types.Told.{Told}
use Rattle.ix_tcpdef.specs.declared.types.Told.TheVariants as told
use Rattle.ix_base.specs.declared.segment.TheConstants.{ACK, FIN, RST, SYN}
use Rattle.ix_tcpdef.specs.Stands.{tcb_of, head_of}
use Rattle.ix_tcpin.specs.declared.text.Octets.{Octets as Places}
use Rattle.ix_tcpin.specs.declared.verdict.Take.{Take}
use Rattle.ix_tcpin.specs.declared.verdict.Take.TheVariants as takes
use Rattle.ix_tcpin.specs.declared.verdict.Verdict.{Verdict}
use Rattle.ix_tcpin.specs.Heads.{window}
use Rattle.ix_tcpin.specs.Work.{Work, work, on, Course, Onward, Done, along, work_of, blank, tells, let_go, ends}
use Rattle.ix_tcpin.specs.Checks.{distance, acceptability_part, reset_part, synchronize_part, unacknowledged_part}
use Rattle.ix_tcpin.specs.Acknowledgement.{establishing_part, too_far_part, acked_bytes, acked_numbers, room_left, sent_part, fin_acked_part_in, fin_acked_part, counts, synchronized_part, acknowledgement_part}
use Rattle.ix_tcpin.specs.Text.{octets_in, waiting_part, Texted, received_part, body_part, behind_fin, fin_part_in, fin_part, finished_part, text_part, is_beside, stands_next, texted}
use Rattle.ix_tcpin.specs.Opening.{opening_part, syn_sent_part}
use Rattle.ix_tcpin.specs.Arrived.{checked_part, arrived_part_in, arrived_part}
use Rattle.ix_tcpin.specs.Verdict.{Meets, reached, is_held, octets_taken, body_taken, taken_after, taken_in, take_of}
use Rattle.ix_tcpin.proofs.Relation.{at, Agrees, Says, Leads, IsSame}
use Rattle.ix_tcpin.proofs.CheckLemmas.{leads-acceptability, leads-reset, leads-synchronize, leads-unacknowledged}
use Rattle.ix_tcpin.proofs.AckLemmas.{leads-acknowledgement}
use Rattle.ix_tcpin.proofs.HoleLemmas.{IsCut, octets-cut}
use Rattle.ix_tcpin.proofs.TextLemmas.{taken_place, empty_test, waits-as}
use Rattle.ix_tcpin.proofs.OpeningLemmas.{start, begins}
use Rattle.ix_tcpin.proofs.ArrivalLemmas.{StaysKept, leads-kept, begin_as}

-- ## Parts that take nothing
-- a part leaves what is taken of the body as it was
pub record LeavesTake (t : Take) (a : Course) : Type 0 where
  pub take : (work_of a).verdict.take ≡ t

leaves-cond : (t : Take) (b : Bool) (x y : Course) → LeavesTake t x → LeavesTake t y → LeavesTake t (if b then x else y)
leaves-cond t true x y l m = l
leaves-cond t false x y l m = m

leaves-along : (t : Take) (a : Course) (f : Work → Course) → LeavesTake t a → ((k : Work) → k.verdict.take ≡ t → LeavesTake t (f k)) → LeavesTake t (along a f)
leaves-along t (Onward k) f l more = more k l.take
leaves-along t (Done k) f l more = record { take = l.take }

pub leaves-acceptability : (cfg : Cfg) (h : SegHead) (now : ℕ) (k : Work) → LeavesTake k.verdict.take (acceptability_part cfg h now k)
unfolding acceptability_part
leaves-acceptability cfg h now k =
    leaves-cond _ (is_acceptable (span h) (window cfg k.numbers) (distance k.numbers h)) _ _ (record { take = refl })
    (leaves-cond _ (has_flag h.flags RST) _ _ (record { take = refl })
    (leaves-cond _ (has_flag h.flags FIN && is_time_wait k.numbers.state) _ _ (record { take = refl }) (record { take = refl })))

take-tells : (k : Work) (t : Told) → (tells k t).verdict.take ≡ k.verdict.take
take-tells k t = cond_both (k.numbers.accepted && not k.numbers.shut) _ _ (λ (x : Work). x.verdict.take ≡ k.verdict.take) (λ _. refl) (λ _. refl)

pub leaves-reset : (cfg : Cfg) (h : SegHead) (k : Work) → LeavesTake k.verdict.take (reset_part cfg h k)
unfolding reset_part
leaves-reset cfg h k =
    leaves-cond _ (not (has_flag h.flags RST)) _ _ (record { take = refl })
    (leaves-cond _ (h.seq == k.numbers.rcv_nxt) _ _ (record { take = take-tells (ends k) told.DeadReset }) (record { take = refl }))

pub leaves-synchronize : (cfg : Cfg) (h : SegHead) (k : Work) → LeavesTake k.verdict.take (synchronize_part cfg h k)
unfolding synchronize_part
leaves-synchronize cfg h k =
    leaves-cond _ (not (has_flag h.flags SYN)) _ _ (record { take = refl })
    (leaves-cond _ (is_syn_received k.numbers.state) _ _ (record { take = refl }) (record { take = refl }))

pub leaves-unacknowledged : (h : SegHead) (k : Work) → LeavesTake k.verdict.take (unacknowledged_part h k)
unfolding unacknowledged_part
leaves-unacknowledged h k = leaves-cond _ (has_flag h.flags ACK) _ _ (record { take = refl }) (record { take = refl })

take-sent : (n : ℕ) (k : Work) → (sent_part n k).verdict.take ≡ k.verdict.take
unfolding sent_part
take-sent n k =
    cond_both (nat_lt 0 n || (k.numbers.wants && nat_lt 0 (room_left k.numbers))) _ _ (λ (x : Work). x.verdict.take ≡ k.verdict.take) (λ _. take-tells (on k (record k.numbers { wants = false })) (told.Sent n (room_left k.numbers))) (λ _. refl)

leaves-fin_acked_in : (s : State) (cfg : Cfg) (now : ℕ) (k : Work) → LeavesTake k.verdict.take (fin_acked_part_in s cfg now k)
leaves-fin_acked_in st.FinWait1 cfg now k = record { take = refl }
leaves-fin_acked_in st.Closing cfg now k = record { take = refl }
leaves-fin_acked_in st.LastAck cfg now k = record { take = refl }
leaves-fin_acked_in _ cfg now k = record { take = refl }

leaves-fin_acked : (cfg : Cfg) (now : ℕ) (k : Work) → LeavesTake k.verdict.take (fin_acked_part cfg now k)
unfolding fin_acked_part
leaves-fin_acked cfg now k =
    leaves-cond _ (k.numbers.fin_sent && (k.numbers.una == k.numbers.nxt)) _ _ (leaves-fin_acked_in k.numbers.state cfg now k) (record { take = refl })

leaves-synchronized : (cfg : Cfg) (h : SegHead) (now : ℕ) (k : Work) → LeavesTake k.verdict.take (synchronized_part cfg h now k)
unfolding synchronized_part too_far_part
leaves-synchronized cfg h now k =
    leaves-along k.verdict.take _ _ (leaves-cond _ (is_past k.numbers.nxt h.ack) _ _ (record { take = refl }) (record { take = refl }))
    (λ l same.
    let i : Work = counts (acked_bytes h l.numbers) (on l (acked_numbers cfg h now l.numbers)) in
    record { take = (leaves-fin_acked cfg now (sent_part (acked_bytes h l.numbers) i)).take ∙ take-sent (acked_bytes h l.numbers) i ∙ same })

pub leaves-acknowledgement : (cfg : Cfg) (h : SegHead) (now : ℕ) (k : Work) → LeavesTake k.verdict.take (acknowledgement_part cfg h now k)
unfolding acknowledgement_part establishing_part
leaves-acknowledgement cfg h now k =
    leaves-cond _ (is_syn_received k.numbers.state) _ _
    (leaves-cond _ (is_past k.numbers.una h.ack && not (is_past k.numbers.nxt h.ack)) _ _ (record { take = refl }) (record { take = refl }))
    (leaves-synchronized cfg h now k)

-- ## The body and the FIN
take-fin_in : (s : State) (cfg : Cfg) (now : ℕ) (k : Work) → (fin_part_in s cfg now k).verdict.take ≡ k.verdict.take
take-fin_in st.Established cfg now k = take-tells (on k (record k.numbers { state = st.CloseWait })) told.RecvEnd
take-fin_in st.FinWait1 cfg now k = refl
take-fin_in st.FinWait2 cfg now k = refl
take-fin_in _ cfg now k = refl

pub take-finished : (cfg : Cfg) (h : SegHead) (now : ℕ) (b : Texted) → (finished_part cfg h now b).verdict.take ≡ b.work.verdict.take
unfolding finished_part fin_part
take-finished cfg h now b =
    let P : Work → Type 0 = λ x. x.verdict.take ≡ b.work.verdict.take in
    cond_both b.stands _ _ P (λ _. take-fin_in b.work.numbers.state cfg now (work (behind_fin b.work.numbers) (let_go b.work.verdict)))
    (λ _. cond_both (has_flag h.flags FIN && (h.len == 0) && is_past b.work.numbers.rcv_nxt h.seq) _ _ P (λ _. refl) (λ _. refl))

-- the places that the octets have in the body
record AtPlaces (p : Places) (o : Octets) (from : ℕ) : Type 0 where
  from_is : from ≡ p.from
  to_is : from + length o.bytes ≡ p.to

taken-waiting : (cfg : Cfg) (w : Connection) (seg : Seg) (j : Job) (es : List Told) (p : Places) (o : Octets) (fin : Bool) → cfg.window < 2 ^ 16 → IsKept cfg j.connection → IsCut (rcv_wnd cfg j.connection) j.connection.rcv (past_of (seq_of j.connection seg.head)) seg p o → (waiting_part p fin (at w j es)).verdict.take ≡ (if is_held o j.connection then takes.Hold p.from p.to else takes.Nothing)
unfolding waiting_part
taken-waiting cfg w seg j es p o fin window k cut =
    let c : Connection = j.connection in
    elim (cases_Bool (is_held o c)) [
      | inl room ↦
          let room_then : (nat_lt (length (map (head_of c.irs) c.held)) 8 && list_all (is_beside (number c.irs c.rcv) p) (map (head_of c.irs) c.held)) ≡ true = waits-as cfg seg c p o window k cut ∙ room in
          rw (room_then, room) refl
      | inr full ↦
          let full_then : (nat_lt (length (map (head_of c.irs) c.held)) 8 && list_all (is_beside (number c.irs c.rcv) p) (map (head_of c.irs) c.held)) ≡ false = waits-as cfg seg c p o window k cut ∙ full in
          rw (full_then, full) refl
    ]

taken-octets : (cfg : Cfg) (w : Connection) (seg : Seg) (j : Job) (es : List Told) (p : Places) (o : Octets) (from : ℕ) (fin : Bool) → cfg.window < 2 ^ 16 → IsKept cfg j.connection → IsCut (rcv_wnd cfg j.connection) j.connection.rcv (past_of (seq_of j.connection seg.head)) seg p o → AtPlaces p o from → (if p.to == p.from then texted (at w j es) (stands_next seg.head (tcb_of j.connection)) else received_part cfg p fin (at w j es)).work.verdict.take ≡ octets_taken o from j.connection
unfolding received_part
taken-octets cfg w seg j es p o from fin window k cut places =
    let c : Connection = j.connection in
    elim (cases_Bool (p.to == p.from)) [
      | inl none ↦
          let none_then : (length o.bytes == 0) ≡ true = sym (empty_test p.from p.to (length o.bytes) cut.len cut.order) ∙ none in
          rw (none, none_then) refl
      | inr more ↦
          let more_then : (length o.bytes == 0) ≡ false = sym (empty_test p.from p.to (length o.bytes) cut.len cut.order) ∙ more in
          rw (more, more_then, places.to_is, places.from_is)
          (elim (cases_Bool (p.past == 0)) [
            | inl here ↦
                let next : (o.at == c.rcv) ≡ true = sym (taken_place p.past c.rcv o.at cut.at) ∙ here in
                rw (here, next) refl
            | inr beyond ↦
                let not_next : (o.at == c.rcv) ≡ false = sym (taken_place p.past c.rcv o.at cut.at) ∙ beyond in
                rw (beyond, not_next) (taken-waiting cfg w seg j es p o fin window k cut)
          ])
    ]

taken-body : (cfg : Cfg) (w : Connection) (seg : Seg) (j : Job) (es : List Told) → cfg.window < 2 ^ 16 → IsFramed seg → IsKept cfg j.connection → (body_part cfg seg.head (at w j es)).work.verdict.take ≡ body_taken cfg seg j.connection
unfolding body_part
taken-body cfg w seg j es window framed k =
    let c : Connection = j.connection in
    let p : Places = octets_in (rcv_wnd cfg c) (seq_of c seg.head) seg.head.len in
    let o : Octets = octets c.rcv (rcv_wnd cfg c) (seq_of c seg.head) seg.head.at seg.body in
    let cut : IsCut (rcv_wnd cfg c) c.rcv (past_of (seq_of c seg.head)) seg p o = octets-cut (rcv_wnd cfg c) c.rcv c seg framed in
    let order : p.from ≤ p.to = cut.order in
    let places : AtPlaces p o (o.from - seg.head.at) = record { from_is = omega (arith, cut.from); to_is = omega (arith, cut.from, cut.len) } in
    elim (cases_Bool (takes_body c.state)) [
      | inl takes_it ↦ rw takes_it (taken-octets cfg w seg j es p o (o.from - seg.head.at) (has_flag seg.head.flags FIN && p.whole) window k cut places)
      | inr not_taken ↦ rw not_taken refl
    ]

taken-text : (cfg : Cfg) (now : ℕ) (w : Connection) (seg : Seg) (j : Job) (es : List Told) → cfg.window < 2 ^ 16 → IsFramed seg → IsKept cfg j.connection → (text_part cfg seg.head now (at w j es)).verdict.take ≡ body_taken cfg seg j.connection
unfolding text_part
taken-text cfg now w seg j es window framed k =
    take-finished cfg seg.head now (body_part cfg seg.head (at w j es)) ∙ taken-body cfg w seg j es window framed k

-- ## All
taken-same : (cfg : Cfg) (seg : Seg) (S : Work → Job → Type 0) (k : Work) (j : Job) (a : Course) (b : Next) (f : Work → Course) (g : Job → Next) → Leads (IsSame k j) S a b → LeavesTake takes.Nothing a → (work_of (f k)).verdict.take ≡ taken_after cfg seg (g j) → (work_of (along a f)).verdict.take ≡ taken_after cfg seg (b >>= g)
taken-same cfg seg S k j (Onward l) (Goes i) f g leads quiet more =
    ap (λ (x : Work). (work_of (f x)).verdict.take) leads.work ∙ more ∙ ap (λ (x : Job). taken_after cfg seg (g x)) (sym leads.job)
taken-same cfg seg S k j (Onward l) (Stops i) f g leads quiet more = elim leads [ ]
taken-same cfg seg S k j (Done l) (Goes i) f g leads quiet more = elim leads [ ]
taken-same cfg seg S k j (Done l) (Stops i) f g leads quiet more = quiet.take

taken-last : (cfg : Cfg) (now : ℕ) (w : Connection) (seg : Seg) (S : Work → Job → Type 0) (a : Course) (b : Next) → cfg.window < 2 ^ 16 → IsFramed seg → Leads (StaysKept cfg w) S a b → LeavesTake takes.Nothing a → (work_of (along a (λ k. Onward (text_part cfg seg.head now k)))).verdict.take ≡ taken_after cfg seg b
taken-last cfg now w seg S (Onward k) (Goes j) window framed leads quiet =
    ap (λ (x : Work). (text_part cfg seg.head now x).verdict.take) leads.stays.is ∙ taken-text cfg now w seg j leads.stays.events window framed leads.kept
taken-last cfg now w seg S (Onward k) (Stops j) window framed leads quiet = elim leads [ ]
taken-last cfg now w seg S (Done k) (Goes j) window framed leads quiet = elim leads [ ]
taken-last cfg now w seg S (Done k) (Stops j) window framed leads quiet = quiet.take

taken-checked : AcknowledgementsKeep → (cfg : Cfg) (now : ℕ) (w : Connection) (n : WireNo) (seg : Seg) → cfg.window < 2 ^ 16 → seg.head.ack < 2 ^ 32 → seg.head.window < 2 ^ 16 → expects w.state ≡ true → is_closed w.state ≡ false → IsKept cfg w → HasOpened w → IsFramed seg → (work_of (checked_part cfg seg.head now (at w (start w) []))).verdict.take ≡ taken_after cfg seg (reached cfg seg.head now (start w))
unfolding checked_part
taken-checked keeps cfg now w n seg small ack window states alive k opened framed =
    let a : Agrees w (start w) [] = begins w alive in
    let K : Work = at w (start w) [] in
    taken-same cfg seg (Says w n seg) K (start w) (acceptability_part cfg seg.head now K) (acceptability cfg seg.head now (start w)) _ _ (leads-acceptability cfg seg.head now w n seg (start w) [] a) (leaves-acceptability cfg seg.head now K)
    (taken-same cfg seg (Says w n seg) K (start w) (reset_part cfg seg.head K) (reset cfg seg.head (start w)) _ _ (leads-reset cfg seg.head w n seg (start w) [] a) (leaves-reset cfg seg.head K)
    (taken-same cfg seg (Says w n seg) K (start w) (synchronize_part cfg seg.head K) (synchronize cfg seg.head (start w)) _ _ (leads-synchronize cfg seg.head w n seg (start w) [] a) (leaves-synchronize cfg seg.head K)
    (taken-same cfg seg (Says w n seg) K (start w) (unacknowledged_part seg.head K) (unacknowledged seg.head (start w)) _ _ (leads-unacknowledged seg.head w n seg (start w) [] a) (leaves-unacknowledged seg.head K)
    (taken-last cfg now w seg (Says w n seg) (acknowledgement_part cfg seg.head now K) (acknowledgement cfg seg.head now (start w)) small framed
    (leads-kept cfg w (Says w n seg) _ _ (leads-acknowledgement cfg seg.head now w n seg (start w) [] states a refl k opened ack) (keeps cfg seg.head now (start w) window states k))
    (leaves-acknowledgement cfg seg.head now K)))))

pub taken-opening : (cfg : Cfg) (h : SegHead) (now : ℕ) (k : Work) → (opening_part cfg h now k).verdict.take ≡ k.verdict.take
unfolding opening_part
taken-opening cfg h now k = cond_both (opens h) _ _ (λ (x : Work). x.verdict.take ≡ k.verdict.take) (λ _. refl) (λ _. refl)

pub taken-syn_sent : (cfg : Cfg) (h : SegHead) (k : Work) → (syn_sent_part cfg h k).verdict.take ≡ k.verdict.take
unfolding syn_sent_part
taken-syn_sent cfg h k =
    let P : Work → Type 0 = λ x. x.verdict.take ≡ k.verdict.take in
    cond_both (has_flag h.flags ACK && not (h.ack == number k.numbers.iss 1)) _ _ P
    (λ _. cond_both (has_flag h.flags RST) _ _ P (λ _. refl) (λ _. refl))
    (λ _. cond_both (has_flag h.flags RST) _ _ P
    (λ _. cond_both (has_flag h.flags ACK) _ _ P (λ _. refl) (λ _. refl))
    (λ _. cond_both (has_flag h.flags SYN && has_flag h.flags ACK) _ _ P (λ _. refl) (λ _. refl)))

taken-arrived_in : (s : State) → AcknowledgementsKeep → (cfg : Cfg) (now : ℕ) (w : Connection) (n : WireNo) (seg : Seg) → w.state ≡ s → cfg.window < 2 ^ 16 → seg.head.ack < 2 ^ 32 → seg.head.window < 2 ^ 16 → IsKept cfg w → HasOpened w → IsFramed seg → (arrived_part_in s cfg seg.head now (at w (start w) [])).verdict.take ≡ taken_in s cfg seg now w
taken-arrived_in st.Closed keeps cfg now w n seg is small ack window k opened framed = refl
taken-arrived_in st.Listen keeps cfg now w n seg is small ack window k opened framed = taken-opening cfg seg.head now (at w (start w) [])
taken-arrived_in st.SynSent keeps cfg now w n seg is small ack window k opened framed = taken-syn_sent cfg seg.head (at w (start w) [])
taken-arrived_in _ keeps cfg now w n seg is small ack window k opened framed =
    taken-checked keeps cfg now w n seg small ack window (ap expects is) (ap is_closed is) k opened framed

taken-arrived : AcknowledgementsKeep → (cfg : Cfg) (now : ℕ) (w : Connection) (n : WireNo) (seg : Seg) → cfg.window < 2 ^ 16 → seg.head.ack < 2 ^ 32 → seg.head.window < 2 ^ 16 → IsKept cfg w → HasOpened w → IsFramed seg → (arrived_part cfg seg.head now (work (tcb_of w) (blank (map (head_of w.irs) w.held)))).verdict.take ≡ take_of cfg w seg now
unfolding arrived_part
taken-arrived keeps cfg now w n seg small ack window k opened framed =
    ap (λ (x : Work). (arrived_part_in x.numbers.state cfg seg.head now x).verdict.take) (begin_as w)
    ∙ taken-arrived_in w.state keeps cfg now w n seg refl small ack window k opened framed

-- as the code has it
pub taken-of : AcknowledgementsKeep → (cfg : Cfg) (t : Tcb) (h : SegHead) (now : ℕ) (w : Connection) (n : WireNo) (seg : Seg) (heads : List HeldHead) (begun : Verdict) (new : Tcb) (v : Verdict) → cfg.window < 2 ^ 16 → h.ack < 2 ^ 32 → h.window < 2 ^ 16 → heads ≡ t.held.items → begun ≡ blank heads → work new v ≡ arrived_part cfg h now (work t begun) → Meets cfg t h w seg → v.take ≡ take_of cfg w seg now
taken-of keeps cfg t h now w n seg heads begun new v small ack window held blank_is is m =
    ap (λ (x : Work). x.verdict.take) is
    ∙ ap (λ (b : Verdict). (arrived_part cfg h now (work t b)).verdict.take) (blank_is ∙ ap blank held)
    ∙ ap (λ (x : Tcb). (arrived_part cfg h now (work x (blank x.held.items))).verdict.take) m.stands.numbers
    ∙ ap (λ (x : SegHead). (arrived_part cfg x now (work (tcb_of w) (blank (map (head_of w.irs) w.held)))).verdict.take) (sym m.head)
    ∙ taken-arrived keeps cfg now w n seg small (subst (λ (x : SegHead). x.ack < 2 ^ 32) (sym m.head) ack) (subst (λ (x : SegHead). x.window < 2 ^ 16) (sym m.head) window) m.stands.kept m.stands.opened m.framed
