-- Arrival over numbers stands for a step of the connection.
use Rattle.std.proofs.Common.{◌≡◌, ℕ, ◌-◌, ◌^◌, ◌<◌, Bool, true, false, List, [], arith, refl, ap, sym, subst, ◌∙◌}
use Rattle.std.specs.Prelude.{◌&&◌, not, map}
use Rattle.ix_base.specs.declared.id.WireNo.{WireNo}
use Rattle.ix_base.specs.declared.segment.Seg.{Seg}
use Rattle.ix_base.specs.declared.segment.SegHead.{SegHead}
use Rattle.ix_tcpdef.specs.Connection.{acked_data, is_closed}
use Rattle.ix_tcpdef.specs.Arrival.{Next, Goes, Stops, job_of, acceptability, reset, synchronize, unacknowledged}
use Rattle.ix_tcpdef.specs.Acknowledgement.{acknowledgement}
use Rattle.ix_tcpdef.specs.Body.{text_and_fin}
use Rattle.ix_tcpdef.specs.Needs.{IsFramed}
use Rattle.ix_tcpdef.specs.Sound.{IsKept, HasOpened}
use Rattle.ix_tcpdef.specs.Step.{checked, arrived_in, arrived, stepped, step}
use Rattle.ix_tcpdef.specs.Arrivals.{AcknowledgementsKeep}
use Rattle.ix_tcpdef.specs.Delivered.{expects}
use Rattle.ix_tcpdef.specs.declared.types.Cfg.{Cfg}
use Rattle.ix_tcpdef.specs.declared.types.State.{State}
use Rattle.ix_tcpdef.specs.declared.types.State.TheVariants as st
use Rattle.ix_tcpdef.specs.declared.types.Connection.{Connection}
use Rattle.ix_tcpdef.specs.declared.types.Input.TheVariants as inputs
use Rattle.ix_tcpdef.specs.declared.types.Job.{Job}
use Rattle.ix_tcpdef.specs.declared.types.HeldHead.{HeldHead}
use Rattle.ix_tcpdef.specs.declared.types.Tcb.{Tcb}
use Rattle.ix_tcpin.specs.declared.verdict.Verdict.{Verdict}
use Rattle.ix_tcpdef.specs.Stands.{tcb_of, head_of}
use Rattle.ix_tcpin.specs.Work.{Work, work, Course, Onward, Done, blank}
use Rattle.ix_tcpin.specs.Checks.{acceptability_part, reset_part, synchronize_part, unacknowledged_part}
use Rattle.ix_tcpin.specs.Acknowledgement.{acknowledgement_part}
use Rattle.ix_tcpin.specs.Text.{text_part}
use Rattle.ix_tcpin.specs.Arrived.{checked_part, arrived_part_in, arrived_part}
use Rattle.ix_tcpin.specs.Verdict.{Meets, has_ended}
use Rattle.ix_tcpin.proofs.Relation.{so_far, at, Agrees, Says, Leads, leads-then, leads-same, leads-end, keep-pieces, keep-held, said}
use Rattle.ix_tcpin.proofs.CheckLemmas.{leads-acceptability, leads-reset, leads-synchronize, leads-unacknowledged}
use Rattle.ix_tcpin.proofs.AckLemmas.{Stays, leads-acknowledgement}
use Rattle.ix_tcpin.proofs.TextLemmas.{says-text}
use Rattle.ix_tcpin.proofs.OpeningLemmas.{start, begins, says-opening, says-syn_sent}

-- ## Behind the opening
pub record StaysKept (cfg : Cfg) (w : Connection) (k : Work) (j : Job) : Type 0 where
  pub stays : Stays w k j
  pub kept : IsKept cfg j.connection

pub leads-kept : (cfg : Cfg) (w : Connection) (S : Work → Job → Type 0) (a : Course) (b : Next) → Leads (Stays w) S a b → IsKept cfg (job_of b).connection → Leads (StaysKept cfg w) S a b
leads-kept cfg w S (Onward k) (Goes j) l kept = record { stays = l; kept = kept }
leads-kept cfg w S (Onward k) (Stops j) l kept = elim l [ ]
leads-kept cfg w S (Done k) (Goes j) l kept = elim l [ ]
leads-kept cfg w S (Done k) (Stops j) l kept = l

leads-checked : AcknowledgementsKeep → (cfg : Cfg) (now : ℕ) (w : Connection) (n : WireNo) (seg : Seg) → cfg.window < 2 ^ 16 → seg.head.ack < 2 ^ 32 → seg.head.window < 2 ^ 16 → expects w.state ≡ true → is_closed w.state ≡ false → IsKept cfg w → HasOpened w → IsFramed seg → Leads (Says w n seg) (Says w n seg) (checked_part cfg seg.head now (at w (start w) [])) (checked cfg n seg now (start w))
unfolding checked_part checked
leads-checked keeps cfg now w n seg small ack window states alive k opened framed =
    let a : Agrees w (start w) [] = begins w alive in
    leads-same (Says w n seg) (Says w n seg) (at w (start w) []) (start w) (acceptability_part cfg seg.head now (at w (start w) [])) (acceptability cfg seg.head now (start w)) _ _ (leads-acceptability cfg seg.head now w n seg (start w) [] a)
    (leads-same (Says w n seg) (Says w n seg) (at w (start w) []) (start w) (reset_part cfg seg.head (at w (start w) [])) (reset cfg seg.head (start w)) _ _ (leads-reset cfg seg.head w n seg (start w) [] a)
    (leads-same (Says w n seg) (Says w n seg) (at w (start w) []) (start w) (synchronize_part cfg seg.head (at w (start w) [])) (synchronize cfg seg.head (start w)) _ _ (leads-synchronize cfg seg.head w n seg (start w) [] a)
    (leads-same (Says w n seg) (Says w n seg) (at w (start w) []) (start w) (unacknowledged_part seg.head (at w (start w) [])) (unacknowledged seg.head (start w)) _ _ (leads-unacknowledged seg.head w n seg (start w) [] a)
    (leads-then (StaysKept cfg w) (Says w n seg) (Says w n seg) (acknowledgement_part cfg seg.head now (at w (start w) [])) (acknowledgement cfg seg.head now (start w)) _ _
    (leads-kept cfg w (Says w n seg) _ _ (leads-acknowledgement cfg seg.head now w n seg (start w) [] states a refl k opened ack) (keeps cfg seg.head now (start w) window states k))
    (λ i j s. subst (λ (x : Work). Says w n seg (text_part cfg seg.head now x) (text_and_fin cfg n seg now j)) (sym s.stays.is) (says-text cfg now w n seg j s.stays.events small framed s.stays.agrees s.kept))))))

-- ## By the state
idle : (w : Connection) → false ≡ has_ended w w
idle w = by_test (is_closed w.state)
  where
    by_test : (b : Bool) → false ≡ (not b && b)
    by_test true = refl
    by_test false = refl

says-idle : (w : Connection) (n : WireNo) (seg : Seg) → Says w n seg (at w (start w) []) (start w)
says-idle w n seg =
    said w n seg w (so_far w (acked_data w - acked_data w) []) [] refl (keep-pieces w.accepted w.irs w.held) (keep-held w.irs w.held) refl refl refl refl (idle w)

says-arrived_in : (s : State) → AcknowledgementsKeep → (cfg : Cfg) (now : ℕ) (w : Connection) (n : WireNo) (seg : Seg) → w.state ≡ s → cfg.window < 2 ^ 16 → seg.head.ack < 2 ^ 32 → seg.head.window < 2 ^ 16 → IsKept cfg w → HasOpened w → IsFramed seg → Says w n seg (arrived_part_in s cfg seg.head now (at w (start w) [])) (arrived_in s cfg n seg now (start w))
says-arrived_in st.Closed keeps cfg now w n seg is small ack window k opened framed = says-idle w n seg
says-arrived_in st.Listen keeps cfg now w n seg is small ack window k opened framed = says-opening cfg now w n seg is k opened
says-arrived_in st.SynSent keeps cfg now w n seg is small ack window k opened framed = says-syn_sent cfg w n seg is k
says-arrived_in _ keeps cfg now w n seg is small ack window k opened framed =
    leads-end (Says w n seg) _ _ (leads-checked keeps cfg now w n seg small ack window (ap expects is) (ap is_closed is) k opened framed)

pub begin_as : (w : Connection) → work (tcb_of w) (blank (map (head_of w.irs) w.held)) ≡ at w (start w) []
begin_as w =
    let none : 0 ≡ acked_data w - acked_data w = omega arith in
    ap (λ (m : ℕ). work (tcb_of w) (so_far w m [])) none

says-arrived : AcknowledgementsKeep → (cfg : Cfg) (now : ℕ) (w : Connection) (n : WireNo) (seg : Seg) → cfg.window < 2 ^ 16 → seg.head.ack < 2 ^ 32 → seg.head.window < 2 ^ 16 → IsKept cfg w → HasOpened w → IsFramed seg → Says w n seg (arrived_part cfg seg.head now (work (tcb_of w) (blank (map (head_of w.irs) w.held)))) (step cfg w (inputs.Segment n seg) now)
unfolding arrived_part step stepped arrived
says-arrived keeps cfg now w n seg small ack window k opened framed =
    subst (λ (x : Work). Says w n seg (arrived_part_in x.numbers.state cfg seg.head now x) (arrived_in w.state cfg n seg now (start w))) (sym (begin_as w))
    (says-arrived_in w.state keeps cfg now w n seg refl small ack window k opened framed)

-- of every connection that the numbers stand for
pub arrival_stands : AcknowledgementsKeep → (cfg : Cfg) (t : Tcb) (h : SegHead) (now : ℕ) (w : Connection) (n : WireNo) (seg : Seg) → cfg.window < 2 ^ 16 → h.ack < 2 ^ 32 → h.window < 2 ^ 16 → Meets cfg t h w seg → Says w n seg (arrived_part cfg h now (work t (blank t.held.items))) (step cfg w (inputs.Segment n seg) now)
arrival_stands keeps cfg t h now w n seg small ack window m =
    subst (λ (x : Tcb). Says w n seg (arrived_part cfg h now (work x (blank x.held.items))) (step cfg w (inputs.Segment n seg) now)) (sym m.stands.numbers)
    (subst (λ (x : SegHead). Says w n seg (arrived_part cfg x now (work (tcb_of w) (blank (map (head_of w.irs) w.held)))) (step cfg w (inputs.Segment n seg) now)) m.head
    (says-arrived keeps cfg now w n seg small (subst (λ (x : SegHead). x.ack < 2 ^ 32) (sym m.head) ack) (subst (λ (x : SegHead). x.window < 2 ^ 16) (sym m.head) window) m.stands.kept m.stands.opened m.framed))

-- as the code has it: held is what is held, blank the verdict to begin with
pub says-of : AcknowledgementsKeep → (cfg : Cfg) (t : Tcb) (h : SegHead) (now : ℕ) (w : Connection) (n : WireNo) (seg : Seg) (heads : List HeldHead) (begun : Verdict) (new : Tcb) (v : Verdict) → cfg.window < 2 ^ 16 → h.ack < 2 ^ 32 → h.window < 2 ^ 16 → heads ≡ t.held.items → begun ≡ blank heads → work new v ≡ arrived_part cfg h now (work t begun) → Meets cfg t h w seg → Says w n seg (work new v) (step cfg w (inputs.Segment n seg) now)
says-of keeps cfg t h now w n seg heads begun new v small ack window held blank_is is m =
    subst (λ (x : Work). Says w n seg x (step cfg w (inputs.Segment n seg) now)) (sym (is ∙ ap (λ (b : Verdict). arrived_part cfg h now (work t b)) (blank_is ∙ ap blank held)))
    (arrival_stands keeps cfg t h now w n seg small ack window m)
