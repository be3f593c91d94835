-- Where a part of the body is held, what was held before stays as it was.
use Rattle.std.proofs.Common.{◌≡◌, ℕ, suc, ◌+◌, ◌-◌, ◌^◌, ◌<◌, ◌≤◌, Bool, true, false, if◌then◌else◌, List, [], ◌∷◌, length, arith, refl, ap, sym, subst, ◌∙◌}
use Rattle.std.specs.Prelude.{nat_lt, ◌&&◌, ◌==◌, not, map}
use Rattle.std.specs.List.{insert, list_all}
use Rattle.std.proofs.lemmas.Bool.{cond_both}
use Rattle.ix_base.specs.declared.id.WireNo.{WireNo}
use Rattle.ix_base.specs.declared.segment.Seg.{Seg}
use Rattle.ix_base.specs.declared.segment.SegHead.{SegHead}
use Rattle.ix_base.specs.Sequence.{number, is_past, past_of}
use Rattle.ix_base.specs.Flags.{has_flag}
use Rattle.ix_base.specs.declared.segment.TheConstants.{FIN}
use Rattle.ix_tcpdef.specs.Arrival.{Next, Goes, Stops, acceptability, reset, synchronize, unacknowledged}
use Rattle.ix_tcpdef.specs.Arrivals.{held_place, HoldsInPlace}
use Rattle.ix_tcpdef.specs.Acknowledgement.{acknowledgement}
use Rattle.ix_tcpdef.specs.Body.{takes_body}
use Rattle.ix_tcpdef.specs.Connection.{is_closed}
use Rattle.ix_tcpdef.specs.Delivered.{expects}
use Rattle.ix_tcpdef.specs.Needs.{EndsBy}
use Rattle.ix_tcpdef.specs.Sound.{IsKept, HasOpened, RisesFrom}
use Rattle.ix_tcpdef.specs.Stands.{tcb_of, head_of}
use Rattle.ix_tcpdef.specs.declared.types.Cfg.{Cfg}
use Rattle.ix_tcpdef.specs.declared.types.Connection.{Connection}
use Rattle.ix_tcpdef.specs.declared.types.HeldHead.{HeldHead}
use Rattle.ix_tcpdef.specs.declared.types.HeldSegment.{HeldSegment}
use Rattle.ix_tcpdef.specs.declared.types.Job.{Job}
use Rattle.ix_tcpdef.specs.declared.types.State.{State}
use Rattle.ix_tcpdef.specs.declared.types.State.TheVariants as st
use Rattle.ix_tcpdef.specs.declared.types.Tcb.{Tcb}
use Rattle.ix_tcpin.specs.declared.text.Octets.{Octets as Places}
use Rattle.ix_tcpin.specs.declared.verdict.Take.{Take}
use Rattle.ix_tcpin.specs.declared.verdict.Take.TheVariants as takes
use Rattle.ix_tcpin.specs.declared.verdict.Verdict.{Verdict}
use Rattle.ix_tcpin.specs.Heads.{window}
use Rattle.ix_tcpin.specs.Work.{Work, work, Course, Onward, Done, along, work_of, keep, blank}
use Rattle.ix_tcpin.specs.Checks.{distance, acceptability_part, reset_part, synchronize_part, unacknowledged_part}
use Rattle.ix_tcpin.specs.Acknowledgement.{acknowledgement_part}
use Rattle.ix_tcpin.specs.Text.{octets_in, is_beside, place_among, waiting_part, Texted, texted, received_part, stands_next, body_part, finished_part, text_part}
use Rattle.ix_tcpin.specs.Arrived.{checked_part, arrived_part_in, arrived_part}
use Rattle.ix_tcpin.specs.Verdict.{Meets, held_with, kept_held, held_of, held_at, body_held}
use Rattle.ix_tcpin.proofs.Relation.{at, Agrees, Says, Leads, IsSame, keep-held}
use Rattle.ix_tcpin.proofs.CheckLemmas.{leads-acceptability, leads-reset, leads-synchronize, leads-unacknowledged}
use Rattle.ix_tcpin.proofs.AckLemmas.{Stays, leads-acknowledgement}
use Rattle.ix_tcpin.proofs.HoleLemmas.{place_test}
use Rattle.ix_tcpin.proofs.OpeningLemmas.{start, begins}
use Rattle.ix_tcpin.proofs.ArrivalLemmas.{begin_as}
use Rattle.ix_tcpin.proofs.TakeLemmas.{LeavesTake, leaves-acceptability, leaves-reset, leaves-synchronize, leaves-unacknowledged, leaves-acknowledgement, take-finished, taken-opening, taken-syn_sent}

-- ## The place of a new one
pub place_is : (irs rcv low top past : ℕ) (ss : List HeldSegment) → rcv ≤ low → top ≤ rcv + 65535 → RisesFrom low ss → EndsBy top ss → place_among (number irs rcv) past (map (head_of irs) ss) ≡ held_place (rcv + past) ss
place_is irs rcv low top past [] above far rising ends = refl
place_is irs rcv low top past (s ∷ ss) above far rising ends =
    let begin : rcv ≤ s.at = omega (arith, rising.0) in
    let end : s.at < rcv + 2 ^ 32 = omega (arith, ends.0) in
    rw (place_test irs rcv past s.at begin end)
    (by_test (nat_lt (rcv + past) s.at) (place_is irs rcv (s.at + length s.bytes) top past ss (omega (arith, rising.0)) far rising.2 ends.1))
  where
    next : (n m : ℕ) → n ≡ m → 1 + n ≡ suc m
    next n m e = omega arith

    by_test : (b : Bool) → place_among (number irs rcv) past (map (head_of irs) ss) ≡ held_place (rcv + past) ss → (if b then 0 else 1 + place_among (number irs rcv) past (map (head_of irs) ss)) ≡ (if b then 0 else suc (held_place (rcv + past) ss))
    by_test true e = refl
    by_test false e = next (place_among (number irs rcv) past (map (head_of irs) ss)) (held_place (rcv + past) ss) e

-- ## A body that is held
abbrev pub is_hold : Take → Bool
is_hold (takes.Hold from to) = true
is_hold _ = false

-- where the work holds a part of the body, all that was held is kept
record Keeps (w : Connection) (k : Work) : Type 0 where
  kept : is_hold k.verdict.take ≡ true → k.verdict.held.items ≡ map keep (map (head_of w.irs) w.held)

keeps-none : (w : Connection) (k : Work) → k.verdict.take ≡ takes.Nothing → Keeps w k
keeps-none w k none = record { kept = λ e. let no : false ≡ true = sym (ap is_hold none) ∙ e in cc }

record KeepsBody (k : Work) (b : Texted) : Type 0 where
  stands : is_hold b.work.verdict.take ≡ true → b.stands ≡ false
  held : is_hold b.work.verdict.take ≡ true → b.work.verdict.held ≡ k.verdict.held

keeps-same : (k : Work) (stands : Bool) → k.verdict.take ≡ takes.Nothing → KeepsBody k (texted k stands)
keeps-same k stands none =
    record { stands = λ e. let no : false ≡ true = sym (ap is_hold none) ∙ e in cc; held = λ _. refl }

held-waiting : (o : Places) (fin : Bool) (k : Work) → (waiting_part o fin k).verdict.held ≡ k.verdict.held
unfolding waiting_part
held-waiting o fin k =
    cond_both (nat_lt (length k.numbers.held.items) 8 && list_all (is_beside k.numbers.rcv_nxt o) k.numbers.held.items) _ _ (λ (x : Work). x.verdict.held ≡ k.verdict.held) (λ _. refl) (λ _. refl)

no-hold : (b : Bool) (from to : ℕ) → is_hold (if b then takes.Discard from to else takes.Deliver from to) ≡ true → false ≡ true
no-hold true from to e = e
no-hold false from to e = e

keeps-received : (cfg : Cfg) (o : Places) (fin : Bool) (k : Work) → KeepsBody k (received_part cfg o fin k)
unfolding received_part
keeps-received cfg o fin k =
    cond_both (o.past == 0) _ _ (KeepsBody k)
    (λ _. record {
      stands = λ e. let no : false ≡ true = no-hold k.numbers.shut o.from o.to e in cc;
      held = λ e. let no : false ≡ true = no-hold k.numbers.shut o.from o.to e in cc;
    })
    (λ _. record { stands = λ _. refl; held = λ _. held-waiting o fin k })

keeps-body : (cfg : Cfg) (h : SegHead) (k : Work) → k.verdict.take ≡ takes.Nothing → KeepsBody k (body_part cfg h k)
unfolding body_part
keeps-body cfg h k none =
    let o : Places = octets_in (window cfg k.numbers) (distance k.numbers h) h.len in
    cond_both (not (takes_body k.numbers.state)) _ _ (KeepsBody k)
    (λ _. keeps-same k (stands_next h k.numbers) none)
    (λ _. cond_both (o.to == o.from) _ _ (KeepsBody k)
    (λ _. keeps-same k (stands_next h k.numbers) none)
    (λ _. keeps-received cfg o _ k))

held-finished : (cfg : Cfg) (h : SegHead) (now : ℕ) (b : Texted) → b.stands ≡ false → (finished_part cfg h now b).verdict.held ≡ b.work.verdict.held
unfolding finished_part
held-finished cfg h now b stands =
    rw stands (cond_both (has_flag h.flags FIN && (h.len == 0) && is_past b.work.numbers.rcv_nxt h.seq) _ _ (λ (x : Work). x.verdict.held ≡ b.work.verdict.held) (λ _. refl) (λ _. refl))

keeps-text : (cfg : Cfg) (h : SegHead) (now : ℕ) (w : Connection) (k : Work) → k.verdict.take ≡ takes.Nothing → k.verdict.held.items ≡ map keep (map (head_of w.irs) w.held) → Keeps w (text_part cfg h now k)
unfolding text_part
keeps-text cfg h now w k none held =
    let b : KeepsBody k (body_part cfg h k) = keeps-body cfg h k none in
    record {
      kept = λ e.
          let hold : is_hold (body_part cfg h k).work.verdict.take ≡ true = sym (ap is_hold (take-finished cfg h now (body_part cfg h k))) ∙ e in
          ap (λ us. us.items) (held-finished cfg h now (body_part cfg h k) (b.stands hold) ∙ b.held hold) ∙ held;
    }

-- ## All
keeps-then : (w : Connection) (S : Work → Job → Type 0) (k : Work) (j : Job) (a : Course) (b : Next) (f : Work → Course) → Leads (IsSame k j) S a b → LeavesTake takes.Nothing a → Keeps w (work_of (f k)) → Keeps w (work_of (along a f))
keeps-then w S k j (Onward l) (Goes i) f leads quiet more = subst (λ (x : Work). Keeps w (work_of (f x))) (sym leads.work) more
keeps-then w S k j (Onward l) (Stops i) f leads quiet more = elim leads [ ]
keeps-then w S k j (Done l) (Goes i) f leads quiet more = elim leads [ ]
keeps-then w S k j (Done l) (Stops i) f leads quiet more = keeps-none w l quiet.take

keeps-last : (cfg : Cfg) (now : ℕ) (w : Connection) (seg : Seg) (S : Work → Job → Type 0) (a : Course) (b : Next) → Leads (Stays w) S a b → LeavesTake takes.Nothing a → Keeps w (work_of (along a (λ k. Onward (text_part cfg seg.head now k))))
keeps-last cfg now w seg S (Onward k) (Goes j) leads quiet =
    subst (λ (x : Work). Keeps w (text_part cfg seg.head now x)) (sym leads.is) (keeps-text cfg seg.head now w (at w j leads.events) refl refl)
keeps-last cfg now w seg S (Onward k) (Stops j) leads quiet = elim leads [ ]
keeps-last cfg now w seg S (Done k) (Goes j) leads quiet = elim leads [ ]
keeps-last cfg now w seg S (Done k) (Stops j) leads quiet = keeps-none w k quiet.take

keeps-checked : (cfg : Cfg) (now : ℕ) (w : Connection) (n : WireNo) (seg : Seg) → seg.head.ack < 2 ^ 32 → expects w.state ≡ true → is_closed w.state ≡ false → IsKept cfg w → HasOpened w → Keeps w (work_of (checked_part cfg seg.head now (at w (start w) [])))
unfolding checked_part
keeps-checked cfg now w n seg ack states alive k opened =
    let a : Agrees w (start w) [] = begins w alive in
    let K : Work = at w (start w) [] in
    keeps-then w (Says w n seg) K (start w) (acceptability_part cfg seg.head now K) (acceptability cfg seg.head now (start w)) _ (leads-acceptability cfg seg.head now w n seg (start w) [] a) (leaves-acceptability cfg seg.head now K)
    (keeps-then w (Says w n seg) K (start w) (reset_part cfg seg.head K) (reset cfg seg.head (start w)) _ (leads-reset cfg seg.head w n seg (start w) [] a) (leaves-reset cfg seg.head K)
    (keeps-then w (Says w n seg) K (start w) (synchronize_part cfg seg.head K) (synchronize cfg seg.head (start w)) _ (leads-synchronize cfg seg.head w n seg (start w) [] a) (leaves-synchronize cfg seg.head K)
    (keeps-then w (Says w n seg) K (start w) (unacknowledged_part seg.head K) (unacknowledged seg.head (start w)) _ (leads-unacknowledged seg.head w n seg (start w) [] a) (leaves-unacknowledged seg.head K)
    (keeps-last cfg now w seg (Says w n seg) (acknowledgement_part cfg seg.head now K) (acknowledgement cfg seg.head now (start w))
    (leads-acknowledgement cfg seg.head now w n seg (start w) [] states a refl k opened ack)
    (leaves-acknowledgement cfg seg.head now K)))))

keeps-arrived_in : (s : State) (cfg : Cfg) (now : ℕ) (w : Connection) (n : WireNo) (seg : Seg) → w.state ≡ s → seg.head.ack < 2 ^ 32 → IsKept cfg w → HasOpened w → Keeps w (arrived_part_in s cfg seg.head now (at w (start w) []))
keeps-arrived_in st.Closed cfg now w n seg is ack k opened = keeps-none w (at w (start w) []) refl
keeps-arrived_in st.Listen cfg now w n seg is ack k opened = keeps-none w _ (taken-opening cfg seg.head now (at w (start w) []))
keeps-arrived_in st.SynSent cfg now w n seg is ack k opened = keeps-none w _ (taken-syn_sent cfg seg.head (at w (start w) []))
keeps-arrived_in _ cfg now w n seg is ack k opened = keeps-checked cfg now w n seg ack (ap expects is) (ap is_closed is) k opened

keeps-arrived : (cfg : Cfg) (now : ℕ) (w : Connection) (n : WireNo) (seg : Seg) → seg.head.ack < 2 ^ 32 → IsKept cfg w → HasOpened w → Keeps w (arrived_part cfg seg.head now (work (tcb_of w) (blank (map (head_of w.irs) w.held))))
unfolding arrived_part
keeps-arrived cfg now w n seg ack k opened =
    subst (λ (x : Work). Keeps w (arrived_part_in x.numbers.state cfg seg.head now x)) (sym (begin_as w)) (keeps-arrived_in w.state cfg now w n seg refl ack k opened)

-- as the code has it
keeps-of : (cfg : Cfg) (t : Tcb) (h : SegHead) (now : ℕ) (w : Connection) (n : WireNo) (seg : Seg) (heads : List HeldHead) (begun : Verdict) (new : Tcb) (v : Verdict) → h.ack < 2 ^ 32 → heads ≡ t.held.items → begun ≡ blank heads → work new v ≡ arrived_part cfg h now (work t begun) → Meets cfg t h w seg → Keeps w (work new v)
keeps-of cfg t h now w n seg heads begun new v ack held blank_is is m =
    subst (Keeps w) (sym (is ∙ ap (λ (b : Verdict). arrived_part cfg h now (work t b)) (blank_is ∙ ap blank held)))
    (subst (λ (x : Tcb). Keeps w (arrived_part cfg h now (work x (blank x.held.items)))) (sym m.stands.numbers)
    (subst (λ (x : SegHead). Keeps w (arrived_part cfg x now (work (tcb_of w) (blank (map (head_of w.irs) w.held))))) m.head
    (keeps-arrived cfg now w n seg (subst (λ (x : SegHead). x.ack < 2 ^ 32) (sym m.head) ack) m.stands.kept m.stands.opened)))

-- what a held part of the body makes of what is held
held-placed : HoldsInPlace → (w : Connection) (n : WireNo) (seg : Seg) (v : Verdict) (from to : ℕ) → v.take ≡ takes.Hold from to → v.held.items ≡ map keep (map (head_of w.irs) w.held) → held_of w n seg v ≡ insert w.held (held_place (held_at w seg) w.held) (body_held w n seg from to)
held-placed placed w n seg v from to take held =
    ap (λ (t : Take). held_with w n seg t (kept_held w.held v.held.items)) take
    ∙ ap (λ us. held_with w n seg (takes.Hold from to) (kept_held w.held us)) held
    ∙ ap (λ (ss : List HeldSegment). held_with w n seg (takes.Hold from to) ss) (keep-held w.irs w.held)
    ∙ placed (body_held w n seg from to) w.held

pub placed-of : HoldsInPlace → (cfg : Cfg) (t : Tcb) (h : SegHead) (now : ℕ) (w : Connection) (n : WireNo) (seg : Seg) (heads : List HeldHead) (begun : Verdict) (new : Tcb) (v : Verdict) (from to : ℕ) → h.ack < 2 ^ 32 → heads ≡ t.held.items → begun ≡ blank heads → work new v ≡ arrived_part cfg h now (work t begun) → Meets cfg t h w seg → v.take ≡ takes.Hold from to → held_of w n seg v ≡ insert w.held (held_place (held_at w seg) w.held) (body_held w n seg from to)
placed-of placed cfg t h now w n seg heads begun new v from to ack held blank_is is m take =
    held-placed placed w n seg v from to take ((keeps-of cfg t h now w n seg heads begun new v ack held blank_is is m).kept (ap is_hold take))

-- ## As the code finds it
pub place_stands : (cfg : Cfg) (t : Tcb) (h : SegHead) (w : Connection) (seg : Seg) → cfg.window < 2 ^ 16 → Meets cfg t h w seg → place_among t.rcv_nxt (past_of (distance t h)) t.held.items ≡ held_place (held_at w seg) w.held
place_stands cfg t h w seg small m =
    let fits : w.unread ≤ cfg.window = m.stands.kept.standing.buffer.unread_fits in
    ap (λ (x : Tcb). place_among x.rcv_nxt (past_of (distance x h)) x.held.items) m.stands.numbers
    ∙ ap (λ (x : SegHead). place_among (number w.irs w.rcv) (past_of (distance (tcb_of w) x)) (map (head_of w.irs) w.held)) (sym m.head)
    ∙ place_is w.irs w.rcv (w.rcv + 1) (w.rcv + (cfg.window - w.unread)) (past_of (distance (tcb_of w) seg.head)) w.held (omega arith) (omega arith) m.stands.kept.sound.receiver.rising m.stands.kept.standing.buffer.held_fits
