-- A verdict lies within the segment, what is held and the send queue, whatever the numbers stand for.
use Rattle.std.proofs.Common.{◌≡◌, ℕ, ◌+◌, ◌-◌, ◌<◌, ◌≤◌, Bool, false, List, [], ◌∷◌, ◌++◌, length, arith, refl, ap, sym, subst, ◌∙◌}
use Rattle.std.specs.Prelude.{nat_lt, nat_le, ◌&&◌, ◌||◌, ◌==◌, not, min, map, Some}
use Rattle.std.specs.List.{list_all}
use Rattle.std.proofs.lemmas.Bool.{cond_both}
use Rattle.std.proofs.lemmas.Grind.{common_steps}
use Rattle.ix_base.specs.declared.segment.SegHead.{SegHead}
use Rattle.ix_base.specs.Sequence.{number, ahead, is_past, is_at_or_past, past_of, behind_of}
use Rattle.ix_base.specs.Flags.{has_flag}
use Rattle.ix_tcpdef.specs.Ticks.{later}
use Rattle.ix_tcpdef.specs.Connection.{is_syn_received, is_time_wait}
use Rattle.ix_tcpdef.specs.Arrival.{span, is_acceptable}
use Rattle.ix_tcpdef.specs.Body.{takes_body}
use Rattle.ix_tcpdef.specs.Opening.{opens}
use Rattle.ix_tcpdef.specs.declared.types.Cfg.{Cfg}
use Rattle.ix_tcpdef.specs.declared.types.State.{State}
use Rattle.ix_tcpdef.specs.declared.types.State.TheVariants as st
use Rattle.ix_tcpdef.specs.declared.types.HeldHead.{HeldHead}
use Rattle.ix_tcpdef.specs.declared.types.Tcb.{Tcb}
use Rattle.ix_tcpdef.specs.declared.types.Told.{Told}
use Rattle.ix_tcpdef.specs.declared.types.Told.TheVariants as told
use Rattle.ix_base.specs.declared.segment.TheConstants.{ACK, FIN, RST, SYN}
use Rattle.ix_tcpin.specs.declared.text.Octets.{Octets}
use Rattle.ix_tcpin.specs.declared.verdict.HeldUse.{HeldUse}
use Rattle.ix_tcpin.specs.declared.verdict.HeldUse.TheVariants as uses
use Rattle.ix_tcpin.specs.declared.verdict.Take.TheVariants as takes
use Rattle.ix_tcpin.specs.Heads.{window, ack_head}
use Rattle.ix_tcpin.specs.Work.{Work, work, on, Course, Onward, Done, along, work_of, keep, dropped, blank, replies, announces, tells, let_go, ends}
use Rattle.ix_tcpin.specs.Checks.{distance, acceptability_part, reset_part, synchronize_part, unacknowledged_part}
use Rattle.ix_tcpin.specs.Acknowledgement.{established_numbers, establishing_part, too_far_part, is_repeated, duplicated_numbers, acked_bytes, advanced_numbers, is_later, windowed_numbers, acked_numbers, room_left, sent_part, fin_acked_part_in, fin_acked_part, counts, synchronized_part, acknowledgement_part}
use Rattle.ix_tcpin.specs.Text.{octets_in, moved, holds, end_of, Filled, filled_numbers, is_beside, waiting_part, Texted, received_part, body_part, behind_fin, fin_part_in, fin_part, finished_part, text_part}
use Rattle.ix_tcpin.specs.Opening.{opening_part, syn_sent_part}
use Rattle.ix_tcpin.specs.Arrived.{checked_part, arrived_part_in, arrived_part}
use Rattle.ix_tcpin.specs.Verdict.{IsWithin, IsUseOf, AreUsesOf, is_part, AreNoParts, LiesWithin}

-- ## Uses and events
keep-uses : (ss : List HeldHead) → AreUsesOf ss (map keep ss)
keep-uses [] = tt
keep-uses (s ∷ ss) = (tt, keep-uses ss)

dropped-uses : (ss : List HeldHead) (us : List HeldUse) → AreUsesOf ss us → AreUsesOf ss (map dropped us)
dropped-uses [] [] u = tt
dropped-uses [] (v ∷ us) u = elim u [ ]
dropped-uses (s ∷ ss) [] u = elim u [ ]
dropped-uses (s ∷ ss) (uses.Keep ∷ us) u = (tt, dropped-uses ss us u.1)
dropped-uses (s ∷ ss) (uses.Deliver from ∷ us) u = (u.0, dropped-uses ss us u.1)
dropped-uses (s ∷ ss) (uses.Drop ∷ us) u = (tt, dropped-uses ss us u.1)

no-part : (es : List Told) (t : Told) → is_part t ≡ false → AreNoParts es → AreNoParts (es ++ t ∷ [])
no-part [] t other n = (other, tt)
no-part (e ∷ es) t other n = (n.0, no-part es t other n.1)

-- ## Before the body
-- nothing is made of it yet, and what was held is still held where the segment goes on
record Before (held : List HeldHead) (queued : ℕ) (k : Work) : Type 0 where
  take : k.verdict.take ≡ takes.Nothing
  uses : AreUsesOf held k.verdict.held.items
  heads : k.numbers.held.items ≡ held
  acked : k.verdict.acked ≤ queued
  told : AreNoParts k.verdict.told.items

abbrev Within : ℕ → List HeldHead → ℕ → Work → Type 0
Within len held queued k = LiesWithin len held queued k.verdict

within-before : (len : ℕ) (held : List HeldHead) (queued : ℕ) (k : Work) → Before held queued k → Within len held queued k
within-before len held queued k b = record { take = subst (IsWithin len) (sym b.take) tt; held = b.uses; acked = b.acked; told = b.told }

within-replies : (len : ℕ) (held : List HeldHead) (queued : ℕ) (k : Work) (h : SegHead) → Within len held queued k → Within len held queued (replies k h)
within-replies len held queued k h b = record { take = b.take; held = b.held; acked = b.acked; told = b.told }

within-ends : (len : ℕ) (held : List HeldHead) (queued : ℕ) (k : Work) → Within len held queued k → Within len held queued (ends k)
within-ends len held queued k b = record { take = b.take; held = dropped-uses held k.verdict.held.items b.held; acked = b.acked; told = b.told }

within-announces : (len : ℕ) (held : List HeldHead) (queued : ℕ) (k : Work) (t : Told) → is_part t ≡ false → Within len held queued k → Within len held queued (announces k t)
within-announces len held queued k t other b = record { take = b.take; held = b.held; acked = b.acked; told = no-part k.verdict.told.items t other b.told }

within-tells : (len : ℕ) (held : List HeldHead) (queued : ℕ) (k : Work) (t : Told) → is_part t ≡ false → Within len held queued k → Within len held queued (tells k t)
within-tells len held queued k t other b =
    cond_both (k.numbers.accepted && not k.numbers.shut) _ _ (Within len held queued) (λ _. within-announces len held queued k t other b) (λ _. b)

before-announces : (held : List HeldHead) (queued : ℕ) (k : Work) (t : Told) → is_part t ≡ false → Before held queued k → Before held queued (announces k t)
before-announces held queued k t other b = record { take = b.take; uses = b.uses; heads = b.heads; acked = b.acked; told = no-part k.verdict.told.items t other b.told }

before-tells : (held : List HeldHead) (queued : ℕ) (k : Work) (t : Told) → is_part t ≡ false → Before held queued k → Before held queued (tells k t)
before-tells held queued k t other b =
    cond_both (k.numbers.accepted && not k.numbers.shut) _ _ (Before held queued) (λ _. before-announces held queued k t other b) (λ _. b)

before-on : (held : List HeldHead) (queued : ℕ) (k : Work) (t : Tcb) → t.held.items ≡ k.numbers.held.items → Before held queued k → Before held queued (on k t)
before-on held queued k t same b = record { take = b.take; uses = b.uses; heads = same ∙ b.heads; acked = b.acked; told = b.told }

-- ## Courses
abbrev Holds : (Work → Type 0) → (Work → Type 0) → Course → Type 0
Holds P Q (Onward k) = P k
Holds P Q (Done k) = Q k

holds-then : (P R Q : Work → Type 0) (a : Course) (f : Work → Course) → Holds P Q a → ((k : Work) → P k → Holds R Q (f k)) → Holds R Q (along a f)
holds-then P R Q (Onward k) f h more = more k h
holds-then P R Q (Done k) f h more = h

holds-same : (R Q : Work → Type 0) (k : Work) (a : Course) (f : Work → Course) → Holds (λ l. l ≡ k) Q a → Holds R Q (f k) → Holds R Q (along a f)
holds-same R Q k a f h more = holds-then (λ l. l ≡ k) R Q a f h (λ l same. subst (λ (x : Work). Holds R Q (f x)) (sym same) more)

holds-end : (Q : Work → Type 0) (a : Course) → Holds Q Q a → Q (work_of a)
holds-end Q (Onward k) h = h
holds-end Q (Done k) h = h

-- ## The checks
holds-acceptability : (cfg : Cfg) (h : SegHead) (now len : ℕ) (held : List HeldHead) (queued : ℕ) (k : Work) → Before held queued k → Holds (λ l. l ≡ k) (Within len held queued) (acceptability_part cfg h now k)
unfolding acceptability_part
holds-acceptability cfg h now len held queued k b =
    let P : Course → Type 0 = Holds (λ l. l ≡ k) (Within len held queued) in
    let w : Within len held queued k = within-before len held queued k b in
    cond_both (is_acceptable (span h) (window cfg k.numbers) (distance k.numbers h)) _ _ P (λ _. refl)
    (λ _. cond_both (has_flag h.flags RST) _ _ P (λ _. w)
    (λ _. cond_both (has_flag h.flags FIN && is_time_wait k.numbers.state) _ _ P
    (λ _. record { take = w.take; held = w.held; acked = w.acked; told = w.told })
    (λ _. within-replies len held queued k (ack_head cfg k.numbers) w)))

holds-reset : (cfg : Cfg) (h : SegHead) (len : ℕ) (held : List HeldHead) (queued : ℕ) (k : Work) → Before held queued k → Holds (λ l. l ≡ k) (Within len held queued) (reset_part cfg h k)
unfolding reset_part
holds-reset cfg h len held queued k b =
    let P : Course → Type 0 = Holds (λ l. l ≡ k) (Within len held queued) in
    let w : Within len held queued k = within-before len held queued k b in
    cond_both (not (has_flag h.flags RST)) _ _ P (λ _. refl)
    (λ _. cond_both (h.seq == k.numbers.rcv_nxt) _ _ P
    (λ _. within-tells len held queued (ends k) told.DeadReset refl (within-ends len held queued k w))
    (λ _. within-replies len held queued k (ack_head cfg k.numbers) w))

holds-synchronize : (cfg : Cfg) (h : SegHead) (len : ℕ) (held : List HeldHead) (queued : ℕ) (k : Work) → Before held queued k → Holds (λ l. l ≡ k) (Within len held queued) (synchronize_part cfg h k)
unfolding synchronize_part
holds-synchronize cfg h len held queued k b =
    let P : Course → Type 0 = Holds (λ l. l ≡ k) (Within len held queued) in
    let w : Within len held queued k = within-before len held queued k b in
    cond_both (not (has_flag h.flags SYN)) _ _ P (λ _. refl)
    (λ _. cond_both (is_syn_received k.numbers.state) _ _ P (λ _. within-ends len held queued k w) (λ _. within-replies len held queued k (ack_head cfg k.numbers) w))

holds-unacknowledged : (h : SegHead) (len : ℕ) (held : List HeldHead) (queued : ℕ) (k : Work) → Before held queued k → Holds (λ l. l ≡ k) (Within len held queued) (unacknowledged_part h k)
unfolding unacknowledged_part
holds-unacknowledged h len held queued k b =
    cond_both (has_flag h.flags ACK) _ _ (Holds (λ l. l ≡ k) (Within len held queued)) (λ _. refl) (λ _. within-before len held queued k b)

-- ## The acknowledgement
duplicated-heads : (h : SegHead) (t : Tcb) → (duplicated_numbers h t).held ≡ t.held
unfolding duplicated_numbers
duplicated-heads h t =
    let P : Tcb → Type 0 = λ u. u.held ≡ t.held in
    cond_both (not (is_repeated h t)) _ _ P (λ _. refl) (λ _. cond_both t.recovering _ _ P (λ _. refl) (λ _. cond_both (t.dups == 2) _ _ P (λ _. refl) (λ _. refl)))

advanced-heads : (cfg : Cfg) (h : SegHead) (now : ℕ) (t : Tcb) → (advanced_numbers cfg h now t).held ≡ t.held
unfolding advanced_numbers
advanced-heads cfg h now t = cond_both (is_past t.una h.ack) _ _ (λ (v : Tcb). v.held ≡ t.held) (λ _. refl) (λ _. refl)

windowed-heads : (h : SegHead) (before : ℕ) (t : Tcb) → (windowed_numbers h before t).held ≡ t.held
unfolding windowed_numbers
windowed-heads h before t =
    let P : Tcb → Type 0 = λ v. v.held ≡ t.held in
    cond_both (not (is_at_or_past before h.ack && is_later h t)) _ _ P (λ _. refl) (λ _. cond_both (nat_lt 0 h.window && (t.una == t.nxt)) _ _ P (λ _. refl) (λ _. refl))

acked-heads : (cfg : Cfg) (h : SegHead) (now : ℕ) (t : Tcb) → (acked_numbers cfg h now t).held ≡ t.held
unfolding acked_numbers
acked-heads cfg h now t =
    windowed-heads h t.una (advanced_numbers cfg h now (duplicated_numbers h t)) ∙ advanced-heads cfg h now (duplicated_numbers h t) ∙ duplicated-heads h t

acked-most : (h : SegHead) (t : Tcb) → acked_bytes h t ≤ t.queued
acked-most h t = cond_both (is_past t.una h.ack) _ _ (λ n. n ≤ t.queued) (λ _. omega arith) (λ _. omega arith)

before-sent : (n : ℕ) (held : List HeldHead) (queued : ℕ) (k : Work) → Before held queued k → Before held queued (sent_part n k)
unfolding sent_part
before-sent n held queued k b =
    cond_both (nat_lt 0 n || (k.numbers.wants && nat_lt 0 (room_left k.numbers))) _ _ (Before held queued)
    (λ _. before-tells held queued (on k (record k.numbers { wants = false })) (told.Sent n (room_left k.numbers)) refl (before-on held queued k (record k.numbers { wants = false }) refl b))
    (λ _. b)

holds-fin_acked_in : (s : State) (cfg : Cfg) (now len : ℕ) (held : List HeldHead) (queued : ℕ) (k : Work) → Before held queued k → Holds (Before held queued) (Within len held queued) (fin_acked_part_in s cfg now k)
holds-fin_acked_in st.FinWait1 cfg now len held queued k b = before-on held queued k (record k.numbers { state = st.FinWait2 }) refl b
holds-fin_acked_in st.Closing cfg now len held queued k b = before-on held queued k (record k.numbers { state = st.TimeWait; deadline = Some (later now cfg.time_wait) }) refl b
holds-fin_acked_in st.LastAck cfg now len held queued k b = within-ends len held queued k (within-before len held queued k b)
holds-fin_acked_in _ cfg now len held queued k b = b

holds-fin_acked : (cfg : Cfg) (now len : ℕ) (held : List HeldHead) (queued : ℕ) (k : Work) → Before held queued k → Holds (Before held queued) (Within len held queued) (fin_acked_part cfg now k)
unfolding fin_acked_part
holds-fin_acked cfg now len held queued k b =
    cond_both (k.numbers.fin_sent && (k.numbers.una == k.numbers.nxt)) _ _ (Holds (Before held queued) (Within len held queued)) (λ _. holds-fin_acked_in k.numbers.state cfg now len held queued k b) (λ _. b)

holds-acknowledgement : (cfg : Cfg) (h : SegHead) (now len : ℕ) (held : List HeldHead) (k : Work) → Before held k.numbers.queued k → Holds (Before held k.numbers.queued) (Within len held k.numbers.queued) (acknowledgement_part cfg h now k)
unfolding acknowledgement_part establishing_part synchronized_part too_far_part
holds-acknowledgement cfg h now len held k b =
    let q : ℕ = k.numbers.queued in
    let P : Course → Type 0 = Holds (Before held q) (Within len held q) in
    let w : Within len held q k = within-before len held q k b in
    cond_both (is_syn_received k.numbers.state) _ _ P
    (λ _. cond_both (is_past k.numbers.una h.ack && not (is_past k.numbers.nxt h.ack)) _ _ P
    (λ _. before-announces held q (on k (established_numbers h k.numbers)) told.Knock refl (before-on held q k (established_numbers h k.numbers) refl b))
    (λ _. record { take = w.take; held = w.held; acked = w.acked; told = w.told }))
    (λ _. holds-then (λ l. l ≡ k) (Before held q) (Within len held q) _ _
    (cond_both (is_past k.numbers.nxt h.ack) _ _ (Holds (λ l. l ≡ k) (Within len held q)) (λ _. within-replies len held q k (ack_head cfg k.numbers) w) (λ _. refl))
    (λ l same. subst (λ (x : Work). Holds (Before held q) (Within len held q) (fin_acked_part cfg now (sent_part (acked_bytes h x.numbers) (counts (acked_bytes h x.numbers) (on x (acked_numbers cfg h now x.numbers)))))) (sym same)
    (holds-fin_acked cfg now len held q _ (before-sent _ held q _ (record { take = b.take; uses = b.uses; heads = ap (λ v. v.items) (acked-heads cfg h now k.numbers) ∙ b.heads; acked = acked-most h k.numbers; told = b.told })))))

-- ## The body
filled-uses : (ss : List HeldHead) (fin : Bool) (t : Tcb) → AreUsesOf ss (filled_numbers ss fin t).uses
unfolding filled_numbers
filled-uses [] fin t = tt
filled-uses (s ∷ rest) fin t =
    let P : Filled → Type 0 = λ f. AreUsesOf (s ∷ rest) f.uses in
    cond_both (is_past t.rcv_nxt s.at) _ _ P (λ _. keep-uses (s ∷ rest))
    (λ _. cond_both (not (is_past t.rcv_nxt (end_of s))) _ _ P
    (λ _. (tt, filled-uses rest fin (holds rest t)))
    (λ _. (cond_both t.shut _ _ (IsUseOf s) (λ _. tt) (λ _. omega arith), filled-uses rest s.fin (moved (ahead t.rcv_nxt (end_of s)) (holds rest t)))))

-- the octets in the window lie in the body
record AreIn (len : ℕ) (o : Octets) : Type 0 where
  order : o.from ≤ o.to
  within : o.to ≤ len

octets-in : (wide len : ℕ) (t : Tcb) (h : SegHead) → AreIn len (octets_in wide (distance t h) len)
unfolding octets_in
octets-in wide len t h = by_place (past_of (distance t h)) (behind_of (distance t h))
  where
    by_place : (p b : ℕ) → AreIn len (record { past = p; from = min b len; to = min b len + min (wide - p) (len - min b len); whole = nat_le (len + p) (wide + b) })
    by_place p b = record { order = omega arith; within = omega arith }

within-waiting : (len : ℕ) (held : List HeldHead) (queued : ℕ) (o : Octets) (fin : Bool) (k : Work) → o.from < o.to → o.to ≤ len → Within len held queued k → Within len held queued (waiting_part o fin k)
unfolding waiting_part
within-waiting len held queued o fin k some most w =
    cond_both (nat_lt (length k.numbers.held.items) 8 && list_all (is_beside k.numbers.rcv_nxt o) k.numbers.held.items) _ _ (Within len held queued)
    (λ _. record { take = (some, most); held = w.held; acked = w.acked; told = w.told })
    (λ _. w)

within-received : (cfg : Cfg) (len : ℕ) (held : List HeldHead) (queued : ℕ) (o : Octets) (fin : Bool) (k : Work) → o.from < o.to → o.to ≤ len → Before held queued k → Within len held queued (received_part cfg o fin k).work
unfolding received_part
within-received cfg len held queued o fin k some most b =
    cond_both (o.past == 0) _ _ (λ (t : Texted). Within len held queued t.work)
    (λ _. record {
      take = cond_both k.numbers.shut _ _ (IsWithin len) (λ _. (some, most)) (λ _. (some, most));
      held = subst (λ (l : List HeldHead). AreUsesOf l (filled_numbers k.numbers.held.items fin (moved (o.to - o.from) k.numbers)).uses) b.heads (filled-uses k.numbers.held.items fin (moved (o.to - o.from) k.numbers));
      acked = b.acked;
      told = b.told;
    })
    (λ _. within-replies len held queued (waiting_part o fin k) (ack_head cfg k.numbers) (within-waiting len held queued o fin k some most (within-before len held queued k b)))

within-body : (cfg : Cfg) (h : SegHead) (held : List HeldHead) (queued : ℕ) (k : Work) → Before held queued k → Within h.len held queued (body_part cfg h k).work
unfolding body_part
within-body cfg h held queued k b =
    let P : Texted → Type 0 = λ t. Within h.len held queued t.work in
    let o : Octets = octets_in (window cfg k.numbers) (distance k.numbers h) h.len in
    let a : AreIn h.len o = octets-in (window cfg k.numbers) h.len k.numbers h in
    let order : o.from ≤ o.to = a.order in
    cond_both (not (takes_body k.numbers.state)) _ _ P (λ _. within-before h.len held queued k b)
    (λ _. cond_both (o.to == o.from) _ _ P (λ _. within-before h.len held queued k b)
    (λ more. within-received cfg h.len held queued o (has_flag h.flags FIN && o.whole) k (grind (arith, common_steps, more)) a.within b))

-- ## The FIN
within-fin_in : (s : State) (cfg : Cfg) (now len : ℕ) (held : List HeldHead) (queued : ℕ) (k : Work) → Within len held queued k → Within len held queued (fin_part_in s cfg now k)
within-fin_in st.Established cfg now len held queued k w = within-tells len held queued (on k (record k.numbers { state = st.CloseWait })) told.RecvEnd refl w
within-fin_in st.FinWait1 cfg now len held queued k w = w
within-fin_in st.FinWait2 cfg now len held queued k w = w
within-fin_in _ cfg now len held queued k w = w

within-finished : (cfg : Cfg) (h : SegHead) (now len : ℕ) (held : List HeldHead) (queued : ℕ) (b : Texted) → Within len held queued b.work → Within len held queued (finished_part cfg h now b)
unfolding finished_part fin_part
within-finished cfg h now len held queued b w =
    cond_both b.stands _ _ (Within len held queued)
    (λ _. within-fin_in b.work.numbers.state cfg now len held queued (work (behind_fin b.work.numbers) (let_go b.work.verdict)) (record { take = w.take; held = dropped-uses held b.work.verdict.held.items w.held; acked = w.acked; told = w.told }))
    (λ _. cond_both (has_flag h.flags FIN && (h.len == 0) && is_past b.work.numbers.rcv_nxt h.seq) _ _ (Within len held queued) (λ _. within-replies len held queued b.work (ack_head cfg b.work.numbers) w) (λ _. w))

-- ## All
within-checked : (cfg : Cfg) (h : SegHead) (now : ℕ) (held : List HeldHead) (k : Work) → Before held k.numbers.queued k → Within h.len held k.numbers.queued (work_of (checked_part cfg h now k))
unfolding checked_part text_part
within-checked cfg h now held k b =
    let q : ℕ = k.numbers.queued in
    let Q : Work → Type 0 = Within h.len held q in
    holds-end Q _
    (holds-same Q Q k (acceptability_part cfg h now k) _ (holds-acceptability cfg h now h.len held q k b)
    (holds-same Q Q k (reset_part cfg h k) _ (holds-reset cfg h h.len held q k b)
    (holds-same Q Q k (synchronize_part cfg h k) _ (holds-synchronize cfg h h.len held q k b)
    (holds-same Q Q k (unacknowledged_part h k) _ (holds-unacknowledged h h.len held q k b)
    (holds-then (Before held q) Q Q (acknowledgement_part cfg h now k) _ (holds-acknowledgement cfg h now h.len held k b)
    (λ l c. within-finished cfg h now h.len held q (body_part cfg h l) (within-body cfg h held q l c)))))))

within-opening : (cfg : Cfg) (h : SegHead) (now len : ℕ) (held : List HeldHead) (queued : ℕ) (k : Work) → Within len held queued k → Within len held queued (opening_part cfg h now k)
unfolding opening_part
within-opening cfg h now len held queued k w =
    cond_both (opens h) _ _ (Within len held queued) (λ _. record { take = w.take; held = w.held; acked = w.acked; told = w.told }) (λ _. w)

within-syn_sent : (cfg : Cfg) (h : SegHead) (len : ℕ) (held : List HeldHead) (queued : ℕ) (k : Work) → Within len held queued k → Within len held queued (syn_sent_part cfg h k)
unfolding syn_sent_part
within-syn_sent cfg h len held queued k w =
    let P : Work → Type 0 = Within len held queued in
    cond_both (has_flag h.flags ACK && not (h.ack == number k.numbers.iss 1)) _ _ P
    (λ _. cond_both (has_flag h.flags RST) _ _ P (λ _. w) (λ _. record { take = w.take; held = w.held; acked = w.acked; told = w.told }))
    (λ _. cond_both (has_flag h.flags RST) _ _ P
    (λ _. cond_both (has_flag h.flags ACK) _ _ P (λ _. within-announces len held queued (ends k) told.ConnectedRefused refl (within-ends len held queued k w)) (λ _. w))
    (λ _. cond_both (has_flag h.flags SYN && has_flag h.flags ACK) _ _ P (λ _. record { take = w.take; held = w.held; acked = w.acked; told = no-part k.verdict.told.items told.ConnectedUp refl w.told }) (λ _. w)))

within-arrived_in : (s : State) (cfg : Cfg) (h : SegHead) (now : ℕ) (held : List HeldHead) (k : Work) → Before held k.numbers.queued k → Within h.len held k.numbers.queued (arrived_part_in s cfg h now k)
within-arrived_in st.Closed cfg h now held k b = within-before h.len held k.numbers.queued k b
within-arrived_in st.Listen cfg h now held k b = within-opening cfg h now h.len held k.numbers.queued k (within-before h.len held k.numbers.queued k b)
within-arrived_in st.SynSent cfg h now held k b = within-syn_sent cfg h h.len held k.numbers.queued k (within-before h.len held k.numbers.queued k b)
within-arrived_in _ cfg h now held k b = within-checked cfg h now held k b

pub within-arrived : (cfg : Cfg) (h : SegHead) (now : ℕ) (t : Tcb) → LiesWithin h.len t.held.items t.queued (arrived_part cfg h now (work t (blank t.held.items))).verdict
unfolding arrived_part
within-arrived cfg h now t =
    within-arrived_in t.state cfg h now t.held.items (work t (blank t.held.items)) (record { take = refl; uses = keep-uses t.held.items; heads = refl; acked = omega arith; told = tt })
