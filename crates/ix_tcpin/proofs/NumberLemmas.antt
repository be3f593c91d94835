-- The numbers that an acknowledgement changes stand for the positions that it changes.
use Rattle.std.proofs.Common.{◌≡◌, ◌≢◌, ℕ, ◌+◌, ◌-◌, ◌*◌, ◌^◌, ◌<◌, ◌≤◌, Bool, true, false, if◌then◌else◌, length, arith, refl, ap, sym, ◌∙◌, inl, inr}
use Rattle.std.specs.Prelude.{nat_lt, ◌&&◌, ◌==◌, not, min, Some, None}
use Rattle.std.proofs.lemmas.Bool.{cases_Bool, cond_both}
use Rattle.std.proofs.lemmas.Grind.{common_steps}
use Rattle.ix_base.specs.declared.segment.SegHead.{SegHead}
use Rattle.ix_base.specs.Sequence.{number, ahead, is_past, is_at_or_past}
use Rattle.ix_tcpdef.specs.Ticks.{later}
use Rattle.ix_tcpdef.specs.Connection.{snd_una, snd_nxt, acked_data, queued, grown, loss_threshold}
use Rattle.ix_tcpdef.specs.Acknowledgement.{is_duplicate, duplicated, opened_window, advanced, is_newer, unpersisted, windowed, acked}
use Rattle.ix_tcpin.proofs.PositionLemmas.{advance_most, counts_ahead, tells_apart, finds_position}
use Rattle.ix_tcpdef.specs.declared.types.Cfg.{Cfg}
use Rattle.ix_tcpdef.specs.declared.types.Connection.{Connection}
use Rattle.ix_tcpdef.specs.declared.types.Tcb.{Tcb}
use Rattle.ix_tcpdef.specs.Stands.{tcb_of}
use Rattle.ix_tcpin.specs.Acknowledgement.{duplicated_numbers, acked_bytes, advanced_numbers, unpersisted_numbers, windowed_numbers, acked_numbers}

-- what is in flight fits the numbers
pub record IsFlying (w : Connection) : Type 0 where
  pub order : w.una ≤ w.nxt
  pub near : w.nxt ≤ w.una + 65536

-- the test of something in flight
pub flight_test : (w : Connection) → IsFlying w → (snd_una w == snd_nxt w) ≡ (w.una == w.nxt)
flight_test w f =
    let order : w.una ≤ w.nxt = f.order in
    let near : w.nxt ≤ w.una + 65536 = f.near in
    elim (cases_Bool (w.una == w.nxt)) [ inl level ↦ grind (arith, common_steps, level) | inr before ↦ grind (arith, common_steps, before) ]

flies_test : (w : Connection) → IsFlying w → not (snd_una w == snd_nxt w) ≡ nat_lt w.una w.nxt
flies_test w f =
    let order : w.una ≤ w.nxt = f.order in
    let near : w.nxt ≤ w.una + 65536 = f.near in
    elim (cases_Bool (nat_lt w.una w.nxt)) [ inl before ↦ grind (arith, common_steps, before) | inr level ↦ grind (arith, common_steps, level) ]

-- ## Duplicates
pub same-duplicated : (h : SegHead) (w : Connection) → IsFlying w → duplicated_numbers h (tcb_of w) ≡ tcb_of (duplicated h w)
unfolding duplicated_numbers duplicated
same-duplicated h w f =
    rw (flies_test w f, counts_ahead w.iss w.una w.nxt f.order (omega (arith, f.near))) (by_tests (is_duplicate h w) w.recovering (w.dups == 2))
  where
    by_tests : (a b c : Bool) → (if not a then tcb_of w else if b then record (tcb_of w) { cwnd = grown w.cwnd w.mss } else if c then record (tcb_of w) { dups = 3; ssthresh = loss_threshold w; cwnd = grown (loss_threshold w) (3 * w.mss); recovering = true; resend = true } else record (tcb_of w) { dups = min (w.dups + 1) 255 }) ≡ tcb_of (if not a then w else if b then record w { cwnd = grown w.cwnd w.mss } else if c then record w { dups = 3; ssthresh = loss_threshold w; cwnd = grown (loss_threshold w) (3 * w.mss); recovering = true; resend = true } else record w { dups = min (w.dups + 1) 255 })
    by_tests false b c = refl
    by_tests true true c = refl
    by_tests true false true = refl
    by_tests true false false = refl

-- what counting a duplicate leaves as it was
pub record SameSender (w v : Connection) : Type 0 where
  pub una : v.una ≡ w.una
  pub nxt : v.nxt ≡ w.nxt
  pub iss : v.iss ≡ w.iss
  pub acked : acked_data v ≡ acked_data w
  pub queued : queued v ≡ queued w

pub sender-duplicated : (h : SegHead) (w : Connection) → SameSender w (duplicated h w)
unfolding duplicated
sender-duplicated h w = by_tests (is_duplicate h w) w.recovering (w.dups == 2)
  where
    by_tests : (a b c : Bool) → SameSender w (if not a then w else if b then record w { cwnd = grown w.cwnd w.mss } else if c then record w { dups = 3; ssthresh = loss_threshold w; cwnd = grown (loss_threshold w) (3 * w.mss); recovering = true; resend = true } else record w { dups = min (w.dups + 1) 255 })
    by_tests false b c = record { una = refl; nxt = refl; iss = refl; acked = refl; queued = refl }
    by_tests true true c = record { una = refl; nxt = refl; iss = refl; acked = refl; queued = refl }
    by_tests true false true = record { una = refl; nxt = refl; iss = refl; acked = refl; queued = refl }
    by_tests true false false = record { una = refl; nxt = refl; iss = refl; acked = refl; queued = refl }

-- ## SND.UNA
-- the deadline goes by whether something is left in flight
left_test : (iss una nxt x : ℕ) → una ≤ nxt → nxt ≤ una + 65536 → x < 2 ^ 32 → una + ahead (number iss una) x ≤ nxt → (x == number iss nxt) ≡ not (nat_lt (una + ahead (number iss una) x) nxt)
left_test iss una nxt x order near fits most =
    let found : number iss (una + ahead (number iss una) x) ≡ x = finds_position iss una x fits in
    elim (cases_Bool (nat_lt (una + ahead (number iss una) x) nxt)) [
      | inl less ↦
          let below : una + ahead (number iss una) x < nxt = grind (arith, common_steps, less) in
          let apart : x ≢ number iss nxt = λ (same : x ≡ number iss nxt).
          let one : una + ahead (number iss una) x ≡ nxt = tells_apart iss (una + ahead (number iss una) x) nxt most (omega arith) (found ∙ same) in omega arith in
          grind (arith, common_steps, less, apart)
      | inr level ↦
          let one : una + ahead (number iss una) x ≡ nxt = grind (arith, common_steps, level) in
          let same : x ≡ number iss nxt = sym found ∙ ap (number iss) one in
          grind (arith, common_steps, level, same)
    ]

deadline_by : (b : Bool) (d : ℕ) → (if not b then None else Some d) ≡ (if b then Some d else None)
deadline_by true d = refl
deadline_by false d = refl

-- the bytes of the send queue that are left
queue_left : (una n len : ℕ) → 1 ≤ una → len - min (una - 1) len - n ≡ len - min (una + n - 1) len
queue_left una n len least = omega arith

queue_taken : (una n len : ℕ) → 1 ≤ una → min n (len - min (una - 1) len) ≡ min (una + n - 1) len - min (una - 1) len
queue_taken una n len least = omega arith

pub same-advanced : (cfg : Cfg) (h : SegHead) (now : ℕ) (w : Connection) → IsFlying w → 1 ≤ w.una → h.ack < 2 ^ 32 → is_past (snd_nxt w) h.ack ≡ false → advanced_numbers cfg h now (tcb_of w) ≡ tcb_of (advanced cfg h now w)
unfolding advanced_numbers advanced
same-advanced cfg h now w f least fits not_past =
    elim (cases_Bool (is_past (snd_una w) h.ack)) [
      | inr stays ↦ rw stays refl
      | inl past ↦
          let octets : ℕ = ahead (snd_una w) h.ack in
          let most : w.una + ahead (snd_una w) h.ack ≤ w.nxt = advance_most w.iss w.una w.nxt h.ack f.order f.near past not_past in
          rw (past, left_test w.iss w.una w.nxt h.ack f.order f.near fits most, deadline_by (nat_lt (w.una + ahead (snd_una w) h.ack) w.nxt) (later now cfg.rto), queue_left w.una (ahead (snd_una w) h.ack) (length w.sent) least)
          (ap (λ (u : ℕ). record (tcb_of (record w { cwnd = opened_window (ahead (snd_una w) h.ack) w; recovering = false; dups = 0; resend = false; una = w.una + ahead (snd_una w) h.ack; expiries = 0; deadline = if nat_lt (w.una + ahead (snd_una w) h.ack) w.nxt then Some (later now cfg.rto) else None })) { una = u }) (sym (finds_position w.iss w.una h.ack fits)))
    ]

-- how many bytes that acknowledges
acked-advanced : (cfg : Cfg) (h : SegHead) (now : ℕ) (w : Connection) → 1 ≤ w.una → acked_bytes h (tcb_of w) ≡ acked_data (advanced cfg h now w) - acked_data w
unfolding advanced
acked-advanced cfg h now w least =
    elim (cases_Bool (is_past (snd_una w) h.ack)) [
      | inr stays ↦ rw stays (omega arith)
      | inl past ↦ rw past (queue_taken w.una (ahead (snd_una w) h.ack) (length w.sent) least)
    ]

flies-advanced : (cfg : Cfg) (h : SegHead) (now : ℕ) (w : Connection) → IsFlying w → is_past (snd_nxt w) h.ack ≡ false → IsFlying (advanced cfg h now w)
unfolding advanced
flies-advanced cfg h now w f not_past =
    cond_both (is_past (snd_una w) h.ack) _ _ IsFlying
    (λ past. let near : w.nxt ≤ w.una + 65536 = f.near in record { order = advance_most w.iss w.una w.nxt h.ack f.order f.near past not_past; near = omega arith })
    (λ _. f)

-- ## The window
pub same-windowed : (h : SegHead) (before : ℕ) (w : Connection) → IsFlying w → windowed_numbers h before (tcb_of w) ≡ tcb_of (windowed h before w)
unfolding windowed_numbers windowed
same-windowed h before w f = rw (flight_test w f) (by_tests (is_at_or_past before h.ack && is_newer h w) (nat_lt 0 h.window && (w.una == w.nxt)))
  where
    by_tests : (a b : Bool) → (if not a then tcb_of w else if b then unpersisted_numbers (record (tcb_of w) { wnd = h.window; wl1 = h.seq; wl2 = h.ack }) else record (tcb_of w) { wnd = h.window; wl1 = h.seq; wl2 = h.ack }) ≡ tcb_of (if not a then w else if b then unpersisted (record w { wnd = h.window; wl1 = h.seq; wl2 = h.ack }) else record w { wnd = h.window; wl1 = h.seq; wl2 = h.ack })
    by_tests false b = refl
    by_tests true true = refl
    by_tests true false = refl

sender-windowed : (h : SegHead) (before : ℕ) (w : Connection) → SameSender w (windowed h before w)
unfolding windowed
sender-windowed h before w = by_tests (is_at_or_past before h.ack && is_newer h w) (nat_lt 0 h.window && (w.una == w.nxt))
  where
    by_tests : (a b : Bool) → SameSender w (if not a then w else if b then unpersisted (record w { wnd = h.window; wl1 = h.seq; wl2 = h.ack }) else record w { wnd = h.window; wl1 = h.seq; wl2 = h.ack })
    by_tests false b = record { una = refl; nxt = refl; iss = refl; acked = refl; queued = refl }
    by_tests true true = record { una = refl; nxt = refl; iss = refl; acked = refl; queued = refl }
    by_tests true false = record { una = refl; nxt = refl; iss = refl; acked = refl; queued = refl }

-- ## All of it
flies-duplicated : (h : SegHead) (w : Connection) → IsFlying w → IsFlying (duplicated h w)
flies-duplicated h w f =
    let s : SameSender w (duplicated h w) = sender-duplicated h w in
    record { order = rw (s.una, s.nxt) f.order; near = rw (s.una, s.nxt) f.near }

pub flies-acked : (cfg : Cfg) (h : SegHead) (now : ℕ) (w : Connection) → IsFlying w → is_past (snd_nxt w) h.ack ≡ false → IsFlying (acked cfg h now w)
flies-acked cfg h now w f not_past =
    let d : SameSender w (duplicated h w) = sender-duplicated h w in
    let a : IsFlying (advanced cfg h now (duplicated h w)) = flies-advanced cfg h now (duplicated h w) (flies-duplicated h w f) (rw (d.iss, d.nxt) not_past) in
    let s : SameSender (advanced cfg h now (duplicated h w)) (acked cfg h now w) = sender-windowed h (snd_una w) (advanced cfg h now (duplicated h w)) in
    record { order = rw (s.una, s.nxt) a.order; near = rw (s.una, s.nxt) a.near }

pub same-acked : (cfg : Cfg) (h : SegHead) (now : ℕ) (w : Connection) → IsFlying w → 1 ≤ w.una → h.ack < 2 ^ 32 → is_past (snd_nxt w) h.ack ≡ false → acked_numbers cfg h now (tcb_of w) ≡ tcb_of (acked cfg h now w)
unfolding acked_numbers
same-acked cfg h now w f least fits not_past =
    let d : SameSender w (duplicated h w) = sender-duplicated h w in
    let fd : IsFlying (duplicated h w) = flies-duplicated h w f in
    let nd : is_past (snd_nxt (duplicated h w)) h.ack ≡ false = rw (d.iss, d.nxt) not_past in
    let ld : 1 ≤ (duplicated h w).una = rw d.una least in
    ap (λ (t : Tcb). windowed_numbers h (snd_una w) (advanced_numbers cfg h now t)) (same-duplicated h w f)
    ∙ ap (windowed_numbers h (snd_una w)) (same-advanced cfg h now (duplicated h w) fd ld fits nd)
    ∙ same-windowed h (snd_una w) (advanced cfg h now (duplicated h w)) (flies-advanced cfg h now (duplicated h w) fd nd)

pub acked-acked : (cfg : Cfg) (h : SegHead) (now : ℕ) (w : Connection) → 1 ≤ w.una → acked_bytes h (tcb_of w) ≡ acked_data (acked cfg h now w) - acked_data w
acked-acked cfg h now w least =
    let d : SameSender w (duplicated h w) = sender-duplicated h w in
    let s : SameSender (advanced cfg h now (duplicated h w)) (acked cfg h now w) = sender-windowed h (snd_una w) (advanced cfg h now (duplicated h w)) in
    let una : snd_una w ≡ snd_una (duplicated h w) = ap (λ (i : ℕ). number i w.una) (sym d.iss) ∙ ap (number (duplicated h w).iss) (sym d.una) in
    let here : acked_bytes h (tcb_of w) ≡ acked_bytes h (tcb_of (duplicated h w)) = ap (λ (q : ℕ). if is_past (snd_una w) h.ack then min (ahead (snd_una w) h.ack) q else 0) (sym d.queued) ∙ ap (λ (u : ℕ). if is_past u h.ack then min (ahead u h.ack) (queued (duplicated h w)) else 0) una in
    here ∙ acked-advanced cfg h now (duplicated h w) (rw d.una least) ∙ rw (s.acked, d.acked) refl
