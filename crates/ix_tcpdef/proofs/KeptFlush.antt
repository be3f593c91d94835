-- What a connection keeps, over what it sends on its own.
use Rattle.std.proofs.Common.{◌≡◌, ℕ, ◌+◌, ◌-◌, ◌<◌, ◌≤◌, Bool, true, false, if◌then◌else◌, length, take, drop, arith, refl, sym, ap, subst, ◌∙◌, length-take, length-drop}
use Rattle.std.specs.Prelude.{nat_lt, nat_le, ◌&&◌, ◌||◌, ◌==◌, not, Some, Option, min, is_none}
use Rattle.std.proofs.lemmas.Bool.{cond_both}
use Rattle.std.proofs.lemmas.Grind.{common_steps}
use Rattle.ix_tcpdef.specs.Ticks.{later}
use Rattle.ix_tcpdef.specs.Connection.{is_syn_sent, is_time_wait, loss_threshold, on, gives, ended}
use Rattle.ix_tcpdef.specs.Frames.{fin_frame}
use Rattle.ix_tcpdef.specs.Flush.{unsent, resends, resent, sends, usable, sendable, data_sent, fin_sent, ack_sent, waits_for_window, armed, flushed, is_due, timed_out, collapsed_in, collapsed, retransmitted, probed, expired}
use Rattle.ix_tcpdef.specs.Needs.{carries}
use Rattle.ix_tcpdef.specs.Sound.{IsInRange, IsKept, has_windows, is_unknown, bit}
use Rattle.ix_tcpdef.specs.Step.{is_alive}
use Rattle.ix_tcpdef.proofs.KeptArrival.{kept-ended, kept-tells, kept-deadline}
use Rattle.ix_tcpdef.specs.declared.types.Cfg.{Cfg}
use Rattle.ix_tcpdef.specs.declared.types.State.{State}
use Rattle.ix_tcpdef.specs.declared.types.State.TheVariants as st
use Rattle.ix_tcpdef.specs.declared.types.Connection.{Connection}
use Rattle.ix_tcpdef.specs.declared.types.Job.{Job}
use Rattle.ix_tcpdef.specs.declared.types.Told.TheVariants as told

kept-resend : (cfg : Cfg) (w : Connection) (b : Bool) → IsKept cfg w → IsKept cfg (record w { resend = b })
kept-resend cfg w b k =
    record {
      sound = record { sender = k.sound.sender; receiver = k.sound.receiver; sizes = k.sound.sizes; unknown = k.sound.unknown; untouched = k.sound.untouched; unlost = k.sound.unlost; pieces = k.sound.pieces };
      standing = record { buffer = k.standing.buffer; peer = k.standing.peer };
    }

kept-paid : (cfg : Cfg) (w : Connection) (b : Bool) → IsKept cfg w → IsKept cfg (record w { ack_owed = b })
kept-paid cfg w b k =
    record {
      sound = record { sender = k.sound.sender; receiver = k.sound.receiver; sizes = k.sound.sizes; unknown = k.sound.unknown; untouched = k.sound.untouched; unlost = k.sound.unlost; pieces = k.sound.pieces };
      standing = record { buffer = k.standing.buffer; peer = k.standing.peer };
    }

kept-resent : (cfg : Cfg) (j : Job) → IsKept cfg j.connection → IsKept cfg (resent cfg j).connection
unfolding resent
kept-resent cfg j k =
    cond_both (j.connection.resend && resends j.connection.state) _ _ (λ (r : Job). IsKept cfg r.connection)
    (λ _. kept-resend cfg j.connection false k)
    (λ _. k)

sends-not_syn_sent : (s : State) → sends s ≡ true → is_syn_sent s ≡ true → false ≡ true
sends-not_syn_sent st.SynSent e f = e
sends-not_syn_sent _ e f = f

pub sends-carries : (s : State) → sends s ≡ true → carries s ≡ true
sends-carries st.Listen e = e
sends-carries st.SynSent e = e
sends-carries st.SynReceived e = e
sends-carries st.Closed e = e
sends-carries _ e = refl

-- so many more octets are sent, of those that were not sent
kept-sent : (cfg : Cfg) (w : Connection) (n : ℕ) → sends w.state ≡ true → n ≤ length w.sent - (w.nxt - 1) → n ≤ w.una + min w.wnd w.cwnd - w.nxt → IsKept cfg w → IsKept cfg (record w { nxt = w.nxt + n })
kept-sent cfg w n s unsent room k =
    let least : 1 ≤ w.una = k.sound.sender.stream (sends-carries w.state s) in
    let order : w.una ≤ w.nxt = k.sound.sender.order in
    let within : w.nxt ≤ length w.sent + 1 + bit w.fin_sent = k.sound.sender.within in
    let flight : w.nxt ≤ w.una + 65535 + bit w.fin_sent = k.sound.sender.flight in
    let wnd : w.wnd ≤ 65535 = k.sound.sizes.wnd_most in
    record {
      sound = record {
        sender = record {
          order = omega arith;
          within = omega arith;
          fin = λ e. let all : w.nxt ≡ length w.sent + 2 = k.sound.sender.fin e in omega arith;
          flight = omega arith;
          stream = k.sound.sender.stream;
          syn = λ e. let no : false ≡ true = sends-not_syn_sent w.state s e in cc;
          wanted = k.sound.sender.wanted;
          unwanted = k.sound.sender.unwanted;
        };
        receiver = k.sound.receiver;
        sizes = k.sound.sizes;
        unknown = k.sound.unknown;
        untouched = k.sound.untouched;
        unlost = k.sound.unlost;
        pieces = k.sound.pieces;
      };
      standing = record { buffer = k.standing.buffer; peer = k.standing.peer };
    }

kept-data_sent : (cfg : Cfg) (j : Job) → IsKept cfg j.connection → IsKept cfg (data_sent cfg j).connection
unfolding data_sent
kept-data_sent cfg j k =
    let w : Connection = j.connection in
    let cut : length (take (usable w) (drop (w.nxt - 1) w.sent)) ≡ min (usable w) (length (drop (w.nxt - 1) w.sent)) = length-take (usable w) (drop (w.nxt - 1) w.sent) in
    let rest : length (drop (w.nxt - 1) w.sent) ≡ length w.sent - (w.nxt - 1) = length-drop (w.nxt - 1) w.sent in
    cond_both (sends j.connection.state) _ _ (λ (r : Job). IsKept cfg r.connection)
    (λ s. kept-sent cfg j.connection (length (sendable j.connection)) s (omega (arith, cut, rest)) (omega (arith, cut)) k)
    (λ _. k)

kept-finned : (cfg : Cfg) (w : Connection) → sends w.state ≡ true → w.fin_wanted ≡ true → w.fin_sent ≡ false → length w.sent ≤ w.nxt - 1 → IsKept cfg w → IsKept cfg (record w { nxt = w.nxt + 1; fin_sent = true })
kept-finned cfg w s wanted not_sent all k =
    let least : 1 ≤ w.una = k.sound.sender.stream (sends-carries w.state s) in
    let order : w.una ≤ w.nxt = k.sound.sender.order in
    let within : w.nxt ≤ length w.sent + 1 + bit false = subst (λ b. w.nxt ≤ length w.sent + 1 + bit b) not_sent k.sound.sender.within in
    let flight : w.nxt ≤ w.una + 65535 + bit false = subst (λ b. w.nxt ≤ w.una + 65535 + bit b) not_sent k.sound.sender.flight in
    record {
      sound = record {
        sender = record {
          order = omega arith;
          within = omega arith;
          fin = λ _. omega arith;
          flight = omega arith;
          stream = k.sound.sender.stream;
          syn = λ e. let no : false ≡ true = sends-not_syn_sent w.state s e in cc;
          wanted = λ _. wanted;
          unwanted = k.sound.sender.unwanted;
        };
        receiver = k.sound.receiver;
        sizes = k.sound.sizes;
        unknown = k.sound.unknown;
        untouched = k.sound.untouched;
        unlost = k.sound.unlost;
        pieces = k.sound.pieces;
      };
      standing = record { buffer = k.standing.buffer; peer = k.standing.peer };
    }

kept-fin_sent : (cfg : Cfg) (j : Job) → IsKept cfg j.connection → IsKept cfg (fin_sent cfg j).connection
unfolding fin_sent
kept-fin_sent cfg j k = by_tests (sends j.connection.state) j.connection.fin_wanted j.connection.fin_sent (length (unsent j.connection) == 0) refl refl refl refl
  where
    by_tests : (a b c d : Bool) → sends j.connection.state ≡ a → j.connection.fin_wanted ≡ b → j.connection.fin_sent ≡ c → (length (unsent j.connection) == 0) ≡ d → IsKept cfg (if a && b && not c && d then gives (on j (record j.connection { nxt = j.connection.nxt + 1; fin_sent = true })) (fin_frame cfg j.connection j.connection.nxt) else j).connection
    by_tests true true false true s wanted not_sent none =
        let rest : length (drop (j.connection.nxt - 1) j.connection.sent) ≡ length j.connection.sent - (j.connection.nxt - 1) = length-drop (j.connection.nxt - 1) j.connection.sent in
        let empty : length (drop (j.connection.nxt - 1) j.connection.sent) ≡ 0 = grind (arith, common_steps, none) in
        kept-finned cfg j.connection s wanted not_sent (omega (arith, rest, empty)) k
    by_tests true true false false s w n e = k
    by_tests true true true d s w n e = k
    by_tests true false c d s w n e = k
    by_tests false b c d s w n e = k

kept-ack_sent : (cfg : Cfg) (j : Job) → IsKept cfg j.connection → IsKept cfg (ack_sent cfg j).connection
unfolding ack_sent
kept-ack_sent cfg j k =
    cond_both (j.connection.ack_owed && (length j.outputs == 0)) _ _ (λ (r : Job). IsKept cfg r.connection)
    (λ _. kept-paid cfg j.connection false k)
    (λ _. kept-paid cfg j.connection false k)

kept-armed : (cfg : Cfg) (now : ℕ) (w : Connection) → IsKept cfg w → IsKept cfg (armed cfg now w)
unfolding armed
kept-armed cfg now w k =
    cond_both (is_none w.deadline && (nat_lt w.una w.nxt || ((w.una == w.nxt) && waits_for_window w))) _ _ (IsKept cfg)
    (λ _. kept-deadline cfg w (Some (later now cfg.rto)) k)
    (λ _. k)

pub kept-flushed : (cfg : Cfg) (now : ℕ) (j : Job) → IsKept cfg j.connection → IsKept cfg (flushed cfg now j).connection
unfolding flushed
kept-flushed cfg now j k =
    kept-armed cfg now _ (kept-ack_sent cfg _ (kept-fin_sent cfg _ (kept-data_sent cfg _ (kept-resent cfg j k))))

-- ## The timer
kept-collapse : (cfg : Cfg) (w : Connection) (cwnd ssthresh dups : ℕ) (recovering resend : Bool) → 0 < cwnd → (has_windows w.state ≡ true → 0 < ssthresh) → (is_unknown w.state ≡ true → ssthresh ≡ 65535) → IsKept cfg w → IsKept cfg (record w { ssthresh = ssthresh; cwnd = cwnd; dups = dups; recovering = recovering; resend = resend })
kept-collapse cfg w cwnd ssthresh dups recovering resend opened threshold first k =
    record {
      sound = record { sender = k.sound.sender; receiver = k.sound.receiver; sizes = k.sound.sizes; unknown = k.sound.unknown; untouched = k.sound.untouched; unlost = first; pieces = k.sound.pieces };
      standing = record {
        buffer = k.standing.buffer;
        peer = record { mss_least = k.standing.peer.mss_least; mss_most = k.standing.peer.mss_most; wnd_most = k.standing.peer.wnd_most; cwnd_open = λ _. opened; ssthresh_open = threshold };
      };
    }

threshold_open : (w : Connection) → 64 ≤ w.mss → 0 < w.ssthresh → 0 < (if w.expiries == 0 then loss_threshold w else w.ssthresh)
threshold_open w least before =
    cond_both (w.expiries == 0) _ _ (λ n. 0 < n) (λ _. omega arith) (λ _. before)

kept-collapsed_in : (s : State) (cfg : Cfg) (w : Connection) → w.state ≡ s → is_alive s ≡ true → IsKept cfg w → IsKept cfg (collapsed_in s w)
kept-collapsed_in st.Listen cfg w is alive k = cc
kept-collapsed_in st.Closed cfg w is alive k = cc
kept-collapsed_in st.SynSent cfg w is alive k = k
kept-collapsed_in st.SynReceived cfg w is alive k =
    kept-collapse cfg w w.mss w.ssthresh w.dups w.recovering w.resend (omega (arith, k.sound.sizes.mss_least)) k.standing.peer.ssthresh_open k.sound.unlost k
kept-collapsed_in _ cfg w is alive k =
    kept-collapse cfg w w.mss _ 0 false false (omega (arith, k.sound.sizes.mss_least))
    (λ _. threshold_open w k.sound.sizes.mss_least (k.standing.peer.ssthresh_open (ap has_windows is)))
    (λ e. let no : true ≡ false = sym e ∙ ap is_unknown is in cc)
    k

pub kept-expiries : (cfg : Cfg) (w : Connection) (expiries : ℕ) (d : Option ℕ) → expiries ≤ 8 → IsKept cfg w → IsKept cfg (record w { expiries = expiries; deadline = d })
kept-expiries cfg w expiries d few k =
    record {
      sound = record {
        sender = k.sound.sender;
        receiver = k.sound.receiver;
        sizes = record { mss_least = k.sound.sizes.mss_least; mss_most = k.sound.sizes.mss_most; wnd_most = k.sound.sizes.wnd_most; expiries_most = few };
        unknown = k.sound.unknown;
        untouched = k.sound.untouched;
        unlost = k.sound.unlost;
        pieces = k.sound.pieces;
      };
      standing = record { buffer = k.standing.buffer; peer = k.standing.peer };
    }

kept-timed_out : (cfg : Cfg) (j : Job) → IsKept cfg j.connection → IsKept cfg (timed_out j).connection
unfolding timed_out
kept-timed_out cfg j k =
    cond_both (is_syn_sent j.connection.state) _ _ (λ (r : Job). IsKept cfg r.connection)
    (λ _. kept-ended cfg j.connection k)
    (λ _. kept-tells cfg (on j (ended j.connection)) told.DeadTimeout (kept-ended cfg j.connection k))

kept-retransmitted : (cfg : Cfg) (now : ℕ) (j : Job) → IsInRange cfg → is_alive j.connection.state ≡ true → IsKept cfg j.connection → IsKept cfg (retransmitted cfg now j).connection
unfolding retransmitted collapsed
kept-retransmitted cfg now j range alive k =
    let retries : cfg.retries ≤ 8 = range.retries_most in
    cond_both (nat_le cfg.retries (j.connection.expiries + 1)) _ _ (λ (r : Job). IsKept cfg r.connection)
    (λ _. kept-timed_out cfg j k)
    (λ few. kept-expiries cfg (collapsed_in j.connection.state j.connection) (j.connection.expiries + 1) _ (grind (arith, common_steps, few, retries)) (kept-collapsed_in j.connection.state cfg j.connection refl alive k))

kept-probed : (cfg : Cfg) (now : ℕ) (j : Job) → IsKept cfg j.connection → IsKept cfg (probed cfg now j).connection
unfolding probed
kept-probed cfg now j k = kept-expiries cfg j.connection (min (j.connection.expiries + 1) 8) _ (omega arith) k

pub kept-expired : (cfg : Cfg) (now : ℕ) (j : Job) → IsInRange cfg → is_alive j.connection.state ≡ true → IsKept cfg j.connection → IsKept cfg (expired cfg now j).connection
unfolding expired
kept-expired cfg now j range alive k =
    let P : Job → Type 0 = λ r. IsKept cfg r.connection in
    cond_both (not (is_due j.connection.deadline now)) _ _ P
    (λ _. k)
    (λ _. cond_both (is_time_wait j.connection.state) _ _ P
    (λ _. kept-ended cfg j.connection k)
    (λ _. cond_both (nat_lt j.connection.una j.connection.nxt) _ _ P (λ _. kept-retransmitted cfg now j range alive k) (λ _. kept-probed cfg now j k)))
