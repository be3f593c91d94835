-- What a connection keeps, over the acknowledgement of a segment.
use Rattle.std.proofs.Common.{◌≡◌, ℕ, ◌+◌, ◌-◌, ◌*◌, ◌/◌, ◌^◌, ◌<◌, ◌≤◌, Bool, true, false, if◌then◌else◌, arith, refl, sym, ap, ◌∙◌}
use Rattle.std.specs.Prelude.{nat_lt, ◌&&◌, ◌||◌, ◌==◌, not, Some, None, Option, min, max}
use Rattle.std.proofs.lemmas.Bool.{cond_both}
use Rattle.ix_base.specs.declared.segment.SegHead.{SegHead}
use Rattle.ix_base.specs.Sequence.{ahead, is_past, is_at_or_past}
use Rattle.ix_tcpdef.specs.Ticks.{later}
use Rattle.ix_tcpdef.specs.Connection.{snd_una, snd_nxt, acked_data, room, grown, loss_threshold, is_syn_sent, is_syn_received, is_time_wait, gives, on}
use Rattle.ix_tcpdef.specs.Frames.{ack_frame, reset_frame}
use Rattle.ix_tcpdef.specs.Arrival.{Goes, Stops, ◌>>=◌}
use Rattle.ix_tcpdef.specs.Acknowledgement.{established, establishing, too_far, is_duplicate, duplicated, opened_window, advanced, is_newer, unpersisted, windowed, told_sent, fin_acked_in, fin_acked, acked, synchronized, acknowledgement}
use Rattle.ix_tcpdef.specs.Needs.{carries}
use Rattle.ix_tcpdef.specs.Sound.{IsKept, has_windows, may_send, is_unknown, bit}
use Rattle.ix_tcpdef.proofs.NumberLemmas.{advance_least, advance_most}
use Rattle.ix_tcpdef.proofs.KeptArrival.{LeavesKept, kept-ended, kept-tells}
use Rattle.ix_tcpdef.specs.Delivered.{expects}
use Rattle.ix_tcpdef.specs.declared.types.Cfg.{Cfg}
use Rattle.ix_tcpdef.specs.declared.types.State.{State}
use Rattle.ix_tcpdef.specs.declared.types.State.TheVariants as st
use Rattle.ix_tcpdef.specs.declared.types.Connection.{Connection}
use Rattle.ix_tcpdef.specs.declared.types.Job.{Job}
use Rattle.ix_tcpdef.specs.declared.types.Output.TheVariants as outputs
use Rattle.ix_tcpdef.specs.declared.types.Told.TheVariants as told

-- what is in flight, in the form that numbers want
pub in_flight : (una nxt : ℕ) (b : Bool) → nxt ≤ una + 65535 + bit b → nxt ≤ una + 65536
in_flight una nxt true h = omega arith
in_flight una nxt false h = omega arith

-- ## SYN-RECEIVED
kept-established : (cfg : Cfg) (h : SegHead) (w : Connection) → h.window < 2 ^ 16 → w.state ≡ st.SynReceived → is_past (snd_una w) h.ack ≡ true → is_past (snd_nxt w) h.ack ≡ false → IsKept cfg w → IsKept cfg (established h w)
kept-established cfg h w window is past not_past k =
    let may : may_send w.state ≡ true = ap may_send is in
    let open_windows : has_windows w.state ≡ true = ap has_windows is in
    let least : 1 ≤ ahead (snd_una w) h.ack = advance_least (snd_una w) h.ack past in
    let most : w.una + ahead (snd_una w) h.ack ≤ w.nxt = advance_most w.iss w.una w.nxt h.ack k.sound.sender.order (in_flight w.una w.nxt w.fin_sent k.sound.sender.flight) past not_past in
    record {
      sound = record {
        sender = record {
          order = most;
          within = k.sound.sender.within;
          fin = k.sound.sender.fin;
          flight = omega (arith, k.sound.sender.flight);
          stream = λ _. omega arith;
          syn = λ e. cc;
          wanted = k.sound.sender.wanted;
          unwanted = λ _. k.sound.sender.unwanted may;
        };
        receiver = k.sound.receiver;
        sizes = record { mss_least = k.sound.sizes.mss_least; mss_most = k.sound.sizes.mss_most; wnd_most = omega arith; expiries_most = omega arith };
        unknown = λ e. cc;
        untouched = λ e. cc;
        unlost = λ e. cc;
        pieces = k.sound.pieces;
      };
      standing = record {
        buffer = k.standing.buffer;
        peer = record {
          mss_least = λ _. k.sound.sizes.mss_least;
          mss_most = λ _. k.sound.sizes.mss_most;
          wnd_most = λ _. omega arith;
          cwnd_open = λ _. k.standing.peer.cwnd_open open_windows;
          ssthresh_open = λ _. k.standing.peer.ssthresh_open open_windows;
        };
      };
    }

kept-establishing : (cfg : Cfg) (h : SegHead) (j : Job) → h.window < 2 ^ 16 → j.connection.state ≡ st.SynReceived → IsKept cfg j.connection → LeavesKept cfg (establishing h j)
unfolding establishing
kept-establishing cfg h j window is k =
    by_tests (is_past (snd_una j.connection) h.ack) (is_past (snd_nxt j.connection) h.ack) refl refl
  where
    by_tests : (a b : Bool) → is_past (snd_una j.connection) h.ack ≡ a → is_past (snd_nxt j.connection) h.ack ≡ b → LeavesKept cfg (if a && not b then Goes (gives (on j (established h j.connection)) (outputs.Told told.Knock)) else Stops (gives j (reset_frame j.connection h)))
    by_tests true true p q = record { kept = k }
    by_tests true false p q = record { kept = kept-established cfg h j.connection window is p q k }
    by_tests false b p q = record { kept = k }

-- ## Later states
-- the congestion window and the threshold change, and what decides nothing
kept-windows : (cfg : Cfg) (w v : Connection) → IsKept cfg w → (has_windows w.state ≡ true → 0 < v.cwnd) → (has_windows w.state ≡ true → 0 < v.ssthresh) → is_unknown w.state ≡ false → IsKept cfg (record w { cwnd = v.cwnd; ssthresh = v.ssthresh; dups = v.dups; recovering = v.recovering; resend = v.resend })
kept-windows cfg w v k cwnd ssthresh known =
    record {
      sound = record { sender = k.sound.sender; receiver = k.sound.receiver; sizes = k.sound.sizes; unknown = k.sound.unknown; untouched = k.sound.untouched; unlost = λ e. let no : true ≡ false = sym e ∙ known in cc; pieces = k.sound.pieces };
      standing = record {
        buffer = k.standing.buffer;
        peer = record { mss_least = k.standing.peer.mss_least; mss_most = k.standing.peer.mss_most; wnd_most = k.standing.peer.wnd_most; cwnd_open = cwnd; ssthresh_open = ssthresh };
      };
    }

grown_open : (cwnd by : ℕ) → 0 < cwnd → 0 < grown cwnd by
grown_open cwnd by h = omega arith

loss_threshold_open : (w : Connection) → 64 ≤ w.mss → 0 < loss_threshold w
loss_threshold_open w h = omega arith

kept-duplicated : (cfg : Cfg) (h : SegHead) (w : Connection) → is_unknown w.state ≡ false → IsKept cfg w → IsKept cfg (duplicated h w)
unfolding duplicated
kept-duplicated cfg h w known k = by_tests (is_duplicate h w) w.recovering (w.dups == 2)
  where
    threshold : 0 < loss_threshold w
    threshold = loss_threshold_open w k.sound.sizes.mss_least

    by_tests : (a b c : Bool) → IsKept cfg (if not a then w else if b then record w { cwnd = grown w.cwnd w.mss } else if c then record w { dups = 3; ssthresh = loss_threshold w; cwnd = grown (loss_threshold w) (3 * w.mss); recovering = true; resend = true } else record w { dups = min (w.dups + 1) 255 })
    by_tests false b c = k
    by_tests true true c =
        kept-windows cfg w (record w { cwnd = grown w.cwnd w.mss }) k (λ e. grown_open w.cwnd w.mss (k.standing.peer.cwnd_open e)) k.standing.peer.ssthresh_open known
    by_tests true false true =
        kept-windows cfg w (record w { dups = 3; ssthresh = loss_threshold w; cwnd = grown (loss_threshold w) (3 * w.mss); recovering = true; resend = true }) k (λ _. grown_open (loss_threshold w) (3 * w.mss) threshold) (λ _. threshold) known
    by_tests true false false =
        kept-windows cfg w (record w { dups = min (w.dups + 1) 255 }) k k.standing.peer.cwnd_open k.standing.peer.ssthresh_open known

opened_window_open : (octets : ℕ) (w : Connection) → 0 < w.cwnd → 0 < w.ssthresh → 0 < opened_window octets w
opened_window_open octets w cwnd ssthresh = by_tests w.recovering (nat_lt w.cwnd w.ssthresh)
  where
    by_tests : (a b : Bool) → 0 < (if a then w.ssthresh else if b then grown w.cwnd (min octets w.mss) else grown w.cwnd (max 1 (w.mss * w.mss / w.cwnd)))
    by_tests true b = ssthresh
    by_tests false true = grown_open w.cwnd (min octets w.mss) cwnd
    by_tests false false = grown_open w.cwnd (max 1 (w.mss * w.mss / w.cwnd)) cwnd

kept-moved : (cfg : Cfg) (w : Connection) (octets cwnd : ℕ) (d : Option ℕ) → w.una + octets ≤ w.nxt → (has_windows w.state ≡ true → 0 < cwnd) → IsKept cfg w → IsKept cfg (record w { cwnd = cwnd; recovering = false; dups = 0; resend = false; una = w.una + octets; expiries = 0; deadline = d })
kept-moved cfg w octets cwnd d most opened k =
    record {
      sound = record {
        sender = record {
          order = most;
          within = k.sound.sender.within;
          fin = k.sound.sender.fin;
          flight = omega (arith, k.sound.sender.flight);
          stream = λ e. let before : 1 ≤ w.una = k.sound.sender.stream e in omega arith;
          syn = k.sound.sender.syn;
          wanted = k.sound.sender.wanted;
          unwanted = k.sound.sender.unwanted;
        };
        receiver = k.sound.receiver;
        sizes = record { mss_least = k.sound.sizes.mss_least; mss_most = k.sound.sizes.mss_most; wnd_most = k.sound.sizes.wnd_most; expiries_most = omega arith };
        unknown = k.sound.unknown;
        untouched = k.sound.untouched;
        unlost = k.sound.unlost;
        pieces = k.sound.pieces;
      };
      standing = record {
        buffer = k.standing.buffer;
        peer = record { mss_least = k.standing.peer.mss_least; mss_most = k.standing.peer.mss_most; wnd_most = k.standing.peer.wnd_most; cwnd_open = opened; ssthresh_open = k.standing.peer.ssthresh_open };
      };
    }

kept-advanced : (cfg : Cfg) (h : SegHead) (now : ℕ) (w : Connection) → is_past (snd_nxt w) h.ack ≡ false → IsKept cfg w → IsKept cfg (advanced cfg h now w)
unfolding advanced
kept-advanced cfg h now w not_past k =
    cond_both (is_past (snd_una w) h.ack) _ _ (IsKept cfg)
    (λ past. kept-moved cfg w (ahead (snd_una w) h.ack) _ _ (advance_most w.iss w.una w.nxt h.ack k.sound.sender.order (in_flight w.una w.nxt w.fin_sent k.sound.sender.flight) past not_past) (λ e. opened_window_open (ahead (snd_una w) h.ack) w (k.standing.peer.cwnd_open e) (k.standing.peer.ssthresh_open e)) k)
    (λ _. k)

kept-taken : (cfg : Cfg) (h : SegHead) (w : Connection) (expiries : ℕ) (d : Option ℕ) → h.window < 2 ^ 16 → expiries ≤ 8 → IsKept cfg w → IsKept cfg (record w { wnd = h.window; wl1 = h.seq; wl2 = h.ack; expiries = expiries; deadline = d })
kept-taken cfg h w expiries d window few k =
    record {
      sound = record {
        sender = k.sound.sender;
        receiver = k.sound.receiver;
        sizes = record { mss_least = k.sound.sizes.mss_least; mss_most = k.sound.sizes.mss_most; wnd_most = omega arith; expiries_most = few };
        unknown = k.sound.unknown;
        untouched = k.sound.untouched;
        unlost = k.sound.unlost;
        pieces = k.sound.pieces;
      };
      standing = record {
        buffer = k.standing.buffer;
        peer = record { mss_least = k.standing.peer.mss_least; mss_most = k.standing.peer.mss_most; wnd_most = λ _. omega arith; cwnd_open = k.standing.peer.cwnd_open; ssthresh_open = k.standing.peer.ssthresh_open };
      };
    }

kept-windowed : (cfg : Cfg) (h : SegHead) (before : ℕ) (w : Connection) → h.window < 2 ^ 16 → IsKept cfg w → IsKept cfg (windowed h before w)
unfolding windowed
kept-windowed cfg h before w window k = by_tests (is_at_or_past before h.ack && is_newer h w) (nat_lt 0 h.window && (w.una == w.nxt))
  where
    by_tests : (a b : Bool) → IsKept cfg (if not a then w else if b then unpersisted (record w { wnd = h.window; wl1 = h.seq; wl2 = h.ack }) else record w { wnd = h.window; wl1 = h.seq; wl2 = h.ack })
    by_tests false b = k
    by_tests true true = kept-taken cfg h w 0 (if is_time_wait w.state then w.deadline else None) window (omega arith) k
    by_tests true false = kept-taken cfg h w w.expiries w.deadline window k.sound.sizes.expiries_most k

kept-unwanted : (cfg : Cfg) (w : Connection) (b : Bool) → IsKept cfg w → IsKept cfg (record w { wants = b })
kept-unwanted cfg w b k =
    record {
      sound = record { sender = k.sound.sender; receiver = k.sound.receiver; sizes = k.sound.sizes; unknown = k.sound.unknown; untouched = k.sound.untouched; unlost = k.sound.unlost; pieces = k.sound.pieces };
      standing = record { buffer = k.standing.buffer; peer = k.standing.peer };
    }

kept-told_sent : (cfg : Cfg) (n : ℕ) (j : Job) → IsKept cfg j.connection → IsKept cfg (told_sent n j).connection
unfolding told_sent
kept-told_sent cfg n j k =
    cond_both (nat_lt 0 n || (j.connection.wants && nat_lt 0 (room j.connection))) _ _ (λ (r : Job). IsKept cfg r.connection)
    (λ _. kept-tells cfg (on j (record j.connection { wants = false })) _ (kept-unwanted cfg j.connection false k))
    (λ _. k)

-- from one state behind the handshake to another
pub kept-state : (cfg : Cfg) (w : Connection) (s : State) (d : Option ℕ) → carries w.state ≡ true → has_windows w.state ≡ true → is_unknown s ≡ false → is_syn_sent s ≡ false → (may_send s ≡ true → w.fin_wanted ≡ false) → IsKept cfg w → IsKept cfg (record w { state = s; deadline = d })
kept-state cfg w s d carried opened known not_syn unwanted k =
    record {
      sound = record {
        sender = record {
          order = k.sound.sender.order;
          within = k.sound.sender.within;
          fin = k.sound.sender.fin;
          flight = k.sound.sender.flight;
          stream = λ _. k.sound.sender.stream carried;
          syn = λ e. let no : true ≡ false = sym e ∙ not_syn in cc;
          wanted = k.sound.sender.wanted;
          unwanted = unwanted;
        };
        receiver = k.sound.receiver;
        sizes = k.sound.sizes;
        unknown = λ e. let no : true ≡ false = sym e ∙ known in cc;
        untouched = λ e. let no : true ≡ false = sym e ∙ known in cc;
        unlost = λ e. let no : true ≡ false = sym e ∙ known in cc;
        pieces = k.sound.pieces;
      };
      standing = record {
        buffer = k.standing.buffer;
        peer = record {
          mss_least = λ _. k.sound.sizes.mss_least;
          mss_most = λ _. k.sound.sizes.mss_most;
          wnd_most = λ _. k.sound.sizes.wnd_most;
          cwnd_open = λ _. k.standing.peer.cwnd_open opened;
          ssthresh_open = λ _. k.standing.peer.ssthresh_open opened;
        };
      };
    }

kept-fin_acked_in : (s : State) (cfg : Cfg) (now : ℕ) (j : Job) → j.connection.state ≡ s → IsKept cfg j.connection → LeavesKept cfg (fin_acked_in s cfg now j)
kept-fin_acked_in st.FinWait1 cfg now j is k =
    record { kept = kept-state cfg j.connection st.FinWait2 j.connection.deadline (ap carries is) (ap has_windows is) refl refl (λ e. cc) k }
kept-fin_acked_in st.Closing cfg now j is k =
    record { kept = kept-state cfg j.connection st.TimeWait (Some (later now cfg.time_wait)) (ap carries is) (ap has_windows is) refl refl (λ e. cc) k }
kept-fin_acked_in st.LastAck cfg now j is k = record { kept = kept-ended cfg j.connection k }
kept-fin_acked_in _ cfg now j is k = record { kept = k }

kept-fin_acked : (cfg : Cfg) (now : ℕ) (j : Job) → IsKept cfg j.connection → LeavesKept cfg (fin_acked cfg now j)
unfolding fin_acked
kept-fin_acked cfg now j k =
    cond_both (j.connection.fin_sent && (j.connection.una == j.connection.nxt)) _ _ (LeavesKept cfg)
    (λ _. kept-fin_acked_in j.connection.state cfg now j refl k)
    (λ _. record { kept = k })

-- an acknowledgement changes neither where the connection stands nor what was sent
pub duplicated-numbers : (h : SegHead) (w : Connection) → snd_nxt (duplicated h w) ≡ snd_nxt w
unfolding duplicated
duplicated-numbers h w = by_tests (is_duplicate h w) w.recovering (w.dups == 2)
  where
    by_tests : (a b c : Bool) → snd_nxt (if not a then w else if b then record w { cwnd = grown w.cwnd w.mss } else if c then record w { dups = 3; ssthresh = loss_threshold w; cwnd = grown (loss_threshold w) (3 * w.mss); recovering = true; resend = true } else record w { dups = min (w.dups + 1) 255 }) ≡ snd_nxt w
    by_tests false b c = refl
    by_tests true true c = refl
    by_tests true false true = refl
    by_tests true false false = refl

kept-acked : (cfg : Cfg) (h : SegHead) (now : ℕ) (w : Connection) → h.window < 2 ^ 16 → is_unknown w.state ≡ false → is_past (snd_nxt w) h.ack ≡ false → IsKept cfg w → IsKept cfg (acked cfg h now w)
kept-acked cfg h now w window known not_past k =
    kept-windowed cfg h (snd_una w) _ window
    (kept-advanced cfg h now (duplicated h w) (ap (λ n. is_past n h.ack) (duplicated-numbers h w) ∙ not_past) (kept-duplicated cfg h w known k))

kept-synchronized : (cfg : Cfg) (h : SegHead) (now : ℕ) (j : Job) → h.window < 2 ^ 16 → is_unknown j.connection.state ≡ false → IsKept cfg j.connection → LeavesKept cfg (synchronized cfg h now j)
unfolding synchronized too_far
kept-synchronized cfg h now j window known k = by_test (is_past (snd_nxt j.connection) h.ack) refl
  where
    by_test : (a : Bool) → is_past (snd_nxt j.connection) h.ack ≡ a → LeavesKept cfg ((if a then Stops (gives j (ack_frame cfg j.connection)) else Goes j) >>= (λ j. fin_acked cfg now (told_sent (acked_data (acked cfg h now j.connection) - acked_data j.connection) (on j (acked cfg h now j.connection)))))
    by_test true p = record { kept = k }
    by_test false p =
        kept-fin_acked cfg now _ (kept-told_sent cfg _ (on j (acked cfg h now j.connection)) (kept-acked cfg h now j.connection window known p k))

-- ## The whole check
kept-acknowledgement_in : (s : State) (cfg : Cfg) (h : SegHead) (now : ℕ) (j : Job) → h.window < 2 ^ 16 → j.connection.state ≡ s → expects s ≡ true → IsKept cfg j.connection → LeavesKept cfg (if is_syn_received s then establishing h j else synchronized cfg h now j)
kept-acknowledgement_in st.SynReceived cfg h now j window is c k = kept-establishing cfg h j window is k
kept-acknowledgement_in st.Listen cfg h now j window is c k = cc
kept-acknowledgement_in st.SynSent cfg h now j window is c k = cc
kept-acknowledgement_in _ cfg h now j window is c k = kept-synchronized cfg h now j window (ap is_unknown is) k

pub kept-acknowledgement : (cfg : Cfg) (h : SegHead) (now : ℕ) (j : Job) → h.window < 2 ^ 16 → expects j.connection.state ≡ true → IsKept cfg j.connection → LeavesKept cfg (acknowledgement cfg h now j)
unfolding acknowledgement
kept-acknowledgement cfg h now j window c k = kept-acknowledgement_in j.connection.state cfg h now j window refl c k
