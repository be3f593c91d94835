-- What a connection keeps, over its opening and over the first checks of a segment.
use Rattle.std.proofs.Common.{◌≡◌, ℕ, Bool, true, false, if◌then◌else◌, arith, refl, sym, subst}
use Rattle.std.specs.Prelude.{◌&&◌, ◌==◌, not, Some, Option}
use Rattle.std.proofs.lemmas.Bool.{cond_both}
use Rattle.ix_base.specs.declared.segment.SegHead.{SegHead}
use Rattle.ix_base.specs.Flags.{has_flag}
use Rattle.ix_tcpdef.specs.Ticks.{later}
use Rattle.ix_tcpdef.specs.Connection.{is_syn_received, is_time_wait, gives, tells, on, ended, seq_of, rcv_wnd, rcv_nxt}
use Rattle.ix_tcpdef.specs.Frames.{ack_frame}
use Rattle.ix_tcpdef.specs.Arrival.{Next, Goes, Stops, ◌>>=◌, job_of, span, is_acceptable, acceptability, reset, synchronize, unacknowledged}
use Rattle.ix_tcpdef.specs.Sound.{IsKept}
use Rattle.ix_tcpdef.specs.declared.types.Cfg.{Cfg}
use Rattle.ix_tcpdef.specs.declared.types.Connection.{Connection}
use Rattle.ix_tcpdef.specs.declared.types.Job.{Job}
use Rattle.ix_tcpdef.specs.declared.types.Told.{Told}
use Rattle.ix_tcpdef.specs.declared.types.Told.TheVariants as told
use Rattle.ix_base.specs.declared.segment.TheConstants.{ACK, FIN, RST, SYN}

-- what a part leaves, done with or not
pub record LeavesKept (cfg : Cfg) (n : Next) : Type 0 where
  pub kept : IsKept cfg (job_of n).connection

-- one part, and then the others
pub kept-then : (cfg : Cfg) (n : Next) (f : Job → Next) → LeavesKept cfg n → ((j : Job) → IsKept cfg j.connection → LeavesKept cfg (f j)) → LeavesKept cfg (n >>= f)
kept-then cfg (Goes j) f k more = more j k.kept
kept-then cfg (Stops j) f k more = record { kept = k.kept }

-- what a part leaves that changes nothing where the segment goes on
abbrev pub IsUnchanged : Job → Next → Type 0
IsUnchanged j (Goes i) = i ≡ j
IsUnchanged j (Stops i) = Unit {0}

pub record Passes (cfg : Cfg) (j : Job) (n : Next) : Type 0 where
  pub kept : IsKept cfg (job_of n).connection
  pub same : IsUnchanged j n

pub passes-then : (cfg : Cfg) (j : Job) (n : Next) (f : Job → Next) → Passes cfg j n → LeavesKept cfg (f j) → LeavesKept cfg (n >>= f)
passes-then cfg j (Goes i) f p more = subst (λ (i : Job). LeavesKept cfg (f i)) (sym p.same) more
passes-then cfg j (Stops i) f p more = record { kept = p.kept }

-- The connection ends.
pub kept-ended : (cfg : Cfg) (w : Connection) → IsKept cfg w → IsKept cfg (ended w)
kept-ended cfg w k =
    record {
      sound = record {
        sender = record {
          order = k.sound.sender.order;
          within = k.sound.sender.within;
          fin = k.sound.sender.fin;
          flight = k.sound.sender.flight;
          stream = λ e. cc;
          syn = λ e. cc;
          wanted = k.sound.sender.wanted;
          unwanted = λ e. cc;
        };
        receiver = record { rising = tt; frames = tt; most = omega arith };
        sizes = k.sound.sizes;
        unknown = λ e. cc;
        untouched = λ e. cc;
        unlost = λ e. cc;
        pieces = k.sound.pieces;
      };
      standing = record {
        buffer = record { unread_fits = k.standing.buffer.unread_fits; held_fits = tt };
        peer = record {
          mss_least = λ _. k.sound.sizes.mss_least;
          mss_most = λ _. k.sound.sizes.mss_most;
          wnd_most = λ _. k.sound.sizes.wnd_most;
          cwnd_open = λ e. cc;
          ssthresh_open = λ e. cc;
        };
      };
    }

-- a deadline decides nothing
pub kept-deadline : (cfg : Cfg) (w : Connection) (d : Option ℕ) → IsKept cfg w → IsKept cfg (record w { deadline = d })
kept-deadline cfg w d k =
    record {
      sound = record { sender = k.sound.sender; receiver = k.sound.receiver; sizes = k.sound.sizes; unknown = k.sound.unknown; untouched = k.sound.untouched; unlost = k.sound.unlost; pieces = k.sound.pieces };
      standing = record { buffer = k.standing.buffer; peer = k.standing.peer };
    }

pub kept-tells : (cfg : Cfg) (j : Job) (t : Told) → IsKept cfg j.connection → IsKept cfg (tells j t).connection
kept-tells cfg j t k =
    cond_both (j.connection.accepted && not j.connection.shut) _ _ (λ (r : Job). IsKept cfg r.connection) (λ _. k) (λ _. k)

pub passes-acceptability : (cfg : Cfg) (h : SegHead) (now : ℕ) (j : Job) → IsKept cfg j.connection → Passes cfg j (acceptability cfg h now j)
unfolding acceptability
passes-acceptability cfg h now j k =
    by_tests (is_acceptable (span h) (rcv_wnd cfg j.connection) (seq_of j.connection h)) (has_flag h.flags RST) (has_flag h.flags FIN && is_time_wait j.connection.state)
  where
    by_tests : (a b c : Bool) → Passes cfg j (if a then Goes j else if b then Stops j else if c then Stops (gives (on j (record j.connection { deadline = Some (later now cfg.time_wait) })) (ack_frame cfg j.connection)) else Stops (gives j (ack_frame cfg j.connection)))
    by_tests true b c = record { kept = k; same = refl }
    by_tests false true c = record { kept = k; same = tt }
    by_tests false false true = record { kept = kept-deadline cfg j.connection (Some (later now cfg.time_wait)) k; same = tt }
    by_tests false false false = record { kept = k; same = tt }

pub passes-reset : (cfg : Cfg) (h : SegHead) (j : Job) → IsKept cfg j.connection → Passes cfg j (reset cfg h j)
unfolding reset
passes-reset cfg h j k = by_tests (has_flag h.flags RST) (h.seq == rcv_nxt j.connection)
  where
    by_tests : (a b : Bool) → Passes cfg j (if not a then Goes j else if b then Stops (tells (on j (ended j.connection)) told.DeadReset) else Stops (gives j (ack_frame cfg j.connection)))
    by_tests false b = record { kept = k; same = refl }
    by_tests true true = record { kept = kept-tells cfg (on j (ended j.connection)) told.DeadReset (kept-ended cfg j.connection k); same = tt }
    by_tests true false = record { kept = k; same = tt }

pub passes-synchronize : (cfg : Cfg) (h : SegHead) (j : Job) → IsKept cfg j.connection → Passes cfg j (synchronize cfg h j)
unfolding synchronize
passes-synchronize cfg h j k = by_tests (has_flag h.flags SYN) (is_syn_received j.connection.state)
  where
    by_tests : (a b : Bool) → Passes cfg j (if not a then Goes j else if b then Stops (on j (ended j.connection)) else Stops (gives j (ack_frame cfg j.connection)))
    by_tests false b = record { kept = k; same = refl }
    by_tests true true = record { kept = kept-ended cfg j.connection k; same = tt }
    by_tests true false = record { kept = k; same = tt }

pub passes-unacknowledged : (cfg : Cfg) (h : SegHead) (j : Job) → IsKept cfg j.connection → Passes cfg j (unacknowledged h j)
unfolding unacknowledged
passes-unacknowledged cfg h j k = by_test (has_flag h.flags ACK)
  where
    by_test : (a : Bool) → Passes cfg j (if a then Goes j else Stops j)
    by_test true = record { kept = k; same = refl }
    by_test false = record { kept = k; same = tt }
