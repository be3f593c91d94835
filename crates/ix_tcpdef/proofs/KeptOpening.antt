-- What a connection keeps, over its opening.
use Rattle.std.proofs.Common.{◌≡◌, ℕ, ◌^◌, ◌<◌, ◌≤◌, true, false, List, [], arith, refl, sym, ap, subst, ◌∙◌}
use Rattle.std.specs.Prelude.{nat_lt, ◌&&◌, ◌==◌, not, Some, None, Option}
use Rattle.std.proofs.lemmas.Bool.{cond_both}
use Rattle.ix_base.specs.declared.segment.SegHead.{SegHead}
use Rattle.ix_base.specs.Sequence.{number}
use Rattle.ix_base.specs.Flags.{has_flag}
use Rattle.ix_tcpdef.specs.Connection.{is_syn_sent, initial_window}
use Rattle.ix_tcpdef.specs.Opening.{send_mss, opens, passive, opening, connecting, connected, syn_sent}
use Rattle.ix_tcpdef.specs.Sound.{IsInRange, IsSound, IsKept, HoldsInOrder, FitsBuffer, may_send, is_unknown}
use Rattle.ix_tcpdef.proofs.KeptArrival.{kept-ended}
use Rattle.ix_tcpdef.specs.declared.types.Cfg.{Cfg}
use Rattle.ix_tcpdef.specs.declared.types.State.TheVariants as st
use Rattle.ix_tcpdef.specs.declared.types.Connection.{Connection}
use Rattle.ix_tcpdef.specs.declared.types.HeldSegment.{HeldSegment}
use Rattle.ix_tcpdef.specs.declared.types.Job.{Job}
use Rattle.ix_base.specs.declared.segment.TheConstants.{ACK, RST, SYN}

send_mss_least : (cfg : Cfg) (o : Option ℕ) → 64 ≤ send_mss cfg o
send_mss_least cfg (Some mss) = omega arith
send_mss_least cfg None = omega arith

send_mss_most : (cfg : Cfg) (o : Option ℕ) → IsInRange cfg → send_mss cfg o ≤ 1460
send_mss_most cfg (Some mss) r = omega (arith, r.mss_most)
send_mss_most cfg None r = omega (arith, r.mss_most)

initial_window_open : (mss : ℕ) → 64 ≤ mss → 0 < initial_window mss
initial_window_open mss least =
    cond_both (nat_lt 2190 mss) _ _ (λ n. 0 < n) (λ _. omega arith) (λ _.
    cond_both (nat_lt 1095 mss) _ _ (λ n. 0 < n) (λ _. omega arith) (λ _. omega arith))

-- what nothing came to
nothing_held : (rcv : ℕ) (held : List HeldSegment) → held ≡ [] → HoldsInOrder rcv held
nothing_held rcv held e =
    subst (λ (h : List HeldSegment). HoldsInOrder rcv h) (sym e) (record { rising = tt; frames = tt; most = omega arith })

nothing_in_buffer : (window rcv unread : ℕ) (held : List HeldSegment) → unread ≤ window → held ≡ [] → FitsBuffer window rcv unread held
nothing_in_buffer window rcv unread held fits e =
    subst (λ (h : List HeldSegment). FitsBuffer window rcv unread h) (sym e) (record { unread_fits = fits; held_fits = tt })

-- the FIN was not sent before the handshake
unfinished : (w : Connection) → IsSound w → may_send w.state ≡ true → w.fin_sent ≡ true → false ≡ true
unfinished w s may e = sym (s.sender.unwanted may) ∙ s.sender.wanted e

pub kept-passive : (cfg : Cfg) (h : SegHead) (now : ℕ) (w : Connection) → IsInRange cfg → h.window < 2 ^ 16 → w.state ≡ st.Listen → IsKept cfg w → IsKept cfg (passive cfg h now w)
kept-passive cfg h now w range window is k =
    let may : may_send w.state ≡ true = ap may_send is in
    let unknown : is_unknown w.state ≡ true = ap is_unknown is in
    let unsent : w.fin_sent ≡ true → false ≡ true = unfinished w k.sound may in
    record {
      sound = record {
        sender = record {
          order = omega arith;
          within = omega arith;
          fin = λ e. let no : false ≡ true = unsent e in cc;
          flight = omega arith;
          stream = λ e. cc;
          syn = λ e. cc;
          wanted = k.sound.sender.wanted;
          unwanted = λ _. k.sound.sender.unwanted may;
        };
        receiver = nothing_held 1 w.held (k.sound.untouched unknown);
        sizes = record {
          mss_least = send_mss_least cfg h.mss;
          mss_most = send_mss_most cfg h.mss range;
          wnd_most = omega arith;
          expiries_most = k.sound.sizes.expiries_most;
        };
        unknown = λ _. k.sound.unknown unknown;
        untouched = λ _. k.sound.untouched unknown;
        unlost = λ _. refl;
        pieces = k.sound.pieces;
      };
      standing = record {
        buffer = nothing_in_buffer cfg.window 1 w.unread w.held k.standing.buffer.unread_fits (k.sound.untouched unknown);
        peer = record {
          mss_least = λ _. send_mss_least cfg h.mss;
          mss_most = λ _. send_mss_most cfg h.mss range;
          wnd_most = λ _. omega arith;
          cwnd_open = λ _. initial_window_open (send_mss cfg h.mss) (send_mss_least cfg h.mss);
          ssthresh_open = λ _. omega arith;
        };
      };
    }

pub kept-opening : (cfg : Cfg) (h : SegHead) (now : ℕ) (j : Job) → IsInRange cfg → h.window < 2 ^ 16 → j.connection.state ≡ st.Listen → IsKept cfg j.connection → IsKept cfg (opening cfg h now j).connection
unfolding opening
kept-opening cfg h now j range window is k =
    cond_both (opens h) _ _ (λ (r : Job). IsKept cfg r.connection) (λ _. kept-passive cfg h now j.connection range window is k) (λ _. k)

pub kept-connecting : (cfg : Cfg) (now : ℕ) (j : Job) → IsInRange cfg → j.connection.state ≡ st.Listen → IsKept cfg j.connection → IsKept cfg (connecting cfg now j).connection
unfolding connecting
kept-connecting cfg now j range is k =
    let w : Connection = j.connection in
    let may : may_send w.state ≡ true = ap may_send is in
    let unknown : is_unknown w.state ≡ true = ap is_unknown is in
    let unsent : w.fin_sent ≡ true → false ≡ true = unfinished w k.sound may in
    record {
      sound = record {
        sender = record {
          order = omega arith;
          within = omega arith;
          fin = λ e. let no : false ≡ true = unsent e in cc;
          flight = omega arith;
          stream = λ e. cc;
          syn = λ _. refl;
          wanted = k.sound.sender.wanted;
          unwanted = λ _. k.sound.sender.unwanted may;
        };
        receiver = k.sound.receiver;
        sizes = record {
          mss_least = send_mss_least cfg None;
          mss_most = send_mss_most cfg None range;
          wnd_most = omega arith;
          expiries_most = k.sound.sizes.expiries_most;
        };
        unknown = λ _. k.sound.unknown unknown;
        untouched = λ _. k.sound.untouched unknown;
        unlost = λ _. refl;
        pieces = k.sound.pieces;
      };
      standing = record {
        buffer = k.standing.buffer;
        peer = record {
          mss_least = λ _. send_mss_least cfg None;
          mss_most = λ _. send_mss_most cfg None range;
          wnd_most = λ _. omega arith;
          cwnd_open = λ e. cc;
          ssthresh_open = λ e. cc;
        };
      };
    }

pub kept-connected : (cfg : Cfg) (h : SegHead) (w : Connection) → IsInRange cfg → h.window < 2 ^ 16 → w.state ≡ st.SynSent → IsKept cfg w → IsKept cfg (connected cfg h w)
kept-connected cfg h w range window is k =
    let may : may_send w.state ≡ true = ap may_send is in
    let unknown : is_unknown w.state ≡ true = ap is_unknown is in
    let unsent : w.fin_sent ≡ true → false ≡ true = unfinished w k.sound may in
    let one : w.nxt ≡ 1 = k.sound.sender.syn (ap is_syn_sent is) in
    let least : 64 ≤ send_mss cfg h.mss = send_mss_least cfg h.mss in
    record {
      sound = record {
        sender = record {
          order = omega arith;
          within = omega arith;
          fin = λ e. let no : false ≡ true = unsent e in cc;
          flight = omega arith;
          stream = λ _. omega arith;
          syn = λ e. cc;
          wanted = k.sound.sender.wanted;
          unwanted = λ _. k.sound.sender.unwanted may;
        };
        receiver = nothing_held 1 w.held (k.sound.untouched unknown);
        sizes = record { mss_least = least; mss_most = send_mss_most cfg h.mss range; wnd_most = omega arith; expiries_most = omega arith };
        unknown = λ e. cc;
        untouched = λ e. cc;
        unlost = λ e. cc;
        pieces = k.sound.pieces;
      };
      standing = record {
        buffer = nothing_in_buffer cfg.window 1 w.unread w.held k.standing.buffer.unread_fits (k.sound.untouched unknown);
        peer = record {
          mss_least = λ _. least;
          mss_most = λ _. send_mss_most cfg h.mss range;
          wnd_most = λ _. omega arith;
          cwnd_open = λ _. cond_both (nat_lt 0 w.expiries) _ _ (λ n. 0 < n) (λ _. omega arith) (λ _. initial_window_open (send_mss cfg h.mss) least);
          ssthresh_open = λ _. let first : w.ssthresh ≡ 65535 = k.sound.unlost unknown in omega arith;
        };
      };
    }

pub kept-syn_sent : (cfg : Cfg) (h : SegHead) (j : Job) → IsInRange cfg → h.window < 2 ^ 16 → j.connection.state ≡ st.SynSent → IsKept cfg j.connection → IsKept cfg (syn_sent cfg h j).connection
unfolding syn_sent
kept-syn_sent cfg h j range window is k =
    let P : Job → Type 0 = λ r. IsKept cfg r.connection in
    cond_both (has_flag h.flags ACK && not (h.ack == number j.connection.iss 1)) _ _ P
    (λ _. cond_both (has_flag h.flags RST) _ _ P (λ _. k) (λ _. k))
    (λ _. cond_both (has_flag h.flags RST) _ _ P
    (λ _. cond_both (has_flag h.flags ACK) _ _ P (λ _. kept-ended cfg j.connection k) (λ _. k))
    (λ _. cond_both (has_flag h.flags SYN && has_flag h.flags ACK) _ _ P (λ _. kept-connected cfg h j.connection range window is k) (λ _. k)))
