-- What a connection keeps, over the calls of its application.
use Rattle.std.proofs.Common.{◌≡◌, ℕ, ◌+◌, ◌-◌, ◌^◌, ◌<◌, ◌≤◌, Bool, true, false, if◌then◌else◌, length, take, List, ◌++◌, map, arith, refl, sym, ap, ◌∙◌, length-append}
use Rattle.std.specs.Prelude.{nat_lt, ◌&&◌, ◌||◌, not, min}
use Rattle.std.proofs.lemmas.Bool.{cond_both}
use Rattle.std.proofs.lemmas.List.Elements.{All-map}
use Rattle.ix_tcpdef.specs.Connection.{is_listen, is_closed, is_syn_sent, room, on}
use Rattle.ix_tcpdef.specs.Calls.{is_live, returns, as_told, accept, is_open, sendv, recv_done, closed_state, shut_down, persists, close, answered, is_connect, called}
use Rattle.ix_tcpdef.specs.Needs.{carries}
use Rattle.ix_tcpdef.specs.Sound.{IsInRange, IsKept, has_windows, may_send, is_unknown, bit}
use Rattle.ix_tcpdef.proofs.BodyLemmas.{EndsBy-mono}
use Rattle.ix_tcpdef.proofs.KeptOpening.{kept-connecting}
use Rattle.ix_tcpdef.proofs.KeptFlush.{kept-expiries}
use Rattle.ix_tcpdef.specs.declared.types.Cfg.{Cfg}
use Rattle.ix_tcpdef.specs.declared.types.State.{State}
use Rattle.ix_tcpdef.specs.declared.types.State.TheVariants as st
use Rattle.ix_tcpdef.specs.declared.types.Connection.{Connection}
use Rattle.ix_tcpdef.specs.declared.types.Piece.{Piece}
use Rattle.ix_tcpdef.specs.declared.types.Job.{Job}
use Rattle.ix_tcpdef.specs.declared.types.Ask.{Ask}
use Rattle.ix_tcpdef.specs.declared.types.Ask.TheVariants as asks
use Rattle.ix_base.specs.declared.segment.Ret.TheVariants as rets

-- a live handle is that of a connection behind its handshake
pub live-known : (cfg : Cfg) (w : Connection) → IsKept cfg w → is_live w ≡ true → is_unknown w.state ≡ false
live-known cfg w k live = by_test (is_unknown w.state) refl (w.knocked || w.accepted) refl
  where
    by_test : (a : Bool) → is_unknown w.state ≡ a → (b : Bool) → (w.knocked || w.accepted) ≡ b → a ≡ false
    by_test false e b f = refl
    by_test true e true f = let no : true ≡ false = sym f ∙ k.sound.unknown e in cc
    by_test true e false f = let dead : is_live w ≡ false = ap (λ b. b && not w.shut && not (is_closed w.state)) f in let no : true ≡ false = sym live ∙ dead in cc

kept-accepted : (cfg : Cfg) (w : Connection) → is_unknown w.state ≡ false → IsKept cfg w → IsKept cfg (record w { accepted = true; pieces = map as_told w.pieces })
kept-accepted cfg w known k =
    record {
      sound = record {
        sender = k.sound.sender;
        receiver = k.sound.receiver;
        sizes = k.sound.sizes;
        unknown = λ e. let no : true ≡ false = sym e ∙ known in cc;
        untouched = k.sound.untouched;
        unlost = k.sound.unlost;
        pieces = All-map (λ (p : Piece). length p.bytes < 2 ^ 16) as_told w.pieces k.sound.pieces;
      };
      standing = record { buffer = k.standing.buffer; peer = k.standing.peer };
    }

kept-accept : (cfg : Cfg) (j : Job) → is_unknown j.connection.state ≡ false → IsKept cfg j.connection → IsKept cfg (accept j).connection
unfolding accept
kept-accept cfg j known k =
    cond_both j.connection.accepted _ _ (λ (r : Job). IsKept cfg r.connection) (λ _. k) (λ _. kept-accepted cfg j.connection known k)

open-may_send : (s : State) → is_open s ≡ true → may_send s ≡ true
open-may_send st.Established e = refl
open-may_send st.CloseWait e = refl
open-may_send st.Listen e = refl
open-may_send st.SynSent e = refl
open-may_send st.SynReceived e = refl
open-may_send _ e = e

kept-given : (cfg : Cfg) (w : Connection) (bytes : List ℕ) (wants : Bool) → is_open w.state ≡ true → IsKept cfg w → IsKept cfg (record w { sent = w.sent ++ bytes; wants = wants })
kept-given cfg w bytes wants opened k =
    let more : length (w.sent ++ bytes) ≡ length w.sent + length bytes = length-append w.sent bytes in
    let within : w.nxt ≤ length w.sent + 1 + bit w.fin_sent = k.sound.sender.within in
    record {
      sound = record {
        sender = record {
          order = k.sound.sender.order;
          within = omega (arith, more, within);
          fin = λ e. let no : false ≡ true = sym (k.sound.sender.unwanted (open-may_send w.state opened)) ∙ k.sound.sender.wanted e in cc;
          flight = k.sound.sender.flight;
          stream = k.sound.sender.stream;
          syn = k.sound.sender.syn;
          wanted = k.sound.sender.wanted;
          unwanted = k.sound.sender.unwanted;
        };
        receiver = k.sound.receiver;
        sizes = k.sound.sizes;
        unknown = k.sound.unknown;
        untouched = k.sound.untouched;
        unlost = k.sound.unlost;
        pieces = k.sound.pieces;
      };
      standing = record { buffer = k.standing.buffer; peer = k.standing.peer };
    }

kept-sendv : (cfg : Cfg) (bytes : List ℕ) (j : Job) → IsKept cfg j.connection → IsKept cfg (sendv bytes j).connection
unfolding sendv
kept-sendv cfg bytes j k = by_tests j.connection.accepted (is_open j.connection.state) refl
  where
    by_tests : (a b : Bool) → is_open j.connection.state ≡ b → IsKept cfg (if not (a && b) then returns j rets.NotOpen else (let n : ℕ = min (length bytes) (room j.connection) in returns (on j (record j.connection { sent = j.connection.sent ++ take n bytes; wants = j.connection.wants || nat_lt n (length bytes) })) (rets.Done n))).connection
    by_tests true true e = kept-given cfg j.connection _ _ e k
    by_tests true false e = k
    by_tests false b e = k

kept-given_back : (cfg : Cfg) (w : Connection) (n : ℕ) (owed : Bool) → IsKept cfg w → IsKept cfg (record w { unread = w.unread - n; ack_owed = owed })
kept-given_back cfg w n owed k =
    let fits : w.unread ≤ cfg.window = k.standing.buffer.unread_fits in
    record {
      sound = record { sender = k.sound.sender; receiver = k.sound.receiver; sizes = k.sound.sizes; unknown = k.sound.unknown; untouched = k.sound.untouched; unlost = k.sound.unlost; pieces = k.sound.pieces };
      standing = record {
        buffer = record { unread_fits = omega arith; held_fits = EndsBy-mono (w.rcv + (cfg.window - w.unread)) (w.rcv + (cfg.window - (w.unread - n))) w.held (omega arith) k.standing.buffer.held_fits };
        peer = k.standing.peer;
      };
    }

kept-recv_done : (cfg : Cfg) (n : ℕ) (j : Job) → IsKept cfg j.connection → IsKept cfg (recv_done cfg n j).connection
unfolding recv_done
kept-recv_done cfg n j k =
    let P : Job → Type 0 = λ r. IsKept cfg r.connection in
    cond_both (not j.connection.accepted) _ _ P (λ _. k)
    (λ _. cond_both (nat_lt j.connection.unread n) _ _ P (λ _. k) (λ _. kept-given_back cfg j.connection n _ k))

-- what closing leaves of the tests on states
closed-carries : (s : State) → carries (closed_state s) ≡ carries s
closed-carries st.Established = refl
closed-carries st.CloseWait = refl
closed-carries _ = refl

closed-syn_sent : (s : State) → is_syn_sent (closed_state s) ≡ is_syn_sent s
closed-syn_sent st.Established = refl
closed-syn_sent st.CloseWait = refl
closed-syn_sent _ = refl

closed-windows : (s : State) → has_windows (closed_state s) ≡ has_windows s
closed-windows st.Established = refl
closed-windows st.CloseWait = refl
closed-windows _ = refl

pub closed-unknown : (s : State) → is_unknown (closed_state s) ≡ is_unknown s
closed-unknown st.Established = refl
closed-unknown st.CloseWait = refl
closed-unknown _ = refl

closed-shut : (s : State) → is_unknown s ≡ false → may_send (closed_state s) ≡ false
closed-shut st.Listen e = e
closed-shut st.SynSent e = e
closed-shut st.SynReceived e = e
closed-shut _ e = refl

kept-shut_down : (cfg : Cfg) (w : Connection) → is_unknown w.state ≡ false → IsKept cfg w → IsKept cfg (shut_down w)
kept-shut_down cfg w known k =
    let s : State = w.state in
    record {
      sound = record {
        sender = record {
          order = k.sound.sender.order;
          within = k.sound.sender.within;
          fin = k.sound.sender.fin;
          flight = k.sound.sender.flight;
          stream = λ e. k.sound.sender.stream (sym (closed-carries w.state) ∙ e);
          syn = λ e. k.sound.sender.syn (sym (closed-syn_sent w.state) ∙ e);
          wanted = λ _. refl;
          unwanted = λ e. let no : true ≡ false = sym e ∙ closed-shut w.state known in cc;
        };
        receiver = record { rising = tt; frames = tt; most = omega arith };
        sizes = k.sound.sizes;
        unknown = λ e. let no : true ≡ false = sym e ∙ closed-unknown w.state ∙ known in cc;
        untouched = λ _. refl;
        unlost = λ e. let no : true ≡ false = sym e ∙ closed-unknown w.state ∙ known in cc;
        pieces = k.sound.pieces;
      };
      standing = record {
        buffer = record { unread_fits = omega arith; held_fits = tt };
        peer = record {
          mss_least = λ _. k.sound.sizes.mss_least;
          mss_most = λ _. k.sound.sizes.mss_most;
          wnd_most = λ _. k.sound.sizes.wnd_most;
          cwnd_open = λ e. k.standing.peer.cwnd_open (sym (closed-windows w.state) ∙ e);
          ssthresh_open = λ e. k.standing.peer.ssthresh_open (sym (closed-windows w.state) ∙ e);
        };
      };
    }

kept-close : (cfg : Cfg) (j : Job) → is_unknown j.connection.state ≡ false → IsKept cfg j.connection → IsKept cfg (close j).connection
unfolding close
kept-close cfg j known k =
    cond_both (persists j.connection) _ _ (IsKept cfg)
    (λ _. kept-expiries cfg (shut_down j.connection) 0 _ (omega arith) (kept-shut_down cfg j.connection known k))
    (λ _. kept-shut_down cfg j.connection known k)

kept-answered : (cfg : Cfg) (ask : Ask) (j : Job) → is_unknown j.connection.state ≡ false → IsKept cfg j.connection → IsKept cfg (answered cfg ask j).connection
unfolding answered
kept-answered cfg asks.Connect j known k = k
kept-answered cfg asks.Accept j known k = kept-accept cfg j known k
kept-answered cfg (asks.Sendv bytes) j known k = kept-sendv cfg bytes j k
kept-answered cfg (asks.RecvDone n) j known k = kept-recv_done cfg n j k
kept-answered cfg asks.Close j known k = kept-close cfg j known k

pub listen-is : (s : State) → is_listen s ≡ true → s ≡ st.Listen
listen-is st.Listen e = refl
listen-is _ e = cc

pub kept-called : (cfg : Cfg) (ask : Ask) (now : ℕ) (j : Job) → IsInRange cfg → IsKept cfg j.connection → IsKept cfg (called cfg ask now j).connection
unfolding called
kept-called cfg ask now j range k =
    let P : Job → Type 0 = λ r. IsKept cfg r.connection in
    cond_both (is_connect ask) _ _ P
    (λ _. cond_both (is_listen j.connection.state) _ _ P (λ e. kept-connecting cfg now j range (listen-is j.connection.state e) k) (λ _. k))
    (λ _. cond_both (is_live j.connection) _ _ P (λ live. kept-answered cfg ask j (live-known cfg j.connection k live) k) (λ _. k))
