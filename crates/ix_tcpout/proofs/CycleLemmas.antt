-- The end of a cycle over numbers stands for that of the connection.
use Rattle.std.proofs.Common.{◌≡◌, ℕ, Bool, true, false, if◌then◌else◌, List, [], ◌++◌, length, refl, ap, sym, ◌∙◌, append-nil}
use Rattle.std.specs.Prelude.{nat_lt, ◌&&◌, ◌||◌, ◌==◌, not, map, is_none}
use Rattle.std.proofs.lemmas.Bool.{cond_both}
use Rattle.ix_tcpdef.specs.Connection.{is_listen}
use Rattle.ix_tcpdef.specs.Sound.{IsKept}
use Rattle.ix_tcpdef.specs.Step.{is_alive, step, stepped}
use Rattle.ix_tcpdef.specs.Flush.{unsent, resends, resent, sends, data_sent, fin_sent, ack_sent, waits_for_window, armed, flushed}
use Rattle.ix_tcpdef.specs.declared.types.Cfg.{Cfg}
use Rattle.ix_tcpdef.specs.declared.types.State.{State}
use Rattle.ix_tcpdef.specs.declared.types.State.TheVariants as st
use Rattle.ix_tcpdef.specs.declared.types.Connection.{Connection}
use Rattle.ix_tcpdef.specs.declared.types.Job.{Job}
use Rattle.ix_tcpdef.specs.declared.types.Input.TheVariants as inputs
use Rattle.ix_tcpdef.specs.Stands.{tcb_of, send_queue}
use Rattle.ix_tcpout.specs.Given.{frame_of, start, has_ended, LeavesBytes}
use Rattle.ix_tcpout.specs.Sending.{IsWorkOf}
use Rattle.ix_tcpout.specs.Parts.{Work, work, all_parts}
use Rattle.ix_tcpout.proofs.ExpiryLemmas.{sending, lives}
use Rattle.ix_tcpout.proofs.PartLemmas.{stands-all}

-- what a flush leaves as it was
record SamePlace (w v : Connection) : Type 0 where
  state : v.state ≡ w.state
  sent : v.sent ≡ w.sent
  queue : send_queue v ≡ send_queue w
  pieces : v.pieces ≡ w.pieces
  held : v.held ≡ w.held

same-then : (u v w : Connection) → SamePlace u v → SamePlace v w → SamePlace u w
same-then u v w a b = record { state = b.state ∙ a.state; sent = b.sent ∙ a.sent; queue = b.queue ∙ a.queue; pieces = b.pieces ∙ a.pieces; held = b.held ∙ a.held }

same-resent : (cfg : Cfg) (j : Job) → SamePlace j.connection (resent cfg j).connection
unfolding resent
same-resent cfg j = cond_both (j.connection.resend && resends j.connection.state) _ _ (λ (r : Job). SamePlace j.connection r.connection) (λ _. record { state = refl; sent = refl; queue = refl; pieces = refl; held = refl }) (λ _. record { state = refl; sent = refl; queue = refl; pieces = refl; held = refl })

same-data_sent : (cfg : Cfg) (j : Job) → SamePlace j.connection (data_sent cfg j).connection
unfolding data_sent
same-data_sent cfg j = cond_both (sends j.connection.state) _ _ (λ (r : Job). SamePlace j.connection r.connection) (λ _. record { state = refl; sent = refl; queue = refl; pieces = refl; held = refl }) (λ _. record { state = refl; sent = refl; queue = refl; pieces = refl; held = refl })

same-fin_sent : (cfg : Cfg) (j : Job) → SamePlace j.connection (fin_sent cfg j).connection
unfolding fin_sent
same-fin_sent cfg j = cond_both (sends j.connection.state && j.connection.fin_wanted && not j.connection.fin_sent && (length (unsent j.connection) == 0)) _ _ (λ (r : Job). SamePlace j.connection r.connection) (λ _. record { state = refl; sent = refl; queue = refl; pieces = refl; held = refl }) (λ _. record { state = refl; sent = refl; queue = refl; pieces = refl; held = refl })

same-ack_sent : (cfg : Cfg) (j : Job) → SamePlace j.connection (ack_sent cfg j).connection
unfolding ack_sent
same-ack_sent cfg j = cond_both (j.connection.ack_owed && (length j.outputs == 0)) _ _ (λ (r : Job). SamePlace j.connection r.connection) (λ _. record { state = refl; sent = refl; queue = refl; pieces = refl; held = refl }) (λ _. record { state = refl; sent = refl; queue = refl; pieces = refl; held = refl })

same-armed : (cfg : Cfg) (now : ℕ) (w : Connection) → SamePlace w (armed cfg now w)
unfolding armed
same-armed cfg now w = cond_both (is_none w.deadline && (nat_lt w.una w.nxt || ((w.una == w.nxt) && waits_for_window w))) _ _ (SamePlace w) (λ _. record { state = refl; sent = refl; queue = refl; pieces = refl; held = refl }) (λ _. record { state = refl; sent = refl; queue = refl; pieces = refl; held = refl })

same-flushed : (cfg : Cfg) (now : ℕ) (j : Job) → SamePlace j.connection (flushed cfg now j).connection
unfolding flushed
same-flushed cfg now j =
    same-then _ _ _ (same-resent cfg j)
    (same-then _ _ _ (same-data_sent cfg (resent cfg j))
    (same-then _ _ _ (same-fin_sent cfg (data_sent cfg (resent cfg j)))
    (same-then _ _ _ (same-ack_sent cfg (fin_sent cfg (data_sent cfg (resent cfg j)))) (same-armed cfg now _))))

-- the numbers, the frames and the end stand for those of a step
pub record FlushesAs (w : Connection) (k : Work) (j : Job) : Type 0 where
  pub numbers : k.numbers ≡ tcb_of j.connection
  pub frames : map (frame_of (send_queue w)) k.entries ++ [] ≡ j.outputs
  pub bytes : LeavesBytes w j.connection
  pub ended : false ≡ has_ended w j.connection

flushed_as : (cfg : Cfg) (now : ℕ) (w : Connection) → IsKept cfg w → is_alive w.state ≡ true → FlushesAs w (all_parts cfg now (work (tcb_of w) [])) (flushed cfg now (start w))
flushed_as cfg now w k alive =
    let all : IsWorkOf (all_parts cfg now (work (tcb_of w) [])) (flushed cfg now (start w)) = stands-all cfg now w k.sound.sizes.wnd_most (sending cfg w alive k) in
    let same : SamePlace w (flushed cfg now (start w)).connection = same-flushed cfg now (start w) in
    record {
      numbers = all.numbers;
      frames = append-nil _ ∙ ap (λ (q : List ℕ). map (frame_of q) (all_parts cfg now (work (tcb_of w) [])).entries) (sym same.queue) ∙ all.frames;
      bytes = record { sent = same.sent; queue = same.queue; pieces = same.pieces; held = same.held ∙ ap (λ (b : Bool). if b then [] else w.held) (lives w (flushed cfg now (start w)).connection (ap is_alive same.state ∙ alive)) };
      ended = lives w (flushed cfg now (start w)).connection (ap is_alive same.state ∙ alive);
    }

pub flush_stands : (cfg : Cfg) (now : ℕ) (w : Connection) → IsKept cfg w → is_alive w.state ≡ true → FlushesAs w (all_parts cfg now (work (tcb_of w) [])) (step cfg w inputs.Flush now)
unfolding step stepped
flush_stands cfg now w k alive = rw alive (flushed_as cfg now w k alive)

-- a connection that doesn't live is left as it is
pub flush_idle : (cfg : Cfg) (now : ℕ) (w : Connection) → is_alive w.state ≡ false → step cfg w inputs.Flush now ≡ start w
unfolding step stepped
flush_idle cfg now w dead = rw dead refl

-- what lives is not LISTEN
pub alive-opened : (s : State) → is_alive s ≡ true → is_listen s ≡ false
alive-opened st.Listen e = cc
alive-opened st.Closed e = refl
alive-opened _ e = refl
