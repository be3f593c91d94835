-- Between cycles the parts of every connection that lives were told.
use Rattle.std.proofs.Common.{◌≡◌, ℕ, zero, suc, refl, sym, ap, ◌∙◌, subst, Bool, true, false, List, [], ◌∷◌, ◌++◌, drop, length, append-nil, ◌⊎◌, inl, inr}
use Rattle.std.specs.Prelude.{if◌then◌else◌, ◌&&◌, ◌||◌, not, nat_lt}
use Rattle.std.specs.List.{AllByRecursion}
use Rattle.ix_base.specs.declared.id.Flow.{Flow}
use Rattle.ix_tcpdef.specs.Connection.{is_closed}
use Rattle.ix_tcpdef.specs.Calls.{accept, answered, called, is_live}
use Rattle.ix_tcpdef.specs.Opening.{connecting}
use Rattle.ix_tcpdef.specs.Step.{step, stepped}
use Rattle.ix_tcpdef.specs.declared.types.Ask.TheVariants as asks
use Rattle.ix_tcpdef.specs.declared.types.Cfg.{Cfg}
use Rattle.ix_tcpdef.specs.declared.types.Connection.{Connection}
use Rattle.ix_tcpdef.specs.declared.types.Input.{Input}
use Rattle.ix_tcpdef.specs.declared.types.Input.TheVariants as inputs
use Rattle.ix_tcpdef.specs.declared.types.Job.{Job}
use Rattle.ix_tcpdef.specs.declared.types.Output.{Output}
use Rattle.ix_tcpdef.specs.declared.types.Output.TheVariants as outputs
use Rattle.ix_tcpdef.specs.declared.types.Told.TheVariants as told
use Rattle.ix_groupdef.specs.declared.types.JournalEntry.{JournalEntry}
use Rattle.ix_groupdef.specs.declared.types.Talk.{Talk}
use Rattle.ix_groupdef.specs.declared.types.Turn.{Turn}
use Rattle.ix_groupdef.specs.Setting.{Setting, passive_iss}
use Rattle.ix_groupdef.specs.Talk.{noted, noted_all, asked}
use Rattle.ix_groupdef.specs.Life.{Life, unborn, given, given_all, journal_with, all_named}
use Rattle.ix_groupdef.specs.Calls.{is_empty, call_if, answer_now, left_over, sends, closes, calls_of, begun, round}
use Rattle.ix_groupdef.specs.Group.{opened, dialled, run}
use Rattle.ix_groupdef.specs.Rest.{RestsUntouched, IsUntouched, AllRest}
use Rattle.ix_plainstack.specs.Out.{HasTold, AllTold}
use Rattle.ix_plainstack.proofs.Ended.{ended-step}
use Rattle.ix_plainstack.proofs.Behind.{never, Behind, behind-step}
use Rattle.ix_plainstack.proofs.Hush.{AreFrames, IsCalm, AreCalm, Knocks, Hush, is_call, hush-step}
use Rattle.ix_plainstack.proofs.Ladder.{kept-heard, kept-closed}
use Rattle.ix_plainstack.proofs.Runs.{IsKept, each-run}

-- a fact on a test that holds after a change, and would hold if it had held before
was_false : (a b : Bool) → (a ≡ true → b ≡ true) → b ≡ false → a ≡ false
was_false true b f e = absurd (never b (f refl) e)
was_false false b f e = refl

-- ## What outputs leave of the talk
over-noted : (o : Output) (t : Talk) → IsCalm o → (noted o t).over ≡ t.over
over-noted (outputs.Frame seg) t p = refl
over-noted (outputs.Told told.Knock) t p = refl
over-noted _ t p = absurd p

over-all : (os : List Output) (t : Talk) → AreCalm os → (noted_all os t).over ≡ t.over
over-all [] t p = refl
over-all (o ∷ os) t p = over-all os (noted o t) p.1 ∙ over-noted o t p.0

knocked-noted : (o : Output) (t : Talk) → IsCalm o → t.knocked ≡ true → (noted o t).knocked ≡ true
knocked-noted (outputs.Frame seg) t p e = e
knocked-noted (outputs.Told told.Knock) t p e = refl
knocked-noted _ t p e = absurd p

knocked-all : (os : List Output) (t : Talk) → AreCalm os → t.knocked ≡ true → (noted_all os t).knocked ≡ true
knocked-all [] t p e = e
knocked-all (o ∷ os) t p e = knocked-all os (noted o t) p.1 (knocked-noted o t p.0 e)

knocks-all : (os : List Output) (t : Talk) → AreCalm os → Knocks os → (noted_all os t).knocked ≡ true
knocks-all [] t p n = absurd n
knocks-all (o ∷ os) t p (inl e) = knocked-all os (noted o t) p.1 (ap (λ x. (noted x t).knocked) e)
knocks-all (o ∷ os) t p (inr n) = knocks-all os (noted o t) p.1 n

frames-noted : (os : List Output) (t : Talk) → AreFrames os → noted_all os t ≡ t
frames-noted [] t p = refl
frames-noted (outputs.Frame seg ∷ os) t p = frames-noted os t p.1
frames-noted (outputs.Told x ∷ os) t p = absurd p.0
frames-noted (outputs.Ret r ∷ os) t p = absurd p.0

frames-named : (os : List Output) (js : List JournalEntry) → AreFrames os → all_named os js ≡ []
frames-named [] js p = refl
frames-named (outputs.Frame seg ∷ os) js p = frames-named os js p.1
frames-named (outputs.Told x ∷ os) js p = absurd p.0
frames-named (outputs.Ret r ∷ os) js p = absurd p.0

asked-none : (i : Input) (t : Talk) → is_call i ≡ false → asked i t ≡ t
asked-none (inputs.Segment w seg) t e = refl
asked-none inputs.Timer t e = refl
asked-none (inputs.Call ask) t e = absurd (cc)
asked-none inputs.Flush t e = refl

-- ## One that lives and is not accepted waits: its knock, or else nothing was told
pub record Quiet (t : Talk) (told : List ℕ) : Type 0 where
  pub knocked : t.knocked ≡ false
  pub bytes : t.bytes ≡ 0
  pub finished : t.finished ≡ false
  pub up : t.up ≡ false
  pub none : told ≡ []

pub record Waits (knocked shut : Bool) (t : Talk) (told : List ℕ) : Type 0 where
  pub over : t.over ≡ false
  pub unshut : shut ≡ false
  pub knock : knocked ≡ true → t.knocked ≡ true
  pub quiet : knocked ≡ false → Quiet t told

pub record Tells (w : Connection) (t : Talk) (told : List ℕ) : Type 0 where
  pub behind : Behind false false w.knocked w.accepted w.state w.pieces
  pub waits : is_closed w.state ≡ false → w.accepted ≡ false → Waits w.knocked w.shut t told

abbrev TellsLife : Life → Type 0
TellsLife l = Tells l.connection l.talk l.told

-- from any marks before
behind-from : (k a : Bool) (w : Connection) → (k ≡ true → w.knocked ≡ true) → (a ≡ true → w.accepted ≡ true) → Behind false false w.knocked w.accepted w.state w.pieces → Behind k a w.knocked w.accepted w.state w.pieces
behind-from k a w f g p = record { knock = f; kept = g; state = p.state; parts = p.parts }

behind-plain : (k a : Bool) (w : Connection) → Behind k a w.knocked w.accepted w.state w.pieces → Behind false false w.knocked w.accepted w.state w.pieces
behind-plain k a w p = record { knock = λ e. absurd (cc); kept = λ e. absurd (cc); state = p.state; parts = p.parts }

-- ## An input that is no call
module _ (turn : Turn) (i : Input) (l : Life) (no_call : is_call i ≡ false) (p : Tells l.connection l.talk l.told) where
  abbrev w : Connection
  w = l.connection

  abbrev next : Job
  next = step l.cfg l.connection i turn.clock

  moved : Behind l.connection.knocked l.connection.accepted next.connection.knocked next.connection.accepted next.connection.state next.connection.pieces
  moved =
      behind-step l.connection.knocked l.connection.accepted l.cfg l.connection i turn.clock (behind-from l.connection.knocked l.connection.accepted l.connection (λ e. e) (λ e. e) p.behind)

  after-hush : Waits l.connection.knocked l.connection.shut l.talk l.told → Hush l.connection.knocked next.connection.accepted next.connection.shut next.connection.knocked next.outputs
      → Waits next.connection.knocked next.connection.shut (noted_all next.outputs (asked i l.talk)) (l.told ++ all_named next.outputs (journal_with turn i l))
  after-hush v h =
      let talk : asked i l.talk ≡ l.talk = asked-none i l.talk no_call in
      record {
        over = over-all next.outputs (asked i l.talk) h.calm ∙ ap (λ (t : Talk). t.over) talk ∙ v.over;
        unshut = h.unshut;
        knock = λ e. told_now (h.heard e);
        quiet = λ e. still_quiet e (v.quiet (was_false l.connection.knocked next.connection.knocked moved.knock e));
      }
    where
      told_now : (l.connection.knocked ≡ true) ⊎ Knocks next.outputs → (noted_all next.outputs (asked i l.talk)).knocked ≡ true
      told_now (inl e) = knocked-all next.outputs (asked i l.talk) h.calm (ap (λ (t : Talk). t.knocked) (asked-none i l.talk no_call) ∙ v.knock e)
      told_now (inr n) = knocks-all next.outputs (asked i l.talk) h.calm n

      still_quiet : next.connection.knocked ≡ false → Quiet l.talk l.told → Quiet (noted_all next.outputs (asked i l.talk)) (l.told ++ all_named next.outputs (journal_with turn i l))
      still_quiet e q =
          let same : noted_all next.outputs (asked i l.talk) ≡ l.talk = frames-noted next.outputs (asked i l.talk) (h.quiet e) ∙ asked-none i l.talk no_call in
          record {
            knocked = ap (λ (t : Talk). t.knocked) same ∙ q.knocked;
            bytes = ap (λ (t : Talk). t.bytes) same ∙ q.bytes;
            finished = ap (λ (t : Talk). t.finished) same ∙ q.finished;
            up = ap (λ (t : Talk). t.up) same ∙ q.up;
            none = ap (λ bs. l.told ++ bs) (frames-named next.outputs (journal_with turn i l) (h.quiet e)) ∙ append-nil l.told ∙ q.none;
          }

  tells-next : Tells next.connection (noted_all next.outputs (asked i l.talk)) (l.told ++ all_named next.outputs (journal_with turn i l))
  tells-next =
      record {
        behind = behind-plain l.connection.knocked l.connection.accepted next.connection moved;
        waits = λ living fresh. by_end living fresh (waited living fresh)
            (hush-step l.cfg l.connection i turn.clock no_call (was_false l.connection.accepted next.connection.accepted moved.kept fresh) (waited living fresh).unshut);
      }
    where
      waited : is_closed next.connection.state ≡ false → next.connection.accepted ≡ false → Waits l.connection.knocked l.connection.shut l.talk l.told
      waited living fresh =
          p.waits (was_false (is_closed l.connection.state) (is_closed next.connection.state) (ended-step l.cfg l.connection i turn.clock) living)
          (was_false l.connection.accepted next.connection.accepted moved.kept fresh)

      by_end : is_closed next.connection.state ≡ false → next.connection.accepted ≡ false → Waits l.connection.knocked l.connection.shut l.talk l.told
          → (next.connection.accepted ≡ true) ⊎ ((is_closed next.connection.state ≡ true) ⊎ Hush l.connection.knocked next.connection.accepted next.connection.shut next.connection.knocked next.outputs)
          → Waits next.connection.knocked next.connection.shut (noted_all next.outputs (asked i l.talk)) (l.told ++ all_named next.outputs (journal_with turn i l))
      by_end living fresh v (inl e) = absurd (never next.connection.accepted e fresh)
      by_end living fresh v (inr (inl e)) = absurd (never (is_closed next.connection.state) e living)
      by_end living fresh v (inr (inr h)) = after-hush v h

tells-given : (turn : Turn) (i : Input) (l : Life) → is_call i ≡ false → Tells l.connection l.talk l.told → Tells (given turn i l).connection (given turn i l).talk (given turn i l).told
unfolding given
tells-given turn i l n p = tells-next turn i l n p

-- ## Calls
behind-given : (k a : Bool) (turn : Turn) (i : Input) (l : Life) → Behind k a l.connection.knocked l.connection.accepted l.connection.state l.connection.pieces
    → Behind k a (given turn i l).connection.knocked (given turn i l).connection.accepted (given turn i l).connection.state (given turn i l).connection.pieces
unfolding given
behind-given k a turn i l p = behind-step k a l.cfg l.connection i turn.clock p

behind-all : (k a : Bool) (turn : Turn) (is : List Input) (l : Life) → Behind k a l.connection.knocked l.connection.accepted l.connection.state l.connection.pieces
    → Behind k a (given_all turn is l).connection.knocked (given_all turn is l).connection.accepted (given_all turn is l).connection.state (given_all turn is l).connection.pieces
behind-all k a turn [] l p = p
behind-all k a turn (i ∷ is) l p = behind-all k a turn is (given turn i l) (behind-given k a turn i l p)

ended-given : (turn : Turn) (i : Input) (l : Life) → is_closed l.connection.state ≡ true → is_closed (given turn i l).connection.state ≡ true
unfolding given
ended-given turn i l e = ended-step l.cfg l.connection i turn.clock e

ended-all : (turn : Turn) (is : List Input) (l : Life) → is_closed l.connection.state ≡ true → is_closed (given_all turn is l).connection.state ≡ true
ended-all turn [] l e = e
ended-all turn (i ∷ is) l e = ended-all turn is (given turn i l) (ended-given turn i l e)

-- a knock that is accepted
job_accepted : (b : Bool) (x y : Job) → (b ≡ true → x.connection.accepted ≡ true) → (b ≡ false → y.connection.accepted ≡ true) → (if b then x else y).connection.accepted ≡ true
job_accepted true x y p q = p refl
job_accepted false x y p q = q refl

accepted-now : (w : Connection) → (accept (record { connection = w; outputs = [] })).connection.accepted ≡ true
unfolding accept
accepted-now w = job_accepted w.accepted _ _ (λ e. e) (λ _. refl)

live-is : (w : Connection) → w.knocked ≡ true → w.shut ≡ false → is_closed w.state ≡ false → is_live w ≡ true
live-is w k s c =
    ap (λ b. (b || w.accepted) && not w.shut && not (is_closed w.state)) k ∙ ap (λ b. not b && not (is_closed w.state)) s ∙ ap not c

accepts : (cfg : Cfg) (w : Connection) (now : ℕ) → w.knocked ≡ true → w.shut ≡ false → is_closed w.state ≡ false → (step cfg w (inputs.Call asks.Accept) now).connection.accepted ≡ true
unfolding step stepped called answered
accepts cfg w now k s c = job_accepted (is_live w) _ _ (λ _. accepted-now w) (λ e. absurd (never (is_live w) (live-is w k s c) e))

accepts-given : (turn : Turn) (l : Life) → l.connection.knocked ≡ true → l.connection.shut ≡ false → is_closed l.connection.state ≡ false → (given turn (inputs.Call asks.Accept) l).connection.accepted ≡ true
unfolding given
accepts-given turn l k s c = accepts l.cfg l.connection turn.clock k s c

-- once accepted, always
stays-accepted : (turn : Turn) (is : List Input) (l : Life) → Behind false false l.connection.knocked l.connection.accepted l.connection.state l.connection.pieces → l.connection.accepted ≡ true → (given_all turn is l).connection.accepted ≡ true
stays-accepted turn is l p e =
    (behind-all false true turn is l (behind-from false true l.connection (λ f. absurd (cc)) (λ _. e) p)).kept refl

-- ## A round
-- of one of which nothing was told there are no calls
quiet-calls : (env : Setting) → env.answer false [] ≡ [] → (l : Life) → l.talk.over ≡ false → Quiet l.talk l.told → calls_of env l ≡ []
unfolding calls_of
quiet-calls env none l o q =
    let answer : answer_now env l ≡ [] = ap (λ b. env.answer b l.told) q.up ∙ ap (env.answer false) q.none ∙ none in
    let left : left_over env l ≡ [] = ap (drop (length l.connection.sent)) answer ∙ drop-none (length l.connection.sent) in
    let no_sends : sends env l ≡ false = ap (λ bs. not (is_empty bs) && (nat_lt l.talk.seen (length (answer_now env l)) || l.talk.room)) left in
    let no_close : closes env l ≡ false = ap (λ b. b && is_empty (left_over env l)) q.finished in
    ap (λ b. if b then [] else call_if l.talk.knocked asks.Accept ++ call_if (nat_lt 0 l.talk.bytes) (asks.RecvDone l.talk.bytes) ++ call_if (sends env l) (asks.Sendv (left_over env l)) ++ call_if (closes env l) asks.Close) o
    ∙ ap (λ b. call_if b asks.Accept ++ call_if (nat_lt 0 l.talk.bytes) (asks.RecvDone l.talk.bytes) ++ call_if (sends env l) (asks.Sendv (left_over env l)) ++ call_if (closes env l) asks.Close) q.knocked
    ∙ ap (λ n. call_if (nat_lt 0 n) (asks.RecvDone n) ++ call_if (sends env l) (asks.Sendv (left_over env l)) ++ call_if (closes env l) asks.Close) q.bytes
    ∙ ap (λ b. call_if b (asks.Sendv (left_over env l)) ++ call_if (closes env l) asks.Close) no_sends
    ∙ ap (λ b. call_if b asks.Close) no_close
  where
    drop-none : (n : ℕ) → drop n (let none : List ℕ = [] in none) ≡ []
    drop-none zero = refl
    drop-none (suc n) = refl

-- the first call after a knock accepts
first-accepts : (env : Setting) (l : Life) → l.talk.over ≡ false → l.talk.knocked ≡ true
    → calls_of env l ≡ inputs.Call asks.Accept ∷ (call_if (nat_lt 0 l.talk.bytes) (asks.RecvDone l.talk.bytes) ++ call_if (sends env l) (asks.Sendv (left_over env l)) ++ call_if (closes env l) asks.Close)
unfolding calls_of
first-accepts env l o k =
    ap (λ b. if b then [] else call_if l.talk.knocked asks.Accept ++ call_if (nat_lt 0 l.talk.bytes) (asks.RecvDone l.talk.bytes) ++ call_if (sends env l) (asks.Sendv (left_over env l)) ++ call_if (closes env l) asks.Close) o
    ∙ ap (λ b. call_if b asks.Accept ++ call_if (nat_lt 0 l.talk.bytes) (asks.RecvDone l.talk.bytes) ++ call_if (sends env l) (asks.Sendv (left_over env l)) ++ call_if (closes env l) asks.Close) k

module _ (env : Setting) (none : env.answer false [] ≡ []) (turn : Turn) (l : Life) (p : Tells l.connection l.talk l.told) where
  abbrev m : Life
  m = given_all turn (calls_of env l) (begun env l)

  waits-round : is_closed m.connection.state ≡ false → m.connection.accepted ≡ false → Waits m.connection.knocked m.connection.shut m.talk m.told
  waits-round living fresh = by_knock l.connection.knocked refl
    where
      was_open : is_closed l.connection.state ≡ false
      was_open = was_false (is_closed l.connection.state) (is_closed m.connection.state) (ended-all turn (calls_of env l) (begun env l)) living

      was_fresh : l.connection.accepted ≡ false
      was_fresh = was_false l.connection.accepted m.connection.accepted (stays-accepted turn (calls_of env l) (begun env l) p.behind) fresh

      v : Waits l.connection.knocked l.connection.shut l.talk l.told
      v = p.waits was_open was_fresh

      by_knock : (k : Bool) → l.connection.knocked ≡ k → Waits m.connection.knocked m.connection.shut m.talk m.told
      by_knock true e =
          let calls = first-accepts env l v.over (v.knock e) in
          let now : (given turn (inputs.Call asks.Accept) (begun env l)).connection.accepted ≡ true = accepts-given turn (begun env l) e v.unshut was_open in
          let rest : List Input = call_if (nat_lt 0 l.talk.bytes) (asks.RecvDone l.talk.bytes) ++ call_if (sends env l) (asks.Sendv (left_over env l)) ++ call_if (closes env l) asks.Close in
          let later : (given_all turn rest (given turn (inputs.Call asks.Accept) (begun env l))).connection.accepted ≡ true =
          stays-accepted turn rest (given turn (inputs.Call asks.Accept) (begun env l)) (behind-given false false turn (inputs.Call asks.Accept) (begun env l) p.behind) now in
          absurd (never m.connection.accepted (ap (λ is. (given_all turn is (begun env l)).connection.accepted) calls ∙ later) fresh)
      by_knock false e =
          let calls : calls_of env l ≡ [] = quiet-calls env none l v.over (v.quiet e) in
          let q : Quiet l.talk l.told = v.quiet e in
          subst (λ is. Waits (given_all turn is (begun env l)).connection.knocked (given_all turn is (begun env l)).connection.shut (given_all turn is (begun env l)).talk (given_all turn is (begun env l)).told) (sym calls)
          (record {
            over = v.over;
            unshut = v.unshut;
            knock = λ f. absurd (never l.connection.knocked f e);
            quiet = λ _. record { knocked = refl; bytes = refl; finished = q.finished; up = q.up; none = q.none };
          })

  tells-calls : Tells m.connection m.talk m.told
  tells-calls = record { behind = behind-all false false turn (calls_of env l) (begun env l) p.behind; waits = waits-round }

tells-round : (env : Setting) → env.answer false [] ≡ [] → (turn : Turn) (l : Life) → Tells l.connection l.talk l.told → Tells (round env turn l).connection (round env turn l).talk (round env turn l).told
unfolding round
tells-round env none turn l p = tells-calls env none turn l p

-- ## Openings
tells-unborn : (cfg : Cfg) (flow : Flow) (mac : List ℕ) (iss : ℕ) → Tells (unborn cfg flow mac iss).connection (unborn cfg flow mac iss).talk (unborn cfg flow mac iss).told
tells-unborn cfg flow mac iss =
    record {
      behind = record { knock = λ e. absurd (cc); kept = λ e. absurd (cc); state = λ e. absurd (cc); parts = λ _. refl };
      waits = λ _ _. record { over = refl; unshut = refl; knock = λ e. absurd (cc); quiet = λ _. record { knocked = refl; bytes = refl; finished = refl; up = refl; none = refl } };
    }

tells-dialled : (env : Setting) (turn : Turn) (flow : Flow) (mac : List ℕ) → Tells (dialled env turn flow mac).connection (dialled env turn flow mac).talk (dialled env turn flow mac).told
unfolding dialled given step stepped called connecting
tells-dialled env turn flow mac =
    record {
      behind = record { knock = λ e. absurd (cc); kept = λ e. absurd (cc); state = λ e. absurd (cc); parts = λ _. refl };
      waits = λ _ _. record { over = refl; unshut = refl; knock = λ e. absurd (cc); quiet = λ _. record { knocked = refl; bytes = refl; finished = refl; up = refl; none = refl } };
    }

tells-kept : (env : Setting) → env.answer false [] ≡ [] → IsKept env (λ l. Tells l.connection l.talk l.told)
unfolding opened
tells-kept env none =
    record {
      opened = λ turn w s. tells-given turn (inputs.Segment w s) (unborn env.cfg s.head.flow s.head.peer_mac (passive_iss env s.head.flow turn.clock)) refl
          (tells-unborn env.cfg s.head.flow s.head.peer_mac (passive_iss env s.head.flow turn.clock));
      dialled = λ turn flow mac. tells-dialled env turn flow mac;
      heard = kept-heard (λ l. Tells l.connection l.talk l.told) (λ turn w s l p. tells-given turn (inputs.Segment w s) l refl p);
      closed = kept-closed env (λ l. Tells l.connection l.talk l.told)
          (record {
            timer = λ turn l p. tells-given turn inputs.Timer l refl p;
            round = λ turn l p. tells-round env none turn l p;
            flush = λ turn l p. tells-given turn inputs.Flush l refl p;
            rested = λ l p. p;
          });
    }

-- ## Between cycles
open-is : (b : Bool) → not b ≡ true → b ≡ false
open-is true e = absurd (cc)
open-is false e = refl

has-told : (env : Setting) (l : Life) → Tells l.connection l.talk l.told → RestsUntouched env l → IsUntouched l → HasTold l
has-told env l p r u =
    record { none = λ alive fresh. by_knock l.connection.knocked refl (p.waits (open-is (is_closed l.connection.state) alive) fresh) fresh }
  where
    by_knock : (k : Bool) → l.connection.knocked ≡ k → Waits l.connection.knocked l.connection.shut l.talk l.told → l.connection.accepted ≡ false → l.connection.pieces ≡ []
    by_knock true e v fresh = absurd (never l.talk.knocked (v.knock e) (r.rests u).unheard.knocked)
    by_knock false e v fresh = p.behind.parts (ap (λ b. b || l.connection.accepted) e ∙ fresh)

all-have : (env : Setting) (ls : List Life) → AllByRecursion (λ l. Tells l.connection l.talk l.told) ls → AllByRecursion (RestsUntouched env) ls → AllByRecursion IsUntouched ls → AllByRecursion HasTold ls
all-have env [] p r u = tt
all-have env (l ∷ ls) p r u = (has-told env l p.0 r.0 u.0, all-have env ls p.1 r.1 u.1)

pub all_told : AllRest → AllTold
all_told rest env none asked cs =
    let r = rest env none asked cs in
    all-have env (run env asked cs).lives (each-run env (λ l. Tells l.connection l.talk l.told) (tells-kept env none) asked cs) r.0 r.1
