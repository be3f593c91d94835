-- Four rounds bring a connection to rest, and the end of a cycle leaves one at rest as it is.
use Rattle.std.proofs.Common.{◌≡◌, ℕ, zero, suc, refl, sym, ap, ◌∙◌, subst, Bool, true, false, List, [], ◌∷◌, ◌++◌, length, append-nil, drop, map, arith}
use Rattle.std.specs.Prelude.{if◌then◌else◌, nat_lt, ◌&&◌, ◌||◌, not}
use Rattle.std.specs.List.{AllByRecursion}
use Rattle.std.proofs.lemmas.Bool.Decides.{nat_tests}
use Rattle.ix_base.specs.declared.id.Flow.{Flow}
use Rattle.ix_base.specs.declared.segment.Ret.{Ret}
use Rattle.ix_base.specs.declared.segment.Ret.TheVariants as rets
use Rattle.ix_tcpdef.specs.declared.types.Ask.{Ask}
use Rattle.ix_tcpdef.specs.declared.types.Ask.TheVariants as asks
use Rattle.ix_tcpdef.specs.declared.types.Input.{Input}
use Rattle.ix_tcpdef.specs.declared.types.Input.TheVariants as inputs
use Rattle.ix_tcpdef.specs.declared.types.Output.{Output}
use Rattle.ix_tcpdef.specs.declared.types.Output.TheVariants as outputs
use Rattle.ix_tcpdef.specs.declared.types.Told.{Told}
use Rattle.ix_tcpdef.specs.declared.types.Told.TheVariants as told
use Rattle.ix_groupdef.specs.declared.types.JournalEntry.{JournalEntry}
use Rattle.ix_groupdef.specs.declared.types.Talk.{Talk}
use Rattle.ix_groupdef.specs.declared.types.Turn.{Turn}
use Rattle.ix_groupdef.specs.Setting.{Setting}
use Rattle.ix_groupdef.specs.Talk.{noted_told, noted_ret, noted, noted_all, asked}
use Rattle.ix_groupdef.specs.Life.{Life, unborn, given, given_all, outputs_of, journal_with, all_named}
use Rattle.ix_groupdef.specs.Calls.{is_empty, call_if, answer_now, left_over, sends, closes, calls_of, begun, round, rounds}
use Rattle.ix_groupdef.specs.Group.{Group, Cycle, Frames, Time, opened, dialled, timer, flush_of, rested, closed, run_cycle, run_cycles, connect_all, empty}
use Rattle.ix_groupdef.specs.Rest.{IsUnheard, IsAtRest, RestsAfter, ClosedStays, RestsUntouched, IsUntouched, AllRest}
use Rattle.ix_groupdef.proofs.Keeps.{IsKept, kept-heard, kept-round, given_all-append, by_test_inputs, by_test_life, each-run, each-connect_all}
use Rattle.ix_groupdef.proofs.Quiet.{none_again}
use Rattle.ix_groupdef.proofs.SentLaws.{sent-step}
use Rattle.ix_groupdef.proofs.Silent.{IsUntold, AreUntold, IsNoKnock, HaveNoKnock, is_accept, untold-flush, untold-call, no_knock-call}

-- ## What outputs that are no event leave of the talk
talk-ret : (r : Ret) (t : Talk) → noted_ret r t ≡ record t { over = (noted_ret r t).over }
talk-ret rets.BadHandle t = refl
talk-ret _ t = refl

talk-noted : (o : Output) (t : Talk) → IsUntold o → noted o t ≡ record t { over = (noted o t).over }
talk-noted (outputs.Frame seg) t u = refl
talk-noted (outputs.Told x) t u = absurd u
talk-noted (outputs.Ret r) t u = talk-ret r t

talk-noted_all : (os : List Output) (t : Talk) → AreUntold os → noted_all os t ≡ record t { over = (noted_all os t).over }
talk-noted_all [] t u = refl
talk-noted_all (o ∷ os) t u =
    talk-noted_all os (noted o t) u.1 ∙ ap (λ (s : Talk). record s { over = (noted_all os (noted o t)).over }) (talk-noted o t u.0)

talk-ask : (a : Ask) (t : Talk) → asked (inputs.Call a) t ≡ record t { over = (asked (inputs.Call a) t).over }
talk-ask asks.Close t = refl
talk-ask _ t = refl

talk-asked : (i : Input) (t : Talk) → asked i t ≡ record t { over = (asked i t).over }
talk-asked (inputs.Call a) t = talk-ask a t
talk-asked (inputs.Segment w seg) t = refl
talk-asked inputs.Timer t = refl
talk-asked inputs.Flush t = refl

named-untold : (os : List Output) (js : List JournalEntry) → AreUntold os → all_named os js ≡ []
named-untold [] js u = refl
named-untold (outputs.Frame seg ∷ os) js u = named-untold os js u.1
named-untold (outputs.Told x ∷ os) js u = absurd (u.0)
named-untold (outputs.Ret r ∷ os) js u = named-untold os js u.1

-- ## Once no call follows, none ever does
over-told : (x : Told) (t : Talk) → t.over ≡ true → (noted_told x t).over ≡ true
over-told told.Knock t e = e
over-told told.ConnectedUp t e = e
over-told told.ConnectedRefused t e = refl
over-told told.ConnectedTimeout t e = refl
over-told (told.Recv w from len) t e = e
over-told told.RecvEnd t e = e
over-told (told.Sent bytes window) t e = e
over-told told.DeadReset t e = refl
over-told told.DeadTimeout t e = refl

over-ret : (r : Ret) (t : Talk) → t.over ≡ true → (noted_ret r t).over ≡ true
over-ret rets.BadHandle t e = refl
over-ret _ t e = e

over-noted : (o : Output) (t : Talk) → t.over ≡ true → (noted o t).over ≡ true
over-noted (outputs.Frame seg) t e = e
over-noted (outputs.Told x) t e = over-told x t e
over-noted (outputs.Ret r) t e = over-ret r t e

over-noted_all : (os : List Output) (t : Talk) → t.over ≡ true → (noted_all os t).over ≡ true
over-noted_all [] t e = e
over-noted_all (o ∷ os) t e = over-noted_all os (noted o t) (over-noted o t e)

-- ## An input that tells nothing
record IsSilent (l m : Life) : Type 0 where
  talk : m.talk ≡ record l.talk { over = m.talk.over }
  told : m.told ≡ l.told

silent-given : (turn : Turn) (i : Input) (l : Life) → AreUntold (outputs_of turn i l) → IsSilent l (given turn i l)
unfolding given
silent-given turn i l u =
    record {
      talk = talk-noted_all (outputs_of turn i l) (asked i l.talk) u ∙ ap (λ (s : Talk). record s { over = (noted_all (outputs_of turn i l) (asked i l.talk)).over }) (talk-asked i l.talk);
      told = ap (λ bs. l.told ++ bs) (named-untold (outputs_of turn i l) (journal_with turn i l) u) ∙ append-nil l.told;
    }

answer-silent : (env : Setting) (l m : Life) → IsSilent l m → answer_now env m ≡ answer_now env l
answer-silent env l m s = ap (λ b. env.answer b m.told) (ap (λ (t : Talk). t.up) s.talk) ∙ ap (env.answer l.talk.up) s.told

unheard-silent : (env : Setting) (l m : Life) → IsSilent l m → IsUnheard env l → IsUnheard env m
unheard-silent env l m s u =
    record {
      knocked = ap (λ (t : Talk). t.knocked) s.talk ∙ u.knocked;
      bytes = ap (λ (t : Talk). t.bytes) s.talk ∙ u.bytes;
      room = ap (λ (t : Talk). t.room) s.talk ∙ u.room;
      seen = ap (λ (t : Talk). t.seen) s.talk ∙ u.seen ∙ ap length (sym (answer-silent env l m s));
    }

-- ## The calls of one that was told nothing
over_calls : (env : Setting) (l : Life) → l.talk.over ≡ true → calls_of env l ≡ []
unfolding calls_of
over_calls env l e =
    ap (λ (b : Bool). if b then [] else (call_if l.talk.knocked asks.Accept ++ call_if (nat_lt 0 l.talk.bytes) (asks.RecvDone l.talk.bytes) ++ call_if (sends env l) (asks.Sendv (left_over env l)) ++ call_if (closes env l) asks.Close)) e

sends_not : (env : Setting) (l : Life) → IsUnheard env l → sends env l ≡ false
sends_not env l u =
    let same : nat_lt l.talk.seen (length (answer_now env l)) ≡ false = ap (λ n. nat_lt n (length (answer_now env l))) u.seen ∙ irreflexive (length (answer_now env l)) in
    ap (λ (b : Bool). not (is_empty (left_over env l)) && (b || l.talk.room)) same
    ∙ ap (λ (b : Bool). not (is_empty (left_over env l)) && (false || b)) u.room
    ∙ by_case (not (is_empty (left_over env l)))
  where
    irreflexive : (n : ℕ) → nat_lt n n ≡ false
    irreflexive n = grind (arith, nat_tests)

    by_case : (b : Bool) → (b && (false || false)) ≡ false
    by_case true = refl
    by_case false = refl

-- only Close is left
unheard_calls : (env : Setting) (l : Life) → IsUnheard env l → calls_of env l ≡ (if l.talk.over then [] else call_if (closes env l) asks.Close)
unfolding calls_of
unheard_calls env l u =
    ap (λ (b : Bool). if l.talk.over then [] else (call_if b asks.Accept ++ call_if (nat_lt 0 l.talk.bytes) (asks.RecvDone l.talk.bytes) ++ call_if (sends env l) (asks.Sendv (left_over env l)) ++ call_if (closes env l) asks.Close)) u.knocked
    ∙ ap (λ (n : ℕ). if l.talk.over then [] else (call_if (nat_lt 0 n) (asks.RecvDone n) ++ call_if (sends env l) (asks.Sendv (left_over env l)) ++ call_if (closes env l) asks.Close)) u.bytes
    ∙ ap (λ (b : Bool). if l.talk.over then [] else (call_if b (asks.Sendv (left_over env l)) ++ call_if (closes env l) asks.Close)) (sends_not env l u)

closed_calls : (env : Setting) (l : Life) → IsUnheard env l → closes env l ≡ false → calls_of env l ≡ []
closed_calls env l u e =
    unheard_calls env l u ∙ ap (λ (b : Bool). if l.talk.over then [] else call_if b asks.Close) e ∙ by_case l.talk.over
  where
    by_case : (b : Bool) → (let none : List Input = [] in if b then none else none) ≡ []
    by_case true = refl
    by_case false = refl

-- ## A round
unheard-begun : (env : Setting) (l : Life) → IsUnheard env (begun env l)
unheard-begun env l = record { knocked = refl; bytes = refl; room = refl; seen = refl }

-- after any round no Knock is new
unknocked-noted : (o : Output) (t : Talk) → IsNoKnock o → t.knocked ≡ false → (noted o t).knocked ≡ false
unknocked-noted (outputs.Frame seg) t n e = e
unknocked-noted (outputs.Told x) t n e = by_event x n
  where
    by_event : (x : Told) → IsNoKnock (outputs.Told x) → (noted_told x t).knocked ≡ false
    by_event told.Knock n = absurd n
    by_event told.ConnectedUp n = e
    by_event told.ConnectedRefused n = e
    by_event told.ConnectedTimeout n = e
    by_event (told.Recv w from len) n = e
    by_event told.RecvEnd n = e
    by_event (told.Sent bytes window) n = e
    by_event told.DeadReset n = e
    by_event told.DeadTimeout n = e
unknocked-noted (outputs.Ret r) t n e = by_answer r
  where
    by_answer : (r : Ret) → (noted_ret r t).knocked ≡ false
    by_answer rets.BadHandle = e
    by_answer _ = e

unknocked-noted_all : (os : List Output) (t : Talk) → HaveNoKnock os → t.knocked ≡ false → (noted_all os t).knocked ≡ false
unknocked-noted_all [] t n e = e
unknocked-noted_all (o ∷ os) t n e = unknocked-noted_all os (noted o t) n.1 (unknocked-noted o t n.0 e)

unknocked-call : (turn : Turn) (a : Ask) (l : Life) → l.talk.knocked ≡ false → (given turn (inputs.Call a) l).talk.knocked ≡ false
unfolding given
unknocked-call turn a l e =
    unknocked-noted_all (outputs_of turn (inputs.Call a) l) (asked (inputs.Call a) l.talk) (no_knock-call l.cfg l.connection a turn.clock)
    (ap (λ (t : Talk). t.knocked) (talk-ask a l.talk) ∙ e)

unknocked-round : (env : Setting) (turn : Turn) (l : Life) → (round env turn l).talk.knocked ≡ false
unknocked-round env turn l = kept-round (λ m. m.talk.knocked ≡ false) unknocked-call env turn l refl

-- after a round without Accept nothing is new
unheard-call_if : (env : Setting) (turn : Turn) (b : Bool) (a : Ask) (l : Life) → is_accept a ≡ false → IsUnheard env l → IsUnheard env (given_all turn (call_if b a) l)
unheard-call_if env turn true a l e u =
    unheard-silent env l (given turn (inputs.Call a) l) (silent-given turn (inputs.Call a) l (untold-call l.cfg l.connection a turn.clock e)) u
unheard-call_if env turn false a l e u = u

unheard-round : (env : Setting) (turn : Turn) (l : Life) → l.talk.knocked ≡ false → IsUnheard env (round env turn l)
unfolding round calls_of
unheard-round env turn l k =
    by_test_inputs (λ is. IsUnheard env (given_all turn is (begun env l))) l.talk.over _ _ (unheard-begun env l)
    (rw (given_all-append, given_all-append, given_all-append)
    (unheard-call_if env turn (closes env l) asks.Close _ refl
    (unheard-call_if env turn (sends env l) (asks.Sendv (left_over env l)) _ refl
    (unheard-call_if env turn (nat_lt 0 l.talk.bytes) (asks.RecvDone l.talk.bytes) _ refl
    (subst (λ b. IsUnheard env (given_all turn (call_if b asks.Accept) (begun env l))) (sym k) (unheard-begun env l))))))

-- a round without calls
quiet-round : (env : Setting) (turn : Turn) (l : Life) → calls_of env l ≡ [] → IsAtRest env (round env turn l)
unfolding round
quiet-round env turn l e =
    subst (IsAtRest env) (ap (λ is. given_all turn is (begun env l)) (sym e)) (record { unheard = unheard-begun env l; calls = none_again env l e })

over-close : (turn : Turn) (l : Life) → (given turn (inputs.Call asks.Close) l).talk.over ≡ true
unfolding given
over-close turn l = over-noted_all (outputs_of turn (inputs.Call asks.Close) l) (asked (inputs.Call asks.Close) l.talk) refl

-- where nothing was new, the round leaves it at rest
rest-close : (env : Setting) (turn : Turn) (l : Life) → calls_of env l ≡ inputs.Call asks.Close ∷ [] → IsAtRest env (round env turn l)
unfolding round
rest-close env turn l one =
    subst (IsAtRest env) (ap (λ is. given_all turn is (begun env l)) (sym one))
    (record {
      unheard = unheard-call_if env turn true asks.Close (begun env l) refl (unheard-begun env l);
      calls = over_calls env _ (over-close turn (begun env l));
    })

one_call : (env : Setting) (l : Life) → IsUnheard env l → l.talk.over ≡ false → closes env l ≡ true → calls_of env l ≡ inputs.Call asks.Close ∷ []
one_call env l u o c =
    unheard_calls env l u ∙ ap (λ (b : Bool). if b then [] else call_if (closes env l) asks.Close) o ∙ ap (λ b. call_if b asks.Close) c

rest-round : (env : Setting) (turn : Turn) (l : Life) → IsUnheard env l → IsAtRest env (round env turn l)
rest-round env turn l u = by_case l.talk.over (closes env l) refl refl
  where
    by_case : (a b : Bool) → l.talk.over ≡ a → closes env l ≡ b → IsAtRest env (round env turn l)
    by_case true b o c = quiet-round env turn l (over_calls env l o)
    by_case false false o c = quiet-round env turn l (closed_calls env l u c)
    by_case false true o c = rest-close env turn l (one_call env l u o c)

-- ## At rest a round changes nothing
stays-begun : (env : Setting) (l : Life) → IsUnheard env l → begun env l ≡ l
stays-begun env l u =
    ap (λ b. record l { talk = record l.talk { knocked = b; bytes = 0; room = false; seen = length (answer_now env l) } }) (sym u.knocked)
    ∙ ap (λ n. record l { talk = record l.talk { bytes = n; room = false; seen = length (answer_now env l) } }) (sym u.bytes)
    ∙ ap (λ b. record l { talk = record l.talk { room = b; seen = length (answer_now env l) } }) (sym u.room)
    ∙ ap (λ n. record l { talk = record l.talk { seen = n } }) (sym u.seen)

stays-round : (env : Setting) (turn : Turn) (l : Life) → IsAtRest env l → round env turn l ≡ l
unfolding round
stays-round env turn l r = ap (λ is. given_all turn is (begun env l)) r.calls ∙ stays-begun env l r.unheard

stays-rounds : (env : Setting) (turn : Turn) (n : ℕ) (l : Life) → IsAtRest env l → rounds env turn n l ≡ l
unfolding rounds
stays-rounds env turn zero l r = refl
stays-rounds env turn (suc n) l r =
    by_test_life (λ m. m ≡ l) (is_empty (calls_of env l)) _ _ (stays-round env turn l r)
    (ap (rounds env turn n) (stays-round env turn l r) ∙ stays-rounds env turn n l r)

-- ## Four rounds
empty_is : (is : List Input) → is_empty is ≡ true → is ≡ []
empty_is [] e = refl
empty_is (i ∷ is) e = absurd (cc)

by_quiet : (P : Life → Type 0) (b : Bool) (x y : Life) → (b ≡ true → P x) → P y → P (if b then x else y)
by_quiet P true x y p q = p refl
by_quiet P false x y p q = q

module _ (env : Setting) (turn : Turn) where
  quiet : (l : Life) → is_empty (calls_of env l) ≡ true → IsAtRest env (round env turn l)
  quiet l e = quiet-round env turn l (empty_is (calls_of env l) e)

  from_rest : (n : ℕ) (l : Life) → IsAtRest env l → IsAtRest env (rounds env turn n l)
  from_rest n l r = subst (IsAtRest env) (sym (stays-rounds env turn n l r)) r

  from_unheard : (n : ℕ) (l : Life) → IsUnheard env l → IsAtRest env (rounds env turn (suc n) l)
  unfolding rounds
  from_unheard n l u = by_quiet (IsAtRest env) (is_empty (calls_of env l)) _ _ (quiet l) (from_rest n (round env turn l) (rest-round env turn l u))

  from_unknocked : (n : ℕ) (l : Life) → l.talk.knocked ≡ false → IsAtRest env (rounds env turn (suc (suc n)) l)
  unfolding rounds
  from_unknocked n l k = by_quiet (IsAtRest env) (is_empty (calls_of env l)) _ _ (quiet l) (from_unheard n (round env turn l) (unheard-round env turn l k))

  -- three are enough
  from_any : (n : ℕ) (l : Life) → IsAtRest env (rounds env turn (suc (suc (suc n))) l)
  unfolding rounds
  from_any n l = by_quiet (IsAtRest env) (is_empty (calls_of env l)) _ _ (quiet l) (from_unknocked n (round env turn l) (unknocked-round env turn l))

pub rests_after : RestsAfter
rests_after env turn l = from_any env turn 1 l

-- ## The end of a cycle
pub closed_stays : ClosedStays
unfolding closed
closed_stays env timed turn l r untouched none =
    ap (λ is. ending (rounds env turn 4 (given_all turn is l))) none
    ∙ ap ending (stays-rounds env turn 4 l r)
    ∙ ap (λ (b : Bool). rested (given_all turn (if b then inputs.Flush ∷ [] else []) l)) untouched
    ∙ ap (λ b. record l { touched = b }) (sym untouched)
  where
    ending : Life → Life
    ending a = rested (given_all turn (flush_of a) a)

over-flush : (turn : Turn) (l : Life) → l.talk.over ≡ true → (given turn inputs.Flush l).talk.over ≡ true
unfolding given
over-flush turn l e = over-noted_all (outputs_of turn inputs.Flush l) l.talk e

sent-flush : (turn : Turn) (l : Life) → (given turn inputs.Flush l).connection.sent ≡ l.connection.sent
unfolding given
sent-flush turn l = sent-step l.cfg l.connection inputs.Flush turn.clock refl

rest-flush : (env : Setting) (turn : Turn) (l : Life) → IsAtRest env l → IsAtRest env (given turn inputs.Flush l)
rest-flush env turn l r =
    record { unheard = unheard-silent env l m silent r.unheard; calls = by_case l.talk.over (closes env l) refl refl }
  where
    m : Life
    m = given turn inputs.Flush l

    silent : IsSilent l (given turn inputs.Flush l)
    silent = silent-given turn inputs.Flush l (untold-flush l.cfg l.connection turn.clock)

    same_closes : closes env (given turn inputs.Flush l) ≡ closes env l
    same_closes =
        ap (λ (b : Bool). b && is_empty (left_over env m)) (ap (λ (t : Talk). t.finished) silent.talk)
        ∙ ap (λ (s : List ℕ). l.talk.finished && is_empty (drop (length s) (answer_now env m))) (sent-flush turn l)
        ∙ ap (λ (a : List ℕ). l.talk.finished && is_empty (drop (length l.connection.sent) a)) (answer-silent env l m silent)

    by_case : (a b : Bool) → l.talk.over ≡ a → closes env l ≡ b → calls_of env (given turn inputs.Flush l) ≡ []
    by_case true b o c = over_calls env m (over-flush turn l o)
    by_case false false o c = closed_calls env m (unheard-silent env l m silent r.unheard) (same_closes ∙ c)
    by_case false true o c =
        let one : calls_of env l ≡ inputs.Call asks.Close ∷ [] = one_call env l r.unheard o c in
        let two : inputs.Call asks.Close ∷ [] ≡ [] = sym one ∙ r.calls in
        absurd (cc)

rest-rested : (env : Setting) (l : Life) → IsAtRest env l → IsAtRest env (rested l)
unfolding calls_of
rest-rested env l r =
    record { unheard = record { knocked = r.unheard.knocked; bytes = r.unheard.bytes; room = r.unheard.room; seen = r.unheard.seen }; calls = r.calls }

rest-flush_if : (env : Setting) (turn : Turn) (b : Bool) (l : Life) → IsAtRest env l → IsAtRest env (given_all turn (if b then inputs.Flush ∷ [] else []) l)
rest-flush_if env turn true l r = rest-flush env turn l r
rest-flush_if env turn false l r = r

pub rest-closed : (env : Setting) (timed : Bool) (turn : Turn) (l : Life) → IsAtRest env (closed env timed turn l)
unfolding closed
rest-closed env timed turn l =
    let a : Life = rounds env turn 4 (given_all turn (timer timed turn l) l) in
    rest-rested env _ (rest-flush_if env turn a.touched a (rests_after env turn (given_all turn (timer timed turn l) l)))

pub untouched-closed : (env : Setting) (timed : Bool) (turn : Turn) (l : Life) → (closed env timed turn l).touched ≡ false
unfolding closed
untouched-closed env timed turn l = refl

-- ## Runs
pub rests-given : (env : Setting) (turn : Turn) (i : Input) (l : Life) → RestsUntouched env (given turn i l)
unfolding given
rests-given env turn i l = record { rests = λ e. absurd (cc) }

pub rest-dialled : (env : Setting) → env.answer false [] ≡ [] → (turn : Turn) (flow : Flow) (mac : List ℕ) → IsAtRest env (dialled env turn flow mac)
unfolding dialled
rest-dialled env none turn flow mac = rest-rested env _ (asked_for _)
  where
    asked_for : (iss : ℕ) → IsAtRest env (given turn (inputs.Call asks.Connect) (unborn env.cfg flow mac iss))
    asked_for iss =
        let u : Life = unborn env.cfg flow mac iss in
        let m : Life = given turn (inputs.Call asks.Connect) u in
        let s : IsSilent u m = silent-given turn (inputs.Call asks.Connect) u (untold-call u.cfg u.connection asks.Connect turn.clock refl) in
        let h : IsUnheard env m = unheard-silent env u m s (record { knocked = refl; bytes = refl; room = refl; seen = ap length (sym none) }) in
        record { unheard = h; calls = closed_calls env m h (ap (λ (b : Bool). b && is_empty (left_over env m)) (ap (λ (t : Talk). t.finished) s.talk)) }

rests-kept : (env : Setting) → env.answer false [] ≡ [] → IsKept env (RestsUntouched env)
unfolding opened
rests-kept env none =
    record {
      opened = λ turn w s. rests-given env turn (inputs.Segment w s) _;
      dialled = λ turn flow mac. record { rests = λ _. rest-dialled env none turn flow mac };
      heard = kept-heard (RestsUntouched env) (λ turn w s l _. rests-given env turn (inputs.Segment w s) l);
      closed = λ timed turn l _. record { rests = λ _. rest-closed env timed turn l };
    }

untouched-map : (env : Setting) (timed : Bool) (turn : Turn) (ls : List Life) → AllByRecursion IsUntouched (map (closed env timed turn) ls)
untouched-map env timed turn [] = tt
untouched-map env timed turn (l ∷ ls) = (untouched-closed env timed turn l, untouched-map env timed turn ls)

pub untouched-run_cycle : (env : Setting) (c : Cycle) (g : Group) → AllByRecursion IsUntouched (run_cycle env c g).lives
unfolding run_cycle
untouched-run_cycle env (Frames core ts) g = untouched-map env false _ _
untouched-run_cycle env (Time core w t) g = untouched-map env true _ _

untouched-run_cycles : (env : Setting) (cs : List Cycle) (g : Group) → AllByRecursion IsUntouched g.lives → AllByRecursion IsUntouched (run_cycles env cs g).lives
untouched-run_cycles env [] g p = p
untouched-run_cycles env (c ∷ cs) g p = untouched-run_cycles env cs (run_cycle env c g) (untouched-run_cycle env c g)

untouched-dialled : (env : Setting) (turn : Turn) (flow : Flow) (mac : List ℕ) → IsUntouched (dialled env turn flow mac)
unfolding dialled
untouched-dialled env turn flow mac = refl

pub all_rest : AllRest
all_rest env none asked cs = (
  each-run env (RestsUntouched env) (rests-kept env none) asked cs,
  untouched-run_cycles env cs (connect_all env asked empty) (each-connect_all env IsUntouched (untouched-dialled env) asked empty tt),
)
