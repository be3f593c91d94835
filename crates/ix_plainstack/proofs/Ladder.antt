-- What each input of a connection keeps, a segment and the end of a cycle keep.
use Rattle.std.proofs.Common.{◌≡◌, ℕ, zero, suc, refl, Bool, true, false, List, [], ◌∷◌, ◌++◌}
use Rattle.std.specs.Prelude.{if◌then◌else◌, ◌&&◌, nat_lt}
use Rattle.ix_base.specs.declared.id.WireNo.{WireNo}
use Rattle.ix_base.specs.declared.segment.Seg.{Seg}
use Rattle.ix_tcpdef.specs.Flush.{is_due}
use Rattle.ix_tcpdef.specs.declared.types.Ask.{Ask}
use Rattle.ix_tcpdef.specs.declared.types.Ask.TheVariants as asks
use Rattle.ix_tcpdef.specs.declared.types.Input.{Input}
use Rattle.ix_tcpdef.specs.declared.types.Input.TheVariants as inputs
use Rattle.ix_groupdef.specs.declared.types.Turn.{Turn}
use Rattle.ix_groupdef.specs.Setting.{Setting}
use Rattle.ix_groupdef.specs.Life.{Life, hears, given, given_all}
use Rattle.ix_groupdef.specs.Calls.{call_if, calls_of, sends, closes, left_over, begun, round, rounds, is_empty}
use Rattle.ix_groupdef.specs.Group.{heard, timer, flush_of, rested, closed}

-- ## Facts that a test chooses
pub by_test_life : (P : Life → Type 0) (b : Bool) (x y : Life) → P x → P y → P (if b then x else y)
by_test_life P true x y p q = p
by_test_life P false x y p q = q

by_test_inputs : (P : List Input → Type 0) (b : Bool) (x y : List Input) → P x → P y → P (if b then x else y)
by_test_inputs P true x y p q = p
by_test_inputs P false x y p q = q

-- ## Kept at the timer, at a round of calls as a whole, and at a flush
pub record IsKeptAtEnd (env : Setting) (P : Life → Type 0) : Type 0 where
  pub timer : (turn : Turn) (l : Life) → P l → P (given turn inputs.Timer l)
  pub round : (turn : Turn) (l : Life) → P l → P (round env turn l)
  pub flush : (turn : Turn) (l : Life) → P l → P (given turn inputs.Flush l)
  pub rested : (l : Life) → P l → P (rested l)

module _ (env : Setting) (P : Life → Type 0) (k : IsKeptAtEnd env P) where
  kept-rounds : (turn : Turn) (n : ℕ) (l : Life) → P l → P (rounds env turn n l)
  unfolding rounds
  kept-rounds turn zero l p = p
  kept-rounds turn (suc n) l p =
      by_test_life P (is_empty (calls_of env l)) _ _ (k.round turn l p) (kept-rounds turn n (round env turn l) (k.round turn l p))

  -- at most one input, where a test says so
  kept-if : (turn : Turn) (b : Bool) (i : Input) (l : Life) → P l → P (given turn i l) → P (given_all turn (if b then i ∷ [] else []) l)
  kept-if turn true i l p q = q
  kept-if turn false i l p q = p

  pub kept-closed : (timed : Bool) (turn : Turn) (l : Life) → P l → P (closed env timed turn l)
  unfolding closed
  kept-closed timed turn l p =
      let a : Life = given_all turn (timer timed turn l) l in
      let b : Life = rounds env turn 4 a in
      let timed : P a = kept-if turn (timed && is_due l.connection.deadline turn.clock) inputs.Timer l p (k.timer turn l p) in
      let called : P b = kept-rounds turn 4 a timed in
      k.rested (given_all turn (flush_of b) b) (kept-if turn b.touched inputs.Flush b called (k.flush turn b called))

-- ## Kept at each input
pub given_all-append : (turn : Turn) (is js : List Input) (l : Life) → given_all turn (is ++ js) l ≡ given_all turn js (given_all turn is l)
given_all-append turn [] js l = refl
given_all-append turn (i ∷ is) js l = given_all-append turn is js (given turn i l)

module _ (P : Life → Type 0) (call : (turn : Turn) (a : Ask) (l : Life) → P l → P (given turn (inputs.Call a) l)) where
  pub kept-call_if : (turn : Turn) (b : Bool) (a : Ask) (l : Life) → P l → P (given_all turn (call_if b a) l)
  kept-call_if turn true a l p = call turn a l p
  kept-call_if turn false a l p = p

  pub kept-round : (env : Setting) (turn : Turn) (l : Life) → P (begun env l) → P (round env turn l)
  unfolding round calls_of
  kept-round env turn l p =
      by_test_inputs (λ is. P (given_all turn is (begun env l))) l.talk.over _ _ p
      (rw (given_all-append, given_all-append, given_all-append)
      (kept-call_if turn (closes env l) asks.Close _
      (kept-call_if turn (sends env l) (asks.Sendv (left_over env l)) _
      (kept-call_if turn (nat_lt 0 l.talk.bytes) (asks.RecvDone l.talk.bytes) _
      (kept-call_if turn l.talk.knocked asks.Accept (begun env l) p)))))

pub record IsKeptByAll (env : Setting) (P : Life → Type 0) : Type 0 where
  pub given : (turn : Turn) (i : Input) (l : Life) → P l → P (given turn i l)
  pub begun : (l : Life) → P l → P (begun env l)
  pub rested : (l : Life) → P l → P (rested l)

pub at_end_by_all : (env : Setting) (P : Life → Type 0) → IsKeptByAll env P → IsKeptAtEnd env P
at_end_by_all env P k =
    record {
      timer = λ turn l p. k.given turn inputs.Timer l p;
      round = λ turn l p. kept-round P (λ turn a l p. k.given turn (inputs.Call a) l p) env turn l (k.begun l p);
      flush = λ turn l p. k.given turn inputs.Flush l p;
      rested = k.rested;
    }

pub kept-heard : (P : Life → Type 0) → ((turn : Turn) (w : WireNo) (s : Seg) (l : Life) → P l → P (given turn (inputs.Segment w s) l))
    → (turn : Turn) (w : WireNo) (s : Seg) (l : Life) → P l → P (heard turn w s l)
unfolding heard
kept-heard P k turn w s l p = by_test_life P (hears s.head.flow l) _ l (k turn w s l p) p
