-- What a connection holds and was delivered, as far as it is not done with it, weighs no more after a step than before, but for the
-- segment that came.
use Rattle.std.proofs.Common.{◌≡◌, ℕ, ◌+◌, ◌-◌, ◌≤◌, min, refl, sym, ap, ◌∙◌, subst, Bool, true, false, List, [], ◌∷◌, length, arith}
use Rattle.std.specs.Prelude.{if◌then◌else◌, ◌&&◌, ◌||◌, not, nat_lt, nat_le, sum_by}
use Rattle.std.proofs.lemmas.Bool.Decides.{nat_tests}
use Rattle.std.proofs.lemmas.List.Sums.{sum_by-cons}
use Rattle.ix_tcpdef.specs.Connection.{is_closed}
use Rattle.ix_tcpdef.specs.Lived.{HasLived}
use Rattle.ix_tcpdef.specs.Onward.{knows_peer}
use Rattle.ix_tcpdef.specs.Step.{step}
use Rattle.ix_tcpdef.specs.declared.types.Cfg.{Cfg}
use Rattle.ix_tcpdef.specs.declared.types.Connection.{Connection}
use Rattle.ix_tcpdef.specs.declared.types.HeldSegment.{HeldSegment}
use Rattle.ix_tcpdef.specs.declared.types.Input.{Input}
use Rattle.ix_tcpdef.specs.declared.types.Piece.{Piece}
use Rattle.ix_groupdef.specs.Life.{Life}
use Rattle.ix_groupdef.specs.Owners.{ended_from, told_parts}
use Rattle.ix_plainstack.specs.Out.{part_out, out_of, HasTold}
use Rattle.ix_plainstack.proofs.Owes.{held_sum, part_sum, parts_sum, Owes, input_weight, acked_from, ok-step}
use Rattle.ix_plainstack.proofs.Ended.{ended-step}

-- how many bytes of the told parts are taken to be sent and acknowledged
abbrev pub done_with : Connection → ℕ
done_with w = min (length w.sent) (w.una - 1)

abbrev pub wide : (ℕ → ℕ) → Bool → Connection → ℕ
wide f whole w = held_sum f w.held + (if whole && not (is_closed w.state) then parts_sum f (done_with w) 0 w.pieces else 0)

-- ## The more is done with, the less is out
part-less : (f : ℕ → ℕ) (done more end n : ℕ) → done ≤ more → (if nat_lt more end then f n else 0) ≤ (if nat_lt done end then f n else 0)
part-less f done more end n le = by_case (nat_lt more end) (nat_lt done end) refl refl
  where
    by_case : (a b : Bool) → nat_lt more end ≡ a → nat_lt done end ≡ b → (if a then f n else 0) ≤ (if b then f n else 0)
    by_case true true p q = omega arith
    by_case true false p q = absurd (grind (arith, nat_tests))
    by_case false true p q = omega arith
    by_case false false p q = omega arith

parts-less : (f : ℕ → ℕ) (done more told : ℕ) (ps : List Piece) → done ≤ more → parts_sum f more told ps ≤ parts_sum f done told ps
parts-less f done more told [] le = omega arith
parts-less f done more told (p ∷ ps) le =
    omega (arith, part-less f done more (told + length p.bytes) p.w.0 le, parts-less f done more (told + length p.bytes) ps le)

acked-le : (b : Bool) (una : ℕ) → (if b then una else 0) ≤ una
acked-le true una = omega arith
acked-le false una = omega arith

-- ## A step
module _ (f : ℕ → ℕ) (whole : Bool) (cfg : Cfg) (w : Connection) (i : Input) (now : ℕ) (lived : HasLived w) where
  abbrev after : Connection
  after = (step cfg w i now).connection

  owes : Owes f (λ done. held_sum f w.held + parts_sum f done 0 w.pieces + input_weight f i) (held_sum f w.held + input_weight f i) (acked_from w.state w.una) (length w.sent) 0 after.held after.pieces after.una after.sent
  owes =
      ok-step f (λ done. held_sum f w.held + parts_sum f done 0 w.pieces + input_weight f i) (held_sum f w.held + input_weight f i) (length w.sent) cfg w i now
      (record { weight = λ done. omega arith; alone = omega arith; acked = acked-le (knows_peer w.state) w.una; taken = omega arith })

  shrunk : (k : Bool) → knows_peer w.state ≡ k → parts_sum f (done_with after) 0 w.pieces ≤ parts_sum f (done_with w) 0 w.pieces
  shrunk true e =
      let una : w.una ≤ after.una = subst (λ b. (if b then w.una else 0) ≤ after.una) e owes.acked in
      parts-less f (done_with w) (done_with after) 0 w.pieces (omega (arith, una, owes.taken))
  shrunk false e =
      let none : w.pieces ≡ [] = lived.none e in
      subst (λ ps. parts_sum f (done_with after) 0 ps ≤ parts_sum f (done_with w) 0 ps) (sym none) (omega arith)

  abbrev goal_at : Bool → Bool → Bool → Type 0
  goal_at a b c = held_sum f after.held + (if a && not c then parts_sum f (done_with after) 0 after.pieces else 0)
      ≤ held_sum f w.held + (if a && not b then parts_sum f (done_with w) 0 w.pieces else 0) + input_weight f i

  by_case : (a b c : Bool) → is_closed w.state ≡ b → is_closed after.state ≡ c → goal_at a b c
  by_case false b c p q = omega (arith, owes.alone)
  by_case true true true p q = omega (arith, owes.alone)
  by_case true false true p q = omega (arith, owes.alone)
  by_case true false false p q = omega (arith, owes.weight (done_with after), shrunk (knows_peer w.state) refl)
  by_case true true false p q = let still : is_closed after.state ≡ true = ended-step cfg w i now p in absurd (cc)

  pub wide-step : wide f whole (step cfg w i now).connection ≤ wide f whole w + input_weight f i
  wide-step = by_case whole (is_closed w.state) (is_closed after.state) refl refl

-- ## What is out is no more than that, and where all parts were told it is that
out-test : (taken acked end : ℕ) → (nat_lt taken end || (nat_le end taken && nat_lt acked end)) ≡ nat_lt (min taken acked) end
out-test taken acked end = by_case (nat_lt taken end) (nat_le end taken) (nat_lt acked end) (nat_lt (min taken acked) end) refl refl refl refl
  where
    by_case : (a b c d : Bool) → nat_lt taken end ≡ a → nat_le end taken ≡ b → nat_lt acked end ≡ c → nat_lt (min taken acked) end ≡ d → (a || (b && c)) ≡ d
    by_case true b c true p q r s = refl
    by_case true b c false p q r s = absurd (grind (arith, nat_tests))
    by_case false true true true p q r s = refl
    by_case false true true false p q r s = absurd (grind (arith, nat_tests))
    by_case false true false true p q r s = absurd (grind (arith, nat_tests))
    by_case false true false false p q r s = refl
    by_case false false true true p q r s = absurd (grind (arith, nat_tests))
    by_case false false false true p q r s = absurd (grind (arith, nat_tests))
    by_case false false true false p q r s = refl
    by_case false false false false p q r s = refl

pub parts-out : (f : ℕ → ℕ) (w : Connection) (told : ℕ) (ps : List Piece) → sum_by (part_out f w) (ended_from told ps) ≡ parts_sum f (done_with w) told ps
parts-out f w told [] = refl
parts-out f w told (p ∷ ps) =
    sum_by-cons (part_out f w) (record { w = p.w; end = told + length p.bytes }) (ended_from (told + length p.bytes) ps)
    ∙ ap (λ (b : Bool). (if b then f p.w.0 else 0) + sum_by (part_out f w) (ended_from (told + length p.bytes) ps)) (out-test (length w.sent) (w.una - 1) (told + length p.bytes))
    ∙ ap (λ n. part_sum f (done_with w) (told + length p.bytes) p.w + n) (parts-out f w (told + length p.bytes) ps)

held-out : (f : ℕ → ℕ) (hs : List HeldSegment) → sum_by (λ (h : HeldSegment). f h.w.0) hs ≡ held_sum f hs
held-out f [] = refl
held-out f (h ∷ hs) = sum_by-cons (λ (h : HeldSegment). f h.w.0) h hs ∙ ap (λ n. f h.w.0 + n) (held-out f hs)

told-out : (f : ℕ → ℕ) (w : Connection) (a : Bool) → sum_by (part_out f w) (ended_from 0 (if a then w.pieces else [])) ≤ parts_sum f (done_with w) 0 w.pieces
told-out f w true = omega (arith, parts-out f w 0 w.pieces)
told-out f w false = omega arith

pub out-wide : (f : ℕ → ℕ) (whole : Bool) (l : Life) → out_of f whole l ≤ wide f whole l.connection
out-wide f whole l = by_case (whole && not (is_closed l.connection.state))
  where
    by_case : (b : Bool) → sum_by (λ (h : HeldSegment). f h.w.0) l.connection.held + (if b then sum_by (part_out f l.connection) (told_parts l.connection) else 0)
        ≤ held_sum f l.connection.held + (if b then parts_sum f (done_with l.connection) 0 l.connection.pieces else 0)
    by_case true = omega (arith, held-out f l.connection.held, told-out f l.connection l.connection.accepted)
    by_case false = omega (arith, held-out f l.connection.held)

pub wide-out : (f : ℕ → ℕ) (whole : Bool) (l : Life) → HasTold l → wide f whole l.connection ≤ out_of f whole l
wide-out f whole l told = by_case whole (is_closed l.connection.state) l.connection.accepted refl refl
  where
    by_case : (a b c : Bool) → is_closed l.connection.state ≡ b → l.connection.accepted ≡ c
        → held_sum f l.connection.held + (if a && not b then parts_sum f (done_with l.connection) 0 l.connection.pieces else 0)
        ≤ sum_by (λ (h : HeldSegment). f h.w.0) l.connection.held + (if a && not b then sum_by (part_out f l.connection) (ended_from 0 (if c then l.connection.pieces else [])) else 0)
    by_case false b c p q = omega (arith, held-out f l.connection.held)
    by_case true true c p q = omega (arith, held-out f l.connection.held)
    by_case true false true p q = omega (arith, held-out f l.connection.held, parts-out f l.connection 0 l.connection.pieces)
    by_case true false false p q =
        let none : l.connection.pieces ≡ [] = told.none (ap not p) q in
        let nothing : parts_sum f (done_with l.connection) 0 l.connection.pieces ≡ 0 = ap (parts_sum f (done_with l.connection) 0) none in
        omega (arith, held-out f l.connection.held, nothing)
