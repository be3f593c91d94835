-- From epoch to epoch, and other loops.
use Rattle.std.proofs.Common.{◌≡◌, ◌+◌, ◌++◌, ℕ, suc, List, [], ◌∷◌, length, refl, ap, sym, subst, ◌∙◌, arith}
use Rattle.std.proofs.lemmas.List.{map-append}
use Rattle.ix_appdef.specs.declared.application.Application.{Application}
use Rattle.ix_base.specs.declared.segment.Ret.{Ret}
use Rattle.ix_dials.specs.Dials.{Dials, StackConnects, connect_line}
use Rattle.ix_groupdef.specs.declared.env.Env.{Env}
use Rattle.ix_lines.specs.declared.types.ConnectLine.{ConnectLine}
use Rattle.ix_lines.specs.declared.types.SettleLine.{SettleLine}
use Rattle.ix_engine.specs.Openings.{StackCore}
use Rattle.ix_engine.specs.Steps.{Engine, EpochStep, EpochSteps, IsDialed}

-- one epoch more
pub one_more_step : (env : Env Application) (x y z : Engine) (line : SettleLine) (lines : List SettleLine) → EpochSteps env x lines y → EpochStep env y z line → EpochSteps env x (lines ++ line ∷ []) z
one_more_step env x y z line [] steps step = (z, (subst (λ (w : Engine). EpochStep env w z line) steps step, refl))
one_more_step env x y z line (l ∷ ls) steps step = (steps.0, (steps.1.0, one_more_step env steps.0 y z line ls steps.1.1 step))

-- one connect more
dial_more : (env : Env Application) (cookie : ℕ) (peers : List (ℕ × ℕ)) (peer : ℕ × ℕ) (rets : List Ret) (ret : Ret) (x y z : StackCore) → Dials env cookie peers rets x y
    → StackConnects env (cookie + length peers) peer ret y z → Dials env cookie (peers ++ peer ∷ []) (rets ++ ret ∷ []) x z
dial_more env cookie [] peer [] ret x y z dials connects =
    let none : cookie + 0 ≡ cookie = omega arith in
    (z, (subst (λ (w : StackCore). StackConnects env cookie peer ret w z) dials (subst (λ (k : ℕ). StackConnects env k peer ret y z) none connects), refl))
dial_more env cookie [] peer (r ∷ rets) ret x y z dials connects = absurd dials
dial_more env cookie (p ∷ peers) peer [] ret x y z dials connects = absurd dials
dial_more env cookie (p ∷ peers) peer (r ∷ rets) ret x y z dials connects =
    let next : cookie + suc (length peers) ≡ suc cookie + length peers = omega arith in
    (dials.0, (dials.1.0, dial_more env (suc cookie) peers peer rets ret dials.0 y z dials.1.1 (subst (λ (k : ℕ). StackConnects env k peer ret y z) next connects)))

pub one_more_dial : (env : Env Application) (peers : List (ℕ × ℕ)) (peer : ℕ × ℕ) (told : List ConnectLine) (ret : Ret) (x y z : StackCore) → IsDialed env peers told x y
    → StackConnects env (length peers) peer ret y z → IsDialed env (peers ++ peer ∷ []) (told ++ connect_line ret ∷ []) x z
one_more_dial env peers peer told ret x y z dialed connects =
    let place : length peers ≡ 0 + length peers = omega arith in
    record {
      rets = dialed.rets ++ ret ∷ [];
      dials = dial_more env 0 peers peer dialed.rets ret x y z dialed.dials (subst (λ (k : ℕ). StackConnects env k peer ret y z) place connects);
      lines = ap (λ (t : List ConnectLine). t ++ connect_line ret ∷ []) dialed.lines ∙ sym (map-append connect_line dialed.rets (ret ∷ []));
    }

pub ruleset for_epochs = (one_more_step)

pub ruleset for_loops = (one_more_step)
