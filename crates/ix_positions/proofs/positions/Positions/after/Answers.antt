use Rattle.std.proofs.Common.{◌≡◌, ap, sym, ◌∙◌}
use Rattle.std.specs.Prelude.{Result, Ok, Err, IfOk}
use Rattle.ix_base.specs.declared.memory.NoMemory.{NoMemory}
use Rattle.ix_positions.specs.declared.positions.Positions.{Positions}
use Rattle.ix_positions.specs.Positions.{further}
use Rattle.ix_positions.proofs.OpeningLemmas.{positions_follow}
use Rattle.ix_positions.proofs.positions.Positions.after.Goals as goal

if_ok_to : (r : Result Positions NoMemory) (a b : Positions) → a ≡ b → IfOk r (λ p. p ≡ a) → IfOk r (λ p. p ≡ b)
if_ok_to (Ok p) a b e h = h ∙ e
if_ok_to (Err n) a b e h = h

pub returns-clause-value : goal.returns-clause-value
returns-clause-value c cfg w input now small written window s here next =
    if_ok_to c.numbered.result _ _
    (ap (further c.args.old.now c.args.new.now) here
    ∙ sym (positions_follow c.positions_go_onward.ensures.steps c.positions_go_onward.ensures.follows cfg c.args.old.now c.args.new.now w input now small written window s next))
    c.numbered.ensures.value
