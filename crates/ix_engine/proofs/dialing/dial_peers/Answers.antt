use Rattle.std.proofs.Common.{rules, ◌≡◌, ◌++◌, ◌+◌, [], ◌∷◌, ℕ, length, take, subst, sym, arith}
use Rattle.std.proofs.lemmas.Grind.{common_steps}
use Rattle.std.proofs.lemmas.List.{take_more}
use Rattle.std.specs.Prelude.{slice_index_or}
use Rattle.ix_dials.specs.Dials.{StackConnects}
use Rattle.ix_engine.proofs.Going.{one_more_dial}
use Rattle.ix_engine.proofs.dialing.dial_peers.Goals as goal

-- src/dialing.rt:26:5
pub loop-cookie-preserved : goal.loop-cookie-preserved
loop-cookie-preserved c =
    let peer = slice_index_or c.args.peers.now c.loop-cookie.cookie (0, 0) in
    let place : length (take c.loop-cookie.cookie c.args.peers.now) ≡ c.loop-cookie.cookie = grind (arith, common_steps) in
    let connects : StackConnects c.args.env.now c.loop-cookie.cookie peer c.in_ok-answer.answer c.loop-cookie.core c.connect.new.self = search rules in
    let more = one_more_dial c.args.env.now (take c.loop-cookie.cookie c.args.peers.now) peer c.loop-cookie.told.items c.in_ok-answer.answer c.args.core.now c.loop-cookie.core c.connect.new.self
    c.loop-cookie.invariant (subst (λ (k : ℕ). StackConnects c.args.env.now k peer c.in_ok-answer.answer c.loop-cookie.core c.connect.new.self) (sym place) connects) in
    let longer : take (c.loop-cookie.cookie + 1) c.args.peers.now ≡ take c.loop-cookie.cookie c.args.peers.now ++ peer ∷ [] = take_more c.args.peers.now c.loop-cookie.cookie (0, 0) (search rules) in
    search (rules, longer, more)
