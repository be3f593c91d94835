use Rattle.std.proofs.Common.{◌≡◌, ℕ, List, [], ◌++◌, ◌∙◌, ap, subst, arith}
use Rattle.std.proofs.lemmas.Grind.{common_steps}
use Rattle.std.specs.Prelude.{Option, option_to_list}
use Rattle.ix_base.specs.declared.role.Role.{Role}
use Rattle.ix_base.proofs.Files.{Filling, filling_first, filling_next, filling_done}
use Rattle.ix_base.proofs.mem.MemHost.fill.Goals as goal

pub loop-role-init : goal.loop-role-init
loop-role-init c = filling_first _ _

-- the files left are those after the pop, and the one popped
pub loop-role-preserved : goal.loop-role-preserved
loop-role-preserved c =
    let popped = c.pop.ensures.items ∙ ap (λ (o : Option (Role × List ℕ)). c.pop.new.self.items ++ option_to_list o) c.in-Some.is in
    filling_next _ _ (c.in-Some.role, c.in-Some.bytes) _ _ _
    (subst (λ (rest : List (Role × List ℕ)). Filling c.args.files.items rest c.args.self.now c.loop-role.self) popped c.loop-role.invariant) c.place.ensures

pub returns : goal.returns
returns c =
    let none : c.loop-role.rest.items ≡ [] = grind (arith, common_steps) in
    filling_done _ _ _ (subst (λ (rest : List (Role × List ℕ)). Filling c.args.files.items rest c.args.self.now c.loop-role.self) none c.loop-role.invariant)
