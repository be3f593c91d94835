-- What is counted over the cores of a settle is what its moment has at the desks.
use Rattle.std.proofs.Common.{◌≤◌, ℕ, ◌∙◌, subst}
use Rattle.ix_appdef.specs.declared.application.Application.{Application}
use Rattle.ix_groupdef.specs.declared.env.Env.{Env}
use Rattle.ix_mbuf.specs.Owners.{one_if}
use Rattle.ix_core.specs.Weights.{desks_weight}
use Rattle.ix_plainstack.specs.Stack.{Drains, Stack, owners_at, stack_weight}
use Rattle.ix_tells.specs.Counts.{BuffersAreOnce, SettlesCount}
use Rattle.ix_owned.specs.Owned.{CoresAreSummed, app_by, frames_at, held_by, queue_by}
use Rattle.ix_owning.specs.Owning.{OwnersAreTold}

pub owners-told : SettlesCount Stack (Env Application) Drains stack_weight owners_at → BuffersAreOnce Stack (Env Application) Drains stack_weight → CoresAreSummed → OwnersAreTold
owners-told counts once sums p buffers m report card card' cores cores' few slots home settles tells desks =
    record {
      homes = λ c h lt.
          let told = counts buffers m.line report card card' cores cores' few slots home settles tells c h lt in
          record {
            desk = told.desk ∙ sums p m cores' desks (frames_at c);
            held = told.held ∙ sums p m cores' desks (held_by c);
            app = told.app ∙ sums p m cores' desks (app_by c);
            queue = told.queue ∙ sums p m cores' desks (queue_by c);
          };
      once = λ id. subst (λ (n : ℕ). n ≤ 1) (sums p m cores' desks (desks_weight (stack_weight (one_if id)) (one_if id))) (once card' cores' home id);
    }
