use Rattle.std.proofs.Common.{◌≡◌, ◌+◌, ℕ}
use Rattle.ix_mbuf.specs.declared.name.Name.{Name}
use Rattle.ix_groupdef.specs.Env.{setting_of}
use Rattle.ix_groupdef.specs.Owners.{sends_parts}
use Rattle.ix_stack.specs.Works.{works_weight}
use Rattle.ix_plainstack.specs.Batches.{batches, batches_behind}
use Rattle.ix_plainstack.specs.Kept.{frames_weight}
use Rattle.ix_plainstack.specs.Owning.{IsReached, buffered_weight, run_batches}
use Rattle.ix_plainstack.proofs.owning.OwningGroup.step_items.Given as goal

abbrev pub invariant-loop-item : goal.invariant-loop-item
invariant-loop-item l =
    record {
      reached : IsReached (setting_of l.env) l.fn.self.group → IsReached (setting_of l.env) l.self.group;
      same : IsReached (setting_of l.env) l.fn.self.group → run_batches (sends_parts l.env.app) (setting_of l.env) l.core (batches_behind l.frames.items l.item-iterator.rest.items) l.self ≡ run_batches (sends_parts l.env.app) (setting_of l.env) l.core (batches l.fn.items.items) l.fn.self;
      weight : (f : Name → ℕ) → buffered_weight f l.self.buffers + frames_weight f l.frames.items + works_weight f l.item-iterator.rest.items ≡ buffered_weight f l.fn.self.buffers + works_weight f l.fn.items.items;
    }
