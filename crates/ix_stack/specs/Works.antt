-- What the items of a flow group weigh, and how many buffers a group owns.
use Rattle.std.specs.Prelude.{ℕ, ◌+◌, List, sum_by}
use Rattle.ix_base.specs.declared.id.Owned.{Owned}
use Rattle.ix_mbuf.specs.declared.name.Name.{Name}
use Rattle.ix_stack.specs.declared.work.Work.{Work}
use Rattle.ix_stack.specs.declared.work.Work.TheVariants.{Frame, Time}

-- the weight of the buffer of a frame; a time has none
abbrev pub work_weight : (Name → ℕ) → Work → ℕ
work_weight f (Frame x) = f x.buf.name
work_weight f (Time w t) = 0

-- the weights of these items, added up
abbrev pub works_weight : (Name → ℕ) → List Work → ℕ
works_weight f items = sum_by (work_weight f) items

-- how many buffers these are
abbrev pub owned_count : Owned → ℕ
owned_count o = o.held + (o.app + o.queue)
