-- How the items of a step are cut into cycles: frames that follow each other are one cycle, and each time is one.
use Rattle.std.specs.Prelude.{ℕ, Bool, true, false, List, [], ◌∷◌, ◌++◌, map}
use Rattle.ix_base.specs.declared.id.CoreId.{CoreId}
use Rattle.ix_base.specs.declared.id.WireNo.{WireNo}
use Rattle.ix_groupdef.specs.declared.types.Taken.{Taken as Accepted}
use Rattle.ix_groupdef.specs.Group.{Cycle}
use Rattle.ix_groupdef.specs.Group as cycles
use Rattle.ix_stack.specs.declared.work.Taken.{Taken}
use Rattle.ix_stack.specs.declared.work.Work.{Work}
use Rattle.ix_stack.specs.declared.work.Work.TheVariants as works

-- the items of one cycle
pub data Batch : Type 0 where
  Frames : List Taken → Batch
  Time : WireNo → ℕ → Batch

-- frames are a batch, where there are any
abbrev pub batch_of : List Taken → List Batch
batch_of [] = []
batch_of (t ∷ ts) = Frames (t ∷ ts) ∷ []

-- the batches of some items, behind frames that wait for their end
abbrev pub batches_behind : List Taken → List Work → List Batch
batches_behind frames [] = batch_of frames
batches_behind frames (works.Frame t ∷ items) = batches_behind (frames ++ t ∷ []) items
batches_behind frames (works.Time w now ∷ items) = batch_of frames ++ Time w now ∷ batches_behind [] items

abbrev pub batches : List Work → List Batch
batches items = batches_behind [] items

-- a frame as a group takes it: its number, and the bytes in its buffer
abbrev pub accepted_as : Taken → Accepted
accepted_as t = record { w = t.w; frame = t.buf.bytes }

abbrev pub cycle_of : CoreId → Batch → Cycle
cycle_of core (Frames ts) = cycles.Frames core (map accepted_as ts)
cycle_of core (Time w now) = cycles.Time core w now

abbrev pub cycles_of : CoreId → List Batch → List Cycle
cycles_of core bs = map (cycle_of core) bs

abbrev pub frames_in : Batch → List Taken
frames_in (Frames ts) = ts
frames_in (Time w now) = []

-- ## Names
abbrev pub work_number : Work → ℕ
work_number (works.Frame t) = t.w.0
work_number (works.Time w now) = w.0

abbrev pub is_frame_work : Work → Bool
is_frame_work (works.Frame t) = true
is_frame_work (works.Time w now) = false
