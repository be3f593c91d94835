-- An arrival under way over numbers: the numbers so far, and the verdict so far.
use Rattle.std.specs.Prelude.{Bool, true, false, ◌&&◌, not, if◌then◌else◌, List, [], ◌∷◌, ◌++◌, map, Some, None}
use Rattle.ix_base.specs.declared.segment.SegHead.{SegHead}
use Rattle.ix_tcpdef.specs.declared.types.HeldHead.{HeldHead}
use Rattle.ix_tcpdef.specs.declared.types.State.TheVariants as st
use Rattle.ix_tcpdef.specs.declared.types.Tcb.{Tcb}
use Rattle.ix_tcpdef.specs.declared.types.Told.{Told}
use Rattle.ix_tcpin.specs.declared.verdict.HeldUse.{HeldUse}
use Rattle.ix_tcpin.specs.declared.verdict.HeldUse.TheVariants as uses
use Rattle.ix_tcpin.specs.declared.verdict.Take.TheVariants as takes
use Rattle.ix_tcpin.specs.declared.verdict.Verdict.{Verdict}

pub record Work : Type 0 where
  pub numbers : Tcb
  pub verdict : Verdict

abbrev pub work : Tcb → Verdict → Work
work t v = record { numbers = t; verdict = v }

abbrev pub on : Work → Tcb → Work
on k t = work t k.verdict

-- what a part leaves: the segment goes on to the next part, or it is done with
pub data Course : Type 0 where
  Onward : Work → Course
  Done : Work → Course

abbrev pub along : Course → (Work → Course) → Course
along (Onward k) f = f k
along (Done k) f = Done k

-- what a function leaves that answers whether the segment is done with
abbrev pub course : Bool → Work → Course
course true k = Done k
course false k = Onward k

abbrev pub work_of : Course → Work
work_of (Onward k) = k
work_of (Done k) = k

-- ## The verdict
-- what is held stays so
abbrev pub keep : HeldHead → HeldUse
keep _ = uses.Keep

abbrev pub dropped : HeldUse → HeldUse
dropped uses.Keep = uses.Drop
dropped u = u

-- a verdict to begin with
abbrev pub blank : List HeldHead → Verdict
blank held =
    record { reply = None; take = takes.Nothing; held = record { items = map keep held }; acked = 0; told = record { items = [] }; ended = false }

abbrev pub replies : Work → SegHead → Work
replies k h = record k { verdict = record k.verdict { reply = Some h } }

abbrev pub announces : Work → Told → Work
announces k t = record k { verdict = record k.verdict { told = record { items = k.verdict.told.items ++ t ∷ [] } } }

-- an event of an accepted connection, which is not told of one that the application closed
abbrev pub tells : Work → Told → Work
tells k t = if k.numbers.accepted && not k.numbers.shut then announces k t else k

-- The connection ends: it is CLOSED, no deadline stands and nothing is held.
abbrev pub closed : Tcb → Tcb
closed t = record t { state = st.Closed; deadline = None; held = record { items = [] } }

abbrev pub let_go : Verdict → Verdict
let_go v = record v { held = record { items = map dropped v.held.items } }

abbrev pub ends : Work → Work
ends k = work (closed k.numbers) (record (let_go k.verdict) { ended = true })
