-- The answers after which a worker leaves its epoch.
use Rattle.std.specs.Prelude.{ℕ, ◌+◌, Bool, true, false, nat_le, Result, Ok, Err}
use Rattle.ix_base.specs.declared.memory.NoMemory.{NoMemory}
use Rattle.ix_run.specs.declared.actors.Turn.{Turn}
use Rattle.ix_run.specs.declared.actors.Turn.TheVariants.{Ended, Idle, Worked}

-- the number of idle turns in a row, after one more answer
abbrev pub idle_after : ℕ → Result Turn NoMemory → ℕ
idle_after n (Ok Idle) = n + 1
idle_after n (Ok (Ended frames)) = 0
idle_after n (Ok (Worked frames)) = 0
idle_after n (Err e) = 0

-- whether the worker leaves: it has ended, found no memory, or was idle this many times in a row
abbrev pub leaves_after : ℕ → ℕ → Result Turn NoMemory → Bool
leaves_after most n (Ok Idle) = nat_le most (n + 1)
leaves_after most n (Ok (Ended frames)) = true
leaves_after most n (Ok (Worked frames)) = false
leaves_after most n (Err e) = true
