-- A connection at rest: what the end of a cycle leaves, and what the end of a cycle does not change.
use Rattle.std.specs.Prelude.{◌≡◌, Bool, false, List, [], length}
use Rattle.std.specs.List.{AllByRecursion}
use Rattle.ix_groupdef.specs.declared.types.Turn.{Turn}
use Rattle.ix_groupdef.specs.Setting.{Setting}
use Rattle.ix_groupdef.specs.Life.{Life}
use Rattle.ix_groupdef.specs.Calls.{answer_now, calls_of, rounds}
use Rattle.ix_groupdef.specs.Group.{Cycle, Connect, timer, closed, run}

-- Nothing was told since the last round of calls.
pub record IsUnheard (env : Setting) (l : Life) : Type 0 where
  pub knocked : l.talk.knocked ≡ false
  pub bytes : l.talk.bytes ≡ 0
  pub room : l.talk.room ≡ false
  pub seen : l.talk.seen ≡ length (answer_now env l)

-- and the application has no call to make
pub record IsAtRest (env : Setting) (l : Life) : Type 0 where
  pub unheard : IsUnheard env l
  pub calls : calls_of env l ≡ []

-- Four rounds bring every connection to rest.
abbrev pub RestsAfter : Type 0
RestsAfter = (env : Setting) (turn : Turn) (l : Life) → IsAtRest env (rounds env turn 4 l)

-- The end of a cycle changes nothing of a connection at rest that had no input in it and whose timer is not due.
abbrev pub ClosedStays : Type 0
ClosedStays = (env : Setting) (timed : Bool) (turn : Turn) (l : Life) → IsAtRest env l → l.touched ≡ false → timer timed turn l ≡ [] → closed env timed turn l ≡ l

-- Who had no input in this cycle is at rest.
pub record RestsUntouched (env : Setting) (l : Life) : Type 0 where
  pub rests : l.touched ≡ false → IsAtRest env l

abbrev pub IsUntouched : Life → Type 0
IsUntouched l = l.touched ≡ false

-- Between cycles all connections are untouched and at rest, where nothing is answered before anything was told.
abbrev pub AllRest : Type 0
AllRest =
    (env : Setting) → env.answer false [] ≡ [] → (asked : List Connect) (cs : List Cycle)
    → AllByRecursion (RestsUntouched env) (run env asked cs).lives × AllByRecursion IsUntouched (run env asked cs).lives
