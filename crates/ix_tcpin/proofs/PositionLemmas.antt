-- Numbers against positions.
use Rattle.std.proofs.Common.{◌≡◌, ℕ, ◌+◌, ◌≤◌, true, false, arith}
use Rattle.std.proofs.lemmas.Int.{ints}
use Rattle.ix_base.specs.Sequence.{number, ahead, is_past}
use Rattle.ix_tcpdef.specs.Positions.{CountsAhead, TestsPast, TellsApart, GoesOn, FindsPosition}

-- a number past SND.UNA and not past SND.NXT stands for a position in between
pub advance_most : (start una nxt x : ℕ) → una ≤ nxt → nxt ≤ una + 65536 → is_past (number start una) x ≡ true → is_past (number start nxt) x ≡ false → una + ahead (number start una) x ≤ nxt
unfolding is_past
advance_most start una nxt x order flight past not_past = grind (arith, ints)

pub counts_ahead : CountsAhead
counts_ahead start p q from near = omega arith

pub tests_past : TestsPast
unfolding is_past
tests_past start p q up down = grind (arith, ints)

pub tells_apart : TellsApart
tells_apart start p q from near same = omega arith

pub goes_on : GoesOn
goes_on start p n = omega arith

pub finds_position : FindsPosition
finds_position start p x fits = omega arith
