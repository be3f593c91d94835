use Rattle.std.proofs.Common.{◌≡◌, ◌≤◌, drop}
use Rattle.ix_words.specs.Numbers.{digits_from}
use Rattle.ix_words.proofs.number.number_of.Given as goal

abbrev pub invariant-loop-digit : goal.invariant-loop-digit
invariant-loop-digit l = (l.number ≤ l.high) × (digits_from l.high l.number (drop l.digit-index l.word) ≡ digits_from l.high 0 l.word)
