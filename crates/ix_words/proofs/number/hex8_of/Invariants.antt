use Rattle.std.proofs.Common.{◌≡◌, ◌<◌, ◌^◌, drop}
use Rattle.ix_words.specs.Numbers.{hex_from}
use Rattle.ix_words.proofs.number.hex8_of.Given as goal

abbrev pub invariant-loop-c : goal.invariant-loop-c
invariant-loop-c l = (l.number < 16 ^ l.c-index) × (hex_from l.number (drop l.c-index l.word) ≡ hex_from 0 l.word)
