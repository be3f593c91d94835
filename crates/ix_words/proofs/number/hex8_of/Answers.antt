use Rattle.std.proofs.Common.{◌<◌, arith}
use Rattle.ix_words.proofs.HexLaws.{hex_room}
use Rattle.ix_words.proofs.number.hex8_of.Goals as goal

pub overflow_mul-number : goal.overflow_mul-number
overflow_mul-number c =
    let at : c.loop-c.c-index < 8 = omega arith in
    omega (arith, hex_room c.loop-c.c-index c.loop-c.number c.loop-c.invariant.0 at)

pub overflow_add-number : goal.overflow_add-number
overflow_add-number c =
    let at : c.loop-c.c-index < 8 = omega arith in
    omega (arith, c.in_ok-digit.ensures.low, hex_room c.loop-c.c-index c.loop-c.number c.loop-c.invariant.0 at)
