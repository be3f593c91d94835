use Rattle.std.proofs.Common.{arith}
use Rattle.ix_play.proofs.Bytes.{bytes_each, frames_bytes}
use Rattle.ix_play.proofs.playing.frames_are_bytes.Goals as goal

pub returns : goal.returns
returns c = frames_bytes c.args.bytes.now c.args.capture.now (bytes_each c.args.bytes.now (λ i lt. omega (arith, c.type_inv.bytes i)))
