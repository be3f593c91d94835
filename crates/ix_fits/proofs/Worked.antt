-- The worked plays.
use Rattle.std.proofs.Common.{refl, arith}
use Rattle.ix_eth.specs.Ethernet.{ethernet_of}
use Rattle.ix_seg.specs.Frame.{flow_of_frame}
use Rattle.ix_fits.specs.Cutting.{dues_from}
use Rattle.ix_fits.specs.Read.{cycles_read}
use Rattle.ix_fits.specs.Worked.{FrameBehindTheTag, NoBufferLeft, SettleAtOpenTag, WorkedPlays}

behind : FrameBehindTheTag
unfolding dues_from flow_of_frame ethernet_of cycles_read
behind =
    record {
      fits = refl;
      ring = refl;
      items = refl;
      due = refl;
      one = (_, record { some = omega arith; few = omega arith; tenure = 0; settles = 0; cut = refl }, (_, record { some = omega arith; few = omega arith; tenure = 1; settles = 0; cut = refl }, (_, record { tenure = 1; settles = 0; cut = refl }, refl)));
      two = (_, record { some = omega arith; few = omega arith; tenure = 0; settles = 0; cut = refl }, (_, record { some = omega arith; few = omega arith; tenure = 1; settles = 0; cut = refl }, (_, record { some = omega arith; few = omega arith; tenure = 1; settles = 0; cut = refl }, (_, record { tenure = 1; settles = 0; cut = refl }, refl))));
      read = refl;
    }

open_tag : SettleAtOpenTag
unfolding dues_from
open_tag = record { reached = refl; waits = refl; across = (_, record { some = omega arith; few = omega arith; tenure = 0; settles = 0; cut = refl }, (_, record { some = omega arith; few = omega arith; tenure = 1; settles = 0; cut = refl }, refl)) }

dropped : NoBufferLeft
unfolding flow_of_frame ethernet_of
dropped = record { dropped = refl; counted = refl; posted = refl; full = refl; long = refl; whole = refl; lower = refl }

pub worked_plays : WorkedPlays
worked_plays = record { behind = behind; open_tag = open_tag; dropped = dropped }
