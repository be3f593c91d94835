use Rattle.std.proofs.Common.{◌≡◌, ◌++◌, drop, map}
use Rattle.ix_fits.specs.Owners.{waiting_from}
use Rattle.ix_out.specs.Out.{out_at}
use Rattle.ix_out.specs.declared.frames_out.Place.TheVariants.{Desk}
use Rattle.ix_out.proofs.frames_out.push_waiting.Given as goal

abbrev pub invariant-loop-w : goal.invariant-loop-w
invariant-loop-w l =
    l.outs.items ++ map (out_at Desk) (waiting_from l.group.0 l.reached l.w (drop l.w l.done))
    ≡ l.fn.outs.items ++ map (out_at Desk) (waiting_from l.group.0 l.reached 0 l.done)
