use Rattle.std.proofs.Common.{arith}
use Rattle.ix_engine.proofs.Clear.{clear_after}
use Rattle.ix_engine.proofs.course.step.Goals as goal

-- src/course.rt:74:16
pub settle_cores-requires : goal.settle_cores-requires
settle_cores-requires g c = (c.epochs_are_ready.ensures _ _ _ _ _ c.requires.can.some c.requires.can.ready c.in_ok-nic.ensures.ran).can

-- src/course.rt:48:1
pub returns-clause-can : goal.returns-clause-can
returns-clause-can g c =
    let before = c.epochs_are_ready.ensures _ _ _ _ _ c.requires.can.some c.requires.can.ready c.in_ok-nic.ensures.ran in
    let settles = c.in_ok-line.ensures.settles in
    let ready = c.settles_are_ready.ensures _ _ _ _ _ _ before.ready settles in
    record {
      ready = ready;
      some = omega (arith, c.requires.can.some, c.in_ok-nic.ensures.ran.cores.count, settles.count);
      feed = λ lt.
          c.cards_stay_fed.ensures.settles _ _ _ c.in_ok-nic.ensures.feed c.in_ok-nic.ensures.ran.over.ended.0 settles.table settles.ports
          (clear_after _ _ _ _ _ settles ready) lt;
    }
