use Rattle.std.proofs.Common.{arith, ◌∙◌}
use Rattle.ix_engine.proofs.Begins.{desks_alone, ready_still}
use Rattle.ix_engine.proofs.Clear.{clear_after}
use Rattle.ix_engine.proofs.beginning.set_out.Goals as goal

pub meet_cores-requires : goal.meet_cores-requires
meet_cores-requires c =
    let alone = desks_alone _ _ _ _ _ c.requires.some c.in_ok-connects.ensures in
    (ready_still _ _ _ alone c.requires.ready).order

pub settle_cores-requires : goal.settle_cores-requires
settle_cores-requires c =
    let alone = desks_alone _ _ _ _ _ c.requires.some c.in_ok-connects.ensures in
    let met = c.meet_cores.ensures in
    (c.meetings_are_ready.ensures _ _ _ _ (omega (arith, alone.count, c.requires.some)) (ready_still _ _ _ alone c.requires.ready) met.card_is met.cores_are met.order met.told).can

pub returns : goal.returns
returns c =
    let alone = desks_alone _ _ _ _ _ c.requires.some c.in_ok-connects.ensures in
    let met = c.meet_cores.ensures in
    let before = c.meetings_are_ready.ensures _ _ _ _ (omega (arith, alone.count, c.requires.some)) (ready_still _ _ _ alone c.requires.ready) met.card_is met.cores_are met.order met.told in
    let settles = c.in_ok-line.ensures.settles in
    let ready = c.settles_are_ready.ensures _ _ _ _ _ _ before.ready settles in
    record {
      sets_out = record {
        dialed = c.dial.new.cores.items;
        dials = c.in_ok-connects.ensures;
        settled = record { card = c.meet_cores.new.nic; cores = c.meet_cores.new.cores.items; met = met; settled = c.in_ok-line.ensures };
      };
      ready = ready;
      clear = clear_after _ _ _ _ _ settles ready;
      table = settles.table ∙ met.card_is.table;
      count = settles.count ∙ met.cores_are.count ∙ alone.count;
    }
