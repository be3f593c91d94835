use Rattle.std.proofs.Common.{◌≡◌, subst, sym}
use Rattle.ix_ring.specs.Ends.{put_list, taken}
use Rattle.ix_nic.specs.Ports.{PortView}
use Rattle.ix_nic.specs.contracts.port.Port.{the_view}
use Rattle.ix_nic.proofs.PortLemmas.{both_keep}
use Rattle.ix_nic.proofs.port.Port.fresh.Goals as goal

pub returns-clause-err : goal.returns-clause-err
returns-clause-err c =
    let empty = subst (λ (v : PortView). put_list v.ring ≡ taken c.args.items.now) (sym c.self.view_is) c.requires.empty in
    let made = c.in_ok-fresh.ensures.ok in
    rw (← c.self.view_is)
    (both_keep c.fresh-2.result (the_view c.self.inside) c.fresh.new.put c.fresh-2.new.take c.args.items.now c.fresh.new.take c.args.posted.now c.fresh-2.new.put
    empty made.0 made.1 c.in_ok-fresh.ensures.pair c.in_ok-fresh.ensures.places c.in_ok-fresh.ensures.room c.fresh-2.ensures.pair c.fresh-2.ensures.places c.fresh-2.ensures.err)
