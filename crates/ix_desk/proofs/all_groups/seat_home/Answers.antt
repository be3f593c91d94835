use Rattle.std.proofs.Common.{◌<◌, ◌∷◌, [], ◌∙◌, length, sym, append_assoc, length-set}
use Rattle.ix_base.specs.declared.id.GroupId.{GroupId}
use Rattle.ix_desk.proofs.Home.{front, last, opened-step}
use Rattle.ix_desk.proofs.all_groups.seat_home.Goals as goal

pub loop-g-preserved : goal.loop-g-preserved
loop-g-preserved g c =
    let inv = c.loop-g.invariant in
    let gs = c.loop-g.groups.items in
    let P = λ (h : GroupId × g.row.U.Denot). h.0.0 < length gs in
    let popped = c.in-Some.ensures.items in
    let all = rw popped at inv.within in
    let sizes = length-set gs c.from.result c.at_home.result in
    let lt : c.from.result < length gs = rw c.from.ensures (last P c.pop.new.self.items (c.in-Some.g, c.in-Some.unit) all) in
    record {
      len = sizes ∙ inv.len;
      within = rw sizes (front P c.pop.new.self.items (c.in-Some.g, c.in-Some.unit) all);
      rest = (c.in-Some.g, c.in-Some.unit) ∷ inv.rest;
      whole = sym (append_assoc c.pop.new.self.items ((c.in-Some.g, c.in-Some.unit) ∷ []) inv.rest) ∙ (rw popped at inv.whole);
      opened = rw c.at_home.ensures (opened-step gs inv.rest (c.in-Some.g, c.in-Some.unit) c.from.result c.from.ensures lt inv.opened);
    }
