use Rattle.std.proofs.Common.{◌≤◌, ap, arith, drop, length, rules, subst, sym, take, ◌∙◌, ◌-◌, ℕ, List}
use Rattle.std.specs.Prelude.{All}
use Rattle.ix_wire.specs.Records.{records_in}
use Rattle.ix_wire.proofs.RecordLaws.{IsBetween, between_read}
use Rattle.ix_wire.proofs.records.Records.between.Goals as goal

pub offset_bounds-deref-start : goal.offset_bounds-deref-start
offset_bounds-deref-start c =
    let between : IsBetween c.self.inside.own.now c.self.inside.others.items c.index-start.result.now c.index-end.result.now c.args.from c.args.to
    = between_read c.self.inside.own.now c.self.inside.others.items c.self.inside.before.items c.args.from c.args.to
    c.index-start.result.now c.index-end.result.now c.self.invariant c.requires.order (rw c.self.view_is c.requires.within)
    c.index-start.ensures c.index-end.ensures in
    let forward : c.index-start.result.now ≤ c.index-end.result.now = between.forward in
    let within : c.index-end.result.now ≤ length c.deref.result.now = omega (arith, between.within, ap length c.deref.ensures.value) in
    omega (arith, c.deref.type_inv.1)

pub slice_bounds-result-count : goal.slice_bounds-result-count
slice_bounds-result-count c =
    let between : IsBetween c.self.inside.own.now c.self.inside.others.items c.index-start.result.now c.index-end.result.now c.args.from c.args.to
    = between_read c.self.inside.own.now c.self.inside.others.items c.self.inside.before.items c.args.from c.args.to
    c.index-start.result.now c.index-end.result.now c.self.invariant c.requires.order (rw c.self.view_is c.requires.within)
    c.index-start.ensures c.index-end.ensures in
    let forward : c.index-start.result.now ≤ c.index-end.result.now = between.forward in
    let within : c.index-end.result.now ≤ length c.deref.result.now = omega (arith, between.within, ap length c.deref.ensures.value) in
    forward

pub slice_bounds-result-start : goal.slice_bounds-result-start
slice_bounds-result-start c =
    let between : IsBetween c.self.inside.own.now c.self.inside.others.items c.index-start.result.now c.index-end.result.now c.args.from c.args.to
    = between_read c.self.inside.own.now c.self.inside.others.items c.self.inside.before.items c.args.from c.args.to
    c.index-start.result.now c.index-end.result.now c.self.invariant c.requires.order (rw c.self.view_is c.requires.within)
    c.index-start.ensures c.index-end.ensures in
    let forward : c.index-start.result.now ≤ c.index-end.result.now = between.forward in
    let within : c.index-end.result.now ≤ length c.deref.result.now = omega (arith, between.within, ap length c.deref.ensures.value) in
    search rules

pub slice_bounds-result-end : goal.slice_bounds-result-end
slice_bounds-result-end c =
    let between : IsBetween c.self.inside.own.now c.self.inside.others.items c.index-start.result.now c.index-end.result.now c.args.from c.args.to
    = between_read c.self.inside.own.now c.self.inside.others.items c.self.inside.before.items c.args.from c.args.to
    c.index-start.result.now c.index-end.result.now c.self.invariant c.requires.order (rw c.self.view_is c.requires.within)
    c.index-start.ensures c.index-end.ensures in
    let forward : c.index-start.result.now ≤ c.index-end.result.now = between.forward in
    let within : c.index-end.result.now ≤ length c.deref.result.now = omega (arith, between.within, ap length c.deref.ensures.value) in
    search rules

pub returns-clause-records : goal.returns-clause-records
returns-clause-records c =
    let between : IsBetween c.self.inside.own.now c.self.inside.others.items c.index-start.result.now c.index-end.result.now c.args.from c.args.to
    = between_read c.self.inside.own.now c.self.inside.others.items c.self.inside.before.items c.args.from c.args.to
    c.index-start.result.now c.index-end.result.now c.self.invariant c.requires.order (rw c.self.view_is c.requires.within)
    c.index-start.ensures c.index-end.ensures in
    ap (λ (l : List ℕ). take (c.index-end.result.now - c.index-start.result.now) (drop c.index-start.result.now l)) c.deref.ensures.value
    ∙ between.part ∙ ap (λ own. records_in own c.args.from c.args.to) c.self.view_is

pub returns-clause-bound : goal.returns-clause-bound
returns-clause-bound c =
    let between : IsBetween c.self.inside.own.now c.self.inside.others.items c.index-start.result.now c.index-end.result.now c.args.from c.args.to
    = between_read c.self.inside.own.now c.self.inside.others.items c.self.inside.before.items c.args.from c.args.to
    c.index-start.result.now c.index-end.result.now c.self.invariant c.requires.order (rw c.self.view_is c.requires.within)
    c.index-start.ensures c.index-end.ensures in
    subst (λ (l : List ℕ). All (λ r. r ≤ c.args.to) (take (c.index-end.result.now - c.index-start.result.now) (drop c.index-start.result.now l)))
    (sym c.deref.ensures.value) between.bound
