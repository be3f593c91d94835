use Rattle.std.proofs.Common.{ℕ, ◌≡◌, ◌+◌, arith, ap, ◌∙◌, length-append}
use Rattle.ix_reta.specs.declared.table.Row.{Row}
use Rattle.ix_reta.specs.Table.{Table, tenure_of}
use Rattle.ix_reta.proofs.TurnLaws.{turn_steps, tenure_of-bound, AreRows-turned}
use Rattle.ix_reta.proofs.table.Reta.turn.Goals as goal

pub overflow_add-row : goal.overflow_add-row
overflow_add-row c =
    let tenure : c.index_mut-row.result.now.tenure ≡ tenure_of c.self.inside.log.turns c.args.group.0
    = ap (λ (row : Row). row.tenure) (c.index_mut-row.ensures.value ∙ c.self.invariant.1.each c.args.group.0 _ c.requires.group) in
    omega (arith, tenure_of-bound c.self.inside.log.turns c.args.group.0, c.self.invariant.0.1)

pub invariant_of-self : goal.invariant_of-self
invariant_of-self c =
    let tenure : c.index_mut-row.result.now.tenure ≡ tenure_of c.self.inside.log.turns c.args.group.0
    = ap (λ (row : Row). row.tenure) (c.index_mut-row.ensures.value ∙ c.self.invariant.1.each c.args.group.0 _ c.requires.group) in
    let room : c.self.inside.log.room ≡ c.args.self.now.room = ap (λ (t : Table). t.room) c.self.view_is in
    rw c.put.ensures (
      (c.self.invariant.0.0, simp length-append (omega (arith, c.self.invariant.0.1, c.requires.room))),
      AreRows-turned c.self.inside.live c.self.inside.log.turns c.self.inside.rows.items c.args.group c.args.core _ c.requires.group
          (ap (λ (n : ℕ). record { core = c.args.core; tenure = n + 1 }) tenure) c.self.invariant.1,
    )

pub returns-clause-core : goal.returns-clause-core
returns-clause-core c = grind (arith, turn_steps, c.put.ensures)

pub returns-clause-tenure : goal.returns-clause-tenure
returns-clause-tenure c = grind (arith, turn_steps, c.put.ensures)

pub returns-clause-others : goal.returns-clause-others
returns-clause-others c = λ g other. grind (arith, turn_steps, c.put.ensures)

pub returns-clause-other_tenures : goal.returns-clause-other_tenures
returns-clause-other_tenures c = λ g other. grind (arith, turn_steps, c.put.ensures)
