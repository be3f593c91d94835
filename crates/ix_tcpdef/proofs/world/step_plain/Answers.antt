use Rattle.std.proofs.Common.{◌≡◌, rules, subst, sym}
use Rattle.ix_tcpdef.specs.Step.{step}
use Rattle.ix_tcpdef.specs.Sound.{IsKept, HasOpened}
use Rattle.ix_tcpdef.proofs.OpeningLemmas.{steps_open}
use Rattle.ix_tcpdef.proofs.KeptStep.{kept-step}
use Rattle.ix_tcpdef.specs.Laws.{SendsFairly}
use Rattle.ix_tcpdef.proofs.FairStep.{fair-step}
use Rattle.ix_tcpdef.specs.declared.types.Connection.{Connection}
use Rattle.ix_tcpdef.specs.declared.types.Job.{Job}
use Rattle.ix_tcpdef.proofs.world.step_plain.Goals as goal

kept : (c : goal.In_ok-make_step) → IsKept c.args.cfg.now c.make_step.new.job.connection
unfolding step
kept c =
    let e : c.make_step.new.job.connection ≡ (step c.args.cfg.now c.args.world.now c.args.input.now c.args.now).connection = search rules in
    let k : IsKept c.args.cfg.now c.args.world.now = record { sound = search rules; standing = c.requires.standing } in
    subst (λ (w : Connection). IsKept c.args.cfg.now w) (sym e) (kept-step c.args.cfg.now c.args.world.now c.args.input.now c.args.now c.requires.cfg c.requires.written c.in_ok-make_step.ensures.window k)

opened : (c : goal.In_ok-make_step) → HasOpened c.make_step.new.job.connection
unfolding step
opened c =
    let e : c.make_step.new.job.connection ≡ (step c.args.cfg.now c.args.world.now c.args.input.now c.args.now).connection = search rules in
    let o : HasOpened c.args.world.now = search rules in
    subst HasOpened (sym e) (steps_open c.args.cfg.now c.args.world.now c.args.input.now c.args.now o)

fair : (c : goal.In_ok-make_step) → SendsFairly c.args.world.now c.make_step.new.job.connection c.make_step.new.job.outputs
unfolding step
fair c =
    let e : c.make_step.new.job ≡ step c.args.cfg.now c.args.world.now c.args.input.now c.args.now = search rules in
    let k : IsKept c.args.cfg.now c.args.world.now = record { sound = search rules; standing = c.requires.standing } in
    subst (λ (j : Job). SendsFairly c.args.world.now j.connection j.outputs) (sym e) (fair-step c.args.cfg.now c.args.world.now c.args.input.now c.args.now k)

pub invariant_of-result : goal.invariant_of-result
invariant_of-result c = record { sound = (kept c).sound; opened = opened c }

pub returns-clause-sound : goal.returns-clause-sound
returns-clause-sound c = (kept c).sound

pub returns-clause-opened : goal.returns-clause-opened
returns-clause-opened c = opened c

pub returns-clause-standing : goal.returns-clause-standing
returns-clause-standing c = (kept c).standing

pub returns-clause-frames : goal.returns-clause-frames
returns-clause-frames c = fair c
