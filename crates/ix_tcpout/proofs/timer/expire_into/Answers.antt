use Rattle.std.proofs.Common.{◌≡◌, false, ap, sym, ◌∙◌, subst}
use Rattle.std.specs.List.{All}
use Rattle.std.proofs.lemmas.List.Elements.{All-nil}
use Rattle.ix_tcpdef.specs.Flush.{is_due}
use Rattle.ix_tcpdef.specs.Stands.{tcb_of, send_queue, StandsFor}
use Rattle.ix_tcpdef.specs.Step.{is_alive, step}
use Rattle.ix_tcpdef.specs.declared.types.Connection.{Connection}
use Rattle.ix_tcpdef.specs.declared.types.Input.TheVariants as inputs
use Rattle.ix_tcpdef.specs.declared.types.Job.{Job}
use Rattle.ix_tcpdef.specs.declared.types.Tcb.{Tcb}
use Rattle.ix_tcpout.specs.declared.outs.Outs.{Outs}
use Rattle.ix_tcpout.specs.Given.{outputs_of, has_ended, LeavesBytes, LiesIn}
use Rattle.ix_tcpout.specs.Expiry.{fired}
use Rattle.ix_tcpout.proofs.RangeLemmas.{lies-fired}
use Rattle.ix_tcpout.proofs.ExpiryLemmas.{FiresAs, expiry_stands, idle_stands, idle-ended, bytes_idle}
use Rattle.ix_tcpout.proofs.timer.expire_into.Goals as goal

-- ## A connection that doesn't live
dead : (c : goal.After-clear) (w : Connection) → StandsFor c.args.cfg.now c.args.tcb.now w → is_alive w.state ≡ false
dead c w s = sym (ap (λ (t : Tcb). is_alive t.state) s.numbers) ∙ sym c.is_alive.ensures ∙ c.if-not-is_alive.true

pub returns-then-not-is_alive-clause-stands : goal.returns-then-not-is_alive-clause-stands
returns-then-not-is_alive-clause-stands c w s =
    c.numbers_stand_on.ensures.on c.args.cfg.now c.args.tcb.now c.args.tcb.now w inputs.Timer c.args.now tt tt s
    (s.numbers ∙ ap (λ (j : Job). tcb_of j.connection) (sym (idle_stands c.args.cfg.now c.args.now w (dead c w s))))

pub returns-then-not-is_alive-clause-outputs : goal.returns-then-not-is_alive-clause-outputs
returns-then-not-is_alive-clause-outputs c w s =
    ap (outputs_of (send_queue w)) c.clear.ensures ∙ ap (λ (j : Job). j.outputs) (sym (idle_stands c.args.cfg.now c.args.now w (dead c w s)))

pub returns-then-not-is_alive-clause-bytes : goal.returns-then-not-is_alive-clause-bytes
returns-then-not-is_alive-clause-bytes c w s =
    subst (λ (j : Job). LeavesBytes w j.connection) (sym (idle_stands c.args.cfg.now c.args.now w (dead c w s))) (bytes_idle w)

pub returns-then-not-is_alive-clause-ended : goal.returns-then-not-is_alive-clause-ended
returns-then-not-is_alive-clause-ended c w s =
    ap (λ (o : Outs). o.ended) c.clear.ensures ∙ idle-ended w ∙ ap (λ (j : Job). has_ended w j.connection) (sym (idle_stands c.args.cfg.now c.args.now w (dead c w s)))

pub returns-then-not-is_alive-clause-ranges : goal.returns-then-not-is_alive-clause-ranges
returns-then-not-is_alive-clause-ranges c = subst (λ (o : Outs). All (LiesIn c.args.tcb.now.queued) o.entries.items) (sym c.clear.ensures) (All-nil (LiesIn c.args.tcb.now.queued))

-- ## One that lives
fires : (c : goal.After-fire) (w : Connection) → StandsFor c.args.cfg.now c.args.tcb.now w → FiresAs w (fired c.args.cfg.now c.args.now (tcb_of w)) (step c.args.cfg.now w inputs.Timer c.args.now)
fires c w s =
    expiry_stands c.args.cfg.now c.args.now w s.kept s.opened
    (sym (ap (λ (t : Tcb). is_due t.deadline c.args.now) s.numbers) ∙ c.requires)
    (sym (ap (λ (t : Tcb). is_alive t.state) s.numbers) ∙ sym c.is_alive.ensures ∙ c.if-not-is_alive.false)

pub returns-clause-stands : goal.returns-clause-stands
returns-clause-stands c w s =
    c.numbers_stand_on.ensures.on c.args.cfg.now c.args.tcb.now c.fire.new.tcb w inputs.Timer c.args.now tt tt s
    (c.fire.ensures.numbers ∙ ap (λ (t : Tcb). (fired c.args.cfg.now c.args.now t).numbers) s.numbers ∙ (fires c w s).numbers)

pub returns-clause-outputs : goal.returns-clause-outputs
returns-clause-outputs c w s =
    ap (outputs_of (send_queue w)) (c.fire.ensures.outs ∙ ap (λ (t : Tcb). (fired c.args.cfg.now c.args.now t).outs) s.numbers) ∙ (fires c w s).outputs

pub returns-clause-bytes : goal.returns-clause-bytes
returns-clause-bytes c w s = (fires c w s).bytes

pub returns-clause-ended : goal.returns-clause-ended
returns-clause-ended c w s =
    ap (λ (o : Outs). o.ended) (c.fire.ensures.outs ∙ ap (λ (t : Tcb). (fired c.args.cfg.now c.args.now t).outs) s.numbers) ∙ (fires c w s).ended

pub returns-clause-ranges : goal.returns-clause-ranges
returns-clause-ranges c = subst (All (LiesIn c.args.tcb.now.queued)) (sym (ap (λ (o : Outs). o.entries.items) c.fire.ensures.outs)) (lies-fired c.args.cfg.now c.args.now c.args.tcb.now)
