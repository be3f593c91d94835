use Rattle.std.proofs.Common.{◌≡◌, ap, sym, ◌∙◌, subst}
use Rattle.std.specs.Prelude.{Option}
use Rattle.ix_base.specs.declared.segment.SegHead.{SegHead}
use Rattle.ix_tcpdef.specs.Stands.{tcb_of, send_queue, StandsFor}
use Rattle.ix_tcpdef.specs.Step.{step}
use Rattle.ix_tcpdef.specs.declared.types.Ask.TheVariants as asks
use Rattle.ix_tcpdef.specs.declared.types.Connection.{Connection}
use Rattle.ix_tcpdef.specs.declared.types.Input.TheVariants as inputs
use Rattle.ix_tcpcall.specs.Given.{Gives, sent_head}
use Rattle.ix_tcpcall.specs.Parts.{Opened, opened, connect_part}
use Rattle.ix_tcpcall.proofs.CallLemmas.{connect_stands}
use Rattle.ix_tcpcall.proofs.opening.connect.Goals as goal

opens_as : (c : goal.After-connect_numbers) (w : Connection) → StandsFor c.args.cfg.now c.args.tcb.now w → opened c.connect_numbers.new.tcb c.connect_numbers.result ≡ connect_part c.args.cfg.now c.args.now (tcb_of w)
opens_as c w s = c.connect_numbers.ensures ∙ ap (connect_part c.args.cfg.now c.args.now) s.numbers

pub returns-clause-stands : goal.returns-clause-stands
returns-clause-stands c w s =
    c.numbers_stand_on.ensures.on c.args.cfg.now c.args.tcb.now c.connect_numbers.new.tcb w (inputs.Call asks.Connect) c.args.now tt tt s
    (ap (λ (o : Opened). o.numbers) (opens_as c w s) ∙ (connect_stands c.args.cfg.now c.args.now w s.opened).numbers)

pub returns-clause-gives : goal.returns-clause-gives
returns-clause-gives c w s =
    subst (λ (o : Option SegHead). Gives (sent_head o) (send_queue w) w.pieces w.held (step c.args.cfg.now w (inputs.Call asks.Connect) c.args.now))
    (sym (ap (λ (o : Opened). o.sent) (opens_as c w s))) (connect_stands c.args.cfg.now c.args.now w s.opened).gives
