use Rattle.std.proofs.Common.{◌≡◌, ap, sym, ◌∙◌, subst}
use Rattle.ix_base.specs.declared.segment.Ret.{Ret}
use Rattle.ix_tcpdef.specs.Stands.{tcb_of, send_queue, StandsFor}
use Rattle.ix_tcpdef.specs.Step.{step}
use Rattle.ix_tcpdef.specs.declared.types.Ask.TheVariants as asks
use Rattle.ix_tcpdef.specs.declared.types.Connection.{Connection}
use Rattle.ix_tcpdef.specs.declared.types.Input.TheVariants as inputs
use Rattle.ix_tcpcall.specs.Given.{Gives, returned}
use Rattle.ix_tcpcall.specs.Parts.{Answer, answer, on_handle, recv_done_part}
use Rattle.ix_tcpcall.proofs.CallLemmas.{recv_done_stands}
use Rattle.ix_tcpcall.proofs.calls.recv_done.Goals as goal

answers : (c : goal.After-recv_done_numbers) (w : Connection) → StandsFor c.args.cfg.now c.args.tcb.now w → answer c.recv_done_numbers.new.tcb c.recv_done_numbers.result ≡ on_handle (recv_done_part c.args.cfg.now c.args.n) (tcb_of w)
answers c w s = c.recv_done_numbers.ensures ∙ ap (on_handle (recv_done_part c.args.cfg.now c.args.n)) s.numbers

pub returns-clause-stands : goal.returns-clause-stands
returns-clause-stands c w now s =
    c.numbers_stand_on.ensures.on c.args.cfg.now c.args.tcb.now c.recv_done_numbers.new.tcb w (inputs.Call (asks.RecvDone c.args.n)) now tt tt s
    (ap (λ (a : Answer). a.numbers) (answers c w s) ∙ (recv_done_stands c.args.cfg.now c.args.n now w).numbers)

pub returns-clause-gives : goal.returns-clause-gives
returns-clause-gives c w now s =
    subst (λ (r : Ret). Gives (returned r) (send_queue w) w.pieces w.held (step c.args.cfg.now w (inputs.Call (asks.RecvDone c.args.n)) now))
    (sym (ap (λ (a : Answer). a.ret) (answers c w s))) (recv_done_stands c.args.cfg.now c.args.n now w).gives
