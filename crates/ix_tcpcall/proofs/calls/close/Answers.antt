use Rattle.std.proofs.Common.{◌≡◌, ap, sym, ◌∙◌, subst}
use Rattle.ix_base.specs.declared.segment.Ret.{Ret}
use Rattle.ix_tcpdef.specs.Stands.{tcb_of, send_queue, StandsFor}
use Rattle.ix_tcpdef.specs.Step.{step}
use Rattle.ix_tcpdef.specs.declared.types.Ask.TheVariants as asks
use Rattle.ix_tcpdef.specs.declared.types.Connection.{Connection}
use Rattle.ix_tcpdef.specs.declared.types.Cfg.{Cfg}
use Rattle.ix_tcpdef.specs.declared.types.Input.TheVariants as inputs
use Rattle.ix_tcpcall.specs.Given.{Gives, returned, held_with}
use Rattle.ix_tcpcall.specs.Parts.{Answer, answer, on_handle, close_part}
use Rattle.ix_tcpcall.proofs.CallLemmas.{close_stands}
use Rattle.ix_tcpcall.proofs.calls.close.Goals as goal

answers : (c : goal.After-close_numbers) (cfg : Cfg) (w : Connection) → StandsFor cfg c.args.tcb.now w → answer c.close_numbers.new.tcb c.close_numbers.result ≡ on_handle close_part (tcb_of w)
answers c cfg w s = c.close_numbers.ensures ∙ ap (on_handle close_part) s.numbers

pub returns-clause-stands : goal.returns-clause-stands
returns-clause-stands c cfg w now s =
    c.numbers_stand_on.ensures.on cfg c.args.tcb.now c.close_numbers.new.tcb w (inputs.Call asks.Close) now tt tt s
    (ap (λ (a : Answer). a.numbers) (answers c cfg w s) ∙ (close_stands cfg now w s.kept.sound.sender).numbers)

pub returns-clause-gives : goal.returns-clause-gives
returns-clause-gives c cfg w now s =
    subst (λ (r : Ret). Gives (returned r) (send_queue w) w.pieces (held_with r w.held) (step cfg w (inputs.Call asks.Close) now))
    (sym (ap (λ (a : Answer). a.ret) (answers c cfg w s))) (close_stands cfg now w s.kept.sound.sender).gives
