use Rattle.std.proofs.Common.{◌≡◌, ◌≤◌, ◌++◌, ℕ, List, length, take, ap, sym, ◌∙◌, subst}
use Rattle.ix_base.specs.declared.segment.Ret.{Ret}
use Rattle.ix_tcpdef.specs.Stands.{tcb_of, send_queue, StandsFor}
use Rattle.ix_tcpdef.specs.Step.{step}
use Rattle.ix_tcpdef.specs.declared.types.Ask.TheVariants as asks
use Rattle.ix_tcpdef.specs.declared.types.Connection.{Connection}
use Rattle.ix_tcpdef.specs.declared.types.Cfg.{Cfg}
use Rattle.ix_tcpdef.specs.declared.types.Input.TheVariants as inputs
use Rattle.ix_tcpcall.specs.Given.{Gives, returned, bytes_done}
use Rattle.ix_tcpcall.specs.Parts.{Answer, answer, on_handle, sendv_part}
use Rattle.ix_tcpcall.proofs.CallLemmas.{sendv_stands, sendv_within}
use Rattle.ix_tcpcall.proofs.sending.sendv.Goals as goal

answers : (c : goal.After-sendv_numbers) (cfg : Cfg) (w : Connection) (bytes : List ℕ) → length bytes ≡ c.args.total → StandsFor cfg c.args.tcb.now w → answer c.sendv_numbers.new.tcb c.sendv_numbers.result ≡ on_handle (sendv_part (length bytes)) (tcb_of w)
answers c cfg w bytes len s =
    c.sendv_numbers.ensures
    ∙ ap (on_handle (sendv_part c.args.total)) s.numbers
    ∙ ap (λ (total : ℕ). on_handle (sendv_part total) (tcb_of w)) (sym len)

pub returns-clause-within : goal.returns-clause-within
returns-clause-within c =
    subst (λ (r : Ret). bytes_done r ≤ c.args.total) (sym (ap (λ (a : Answer). a.ret) c.sendv_numbers.ensures)) (sendv_within c.args.total c.args.tcb.now)

pub returns-clause-stands : goal.returns-clause-stands
returns-clause-stands c cfg w bytes now len s =
    c.numbers_stand_on.ensures.on cfg c.args.tcb.now c.sendv_numbers.new.tcb w (inputs.Call (asks.Sendv bytes)) now tt tt s
    (ap (λ (a : Answer). a.numbers) (answers c cfg w bytes len s) ∙ (sendv_stands cfg now w bytes s.kept.sound.sender).numbers)

pub returns-clause-gives : goal.returns-clause-gives
returns-clause-gives c cfg w bytes now len s =
    subst (λ (r : Ret). Gives (returned r) (send_queue w ++ take (bytes_done r) bytes) w.pieces w.held (step cfg w (inputs.Call (asks.Sendv bytes)) now))
    (sym (ap (λ (a : Answer). a.ret) (answers c cfg w bytes len s))) (sendv_stands cfg now w bytes s.kept.sound.sender).gives
