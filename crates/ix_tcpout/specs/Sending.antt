-- What sending needs of a connection.
use Rattle.std.specs.Prelude.{◌≡◌, ◌≤◌, true, length, map}
use Rattle.ix_tcpdef.specs.Sound.{SendsInOrder}
use Rattle.ix_tcpdef.specs.Step.{is_alive}
use Rattle.ix_tcpdef.specs.declared.types.Connection.{Connection}
use Rattle.ix_tcpdef.specs.declared.types.Job.{Job}
use Rattle.ix_tcpdef.specs.Stands.{tcb_of, send_queue}
use Rattle.ix_tcpout.specs.Given.{frame_of}
use Rattle.ix_tcpout.specs.Parts.{Work}

pub record IsSending (w : Connection) : Type 0 where
  pub alive : is_alive w.state ≡ true
  pub sender : SendsInOrder w.state w.una w.nxt (length w.sent) w.fin_wanted w.fin_sent
  pub mss : 64 ≤ w.mss

-- Work over numbers stands for a step under way: the numbers are the connection's, and the segments are its frames.
pub record IsWorkOf (k : Work) (j : Job) : Type 0 where
  pub numbers : k.numbers ≡ tcb_of j.connection
  pub frames : map (frame_of (send_queue j.connection)) k.entries ≡ j.outputs
