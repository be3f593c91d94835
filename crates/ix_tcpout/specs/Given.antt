-- What a call gives, as outputs of the connection.
use Rattle.std.specs.Prelude.{◌≡◌, ◌≤◌, ℕ, ◌-◌, Bool, ◌&&◌, not, if◌then◌else◌, List, [], ◌∷◌, ◌++◌, map, take, drop, Option, Some, None}
use Rattle.ix_tcpdef.specs.Connection.{is_closed}
use Rattle.ix_tcpdef.specs.Stands.{send_queue}
use Rattle.ix_tcpdef.specs.declared.types.Connection.{Connection}
use Rattle.ix_tcpdef.specs.declared.types.Job.{Job}
use Rattle.ix_tcpdef.specs.declared.types.Output.{Output}
use Rattle.ix_tcpdef.specs.declared.types.Output.TheVariants as outputs
use Rattle.ix_tcpdef.specs.declared.types.Told.{Told}
use Rattle.ix_tcpout.specs.declared.outs.OutSeg.{OutSeg}
use Rattle.ix_tcpout.specs.declared.outs.Outs.{Outs}

-- the frame whose body is cut out of the send queue
abbrev pub frame_of : List ℕ → OutSeg → Output
frame_of queue o = outputs.Frame (record { head = o.head; body = take (o.to - o.from) (drop o.from queue) })

abbrev pub event_of : Option Told → List Output
event_of None = []
event_of (Some t) = outputs.Told t ∷ []

-- the frames in order, then the event
abbrev pub outputs_of : List ℕ → Outs → List Output
outputs_of queue outs = map (frame_of queue) outs.entries.items ++ event_of outs.told

-- the connection ended in this step
abbrev pub has_ended : Connection → Connection → Bool
has_ended old new = not (is_closed old.state) && is_closed new.state

-- What was given to be sent, what came and what is held stay as they were; of a connection that ended nothing is held.
pub record LeavesBytes (old new : Connection) : Type 0 where
  pub sent : new.sent ≡ old.sent
  pub queue : send_queue new ≡ send_queue old
  pub pieces : new.pieces ≡ old.pieces
  pub held : new.held ≡ (if has_ended old new then [] else old.held)

-- a step that begins
abbrev pub start : Connection → Job
start w = record { connection = w; outputs = [] }

-- a segment carries as many bytes as its head says, of the send queue
pub record LiesIn (queued : ℕ) (o : OutSeg) : Type 0 where
  pub order : o.from ≤ o.to
  pub within : o.to ≤ queued
  pub len : o.head.len ≡ o.to - o.from
