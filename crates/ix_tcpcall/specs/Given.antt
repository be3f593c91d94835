-- What a call gives, as outputs of the connection, and what it makes of the bytes.
use Rattle.std.specs.Prelude.{◌≡◌, ℕ, List, [], ◌∷◌, ◌++◌, map, Option, Some, None}
use Rattle.ix_base.specs.declared.segment.Ret.{Ret}
use Rattle.ix_base.specs.declared.segment.Ret.TheVariants as rets
use Rattle.ix_base.specs.declared.segment.SegHead.{SegHead}
use Rattle.ix_tcpdef.specs.Calls.{as_told, recv_of, kept_end}
use Rattle.ix_tcpdef.specs.Stands.{send_queue}
use Rattle.ix_tcpdef.specs.declared.types.Connection.{Connection}
use Rattle.ix_tcpdef.specs.declared.types.HeldSegment.{HeldSegment}
use Rattle.ix_tcpdef.specs.declared.types.Job.{Job}
use Rattle.ix_tcpdef.specs.declared.types.Output.{Output}
use Rattle.ix_tcpdef.specs.declared.types.Output.TheVariants as outputs
use Rattle.ix_tcpdef.specs.declared.types.Piece.{Piece}

-- A step that gives these outputs, and behind which these bytes are in the send queue, these parts came and these segments are held.
pub record Gives (given : List Output) (bytes : List ℕ) (came : List Piece) (waiting : List HeldSegment) (j : Job) : Type 0 where
  pub outputs : j.outputs ≡ given
  pub queue : send_queue j.connection ≡ bytes
  pub pieces : j.connection.pieces ≡ came
  pub held : j.connection.held ≡ waiting

-- the return alone
abbrev pub returned : Ret → List Output
returned r = outputs.Ret r ∷ []

-- how many bytes a return counts
abbrev pub bytes_done : Ret → ℕ
bytes_done (rets.Done n) = n
bytes_done _ = 0

-- ## Accept: where it is done, all parts that came are told behind the return, and then the end of the stream
abbrev pub told_with : Ret → Connection → List Output
told_with (rets.Done n) w = map recv_of w.pieces ++ kept_end w
told_with _ w = []

abbrev pub pieces_with : Ret → List Piece → List Piece
pieces_with (rets.Done n) ps = map as_told ps
pieces_with _ ps = ps

-- ## Close: where it is done, nothing is held any more
abbrev pub held_with : Ret → List HeldSegment → List HeldSegment
held_with (rets.Done n) held = []
held_with _ held = held

-- ## Connect: the segment that is sent, without a body
abbrev pub sent_head : Option SegHead → List Output
sent_head (Some h) = outputs.Frame (record { head = h; body = [] }) ∷ []
sent_head None = []
