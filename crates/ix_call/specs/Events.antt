-- Events as plain data, and the buffers in them.
use Rattle.std.specs.Prelude.{ℕ, List, Option, None, map, sum_by}
use Rattle.std.specs.Option.{option_to_list}
use Rattle.ix_mbuf.specs.declared.name.Name.{Name}
use Rattle.ix_mbuf.specs.Owners.{maybe}
use Rattle.ix_mbuf.specs.Buffers.{Piece}
use Rattle.ix_call.specs.declared.event.Event.{Event}
use Rattle.ix_call.specs.declared.event.Event.TheVariants.{Knock, Connected, Recv, Sent, Dead}

abbrev pub event_part : Event → Option Piece
event_part (Knock handle ip port) = None
event_part (Connected cookie outcome) = None
event_part (Recv cookie part) = part
event_part (Sent cookie bytes window) = None
event_part (Dead cookie reason) = None

-- only bytes that are told hold a buffer
abbrev pub event_weight : (Name → ℕ) → Event → ℕ
event_weight f e = maybe (λ p. f p.buf.name) (event_part e)

abbrev pub event_names : Event → List Name
event_names e = map (λ p. p.buf.name) (option_to_list (event_part e))

abbrev pub events_weight : (Name → ℕ) → List Event → ℕ
events_weight f events = sum_by (event_weight f) events
