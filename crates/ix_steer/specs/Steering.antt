-- The flow group of a frame.
use Rattle.std.specs.Prelude.{◌≡◌, ◌<◌, ℕ, List, Bool, Ok, Option, Some, None}
use Rattle.std.proofs.Common.{arith}
use Rattle.ix_base.specs.declared.id.Flow.{Flow}
use Rattle.ix_base.specs.declared.frame.Disposition.{Disposition}
use Rattle.ix_base.specs.declared.frame.Local.{Local}
use Rattle.ix_base.specs.declared.segment.Seg.{Seg}
use Rattle.ix_hash.specs.Group.{group_of_flow, group_of_named}
use Rattle.ix_ip.specs.Packet.{Packet}
use Rattle.ix_seg.specs.Frame.{flow_of_frame, segment_of_frame}

-- the group of the flow that a frame names, and group 0 where it names none
abbrev pub group_of_frame : List ℕ → ℕ
group_of_frame frame = group_of_named (flow_of_frame frame)

named_below : (o : Option Flow) → group_of_named o < 512
named_below None = omega arith
named_below (Some f) = omega arith

-- There are 512 groups.
pub group_of_frame-below : (frame : List ℕ) → group_of_frame frame < 512
group_of_frame-below frame = named_below (flow_of_frame frame)

-- A frame that is a segment is of the group of its flow.
abbrev pub SegmentsHaveTheirFlowsGroup : Type 0
SegmentsHaveTheirFlowsGroup =
    (other : Packet → Disposition) (local : Local) (check : Bool) (frame : List ℕ) (s : Seg) → segment_of_frame other local check frame ≡ Ok s
    → group_of_frame frame ≡ group_of_flow s.head.flow
