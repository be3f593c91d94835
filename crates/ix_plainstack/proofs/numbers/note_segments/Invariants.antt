use Rattle.std.proofs.Common.{◌≡◌, ◌++◌, drop, map}
use Rattle.ix_tcpdef.specs.declared.types.HeldSegment.{HeldSegment}
use Rattle.ix_plainstack.proofs.numbers.note_segments.Given as goal

abbrev pub invariant-loop-segment : goal.invariant-loop-segment
invariant-loop-segment l = l.held.items ++ map (λ (h : HeldSegment). h.w) (drop l.segment-index l.segments) ≡ l.fn.held.items ++ map (λ (h : HeldSegment). h.w) l.segments
