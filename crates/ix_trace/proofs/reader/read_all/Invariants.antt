use Rattle.std.proofs.Common.{◌≡◌, ◌≤◌, ◌+◌, length}
use Rattle.ix_words.specs.Parts.{parts}
use Rattle.ix_trace.specs.Reading.{texts_read, trace_read}
use Rattle.ix_trace.proofs.reader.read_all.Given as goal

abbrev pub invariant-loop-after : goal.invariant-loop-after
invariant-loop-after l = (l.number + length l.rest ≤ length l.bytes) × (texts_read l.number l.progress (parts 10 l.rest) ≡ trace_read l.bytes)

abbrev pub decreases-loop-after : goal.decreases-loop-after
decreases-loop-after l = length l.rest
