-- Parts that came, with the wire numbers of their segments: their buffers, and how an application is told of them.
use Rattle.std.specs.Prelude.{◌≡◌, ℕ, List, Some, map, sum_by}
use Rattle.std.specs.List.{All}
use Rattle.ix_base.specs.declared.id.WireNo.{WireNo}
use Rattle.ix_mbuf.specs.declared.name.Name.{Name}
use Rattle.ix_mbuf.specs.Buffers.{Buffer}
use Rattle.ix_call.specs.declared.event.Event.{Event}
use Rattle.ix_call.specs.declared.event.Event.TheVariants as events
use Rattle.ix_parts.specs.declared.numbered.Numbered.{Numbered}

-- the weights of their buffers, added up
abbrev pub numbered_weight : (Name → ℕ) → List Numbered → ℕ
numbered_weight f ps = sum_by (λ p. f p.part.buf.name) ps

abbrev pub numbered_buffers : List Numbered → List Buffer
numbered_buffers ps = map (λ p. p.part.buf) ps

-- the event that tells a part
abbrev pub told_as : ℕ → Numbered → Event
told_as cookie p = events.Recv cookie (Some p.part)

-- Each part stands in the buffer that was filled with its segment's frame: these are the names of those buffers, by wire number.
abbrev pub AreNamed : (WireNo → Name) → List Numbered → Type 0
AreNamed names ps = All (λ p. p.part.buf.name ≡ names p.w) ps
