use Rattle.std.proofs.Common.{◌≡◌, ◌≤◌, ◌+◌, ◌++◌, ℕ, length, vec_len, vec_capacity}
use Rattle.std.specs.Prelude.{map}
use Rattle.ix_mbuf.specs.declared.name.Name.{Name}
use Rattle.ix_call.specs.Events.{events_weight}
use Rattle.ix_parts.specs.Numbered.{numbered_weight, told_as}
use Rattle.ix_parts.proofs.numbered.tell_all.Given as goal

abbrev pub invariant-loop-numbered : goal.invariant-loop-numbered
invariant-loop-numbered l = record {
  events : l.events.items ++ map (told_as l.cookie) l.numbered-iterator.rest.items ≡ l.initial.events.items ++ map (told_as l.cookie) l.initial.numbered-iterator.rest.items;
  weight : (f : Name → ℕ) → events_weight f l.events.items + numbered_weight f l.numbered-iterator.rest.items ≡ events_weight f l.initial.events.items + numbered_weight f l.initial.numbered-iterator.rest.items;
  fits : vec_len l.events + length l.numbered-iterator.rest.items ≤ vec_capacity l.events;
  capacity : vec_capacity l.events ≡ vec_capacity l.initial.events;
}
