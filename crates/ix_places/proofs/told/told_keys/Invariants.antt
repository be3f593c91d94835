use Rattle.std.proofs.Common.{◌≡◌, ℕ, drop, map, take}
use Rattle.std.specs.Option.{option_or}
use Rattle.ix_playdef.specs.declared.order.Reply.{Reply}
use Rattle.ix_places.specs.Told.{key_with, number_in, places_by, told_number}
use Rattle.ix_places.specs.declared.turn.Turn.{Turn}
use Rattle.ix_places.proofs.told.told_keys.Given as goal

abbrev pub invariant-loop-i : goal.invariant-loop-i
invariant-loop-i l = record {
  told : (turn : Turn) → option_or (number_in l.firsts turn) (told_number (drop l.i l.numbers) (drop l.i l.replies) turn) ≡ told_number l.numbers l.replies turn;
  keys : (end : ℕ) → l.keys.items ≡ map (λ (x : Reply). key_with (places_by (told_number l.numbers l.replies) end) x.key) (take l.i l.replies);
}
