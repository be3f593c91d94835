use Rattle.std.proofs.Common.{◌≡◌, ◌+◌, drop}
use Rattle.ix_tcpin.specs.Text.{place_among as place_of}
use Rattle.ix_tcpin.proofs.text.place_among.Given as goal

abbrev pub invariant-loop-place : goal.invariant-loop-place
invariant-loop-place l = place_of l.expected.0 l.past l.held ≡ l.place + place_of l.expected.0 l.past (drop l.place l.held)
