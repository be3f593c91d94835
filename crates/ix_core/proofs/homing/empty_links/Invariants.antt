use Rattle.ix_core.specs.Homing.{GatheredSome, LinkEmptied, link_returns}
use Rattle.ix_core.proofs.homing.empty_links.Given as goal

abbrev pub invariant-loop-place : goal.invariant-loop-place
invariant-loop-place g l = GatheredSome LinkEmptied link_returns l.place l.initial.links.items l.links.items l.initial.bufs.items l.bufs.items
