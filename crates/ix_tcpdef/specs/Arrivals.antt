-- What an arrival keeps on its way, and where it holds a segment.
use Rattle.std.specs.Prelude.{◌≡◌, ℕ, suc, ◌^◌, ◌<◌, true, nat_lt, if◌then◌else◌, List, [], ◌∷◌}
use Rattle.std.specs.List.{insert}
use Rattle.ix_base.specs.declared.segment.SegHead.{SegHead}
use Rattle.ix_tcpdef.specs.Acknowledgement.{acknowledgement}
use Rattle.ix_tcpdef.specs.Arrival.{job_of}
use Rattle.ix_tcpdef.specs.Body.{held_among}
use Rattle.ix_tcpdef.specs.Delivered.{expects}
use Rattle.ix_tcpdef.specs.Sound.{IsKept}
use Rattle.ix_tcpdef.specs.declared.types.Cfg.{Cfg}
use Rattle.ix_tcpdef.specs.declared.types.HeldSegment.{HeldSegment}
use Rattle.ix_tcpdef.specs.declared.types.Job.{Job}

-- how many held segments stand before this position
abbrev pub held_place : ℕ → List HeldSegment → ℕ
held_place at [] = 0
held_place at (s ∷ rest) = if nat_lt at s.at then 0 else suc (held_place at rest)

-- ## Laws
-- A segment is held behind those that stand before it.
abbrev pub HoldsInPlace : Type 0
HoldsInPlace = (new : HeldSegment) (held : List HeldSegment) → held_among new held ≡ insert held (held_place new.at held) new

-- The check of the acknowledgement keeps what connections keep.
abbrev pub AcknowledgementsKeep : Type 0
AcknowledgementsKeep =
    (cfg : Cfg) (h : SegHead) (now : ℕ) (j : Job) → h.window < 2 ^ 16 → expects j.connection.state ≡ true → IsKept cfg j.connection → IsKept cfg (job_of (acknowledgement cfg h now j)).connection
