-- What stood before a line. A line that is refused leaves all as it was: the entries that it gave are taken back, and so is what it changed.
use Rattle.std.specs.Prelude.{◌≡◌, ◌≤◌, length, take}
use Rattle.ix_wire.specs.declared.progress.Saved.{Saved}
use Rattle.ix_wire.specs.declared.progress.Progress.{Progress}
use Rattle.ix_wire.specs.declared.wire.Mark.{Mark}
use Rattle.ix_wire.specs.Wire.{Written}

-- entries were put behind those that there were, and none was taken away
pub record GoesOn (w v : Written) : Type 0 where
  pub front : take (length w.entries) v.entries ≡ w.entries
  pub pace : v.pace ≡ w.pace

-- how many entries there are, and the counts
abbrev pub mark_of : Written → Mark
mark_of w = record { count = length w.entries; paced = w.paced; controls = w.controls; frames = w.frames; moves = w.moves }

-- the counts of a mark are within their limits
pub record IsMark (m : Mark) : Type 0 where
  pub paced : m.paced ≤ m.count
  pub controls : m.controls ≤ m.count
  pub frames : m.frames ≤ 262144
  pub moves : m.moves ≤ 16777216

-- the entries that there were at a mark, with the counts of then
abbrev pub rewound : Mark → Written → Written
rewound m w = record { entries = take m.count w.entries; pace = w.pace; paced = m.paced; controls = m.controls; frames = m.frames; moves = m.moves }

abbrev pub saved_of : Progress → Saved
saved_of p = record { wire = mark_of p.wire; table = p.table; clock = p.clock; version = p.version; begun = p.begun }

abbrev pub restored : Saved → Progress → Progress
restored s p = record { wire = rewound s.wire p.wire; table = s.table; clock = s.clock; version = s.version; begun = s.begun }
