-- Whether a report is that of a play on one core, where every frame of at most 2,048 bytes is accepted.
use Rattle.std.specs.Prelude.{◌≡◌, ℕ, Bool, false, List, length, count_by, nat_lt, slice_get, Option, Some, None}
use Rattle.std.specs.List.{range_with_len}
use Rattle.std.specs.List.Sorted.{IsPermutation, IsSortedByKey}
use Rattle.std.specs.Ordering.{nat_cmp}
use Rattle.ix_conf.specs.Settings.{Settings}
use Rattle.ix_wire.specs.declared.entry.Entry.{Entry}
use Rattle.ix_wire.specs.declared.entry.Entry.TheVariants as entries
use Rattle.ix_playdef.specs.Connects.{connect_answers}
use Rattle.ix_playdef.specs.Groups.{AreRecords}
use Rattle.ix_playdef.specs.Order.{key_cmp, key_of, numbers_among}
use Rattle.ix_playdef.specs.Own.{local_of}
use Rattle.ix_playdef.specs.Replies.{IsOrder, Places, all_replies}
use Rattle.ix_base.specs.declared.id.TheConstants.{BUFFER_BYTES}
use Rattle.ix_report.specs.Lines.{all_strays, wire_of}
use Rattle.ix_report.specs.Named.{NamesEachOnce}
use Rattle.ix_report.specs.declared.report.Report.{Report}

-- a frame is dropped exactly where it is too long
abbrev pub is_too_long : Option (List ℕ) → Bool
is_too_long (Some frame) = nat_lt BUFFER_BYTES (length frame)
is_too_long None = false

abbrev pub is_dropped : List (List ℕ) → Entry → Bool
is_dropped frames (entries.Frame rec) = is_too_long (slice_get frames rec)
is_dropped frames _ = false

-- Timers and flushes of a group's connections are taken in the order of these places within a cycle.
pub record Fits (s : Settings) (frames : List (List ℕ)) (entries : List Entry) (places : Places) (r : Report) : Type 0 where
  -- Each group ran its connects, then its frames and all times in wire order, each in a cycle of its own.
  pub groups : AreRecords s frames entries r.groups
  -- Each connect has its answer, in the order of the peers.
  pub connects : r.connects ≡ connect_answers s frames
  -- In which order timers and flushes are taken within a cycle is free.
  pub free : IsOrder places
  -- The replies are the frames that connections and strays give, each once, in the order of their keys.
  pub replies : IsPermutation (all_replies places (local_of s) r.groups) r.replies
  pub order : IsSortedByKey key_of key_cmp r.replies
  -- The number of each is its place among them, counted from 0, and the lines name each once.
  pub numbered : numbers_among r.replies r.replies ≡ range_with_len 0 (length r.replies)
  pub once : NamesEachOnce places r
  -- The strays are those of all groups, each once, by rising wire number, with the numbers of their replies.
  pub strays : IsPermutation (all_strays r.replies r.groups) r.strays
  pub rising : IsSortedByKey wire_of nat_cmp r.strays
  pub drops : r.drops ≡ count_by (is_dropped frames) entries
