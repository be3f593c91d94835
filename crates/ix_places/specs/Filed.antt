-- When a file of replies, and the numbers that a report's lines name, are those of what the groups leave.
use Rattle.std.specs.Prelude.{◌≡◌, ◌<◌, ℕ, List, length, map, slice_index_or}
use Rattle.std.specs.List.{IsDistinct, range_with_len}
use Rattle.ix_base.specs.declared.frame.Local.{Local}
use Rattle.ix_conf.specs.Settings.{Settings}
use Rattle.ix_groupdef.specs.declared.types.GroupRecord.{GroupRecord}
use Rattle.ix_groupdef.specs.Group.{Cycle}
use Rattle.ix_playdef.specs.Order.{numbers_among, same_key}
use Rattle.ix_playdef.specs.Replies.{IsOrder, Places, by_opening, group_replies}
use Rattle.ix_playdef.specs.declared.order.Reply.{Reply}
use Rattle.ix_trace.specs.declared.sheet.Sheet.{Sheet}
use Rattle.ix_wire.specs.declared.entry.Entry.{Entry}
use Rattle.ix_fits.specs.Fits.{RepliesFit, left_by}
use Rattle.ix_fits.specs.Journals.{conns_of, strays_of}
use Rattle.ix_fits.specs.Owners.{all_groups}
use Rattle.ix_fits.specs.Replies.{AreReplies, NameEachOnce, NamesItsReplies, reply_file}
use Rattle.ix_places.specs.Told.{group_numbers}

-- what all groups leave in these cycles
abbrev pub records_by : Settings → List (List ℕ) → (ℕ → List Cycle) → List GroupRecord
records_by s frames cycles = map (left_by s frames cycles) all_groups

-- The lines of each group name as many replies as it gives.
pub record AreAsMany (local : Local) (records : List GroupRecord) (r : Sheet) : Type 0 where
  pub each : (g : ℕ) (d : GroupRecord) → g < length records → length (group_replies by_opening local g (slice_index_or records g d)) ≡ length (group_numbers r g)

-- The fourth point of docs/FITS.md, of what the groups leave: for this order of timers and flushes, with the replies in their order.
pub record AreFiled (local : Local) (records : List GroupRecord) (entries : List Entry) (r : Sheet) (file : List ℕ) (places : Places) (sorted : List Reply) : Type 0 where
  pub order : IsOrder places
  pub replies : AreReplies places local records sorted
  pub file_is : file ≡ reply_file entries sorted
  pub named : (g : ℕ) (d : GroupRecord) → g < length records
      → NamesItsReplies places local sorted g (slice_index_or records g d) (strays_of g r.entries r.strays) (conns_of g r.conns)
  pub once : NameEachOnce r.strays r.conns r.replies
  pub count : r.replies ≡ length sorted

-- for some order of timers and flushes
pub record AreSomehowFiled (local : Local) (records : List GroupRecord) (entries : List Entry) (r : Sheet) (file : List ℕ) : Type 0 where
  pub places : Places
  pub replies : List Reply
  pub filed : AreFiled local records entries r file places replies

-- The fourth point holds in these cycles, for some order of timers and flushes.
pub record RepliesFitIn (s : Settings) (frames : List (List ℕ)) (entries : List Entry) (r : Sheet) (file : List ℕ) (cycles : ℕ → List Cycle) : Type 0 where
  pub places : Places
  pub replies : List Reply
  pub fit : RepliesFit s frames entries r (record { cycles = cycles; places = places; replies = replies }) file

-- No two replies have one key, and the number of each is its place.
pub record AreNumbered (sorted : List Reply) : Type 0 where
  pub distinct : IsDistinct same_key sorted
  pub numbers : numbers_among sorted sorted ≡ range_with_len 0 (length sorted)
