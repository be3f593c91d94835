-- Laws on the order of replies.
use Rattle.std.specs.Prelude.{ℕ, List, map}
use Rattle.ix_base.specs.declared.frame.Local.{Local}
use Rattle.ix_conf.specs.Settings.{Settings}
use Rattle.ix_groupdef.specs.declared.types.GroupRecord.{GroupRecord}
use Rattle.ix_groupdef.specs.Group.{Cycle}
use Rattle.ix_playdef.specs.Own.{local_of}
use Rattle.ix_playdef.specs.Replies.{Places}
use Rattle.ix_playdef.specs.declared.order.Reply.{Reply}
use Rattle.ix_trace.specs.declared.sheet.Sheet.{Sheet}
use Rattle.ix_wire.specs.declared.entry.Entry.{Entry}
use Rattle.ix_fits.specs.Fits.{Choice, FitsFor}
use Rattle.ix_fits.specs.Replies.{AreReplies}
use Rattle.ix_places.specs.Filed.{AreNumbered, records_by}
use Rattle.ix_places.specs.Told.{places_told, reply_with}

-- the places that a report's lines tell, where its groups run these cycles
abbrev pub places_in : Settings → List (List ℕ) → Sheet → (ℕ → List Cycle) → Places
places_in s frames r cycles = places_told (local_of s) (records_by s frames cycles) r

-- the same cycles, with these places
abbrev pub choice_placed : Settings → List (List ℕ) → Sheet → Choice → Choice
choice_placed s frames r c =
    record {
      cycles = c.cycles;
      places = places_in s frames r c.cycles;
      replies = map (reply_with (places_in s frames r c.cycles)) c.replies;
    }

-- Where a report fits for some order of timers and flushes, it fits for that which its own lines tell, in the same cycles and with the same file.
abbrev pub PlacesAreTold : Type 0
PlacesAreTold =
    (s : Settings) (frames : List (List ℕ)) (entries : List Entry) (r : Sheet) (file : List ℕ) (c : Choice)
    → FitsFor s frames entries r file c → FitsFor s frames entries r file (choice_placed s frames r c)

-- Whatever the groups leave, and in whatever order timers and flushes are taken, the replies are numbered.
abbrev pub RepliesAreNumbered : Type 0
RepliesAreNumbered = (places : Places) (local : Local) (records : List GroupRecord) (sorted : List Reply) → AreReplies places local records sorted → AreNumbered sorted
