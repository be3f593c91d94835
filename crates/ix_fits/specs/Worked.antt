-- Small plays on two cores, worked out by hand: what the definitions say of them.
use Rattle.std.specs.Prelude.{◌≡◌, ℕ, true, false, List, [], ◌∷◌, Some}
use Rattle.ix_base.specs.declared.id.CoreId.{CoreId}
use Rattle.ix_base.specs.declared.id.GroupId.{GroupId}
use Rattle.ix_conf.specs.Settings.{Settings}
use Rattle.ix_conf.specs.declared.settings.AppKind.TheVariants.{Echo}
use Rattle.ix_groupdef.specs.Group.{Cycle, Frames, Time as TimeCycle}
use Rattle.ix_groupdef.specs.declared.types.Taken.{Taken}
use Rattle.ix_lines.specs.declared.types.ConnLine.{ConnLine}
use Rattle.ix_lines.specs.declared.types.EntryLine.{EntryLine}
use Rattle.ix_lines.specs.declared.types.EntryLine.TheVariants as lines
use Rattle.ix_lines.specs.declared.types.Fate.{Fate}
use Rattle.ix_lines.specs.declared.types.Fate.TheVariants as fates
use Rattle.ix_lines.specs.declared.types.InputKind.TheVariants as kinds
use Rattle.ix_lines.specs.declared.types.RingLine.{RingLine}
use Rattle.ix_lines.specs.declared.types.SettleLine.{SettleLine}
use Rattle.ix_playdef.specs.declared.wire.Given.{Given}
use Rattle.ix_playdef.specs.declared.wire.Given.TheVariants.{Frame, Time}
use Rattle.ix_tcpdef.specs.declared.types.State.TheVariants as states
use Rattle.ix_wire.specs.declared.entry.Entry.{Entry}
use Rattle.ix_wire.specs.declared.entry.Entry.TheVariants as wire
use Rattle.ix_fits.specs.Card.{fit_all, is_whole}
use Rattle.ix_fits.specs.Cutting.{Due, IsCutting, dues, reach}
use Rattle.ix_fits.specs.Owners.{waiting}
use Rattle.ix_fits.specs.Read.{cutting_read}

abbrev pub two_cores : Settings
two_cores =
    record {
      mac = 2 ∷ 0 ∷ 0 ∷ 0 ∷ 0 ∷ 1 ∷ [];
      ip = 0;
      port = 1;
      app = Echo;
      cores = 2;
      live = 2;
      batch = 2;
      buffers = 64;
      pace = 0;
      window = 64;
      mss = 64;
      rto = 1;
      retries = 1;
      time_wait = 1;
      checksum = true;
      neighbours = [];
      text = [];
      peers = [];
    }

-- frames that hold no packet are of group 0, which is at home on core 0
abbrev pub frames : List (List ℕ)
frames = (1 ∷ []) ∷ (2 ∷ []) ∷ (3 ∷ []) ∷ []

abbrev pub core : ℕ → CoreId
core c = record { 0 = c }

abbrev pub group_0 : GroupId
group_0 = record { 0 = 0 }

-- group 0's frame of a record, on a ring
abbrev pub shown : ℕ → ℕ → Fate → EntryLine
shown rec ring fate = lines.Frame rec 0 group_0 (core ring) fate

abbrev pub in_slot : ℕ → ℕ → Fate
in_slot home slot = fates.Buf (record { home = core home; slot = slot })

-- a settle at which a ring has taken these frames and items, and of its core's buffers so many wait behind a tag
abbrev pub ring : ℕ → ℕ → RingLine
ring taken items = record { posted = 64; frames = taken; items = items }

abbrev pub ring_without : ℕ → ℕ → ℕ → RingLine
ring_without out taken items = record { posted = out; frames = taken; items = items }

-- ## A frame behind the tag
-- before the tag, behind it, and after the move; then a time
abbrev pub behind_the_tag : List Entry
behind_the_tag = wire.Frame 0 ∷ wire.Tag group_0 ∷ wire.Frame 1 ∷ wire.Move group_0 (core 1) ∷ wire.Frame 2 ∷ wire.Time 7 ∷ wire.Settle ∷ []

abbrev pub lines_behind : ℕ → List EntryLine
lines_behind last =
    shown 0 0 (in_slot 0 0) ∷ lines.Tag group_0 ∷ shown 1 0 (in_slot 0 1) ∷ lines.Move group_0 (core 1) ∷ shown 2 last (in_slot last 2) ∷ lines.Time 7
    ∷ lines.Settle ∷ []

abbrev pub settle_with : RingLine → RingLine → SettleLine
settle_with a b =
    record {
      rings = a ∷ b ∷ [];
      homes = record { pool = 0; posted = a.posted; desk = 0; held = 0; app = 0; queue = 0 } ∷ record { pool = 0; posted = b.posted; desk = 0; held = 0; app = 0; queue = 0 } ∷ [];
    }

abbrev pub settles_behind : ℕ → List SettleLine
settles_behind items = settle_with (ring 0 0) (ring 0 0) ∷ settle_with (ring 2 items) (ring 1 3) ∷ []

abbrev pub taken : ℕ → ℕ → Taken
taken w byte = record { w = record { 0 = w }; frame = byte ∷ [] }

abbrev pub due : Given → ℕ → ℕ → ℕ → Due
due given on tenure settles = record { given = given; core = Some on; tenure = tenure; settles = settles }

abbrev pub first_frame : Taken
first_frame = taken 0 1

abbrev pub second_frame : Taken
second_frame = taken 2 2

abbrev pub third_frame : Taken
third_frame = taken 4 3

abbrev pub time_cycle : Cycle
time_cycle = TimeCycle (core 1) (record { 0 = 5 }) 7

-- a connection that heard the last two frames, and was flushed where the flush is told
abbrev pub heard_both : ℕ → ConnLine
heard_both flushed =
    record {
      group = group_0;
      remote = 0;
      remote_port = 0;
      local_port = 0;
      iss = 0;
      inputs = record { kind = kinds.Seg (record { 0 = 2 }) (core 1); outputs = [] } ∷ record { kind = kinds.Seg (record { 0 = 4 }) (core 1); outputs = [] }
          ∷ record { kind = kinds.Flush (record { 0 = flushed }); outputs = [] } ∷ [];
      left = record { state = states.Closed; una = 0; nxt = 0; rcv = 0; cwnd = 0; ssthresh = 0 };
      wrote = 0;
      taken = 0;
    }

pub record FrameBehindTheTag : Type 0 where
  pub fits : fit_all two_cores frames behind_the_tag (lines_behind 1) (settles_behind 5) ≡ true
  -- not with the last frame on the old core's ring, nor with one item less
  pub ring : fit_all two_cores frames behind_the_tag (lines_behind 0) (settles_behind 5) ≡ false
  pub items : fit_all two_cores frames behind_the_tag (lines_behind 1) (settles_behind 4) ≡ false
  -- the new core steps what stands behind the tag
  pub due : dues frames 0 0 (lines_behind 1) ≡ due (Frame first_frame) 0 0 0 ∷ due (Frame second_frame) 1 1 0 ∷ due (Frame third_frame) 1 1 0 ∷ due (Time (record { 0 = 5 }) 7) 1 1 0 ∷ []
  -- the last two frames are one cycle or two
  pub one : IsCutting 2 (dues frames 0 0 (lines_behind 1)) (Frames (core 0) (first_frame ∷ []) ∷ Frames (core 1) (second_frame ∷ third_frame ∷ []) ∷ time_cycle ∷ [])
  pub two : IsCutting 2 (dues frames 0 0 (lines_behind 1)) (Frames (core 0) (first_frame ∷ []) ∷ Frames (core 1) (second_frame ∷ []) ∷ Frames (core 1) (third_frame ∷ []) ∷ time_cycle ∷ [])
  -- and are read as one where they are flushed together
  pub read : cutting_read (heard_both 4 ∷ []) (dues frames 0 0 (lines_behind 1)) ≡ Frames (core 0) (first_frame ∷ []) ∷ Frames (core 1) (second_frame ∷ third_frame ∷ []) ∷ time_cycle ∷ []

-- ## A settle at an open tag
abbrev pub lines_open : List EntryLine
lines_open = shown 0 0 (in_slot 0 0) ∷ lines.Tag group_0 ∷ shown 1 0 (in_slot 0 1) ∷ lines.Settle ∷ lines.Move group_0 (core 1) ∷ shown 2 1 (in_slot 1 0) ∷ lines.Settle ∷ []

abbrev pub before_the_settle : List EntryLine
before_the_settle = shown 0 0 (in_slot 0 0) ∷ lines.Tag group_0 ∷ shown 1 0 (in_slot 0 1) ∷ []

pub record SettleAtOpenTag : Type 0 where
  -- what stands behind the tag waits at its desk
  pub reached : reach 0 before_the_settle ≡ 1
  pub waits : waiting before_the_settle 0 ≡ record { 0 = 2 } ∷ []
  -- such a settle ends no cycle
  pub across : IsCutting 2 (dues frames 0 0 lines_open) (Frames (core 0) (first_frame ∷ []) ∷ Frames (core 1) (second_frame ∷ taken 5 3 ∷ []) ∷ [])

-- ## No buffer left
-- Two buffers are posted to ring 0, so the third frame may be dropped; and not with another count.
abbrev pub three_frames : List Entry
three_frames = wire.Frame 0 ∷ wire.Frame 1 ∷ wire.Frame 2 ∷ wire.Settle ∷ []

abbrev pub lines_dropped : Fate → List EntryLine
lines_dropped fate = shown 0 0 (in_slot 0 0) ∷ shown 1 0 (in_slot 0 1) ∷ shown 2 0 fate ∷ lines.Settle ∷ []

abbrev pub settles_dropped : ℕ → List SettleLine
settles_dropped posted = settle_with (ring_without posted 0 0) (ring 0 0) ∷ settle_with (ring 2 2) (ring 0 0) ∷ []

pub record NoBufferLeft : Type 0 where
  pub dropped : fit_all two_cores frames three_frames (lines_dropped (fates.NoBuffer 2)) (settles_dropped 2) ≡ true
  pub counted : fit_all two_cores frames three_frames (lines_dropped (fates.NoBuffer 1)) (settles_dropped 2) ≡ false
  pub posted : fit_all two_cores frames three_frames (lines_dropped (fates.NoBuffer 2)) (settles_dropped 3) ≡ false
  pub full : fit_all two_cores frames three_frames (lines_dropped (fates.RingFull 2)) (settles_dropped 2) ≡ false
  pub long : fit_all two_cores frames three_frames (lines_dropped (fates.TooLong 1)) (settles_dropped 2) ≡ false
  -- numbers that add up, and buffers that are posted
  pub whole : is_whole 2 64 (settle_with (ring 2 2) (ring 0 0)) ≡ true
  pub lower : is_whole 2 64 (settle_with (ring_without 63 2 2) (ring 0 0)) ≡ false

pub record WorkedPlays : Type 0 where
  pub behind : FrameBehindTheTag
  pub open_tag : SettleAtOpenTag
  pub dropped : NoBufferLeft
