-- How the entries of a group are cut into cycles.
use Rattle.std.specs.Prelude.{◌≡◌, ◌≤◌, ℕ, suc, Bool, true, false, ◌==◌, not, ◌&&◌, if◌then◌else◌, List, [], ◌∷◌, ◌++◌, length, map, slice_get, Option, Some, None}
use Rattle.ix_base.specs.declared.id.CoreId.{CoreId}
use Rattle.ix_base.specs.declared.id.WireNo.{WireNo}
use Rattle.ix_groupdef.specs.declared.types.Taken.{Taken}
use Rattle.ix_groupdef.specs.Group.{Cycle, Frames, Time as TimeCycle}
use Rattle.ix_lines.specs.declared.types.EntryLine.{EntryLine}
use Rattle.ix_lines.specs.declared.types.EntryLine.TheVariants as lines
use Rattle.ix_lines.specs.declared.types.Fate.{Fate}
use Rattle.ix_lines.specs.declared.types.Fate.TheVariants as fates
use Rattle.ix_order.specs.Steppers.{LastTag, none_yet, last_tag_by, tags_by, tagged_by, stepper}
use Rattle.ix_playdef.specs.declared.wire.Given.{Given}
use Rattle.ix_playdef.specs.declared.wire.Given.TheVariants.{Frame, Time}
use Rattle.ix_fits.specs.Card.{entry_of}

-- ## The entries of a group
-- an accepted frame or a time, with the core that steps it, its tenure, and how many settles without an open tag of the group stand before it
pub record Due : Type 0 where
  pub given : Given
  pub core : Option ℕ
  pub tenure : ℕ
  pub settles : ℕ

-- what an entry gives a group: an accepted frame of it, or a time
abbrev pub frame_given : ℕ → Option (List ℕ) → List Given
frame_given w None = []
frame_given w (Some frame) = Frame (record { w = record { 0 = w }; frame = frame }) ∷ []

abbrev pub if_accepted : Fate → List Given → List Given
if_accepted (fates.Buf b) gs = gs
if_accepted (fates.RingFull n) gs = []
if_accepted (fates.NoBuffer n) gs = []
if_accepted (fates.TooLong n) gs = []

abbrev pub given_by : List (List ℕ) → ℕ → ℕ → EntryLine → List Given
given_by frames g w (lines.Frame rec at group ring fate) = if group.0 == g then if_accepted fate (frame_given w (slice_get frames rec)) else []
given_by frames g w (lines.Time t) = Time (record { 0 = w }) t ∷ []
given_by frames g w (lines.Tag group) = []
given_by frames g w (lines.Move group to) = []
given_by frames g w lines.Settle = []

abbrev pub is_settle : EntryLine → Bool
is_settle lines.Settle = true
is_settle (lines.Frame rec at group ring fate) = false
is_settle (lines.Time t) = false
is_settle (lines.Tag group) = false
is_settle (lines.Move group to) = false

-- how far a group has come: its tags, the last of them, whether one is open, and the settles at which none was
pub record Stage : Type 0 where
  pub tags : ℕ
  pub last : LastTag
  pub open_tag : Bool
  pub settles : ℕ

abbrev pub first_stage : Stage
first_stage = record { tags = 0; last = none_yet; open_tag = false; settles = 0 }

abbrev pub stage_after : ℕ → Stage → EntryLine → Stage
stage_after g s l =
    record {
      tags = tags_by g s.tags (entry_of l);
      last = last_tag_by g s.last (entry_of l);
      open_tag = tagged_by g s.open_tag (entry_of l);
      settles = if is_settle l && not s.open_tag then suc s.settles else s.settles;
    }

abbrev pub due_of : Option ℕ → Stage → Given → Due
due_of core s given = record { given = given; core = core; tenure = s.tags; settles = s.settles }

-- the entries of a group with this opening core, the first of these having the number w
unfoldable pub dues_from : List (List ℕ) → ℕ → ℕ → Stage → ℕ → List EntryLine → List Due
dues_from frames g opening s w [] = []
dues_from frames g opening s w (l ∷ ls) =
    map (due_of (stepper g opening s.last (map entry_of (l ∷ ls))) s) (given_by frames g w l) ++ dues_from frames g opening (stage_after g s l) (suc w) ls

abbrev pub dues : List (List ℕ) → ℕ → ℕ → List EntryLine → List Due
dues frames g opening ls = dues_from frames g opening first_stage 0 ls

-- ## Cycles
abbrev pub frame_due : CoreId → ℕ → ℕ → Taken → Due
frame_due core tenure settles t = record { given = Frame t; core = Some core.0; tenure = tenure; settles = settles }

-- The frames of a cycle are 1 to as many as a turn takes, of one tenure and between two settles at which no tag of the group was open.
pub record AreFirstFrames (batch : ℕ) (core : CoreId) (ts : List Taken) (ds rest : List Due) : Type 0 where
  pub some : 1 ≤ length ts
  pub few : length ts ≤ batch
  pub tenure : ℕ
  pub settles : ℕ
  pub cut : ds ≡ map (frame_due core tenure settles) ts ++ rest

pub record IsFirstTime (core : CoreId) (w : WireNo) (t : ℕ) (ds rest : List Due) : Type 0 where
  pub tenure : ℕ
  pub settles : ℕ
  pub cut : ds ≡ record { given = Time w t; core = Some core.0; tenure = tenure; settles = settles } ∷ rest

abbrev pub IsFirst : ℕ → Cycle → List Due → List Due → Type 0
IsFirst batch (Frames core ts) ds rest = AreFirstFrames batch core ts ds rest
IsFirst batch (TimeCycle core w t) ds rest = IsFirstTime core w t ds rest

-- The cycles are consecutive, each on the core that steps its entries.
abbrev pub IsCutting : ℕ → List Due → List Cycle → Type 0
IsCutting batch ds [] = ds ≡ []
IsCutting batch ds (c ∷ cs) = (rest : List Due) × IsFirst batch c ds rest × IsCutting batch rest cs

-- the frames among the entries of a group
abbrev pub frame_in : Given → List Taken
frame_in (Frame taken) = taken ∷ []
frame_in (Time w t) = []

abbrev pub frames_due : List Due → List Taken
frames_due [] = []
frames_due (d ∷ ds) = frame_in d.given ++ frames_due ds

-- ## At a settle
-- Of a group's entries those with numbers below this are stepped, once these entries are carried out: all, or those before its open tag.
abbrev pub tag_after : ℕ → ℕ → Option ℕ → EntryLine → Option ℕ
tag_after g w o (lines.Tag group) = if group.0 == g then Some w else o
tag_after g w o (lines.Move group to) = if group.0 == g then None else o
tag_after g w o (lines.Frame rec at group ring fate) = o
tag_after g w o (lines.Time t) = o
tag_after g w o lines.Settle = o

abbrev pub up_to : ℕ → Option ℕ → ℕ
up_to w None = w
up_to w (Some opened) = opened

abbrev pub reach_from : ℕ → ℕ → Option ℕ → List EntryLine → ℕ
reach_from g w o [] = up_to w o
reach_from g w o (l ∷ ls) = reach_from g (suc w) (tag_after g w o l) ls

abbrev pub reach : ℕ → List EntryLine → ℕ
reach g ls = reach_from g 0 None ls
