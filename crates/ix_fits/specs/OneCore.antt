-- A play on one core, where each frame is a cycle of its own and none is dropped but those that are too long.
use Rattle.std.specs.Prelude.{◌≡◌, ◌<◌, ℕ, Bool, true, false, List, map}
use Rattle.std.specs.List.{list_all}
use Rattle.ix_base.specs.declared.id.TheConstants.{FLOW_GROUPS}
use Rattle.ix_conf.specs.Settings.{Settings}
use Rattle.ix_groupdef.specs.Group.{Cycle}
use Rattle.ix_lines.specs.declared.types.EntryLine.{EntryLine}
use Rattle.ix_lines.specs.declared.types.EntryLine.TheVariants as lines
use Rattle.ix_lines.specs.declared.types.Fate.{Fate}
use Rattle.ix_lines.specs.declared.types.Fate.TheVariants as fates
use Rattle.ix_playdef.specs.Groups.{group_record}
use Rattle.ix_playdef.specs.Setting.{is_push}
use Rattle.ix_playdef.specs.Wire.{group_entries}
use Rattle.ix_playdef.specs.declared.wire.Given.{Given}
use Rattle.ix_trace.specs.declared.sheet.Sheet.{Sheet}
use Rattle.ix_wire.specs.declared.entry.Entry.{Entry}
use Rattle.ix_wire.specs.Entries.{IsWire, Terms}
use Rattle.ix_fits.specs.Cutting.{Due}
use Rattle.ix_fits.specs.Fits.{CardFits, dues_of, left_by}
use Rattle.ix_fits.specs.Read.{alone}

-- a frame is dropped for its length alone
abbrev pub is_kept_fate : Fate → Bool
is_kept_fate (fates.Buf b) = true
is_kept_fate (fates.TooLong n) = true
is_kept_fate (fates.RingFull n) = false
is_kept_fate (fates.NoBuffer n) = false

abbrev pub is_kept : EntryLine → Bool
is_kept (lines.Frame rec at group ring fate) = is_kept_fate fate
is_kept (lines.Time t) = true
is_kept (lines.Tag group) = true
is_kept (lines.Move group to) = true
is_kept lines.Settle = true

abbrev pub given_of : Due → Given
given_of d = d.given

-- What a group is to take is then what the wire list alone gives it, ..
abbrev pub GivenByTheWire : Type 0
GivenByTheWire =
    (s : Settings) (frames : List (List ℕ)) (es : List Entry) (r : Sheet) (g : ℕ) → CardFits s frames es r → list_all is_kept r.entries ≡ true
    → map given_of (dues_of s frames r g) ≡ group_entries frames g es

-- each entry of each group alone
abbrev pub all_alone : Settings → List (List ℕ) → Sheet → ℕ → List Cycle
all_alone s frames r g = map alone (dues_of s frames r g)

-- .. and on one core, where no connects are made, a group leaves what it leaves of a play on core 0 in which each frame is a cycle.
abbrev pub OneCorePlays : Type 0
OneCorePlays =
    (s : Settings) (frames : List (List ℕ)) (x : Terms) (es : List Entry) (r : Sheet) (g : ℕ) → s.live ≡ 1 → x.cores ≡ 1 → is_push s.app ≡ false
    → IsWire x es → CardFits s frames es r → list_all is_kept r.entries ≡ true → g < FLOW_GROUPS
    → left_by s frames (all_alone s frames r) g ≡ group_record s frames es g
