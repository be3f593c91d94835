-- Plays of a wire list, on 1 to 8 cores, and their reports.
use Rattle.std.specs.Prelude.{◌≡◌, ◌<◌, ℕ, true, List, length, slice_index_or}
use Rattle.std.specs.List.{AllByRecursion, list_all, range_with_len}
use Rattle.ix_base.specs.declared.id.TheConstants.{FLOW_GROUPS}
use Rattle.ix_conf.specs.Settings.{Settings, settings_of}
use Rattle.ix_conf.specs.declared.settings.Conf.{Conf}
use Rattle.ix_fits.specs.Card.{are_closed, fit_all, is_whole}
use Rattle.ix_fits.specs.Connects.{answers_of, asked_in}
use Rattle.ix_fits.specs.Cutting.{IsCutting, dues}
use Rattle.ix_fits.specs.Fits.{Fits, left_by}
use Rattle.ix_fits.specs.Owners.{Play, all_settles}
use Rattle.ix_fits.specs.Replies.{AreReplies, reply_file}
use Rattle.ix_groupdef.specs.Group.{Cycle}
use Rattle.ix_groupdef.specs.Owners.{sends_parts}
use Rattle.ix_groupdef.specs.declared.types.GroupRecord.{GroupRecord}
use Rattle.ix_lines.specs.declared.types.EntryLine.{EntryLine}
use Rattle.ix_playdef.specs.Order.{numbers_among}
use Rattle.ix_playdef.specs.Own.{local_of}
use Rattle.ix_playdef.specs.Replies.{by_opening}
use Rattle.ix_playdef.specs.Setting.{application_of, setting_of_play}
use Rattle.ix_playdef.specs.Sound.{AreBytes}
use Rattle.ix_playdef.specs.declared.order.Reply.{Reply}
use Rattle.ix_reta.specs.Table.{opening_core}
use Rattle.ix_trace.specs.declared.sheet.Sheet.{Sheet}
use Rattle.ix_wire.specs.Entries.{IsWireSoFar, Terms}
use Rattle.ix_wire.specs.declared.entry.Entry.{Entry}
use Rattle.ix_sheet.specs.Outcome.{CanBeReported}
use Rattle.ix_sheet.specs.Sheet.{IsSheetOf, head_of}
use Rattle.ix_sheet.specs.declared.outcome.Outcome.{Outcome}

-- what a settle's numbers are told of, with these entries in these cycles
abbrev pub play_with : Settings → List (List ℕ) → List EntryLine → (ℕ → List Cycle) → Play
play_with s frames entries cycles =
    record {
      env = setting_of_play s frames;
      whole = sends_parts (application_of s.app s.text);
      entries = entries;
      asked = asked_in (setting_of_play s frames) s;
      cycles = cycles;
    }

-- Each group leaves what its cycles leave.
pub record AreLeftBy (s : Settings) (frames : List (List ℕ)) (cycles : ℕ → List Cycle) (groups : List GroupRecord) : Type 0 where
  pub count : length groups ≡ FLOW_GROUPS
  pub each : (g : ℕ) (d : GroupRecord) → g < FLOW_GROUPS → slice_index_or groups g d ≡ left_by s frames cycles g

-- It is what a play of a wire list leaves in which each group took its entries in these cycles: the card and the settles fit the wire list,
-- the settles tell where the buffers are, the connects have their answers, and the cycles of each group cut its entries.
pub record IsPlay (s : Settings) (frames : List (List ℕ)) (wire : List Entry) (cycles : ℕ → List Cycle) (o : Outcome) : Type 0 where
  pub card : fit_all s frames wire o.entries o.settles ≡ true
  pub settles : list_all (is_whole s.cores s.buffers) o.settles ≡ true
  pub owners : all_settles (play_with s frames o.entries cycles) o.settles ≡ true
  pub connects : o.connects ≡ answers_of (setting_of_play s frames) s
  pub cut : (g : ℕ) → g < FLOW_GROUPS → IsCutting s.batch (dues frames g (opening_core s.live g).0 o.entries) (cycles g)
  pub groups : AreLeftBy s frames cycles o.groups
  pub closed : are_closed s o.closed ≡ true

-- ## Laws
-- What a play leaves can be reported. A hardware address has six bytes, and a capture has bytes.
abbrev pub PlaysCanBeReported : Type 0
PlaysCanBeReported =
    (conf : Conf) (frames : List (List ℕ)) (x : Terms) (wire : List Entry) (cycles : ℕ → List Cycle) (o : Outcome) → length (settings_of conf).mac ≡ 6
    → AllByRecursion AreBytes frames → IsWireSoFar x wire → IsPlay (settings_of conf) frames wire cycles o → CanBeReported (settings_of conf).cores o

-- Its report fits, with the file of its replies: the number of each reply is its place among them.
abbrev pub ReportsFit : Type 0
ReportsFit =
    (conf : Conf) (frames : List (List ℕ)) (x : Terms) (wire : List Entry) (cycles : ℕ → List Cycle) (o : Outcome) (replies : List Reply) (r : Sheet) → length (settings_of conf).mac ≡ 6
    → AllByRecursion AreBytes frames → IsWireSoFar x wire → IsPlay (settings_of conf) frames wire cycles o
    → AreReplies by_opening (local_of (settings_of conf)) o.groups replies → numbers_among replies replies ≡ range_with_len 0 (length replies)
    → IsSheetOf (head_of (settings_of conf)) o replies r
    → Fits (settings_of conf) frames wire r (reply_file wire replies)
