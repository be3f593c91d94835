-- Whether a report and a file of replies are those of a play: docs/FITS.md.
use Rattle.std.specs.Prelude.{◌≡◌, ◌<◌, ℕ, Bool, true, ◌==◌, ◌&&◌, List, length, map, count_by}
use Rattle.std.specs.List.{AllByRecursion, list_all}
use Rattle.ix_base.specs.declared.id.TheConstants.{FLOW_GROUPS}
use Rattle.ix_conf.specs.Settings.{Settings}
use Rattle.ix_groupdef.specs.declared.types.GroupRecord.{GroupRecord}
use Rattle.ix_groupdef.specs.Group.{Cycle, run}
use Rattle.ix_groupdef.specs.Owners.{sends_parts}
use Rattle.ix_groupdef.specs.Record.{record_of}
use Rattle.ix_lines.specs.declared.types.ConnLine.{ConnLine}
use Rattle.ix_playdef.specs.Own.{local_of}
use Rattle.ix_playdef.specs.Replies.{IsOrder, Places}
use Rattle.ix_playdef.specs.Setting.{application_of, setting_of_play}
use Rattle.ix_playdef.specs.declared.order.Reply.{Reply}
use Rattle.ix_reta.specs.Table.{opening_core}
use Rattle.ix_trace.specs.declared.sheet.Sheet.{Sheet}
use Rattle.ix_trace.specs.Sheet.{IsReport}
use Rattle.ix_wire.specs.declared.entry.Entry.{Entry}
use Rattle.ix_fits.specs.Card.{are_closed, fit_all, is_dropped, is_head, is_whole}
use Rattle.ix_fits.specs.Connects.{answers_of, asked_in}
use Rattle.ix_fits.specs.Cutting.{Due, IsCutting, dues}
use Rattle.ix_fits.specs.Journals.{AreConnLines, AreStrayLines, are_journals, conns_of, is_stray_line, strays_of}
use Rattle.ix_fits.specs.Owners.{Play, all_groups, all_settles}
use Rattle.ix_fits.specs.Replies.{AreReplies, NameEachOnce, NamesItsReplies, reply_file}

-- What a play chooses freely, besides the permitted drops and the ids of buffers: where the batches of each group end, and the order in
-- which its connections take their timers and flushes within a cycle; with the replies in their order.
pub record Choice : Type 0 where
  pub cycles : ℕ → List Cycle
  pub places : Places
  pub replies : List Reply

-- the play of a configuration, the frames of a capture, and the entries of a report, in these cycles
abbrev pub play_of : Settings → List (List ℕ) → Sheet → (ℕ → List Cycle) → Play
play_of s frames r cycles =
    record {
      env = setting_of_play s frames;
      whole = sends_parts (application_of s.app s.text);
      entries = r.entries;
      asked = asked_in (setting_of_play s frames) s;
      cycles = cycles;
    }

-- what a group leaves
abbrev pub left_by : Settings → List (List ℕ) → (ℕ → List Cycle) → ℕ → GroupRecord
left_by s frames cycles g =
    record_of (setting_of_play s frames) (run (setting_of_play s frames) (asked_in (setting_of_play s frames) s g) (cycles g))

-- what a group is to take
abbrev pub dues_of : Settings → List (List ℕ) → Sheet → ℕ → List Due
dues_of s frames r g = dues frames g (opening_core s.live g).0 r.entries

-- ## 1. The card and the settles
-- The head is that of the configuration. Each entry is that of the wire list, each frame with its record, its clock, its group, its ring
-- and its verdict. The settles count what was put; the numbers of each home add up, with the buffers that are posted. In the end every
-- buffer is home.
pub record CardFits (s : Settings) (frames : List (List ℕ)) (entries : List Entry) (r : Sheet) : Type 0 where
  pub head : is_head s r.head ≡ true
  pub entries_are : fit_all s frames entries r.entries r.settles ≡ true
  pub settles : list_all (is_whole s.cores s.buffers) r.settles ≡ true
  pub closed : are_closed s r.closed ≡ true
  pub drops : r.drops ≡ count_by is_dropped r.entries

-- the same as one test
abbrev pub card_fits : Settings → List (List ℕ) → List Entry → Sheet → Bool
card_fits s frames entries r =
    ((is_head s r.head && fit_all s frames entries r.entries r.settles) && (list_all (is_whole s.cores s.buffers) r.settles && are_closed s r.closed))
    && r.drops == count_by is_dropped r.entries

-- The settles tell where the buffers are.
pub record OwnersFit (s : Settings) (frames : List (List ℕ)) (r : Sheet) (cycles : ℕ → List Cycle) : Type 0 where
  pub settles : all_settles (play_of s frames r cycles) r.settles ≡ true

-- ## 2. The journals and the strays, group by group
-- The cycles of each group cut its entries, and its journals and strays are those of its run.
pub record GroupFits (s : Settings) (frames : List (List ℕ)) (r : Sheet) (cycles : ℕ → List Cycle) (g : ℕ) : Type 0 where
  pub cut : IsCutting s.batch (dues_of s frames r g) (cycles g)
  pub journals : are_journals r.entries (left_by s frames cycles g).conns (conns_of g r.conns) ≡ true
  pub strays : AreStrayLines (left_by s frames cycles g).strays (strays_of g r.entries r.strays)

pub record GroupsFit (s : Settings) (frames : List (List ℕ)) (r : Sheet) (cycles : ℕ → List Cycle) : Type 0 where
  pub each : (g : ℕ) → g < FLOW_GROUPS → GroupFits s frames r cycles g
  -- no line is of another group, and each stray is an accepted frame
  pub conns : AllByRecursion (λ (l : ConnLine). l.group.0 < FLOW_GROUPS) r.conns
  pub strays : list_all (is_stray_line r.entries) r.strays ≡ true

-- ## 3. The connections and the connects
-- They are those that segments and connects open, in that order, each with its initial number, how it was left, and its answer.
pub record ConnectionsFit (s : Settings) (frames : List (List ℕ)) (r : Sheet) (cycles : ℕ → List Cycle) : Type 0 where
  pub each : (g : ℕ) → g < FLOW_GROUPS → AreConnLines (left_by s frames cycles g).conns (conns_of g r.conns)
  pub connects : r.connects ≡ answers_of (setting_of_play s frames) s

-- ## 4. The replies
-- The file holds all replies in their order, and each is named once, by its number.
pub record RepliesFit (s : Settings) (frames : List (List ℕ)) (entries : List Entry) (r : Sheet) (c : Choice) (file : List ℕ) : Type 0 where
  pub order : IsOrder c.places
  pub replies : AreReplies c.places (local_of s) (map (left_by s frames c.cycles) all_groups) c.replies
  pub file_is : file ≡ reply_file entries c.replies
  pub named : (g : ℕ) → g < FLOW_GROUPS
      → NamesItsReplies c.places (local_of s) c.replies g (left_by s frames c.cycles g) (strays_of g r.entries r.strays) (conns_of g r.conns)
  pub once : NameEachOnce r.strays r.conns r.replies
  pub count : r.replies ≡ length c.replies

-- ## All four
pub record FitsFor (s : Settings) (frames : List (List ℕ)) (entries : List Entry) (r : Sheet) (file : List ℕ) (c : Choice) : Type 0 where
  pub card : CardFits s frames entries r
  pub owners : OwnersFit s frames r c.cycles
  pub groups : GroupsFit s frames r c.cycles
  pub connections : ConnectionsFit s frames r c.cycles
  pub replies : RepliesFit s frames entries r c file

pub record Fits (s : Settings) (frames : List (List ℕ)) (entries : List Entry) (r : Sheet) (file : List ℕ) : Type 0 where
  -- the facts that each report keeps: a settle for each that is among the entries and one before them, strays that rise, groups that don't fall
  pub report : IsReport r
  pub choice : Choice
  pub fits : FitsFor s frames entries r file choice
