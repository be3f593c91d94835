-- A whole play of the card and the cores, up to the close.
use Rattle.std.specs.Prelude.{◌≡◌, ◌<◌, ◌≤◌, ℕ, List, [], ◌∷◌, count_by, if◌then◌else◌, length, true}
use Rattle.ix_appdef.specs.declared.application.Application.{Application}
use Rattle.ix_conf.specs.Settings.{Settings}
use Rattle.ix_groupdef.specs.declared.env.Env.{Env}
use Rattle.ix_groupdef.specs.Env.{setting_of}
use Rattle.ix_lines.specs.declared.types.ConnectLine.{ConnectLine}
use Rattle.ix_lines.specs.declared.types.SettleLine.{SettleLine}
use Rattle.ix_nic.specs.Cards.{CardView}
use Rattle.ix_playdef.specs.Setting.{is_push, setting_of_play}
use Rattle.ix_feed.specs.Replays.{CanFeed, ReplayView, is_move}
use Rattle.ix_wire.specs.declared.entry.Entry.{Entry}
use Rattle.ix_wire.specs.Entries.{IsWire, Terms}
use Rattle.ix_epochs.specs.Ready.{IsReady}
use Rattle.ix_engine.specs.declared.course.Machine.{Machine}
use Rattle.ix_engine.specs.Openings.{IsOpen, StackCore}
use Rattle.ix_engine.specs.Steps.{Engine, EpochSteps, FirstDials, MeetAndSettle, begun}

-- the card, what it is fed, and the cores of a machine
abbrev pub engine_of : Machine → Engine
engine_of m = record { card = m.nic; replay = m.replay; cores = m.cores.items }

-- The entries are a wire list of a script for these settings and frames.
pub record IsWireFor (s : Settings) (frames : List (List ℕ)) (entries : List Entry) : Type 0 where
  pub terms : Terms
  pub cores : terms.cores ≡ s.cores
  pub live : terms.live ≡ s.live
  pub own : length terms.own ≡ length frames
  pub is : IsWire terms entries

-- What can go on: the card and its cores are ready, and the card can be fed while an entry is left.
pub record CanGoOn (x : Engine) : Type 0 where
  pub ready : IsReady x.card x.cores
  pub some : 1 ≤ length x.cores
  pub feed : length x.replay.lines < length x.replay.entries → CanFeed x.card (begun x.replay)

-- the peers that are dialled
abbrev pub peers_of : Settings → List (ℕ × ℕ)
peers_of s = if is_push s.app then s.peers else []

-- a wire list of which nothing was carried out yet
abbrev pub first_replay : List Entry → List (List ℕ) → ReplayView
first_replay entries frames = record { entries = entries; frames = frames; lines = []; clock = 0; ended = true; waiting = 0 }

-- Core 0 connected to its peers, and the first settle was made.
pub record SetsOut (s : Settings) (env : Env Application) (connects : List ConnectLine) (line : SettleLine) (card card' : CardView) (cores cores' : List StackCore) : Type 0 where
  pub dialed : List StackCore
  pub dials : FirstDials env (peers_of s) connects cores dialed
  pub settled : MeetAndSettle line card card' dialed cores'

-- A play began: it opened, core 0 connected to its peers, and the first settle was made.
pub record HasBegun (s : Settings) (frames : List (List ℕ)) (entries : List Entry) (env : Env Application) (connects : List ConnectLine) (line : SettleLine) (x : Engine) : Type 0 where
  pub env_is : setting_of env ≡ setting_of_play s frames
  pub card : CardView
  pub cores : List StackCore
  pub opens : IsOpen s (count_by is_move entries) card cores
  pub dialed : List StackCore
  pub dials : FirstDials env (peers_of s) connects cores dialed
  pub settled : MeetAndSettle line card x.card dialed x.cores
  pub replay : x.replay ≡ first_replay entries frames

-- Epochs ran from then on, each with its settle, until no entry was left.
pub record HasRun (s : Settings) (frames : List (List ℕ)) (entries : List Entry) (env : Env Application) (connects : List ConnectLine) (settles : List SettleLine) (y : Engine) : Type 0 where
  pub line : SettleLine
  pub first : Engine
  pub begins : HasBegun s frames entries env connects line first
  pub lines : List SettleLine
  pub steps : EpochSteps env first lines y
  pub settles_are : settles ≡ line ∷ lines
  pub out : length y.replay.entries ≤ length y.replay.lines
