-- The points of a report, for the cuttings that its own lines tell.
use Rattle.std.specs.Prelude.{◌≡◌, ◌<◌, ◌≤◌, ◌^◌, ℕ, Bool, nat_lt, All, List, length}
use Rattle.ix_conf.specs.Settings.{Settings, settings_of}
use Rattle.ix_groupdef.specs.Env.{setting_of}
use Rattle.ix_groupdef.specs.Group.{Cycle}
use Rattle.ix_lines.specs.declared.types.ConnLine.{ConnLine}
use Rattle.ix_pcap.specs.Capture.{IsSpanOf, frames_of}
use Rattle.ix_playdef.specs.Setting.{setting_of_play}
use Rattle.ix_tcpdef.specs.Sound.{IsInRange}
use Rattle.ix_trace.specs.declared.sheet.Sheet.{Sheet}
use Rattle.ix_fits.specs.Connects.{asked_of}
use Rattle.ix_fits.specs.Fits.{play_of}
use Rattle.ix_fits.specs.Owners.{Play as Running}
use Rattle.ix_fits.specs.Readings.{cycles_told}
use Rattle.ix_decide.specs.declared.play.Play.{Play}
use Rattle.ix_told.specs.Short.{AreShort}

-- ## What a decider is given
abbrev pub settings_in : Play → Settings
settings_in p = settings_of p.conf.now

abbrev pub frames_in : Play → List (List ℕ)
frames_in p = frames_of p.bytes.now p.spans.now

abbrev pub sheet_in : Play → Sheet
sheet_in p = p.report.now

abbrev pub cycles_in : Play → ℕ → List Cycle
cycles_in p = cycles_told (settings_in p) (frames_in p) (sheet_in p)

-- what runs in these cycles
abbrev pub played : Play → Running
played p = play_of (settings_in p) (frames_in p) (sheet_in p) (cycles_in p)

-- The environment and the connects are those of the configuration and the capture, in which the records lie; and no accepted frame of the
-- report is longer than a buffer.
pub record IsPlay (p : Play) : Type 0 where
  pub spans : All (IsSpanOf p.bytes.now) p.spans.now
  pub setting : setting_of p.env.now ≡ setting_of_play (settings_in p) (frames_in p)
  pub range : IsInRange p.env.now.cfg
  pub mac : length p.env.now.local.mac ≤ 6
  pub asked : p.asked.now ≡ asked_of (setting_of p.env.now) (settings_in p)
  pub numbers : length (sheet_in p).entries < 2 ^ 32
  pub short : AreShort (frames_in p) (sheet_in p).entries

-- ## The lines of a group
abbrev pub is_before : ℕ → ConnLine → Bool
is_before g l = nat_lt l.group.0 g
