-- What the groups of a play are told of its configuration and its capture.
use Rattle.std.specs.Prelude.{ℕ, Bool, true, false, not, List}
use Rattle.ix_appdef.specs.Answers.{answer_of}
use Rattle.ix_appdef.specs.declared.application.Application.{Application}
use Rattle.ix_appdef.specs.declared.application.Application.TheVariants as applications
use Rattle.ix_conf.specs.Settings.{Settings}
use Rattle.ix_conf.specs.declared.settings.AppKind.{AppKind}
use Rattle.ix_conf.specs.declared.settings.AppKind.TheVariants.{Echo, Kv, Push}
use Rattle.ix_groupdef.specs.Setting.{Setting}
use Rattle.ix_tcpdef.specs.declared.types.Cfg.{Cfg}
use Rattle.ix_playdef.specs.Own.{local_of, initial_numbers}

-- what connections obey
abbrev pub cfg_of : Settings → Cfg
cfg_of s = record { window = s.window; mss = s.mss; rto = s.rto; retries = s.retries; time_wait = s.time_wait }

-- the application of this kind, with the text that it pushes
abbrev pub application_of : AppKind → List ℕ → Application
application_of Echo text = applications.Echo
application_of Kv text = applications.Kv
application_of Push text = applications.Push text

abbrev pub is_push : AppKind → Bool
is_push Echo = false
is_push Kv = false
is_push Push = true

-- With the frames of the capture. An application that pushes opens its connections itself, and serves nobody.
abbrev pub setting_of_play : Settings → List (List ℕ) → Setting
setting_of_play s frames =
    record {
      cfg = cfg_of s;
      local = local_of s;
      check = s.checksum;
      listens = not (is_push s.app);
      isns = initial_numbers (local_of s) frames;
      neighbours = s.neighbours;
      answer = answer_of (application_of s.app s.text);
    }
