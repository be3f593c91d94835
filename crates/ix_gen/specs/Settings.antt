-- What the configuration of a generated play reads as: the four keys of its local side, four cores of 4,096 buffers, and each other key's
-- default.
use Rattle.std.specs.Prelude.{◌≡◌, [], true, Ok}
use Rattle.ix_conf.specs.declared.settings.AppKind.TheVariants.{Echo}
use Rattle.ix_conf.specs.Settings.{Settings, conf_of}
use Rattle.ix_gen.specs.Clients.{server_mac}
use Rattle.ix_gen.specs.Texts.{conf_text}

abbrev pub settings_made : Settings
settings_made = record {
  mac = server_mac;
  ip = 0xa18e6450;
  port = 1766;
  app = Echo;
  cores = 4;
  live = 4;
  batch = 64;
  buffers = 4096;
  pace = 256;
  window = 32768;
  mss = 1460;
  rto = 200;
  retries = 5;
  time_wait = 60000;
  checksum = true;
  neighbours = [];
  text = [];
  peers = [];
}

abbrev pub ConfIsRead : Type 0
ConfIsRead = conf_of conf_text ≡ Ok settings_made
