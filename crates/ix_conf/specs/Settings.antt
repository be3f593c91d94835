-- The configuration that bytes give, or its first fault.
use Rattle.std.specs.Prelude.{ℕ, codes, List, [], Bool, if◌then◌else◌, Option, Some, None, Result, Ok, Err}
use Rattle.std.specs.Str.{is_utf8}
use Rattle.toml.specs.Data.{Members, get_member}
use Rattle.toml.specs.Parse.{parse_document}
use Rattle.ix_conf.specs.declared.keys.ConfKey.TheVariants as keys
use Rattle.ix_conf.specs.declared.keys.ConfFault.{ConfFault}
use Rattle.ix_conf.specs.declared.keys.ConfFault.TheVariants as faults
use Rattle.ix_conf.specs.declared.settings.AppKind.{AppKind}
use Rattle.ix_conf.specs.declared.settings.Conf.{Conf}
use Rattle.ix_conf.specs.declared.unknown.Place.TheVariants as places
use Rattle.ix_conf.specs.Push.{push_of}
use Rattle.ix_conf.specs.Sections.{core_of, local_of, tcp_of}
use Rattle.ix_conf.specs.Tables.{neighbours_in}
use Rattle.ix_conf.specs.Unknown.{is_unknown_in_members}
use Rattle.ix_conf.specs.Value.{◌>>=◌, with_default}

-- a configuration without the ranges that its type keeps
pub record Settings : Type 0 where
  pub mac : List ℕ
  pub ip : ℕ
  pub port : ℕ
  pub app : AppKind
  pub cores : ℕ
  pub live : ℕ
  pub batch : ℕ
  pub buffers : ℕ
  pub pace : ℕ
  pub window : ℕ
  pub mss : ℕ
  pub rto : ℕ
  pub retries : ℕ
  pub time_wait : ℕ
  pub checksum : Bool
  pub neighbours : List (ℕ × List ℕ)
  pub text : List ℕ
  pub peers : List (ℕ × ℕ)

abbrev pub settings_of : Conf → Settings
settings_of conf = record {
  mac = conf.mac;
  ip = conf.ip;
  port = conf.port;
  app = conf.app;
  cores = conf.cores;
  live = conf.live;
  batch = conf.batch;
  buffers = conf.buffers;
  pace = conf.pace;
  window = conf.window;
  mss = conf.mss;
  rto = conf.rto;
  retries = conf.retries;
  time_wait = conf.time_wait;
  checksum = conf.checksum;
  neighbours = conf.neighbours;
  text = conf.text;
  peers = conf.peers;
}

-- the keys of a document, section by section in the order in which they are tested
unfoldable pub keys_of : Members → Result Settings ConfFault
keys_of document = do
  local ← local_of document
  core ← core_of document
  tcp ← tcp_of document
  neighbours ← with_default keys.Neighbour [] neighbours_in (get_member (codes "neighbour") document)
  push ← push_of document
  Ok (record {
    mac = local.mac;
    ip = local.ip;
    port = local.port;
    app = local.app;
    cores = core.cores;
    live = core.live;
    batch = core.batch;
    buffers = core.buffers;
    pace = core.pace;
    window = tcp.window;
    mss = tcp.mss;
    rto = tcp.rto;
    retries = tcp.retries;
    time_wait = tcp.time_wait;
    checksum = tcp.checksum;
    neighbours = neighbours;
    text = push.text;
    peers = push.peers;
  })

abbrev pub members_read : Option Members → Result Settings ConfFault
members_read None = Err faults.Text
members_read (Some document) = if is_unknown_in_members places.Root document then Err faults.Unknown else keys_of document

unfoldable pub conf_of : List ℕ → Result Settings ConfFault
conf_of bytes = if is_utf8 bytes then members_read (parse_document bytes) else Err faults.Text
