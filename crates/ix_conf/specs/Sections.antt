-- The sections `local`, `core` and `tcp` of a document. A line is a key: where it stands, what it may be, and its default.
use Rattle.std.specs.Prelude.{◌≤◌, codes, true, Result, Ok}
use Rattle.toml.specs.Data.{Members, as_bool, get_member}
use Rattle.ix_conf.specs.declared.keys.ConfFault.{ConfFault}
use Rattle.ix_conf.specs.declared.keys.ConfKey.TheVariants as keys
use Rattle.ix_conf.specs.declared.sections.LocalKeys.{LocalKeys}
use Rattle.ix_conf.specs.declared.sections.CoreKeys.{CoreKeys}
use Rattle.ix_conf.specs.declared.sections.TcpKeys.{TcpKeys}
use Rattle.ix_conf.specs.Value.{◌>>=◌, app_in, ip_in, mac_in, number_in, required, section_of, with_default}

unfoldable pub local_of : Members → Result LocalKeys ConfFault
local_of document = do
  local ← section_of (codes "local") keys.LocalMac document
  mac ← required keys.LocalMac mac_in (get_member (codes "mac") local)
  ip ← required keys.LocalIp ip_in (get_member (codes "ip") local)
  port ← required keys.LocalPort (number_in 1 65535) (get_member (codes "port") local)
  app ← required keys.LocalApp app_in (get_member (codes "app") local)
  Ok (record { mac = mac; ip = ip; port = port; app = app })

unfoldable pub core_of : Members → Result CoreKeys ConfFault
core_of document = do
  core ← section_of (codes "core") keys.CoreCores document
  cores ← with_default keys.CoreCores 1 (number_in 1 8) (get_member (codes "cores") core)
  live ← with_default keys.CoreLive cores (number_in 1 cores) (get_member (codes "live") core)
  batch ← with_default keys.CoreBatch 64 (number_in 1 256) (get_member (codes "batch") core)
  buffers ← with_default keys.CoreBuffers 1024 (number_in 64 4096) (get_member (codes "buffers") core)
  pace ← with_default keys.CorePace 256 (number_in 0 65536) (get_member (codes "pace") core)
  Ok (record { cores = cores; live = live; batch = batch; buffers = buffers; pace = pace })

unfoldable pub tcp_of : Members → Result TcpKeys ConfFault
tcp_of document = do
  tcp ← section_of (codes "tcp") keys.TcpWindow document
  window ← with_default keys.TcpWindow 32768 (number_in 64 65535) (get_member (codes "window") tcp)
  mss ← with_default keys.TcpMss 1460 (number_in 64 1460) (get_member (codes "mss") tcp)
  rto ← with_default keys.TcpRto 200 (number_in 1 60000) (get_member (codes "rto") tcp)
  retries ← with_default keys.TcpRetries 5 (number_in 1 8) (get_member (codes "retries") tcp)
  time_wait ← with_default keys.TcpTimeWait 60000 (number_in 1 60000) (get_member (codes "time_wait") tcp)
  checksum ← with_default keys.TcpChecksum true as_bool (get_member (codes "checksum") tcp)
  Ok (record { window = window; mss = mss; rto = rto; retries = retries; time_wait = time_wait; checksum = checksum })

pub record IsLocalInRange (local : LocalKeys) : Type 0 where
  pub port : 1 ≤ local.port

pub record IsCoreInRange (core : CoreKeys) : Type 0 where
  pub cores : (1 ≤ core.cores) × (core.cores ≤ 8)
  pub live : (1 ≤ core.live) × (core.live ≤ core.cores)
  pub batch : (1 ≤ core.batch) × (core.batch ≤ 256)
  pub buffers : (64 ≤ core.buffers) × (core.buffers ≤ 4096)
  pub pace : core.pace ≤ 65536

pub record IsTcpInRange (tcp : TcpKeys) : Type 0 where
  pub window : 64 ≤ tcp.window
  pub mss : (64 ≤ tcp.mss) × (tcp.mss ≤ 1460)
  pub rto : (1 ≤ tcp.rto) × (tcp.rto ≤ 60000)
  pub retries : (1 ≤ tcp.retries) × (tcp.retries ≤ 8)
  pub time_wait : (1 ≤ tcp.time_wait) × (tcp.time_wait ≤ 60000)
