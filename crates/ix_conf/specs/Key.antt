-- The keys of a configuration as they are written.
use Rattle.std.specs.Prelude.{ℕ, List, codes}
use Rattle.ix_conf.specs.declared.keys.ConfKey.{ConfKey}
use Rattle.ix_conf.specs.declared.keys.ConfKey.TheVariants.{LocalMac, LocalIp, LocalPort, LocalApp, CoreCores, CoreLive, CoreBatch, CoreBuffers, CorePace, TcpWindow, TcpMss, TcpRto, TcpRetries, TcpTimeWait, TcpChecksum, Neighbour, PushText, PushPeers}

abbrev pub key_text : ConfKey → List ℕ
key_text LocalMac = codes "local.mac"
key_text LocalIp = codes "local.ip"
key_text LocalPort = codes "local.port"
key_text LocalApp = codes "local.app"
key_text CoreCores = codes "core.cores"
key_text CoreLive = codes "core.live"
key_text CoreBatch = codes "core.batch"
key_text CoreBuffers = codes "core.buffers"
key_text CorePace = codes "core.pace"
key_text TcpWindow = codes "tcp.window"
key_text TcpMss = codes "tcp.mss"
key_text TcpRto = codes "tcp.rto"
key_text TcpRetries = codes "tcp.retries"
key_text TcpTimeWait = codes "tcp.time_wait"
key_text TcpChecksum = codes "tcp.checksum"
key_text Neighbour = codes "neighbour"
key_text PushText = codes "push.text"
key_text PushPeers = codes "push.peers"
