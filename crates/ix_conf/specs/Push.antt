-- The section `push` of a document.
use Rattle.std.specs.Prelude.{◌≤◌, codes, [], length, Result, Ok}
use Rattle.toml.specs.Data.{Members, get_member}
use Rattle.ix_conf.specs.declared.keys.ConfFault.{ConfFault}
use Rattle.ix_conf.specs.declared.keys.ConfKey.TheVariants as keys
use Rattle.ix_conf.specs.declared.push.PushKeys.{PushKeys}
use Rattle.ix_conf.specs.Tables.{HasPorts, peers_in, text_in}
use Rattle.ix_conf.specs.Value.{◌>>=◌, section_of, with_default}

unfoldable pub push_of : Members → Result PushKeys ConfFault
push_of document = do
  push ← section_of (codes "push") keys.PushText document
  text ← with_default keys.PushText [] text_in (get_member (codes "text") push)
  peers ← with_default keys.PushPeers [] peers_in (get_member (codes "peers") push)
  Ok (record { text = text; peers = peers })

pub record IsPushInRange (push : PushKeys) : Type 0 where
  pub text : length push.text ≤ 65536
  pub count : length push.peers ≤ 64
  pub ports : HasPorts push.peers
