use Rattle.std.proofs.Common.{◌≡◌, drop}
use Rattle.toml.specs.View.{items_view}
use Rattle.ix_conf.specs.Tables.{HasPorts, all_of, peer_in}
use Rattle.ix_conf.proofs.TableLaws.{with_all}
use Rattle.ix_conf.proofs.push.all_peers.Given as goal

abbrev pub invariant-loop-element : goal.invariant-loop-element
invariant-loop-element l = record {
  read : with_all l.peers (all_of peer_in (items_view (drop l.element-index l.element-items))) ≡ all_of peer_in (items_view l.element-items);
  ports : HasPorts l.peers;
}
