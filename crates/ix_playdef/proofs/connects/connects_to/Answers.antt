use Rattle.std.proofs.Common.{rules, take, get_or}
use Rattle.ix_playdef.proofs.ConnectLaws.{connects-more, apart-more}
use Rattle.ix_playdef.proofs.connects.connects_to.Goals as goal

pub loop-i-preserved : goal.loop-i-preserved
loop-i-preserved c =
    let i = c.loop-i.i in
    let peers = c.args.peers.now in
    record {
      made = connects-more peers i (0, 0) c.loop-i.connects.items c.push.new.self.items _ c.loop-i-test.true c.in_ok-push.ensures.items (search rules) c.loop-i.invariant.made;
      apart = λ ip. apart-more ip (take i peers) (get_or peers i (0, 0)) c.loop-i.connects.items c.push.new.self.items _ c.in_ok-push.ensures.items (search rules)
          c.loop-i.invariant.made (c.loop-i.invariant.apart ip);
    }
