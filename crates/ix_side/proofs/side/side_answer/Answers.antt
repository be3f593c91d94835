use Rattle.std.proofs.Common.{arith}
use Rattle.ix_side.proofs.side.side_answer.Goals as goal

pub icmp_answer-len-requires-clause-small : goal.icmp_answer-len-requires-clause-small
icmp_answer-len-requires-clause-small c =
    let lies = c.payloads_lie_within.ensures c.args.view.now.rest c.args.ip.now c.requires.packet in
    omega (arith, lies.behind, lies.within)

pub udp_answer-len-requires-clause-small : goal.udp_answer-len-requires-clause-small
udp_answer-len-requires-clause-small c =
    let lies = c.payloads_lie_within.ensures c.args.view.now.rest c.args.ip.now c.requires.packet in
    omega (arith, lies.behind, lies.within)
