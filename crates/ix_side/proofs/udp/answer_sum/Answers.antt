use Rattle.std.proofs.Common.{◌≡◌, ◌-◌, sym, ap, ◌∙◌}
use Rattle.ix_ip.specs.Sum.{transport_sum_of}
use Rattle.ix_side.specs.Echo.{shown, udp_with}
use Rattle.ix_side.proofs.SideLaws.{udp_checksum, shown_zero, shown_other}
use Rattle.ix_side.proofs.udp.answer_sum.Goals as goal

pub returns-then-checksum-eq0 : goal.returns-then-checksum-eq0
returns-then-checksum-eq0 c =
    let a = c.args in
    let sum : 65535 - c.ones_sum-checksum.result ≡ transport_sum_of a.src a.dst 17 (udp_with a.datagram.now 0) =
    udp_checksum a.src a.dst a.datagram.now _ _ _ _ c.requires.header c.pseudo_sum-pseudo.ensures c.udp_header.ensures c.ones_sum-header.ensures c.ones_sum-checksum.ensures in
    sym (shown_zero _ (sym sum ∙ c.if-checksum-eq0.true))

pub returns-else-checksum-eq0 : goal.returns-else-checksum-eq0
returns-else-checksum-eq0 c =
    let a = c.args in
    let sum : 65535 - c.ones_sum-checksum.result ≡ transport_sum_of a.src a.dst 17 (udp_with a.datagram.now 0) =
    udp_checksum a.src a.dst a.datagram.now _ _ _ _ c.requires.header c.pseudo_sum-pseudo.ensures c.udp_header.ensures c.ones_sum-header.ensures c.ones_sum-checksum.ensures in
    sym (shown_other _ c.if-checksum-eq0.false) ∙ ap shown sum
