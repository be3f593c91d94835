use Rattle.std.proofs.Common.{◌≡◌, List, ℕ, arith, subst, sym, ap, ◌∙◌}
use Rattle.ix_ip.specs.Sum.{sum16_of}
use Rattle.ix_ip.specs.Header.{IsPacketHeader, header_with, ip_header}
use Rattle.ix_ip.proofs.PacketLaws.{header_read}
use Rattle.ix_ip.proofs.header.ip_header.Goals as goal

pub returns-clause-reads_back : goal.returns-clause-reads_back
unfolding ip_header
returns-clause-reads_back c =
    let a = c.args in
    let same : c.header_with-2.result ≡ ip_header a.src a.dst a.protocol a.total =
    c.header_with-2.ensures ∙ ap (header_with a.src a.dst a.protocol a.total) (c.sum16-checksum.ensures ∙ ap sum16_of c.header_with.ensures) in
    subst (λ (h : List ℕ). IsPacketHeader a.src a.dst a.protocol a.total h) (sym same)
    (header_read a.src a.dst a.protocol a.total (omega arith) (omega arith) (omega arith))
