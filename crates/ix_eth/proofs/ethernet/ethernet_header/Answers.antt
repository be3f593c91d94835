use Rattle.std.proofs.Common.{◌≡◌, List, ℕ, arith, subst, sym}
use Rattle.std.proofs.lemmas.Grind.{common_steps}
use Rattle.ix_eth.specs.Ethernet.{IsHeader, ethernet_header}
use Rattle.ix_eth.proofs.EthernetLaws.{header_read}
use Rattle.ix_eth.proofs.ethernet.ethernet_header.Goals as goal

pub returns-clause-reads_back : goal.returns-clause-reads_back
returns-clause-reads_back c =
    let read = header_read c.args.dst.now c.args.src.now c.args.kind c.told-dst c.told-src (omega arith) in
    let same : c.put_bytes.new.out ≡ ethernet_header c.args.dst.now c.args.src.now c.args.kind = grind (arith, common_steps) in
    subst (λ (h : List ℕ). IsHeader c.args.dst.now c.args.src.now c.args.kind h) (sym same) read
