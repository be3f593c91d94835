use Rattle.std.proofs.Common.{◌≡◌, ◌+◌, [], ◌∷◌, ◌++◌, ℕ, List, take, length, slice_index, arith, ap, refl, sym, ◌∙◌}
use Rattle.std.proofs.lemmas.List.{length-take-le}
use Rattle.ix_eth.specs.Ethernet.{ethernet_header}
use Rattle.ix_ip.specs.Header.{ip_header}
use Rattle.ix_side.specs.Echo.{icmp_answer, icmp_reply}
use Rattle.ix_side.proofs.SideLaws.{icmp_put, icmp_right, read_by, length-icmp_reply}
use Rattle.ix_side.proofs.icmp.icmp_answer.Goals as goal

pub returns-clause-written : goal.returns-clause-written
returns-clause-written c =
    let e = c.args.view.now in
    let p = c.args.ip.now in
    let l = c.args.local.now in
    let header = ethernet_header e.src l.mac 0x0800 in
    let message = c.payload-message.result.now in
    let len : length c.payload-message.result.now ≡ length c.args.ip.now.payload = ap length c.payload-message.ensures.bytes in
    let put : take c.put_bytes.result c.put_bytes.new.out ≡ icmp_answer c.args.view.now c.args.ip.now c.args.local.now =
    icmp_put header l.ip p.src (length message) message _ _ _ _ c.sum16.result (omega arith) refl
    c.put_headers-at.ensures.written c.put_bytes-at.ensures.written c.put_bytes.ensures.written c.sum16.ensures
    (ap (λ (b : List ℕ). 0 ∷ 0 ∷ slice_index b 0 ∷ slice_index b 1 ∷ []) c.to_be_bytes.ensures)
    ∙ ap (λ (m : List ℕ). header ++ (ip_header l.ip p.src 1 (20 + length (icmp_reply m)) ++ icmp_reply m)) c.payload-message.ensures.bytes in
    record {
      written = put;
      whole = sym (length-take-le c.put_bytes.result c.put_bytes.new.out (omega arith)) ∙ ap length put;
      rest = c.put_bytes.ensures.rest _ (omega arith) ∙ c.put_bytes-at.ensures.rest _ (omega arith) ∙ c.put_headers-at.ensures.rest _ (omega arith);
    }

pub returns-clause-right : goal.returns-clause-right
returns-clause-right c =
    let p = c.args.ip.now in
    record {
      read = read_by c.args.view.now p c.args.local.now 1 (length c.payload-message.result.now) (ethernet_header c.args.view.now.src c.args.local.now.mac 0x0800)
          (icmp_reply p.payload) _ (ap length c.payload-message.ensures.bytes ∙ sym (length-icmp_reply p.payload (omega arith)))
          c.put_headers-at.ensures.ethernet c.put_headers-at.ensures.packet (returns-clause-written c).written;
      sum = icmp_right p.payload;
    }
