use Rattle.std.proofs.Common.{◌≡◌, ◌+◌, ◌≤◌, ◌++◌, ℕ, List, take, length, arith, ap, sym, ◌∙◌}
use Rattle.std.proofs.lemmas.List.{length-take-le}
use Rattle.std.proofs.lemmas.Grind.{common_steps}
use Rattle.ix_eth.specs.Ethernet.{ethernet_header}
use Rattle.ix_ip.specs.Header.{ip_header}
use Rattle.ix_ip.specs.Sum.{transport_sum_of}
use Rattle.ix_side.specs.Echo.{datagram_len, datagram_of, shown, udp_answer, udp_reply, udp_with}
use Rattle.ix_side.proofs.SideLaws.{udp_put, udp_right, udp_summed, read_by, length-udp_reply}
use Rattle.ix_side.proofs.udp.udp_answer.Goals as goal

-- what the code cuts of a payload is its datagram
record IsCut (bytes payload : List ℕ) (len : ℕ) : Type 0 where
  same : take len bytes ≡ datagram_of payload
  size : length (take len bytes) ≡ len
  whole : 8 ≤ len
  within : len ≤ length payload
  reply : (src dst : ℕ) → len ≡ length (udp_reply src dst (datagram_of payload))

cut : (bytes payload : List ℕ) (len : ℕ) → bytes ≡ payload → len ≡ datagram_len bytes → 8 ≤ datagram_len payload → datagram_len payload ≤ length payload
    → IsCut bytes payload len
cut bytes payload len given told whole within =
    let len_is : len ≡ datagram_len payload = told ∙ ap datagram_len given in
    let same : take len bytes ≡ datagram_of payload = ap (λ (k : ℕ). take k bytes) told ∙ ap datagram_of given in
    let size : length (take len bytes) ≡ len = length-take-le len bytes (omega (arith, ap length given)) in
    record {
      same = same;
      size = size;
      whole = omega arith;
      within = omega arith;
      reply = λ src dst. sym size ∙ ap length same ∙ sym (length-udp_reply src dst (datagram_of payload) (omega (arith, ap length same)));
    }

pub returns-clause-written : goal.returns-clause-written
returns-clause-written c =
    let p = c.args.ip.now in
    let l = c.args.local.now in
    let header = ethernet_header c.args.view.now.src l.mac 0x0800 in
    let told : c.read_u16-len.result ≡ datagram_len c.payload-payload.result.now = grind (arith, common_steps) in
    let facts : IsCut c.payload-payload.result.now c.args.ip.now.payload c.read_u16-len.result =
    cut c.payload-payload.result.now c.args.ip.now.payload c.read_u16-len.result c.payload-payload.ensures.bytes told c.requires.header c.requires.within in
    let d = take c.read_u16-len.result c.payload-payload.result.now in
    let put : take c.put_bytes.result c.put_bytes.new.out ≡ udp_answer c.args.view.now c.args.ip.now c.args.local.now =
    udp_put header l.ip p.src c.read_u16-len.result d _ _ _ _ c.answer_sum-checksum.result
    (omega (arith, facts.size, facts.whole)) (sym facts.size) c.put_headers-at.ensures.written c.put_bytes-at.ensures.written c.put_bytes.ensures.written
    (c.answer_sum-checksum.ensures ∙ ap (λ (n : ℕ). shown (transport_sum_of l.ip n 17 (udp_with d 0))) c.src.ensures) c.udp_header.ensures
    ∙ ap (λ (x : List ℕ). header ++ (ip_header l.ip p.src 17 (20 + length (udp_reply l.ip p.src x)) ++ udp_reply l.ip p.src x)) facts.same in
    record {
      written = put;
      whole = sym (length-take-le c.put_bytes.result c.put_bytes.new.out (omega (arith, facts.size, facts.within))) ∙ ap length put;
      rest = c.put_bytes.ensures.rest _ (omega arith) ∙ c.put_bytes-at.ensures.rest _ (omega arith) ∙ c.put_headers-at.ensures.rest _ (omega arith);
    }

pub returns-clause-right : goal.returns-clause-right
returns-clause-right c =
    let p = c.args.ip.now in
    let l = c.args.local.now in
    let d = datagram_of p.payload in
    let told : c.read_u16-len.result ≡ datagram_len c.payload-payload.result.now = grind (arith, common_steps) in
    let facts : IsCut c.payload-payload.result.now c.args.ip.now.payload c.read_u16-len.result =
    cut c.payload-payload.result.now c.args.ip.now.payload c.read_u16-len.result c.payload-payload.ensures.bytes told c.requires.header c.requires.within in
    record {
      read = read_by c.args.view.now p l 17 c.read_u16-len.result (ethernet_header c.args.view.now.src l.mac 0x0800) (udp_reply l.ip p.src d) _
          (facts.reply l.ip p.src) c.put_headers-at.ensures.ethernet c.put_headers-at.ensures.packet (returns-clause-written c).written;
      sum = udp_right l.ip p.src d;
      summed = udp_summed l.ip p.src d;
    }
