use Rattle.std.proofs.Common.{◌≡◌, ◌+◌, ◌<◌, ◌^◌, ◌++◌, ℕ, List, length, arith, ap, subst, sym, ◌∙◌}
use Rattle.std.specs.Prelude.{IfSome}
use Rattle.ix_base.specs.declared.frame.Local.{Local}
use Rattle.ix_base.specs.declared.segment.SegHead.{SegHead}
use Rattle.ix_eth.specs.Ethernet.{ethernet_header, IsHeader}
use Rattle.ix_ip.specs.Header.{ip_header, IsPacketHeader}
use Rattle.ix_seg.specs.Written.{IsInRange, IsReceived, frame_bytes, mss_option, segment_bytes}
use Rattle.ix_seg.proofs.WrittenLaws.{frame_is, parts, is_received, length-segment_with, length-segment_bytes}
use Rattle.ix_seg.proofs.written.write_frame.Goals as goal

-- what is put is the frame of these parts, which its receiver reads
received_is : (h : SegHead) (local : Local) (body out e i : List ℕ) (len : ℕ) → IsInRange h → IfSome h.mss (λ m. m < 2 ^ 16)
    → IsHeader h.peer_mac local.mac 0x0800 e → e ≡ ethernet_header h.peer_mac local.mac 0x0800
    → IsPacketHeader h.flow.local h.flow.remote 6 (20 + len) i → i ≡ ip_header h.flow.local h.flow.remote 6 (20 + len)
    → len ≡ 20 + length (mss_option h.mss) + length body → out ≡ frame_bytes h local body → IsReceived h local body out
unfolding frame_bytes
received_is h local body out e i len range mss eth e_is ip i_is len_is out_is =
    let len_bytes : len ≡ length (segment_bytes h body) = len_is ∙ sym (length-segment_bytes h body) in
    let same : e ++ (i ++ segment_bytes h body) ≡ out =
    ap (λ (x : List ℕ). x ++ (i ++ segment_bytes h body)) e_is
    ∙ ap (λ (x : List ℕ). ethernet_header h.peer_mac local.mac 0x0800 ++ (x ++ segment_bytes h body))
    (i_is ∙ ap (λ (n : ℕ). ip_header h.flow.local h.flow.remote 6 (20 + n)) len_bytes)
    ∙ sym out_is in
    subst (λ (x : List ℕ). IsReceived h local body x) same
    (is_received h body range mss local e i (20 + len) eth ip (omega arith))

pub returns-clause-written : goal.returns-clause-written
returns-clause-written c =
    let h = c.args.head.now in
    let body = c.args.body.now in
    parts _ _ _ _ _ _ _ _ _ _ _ _ _ c.put_bytes-at.ensures.written c.put_bytes-at-2.ensures.written c.put_bytes-at-3.ensures.written
    c.put_option-at.ensures.written c.put_bytes.ensures.written c.ethernet_header.ensures.written c.ip_header.ensures.written c.tcp_header.ensures.bytes
    ∙ frame_is h c.args.local.now body _ _ (omega (arith, length-segment_with h body 0)) c.segment_sum-checksum.ensures

pub returns-clause-received : goal.returns-clause-received
returns-clause-received c =
    received_is c.args.head.now c.args.local.now c.args.body.now _ _ _ _ c.tcp_header.ensures.fits c.option_len.ensures.fits
    c.ethernet_header.ensures.reads_back c.ethernet_header.ensures.written c.ip_header.ensures.reads_back c.ip_header.ensures.written
    (omega arith) (returns-clause-written c)
