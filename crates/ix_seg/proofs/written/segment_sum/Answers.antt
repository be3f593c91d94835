use Rattle.std.proofs.Common.{◌+◌, ◌-◌, ℕ, List, length, refl, ap, ◌∙◌}
use Rattle.ix_ip.specs.Sum.{carried, word_sum, pseudo_header}
use Rattle.ix_seg.specs.Written.{mss_option, tcp_header_with, segment_with}
use Rattle.ix_seg.proofs.WrittenLaws.{four_summed, half_option}
use Rattle.ix_seg.proofs.written.segment_sum.Goals as goal

pub returns : goal.returns
returns c =
    let h = c.args.head.now in
    let b = c.args.body.now in
    ap (λ (n : ℕ). 65535 - n)
    (four_summed (pseudo_header h.flow.local h.flow.remote 6 (length (segment_with h b 0))) (tcp_header_with h 0) (mss_option h.mss) b 6 10 _ _ _ _ _
    refl refl (half_option h.mss)
    (c.pseudo_sum-pseudo.ensures ∙ ap (λ (n : ℕ). carried (word_sum (pseudo_header h.flow.local h.flow.remote 6 n))) c.requires)
    (c.ones_sum-header.ensures ∙ ap (λ (xs : List ℕ). carried (c.pseudo_sum-pseudo.result + word_sum xs)) c.tcp_header.ensures.bytes)
    c.option_sum-option.ensures c.ones_sum.ensures)
