use Rattle.std.proofs.Common.{◌+◌, ◌-◌, ℕ, length, ap, ◌∙◌}
use Rattle.ix_ip.specs.Sum.{carried, word_sum}
use Rattle.ix_ip.specs.SumLaws.{carried-pseudo}
use Rattle.ix_ip.proofs.sum.transport_sum.Goals as goal

pub returns : goal.returns
returns c =
    let a = c.args in
    ap (λ (n : ℕ). 65535 - n)
    (c.ones_sum.ensures ∙ ap (λ (s : ℕ). carried (s + word_sum a.bytes.now)) c.pseudo_sum-pseudo.ensures
    ∙ carried-pseudo a.src a.dst a.protocol (length a.bytes.now) a.bytes.now)
