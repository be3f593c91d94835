use Rattle.std.proofs.Common.{◌≡◌, ap, length, rules, sym, ◌∙◌}
use Rattle.ix_base.specs.declared.frame.Local.{Local}
use Rattle.ix_play.proofs.playing.has_mac.Goals as goal

pub returns : goal.returns
returns c =
    let six : length c.local_of-local.result.mac ≡ 6 = search rules in
    sym (ap (λ (l : Local). length l.mac) c.local_of-local.ensures) ∙ six
