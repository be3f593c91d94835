use Rattle.std.proofs.Common.{◌∙◌, ap, is_lt}
use Rattle.ix_playdef.proofs.Keys.{before-same}
use Rattle.ix_playdef.proofs.replies.is_before.Goals as goal

pub returns : goal.returns
returns c = c.is_lt.ensures ∙ ap is_lt c.cmp.ensures ∙ before-same c.args.a.now c.args.b.now
