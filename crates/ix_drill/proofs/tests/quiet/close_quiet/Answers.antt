use Rattle.std.proofs.Common.{◌∙◌, sym}
use Rattle.ix_drill.proofs.Done.{can_close}
use Rattle.ix_drill.proofs.tests.quiet.close_quiet.Goals as goal

pub close-requires : goal.close-requires
close-requires c =
    can_close _ _ c.meet_all.ensures.order c.meet_all.ensures.told (c.meet_all.ensures.cores.count ∙ c.requires.three) (sym c.are_busy.ensures ∙ c.if-are_busy.false) (sym c.have_items.ensures ∙ c.if-have_items.false)
    (c.few_are_posted.ensures c.if-not-few_are_posted.false)
