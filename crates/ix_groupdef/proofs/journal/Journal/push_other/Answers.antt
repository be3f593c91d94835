use Rattle.std.proofs.Common.{refl}
use Rattle.ix_groupdef.proofs.JournalLaws.{other-stored}
use Rattle.ix_groupdef.proofs.journal.Journal.push_other.Goals as goal

pub invariant_of-self-2 : goal.invariant_of-self-2
invariant_of-self-2 c =
    rw c.in_ok-push.ensures.items (other-stored c.self.inside.stream.items c.self.inside.entries.items c.self.inside.left _ c.args.input refl c.requires c.self.invariant)
