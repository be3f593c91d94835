use Rattle.std.proofs.Common.{rules, ◌<◌, length, refl}
use Rattle.ix_core.proofs.Closings.{ends_more, ends_none, waits_at}
use Rattle.ix_core.proofs.Homings.{read_self}
use Rattle.ix_core.proofs.closing.finish_group.Goals as goal

pub loop-place-init : goal.loop-place-init
loop-place-init g c = ends_none _ _ _ _ _

pub finish_here-requires : goal.finish_here-requires
finish_here-requires g c =
    let lt : c.loop-place.place < length c.loop-place.cores = search rules in
    waits_at c.args.g.0 c.loop-place.place _ _ _ lt (read_self c.loop-place.cores c.loop-place.place c.index-cores-place.result lt) c.requires c.loop-place.invariant.passed

pub loop-place-preserved : goal.loop-place-preserved
loop-place-preserved g c =
    let lt : c.loop-place.place < length c.loop-place.cores = search rules in
    ends_more _ _ c.loop-place.place _ _ _ _ _ _ _ _ _ _ _ lt (read_self c.loop-place.cores c.loop-place.place c.index-cores-place.result lt) refl c.in_ok-finish_here.ensures.ended c.in_ok-finish_here.ensures.finishes c.loop-place.invariant
