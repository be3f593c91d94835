use Rattle.std.proofs.Common.{arith, ◌≡◌, ◌-◌, ◌∙◌, ap, get_or, refl}
use Rattle.ix_nic.specs.declared.offer.Counts.{Counts}
use Rattle.ix_core.specs.Renewing.{posted_count}
use Rattle.ix_core.proofs.Renewals.{any_port, now_fresh, renewed_so, room_fresh}
use Rattle.ix_core.proofs.renewing.renew.Goals as goal

pub overflow_sub-known : goal.overflow_sub-known
overflow_sub-known g c =
    let p = any_port c.args.core.now in
    let told : c.counts-known.result.posted ≡ posted_count (get_or c.args.nic.now.ports c.args.id.0 p) =
    ap (λ (n : Counts). n.posted) (c.counts-known.ensures p) ∙ now_fresh _ _ _ _ _ (c.requires.resting p) (c.in_ok-fresh_ends.ensures.ok p) in
    omega (arith, told, (c.requires.resting p).few)

pub fill-requires : goal.fill-requires
fill-requires g c =
    let p = any_port c.args.core.now in
    let told : c.counts-known.result.posted ≡ posted_count (get_or c.args.nic.now.ports c.args.id.0 p) =
    ap (λ (n : Counts). n.posted) (c.counts-known.ensures p) ∙ now_fresh _ _ _ _ _ (c.requires.resting p) (c.in_ok-fresh_ends.ensures.ok p) in
    omega (arith, told, room_fresh _ _ _ _ _ (c.requires.resting p) (c.in_ok-fresh_ends.ensures.ok p))

pub returns-clause-renewed : goal.returns-clause-renewed
returns-clause-renewed g c = λ p.
    let told : c.counts-known.result.posted ≡ posted_count (get_or c.args.nic.now.ports c.args.id.0 p) =
    ap (λ (n : Counts). n.posted) (c.counts-known.ensures p) ∙ now_fresh _ _ _ _ _ (c.requires.resting p) (c.in_ok-fresh_ends.ensures.ok p) in
    renewed_so _ _ _ _ _ _ _ _ _ (c.requires.resting p) (c.in_ok-fresh_ends.ensures.ok p) (ap (λ n. 512 - n) told) c.fill.ensures.ring c.fill.ensures.fills (c.meet_ends.ensures.met p) refl
