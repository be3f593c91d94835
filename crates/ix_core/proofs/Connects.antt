-- A connect moves no buffer.
use Rattle.std.proofs.Common.{◌≡◌, ◌<◌, ℕ, length, refl, ap, arith}
use Rattle.ix_base.specs.declared.id.Flow.{Flow}
use Rattle.ix_base.specs.declared.segment.Ret.{Ret}
use Rattle.ix_hash.specs.Group.{group_of_flow}
use Rattle.ix_mbuf.specs.declared.name.Name.{Name}
use Rattle.ix_desk.specs.Desks.{group_at}
use Rattle.ix_desk.specs.Groups.{changed}
use Rattle.ix_core.specs.declared.turning.Core.{Core}
use Rattle.ix_core.specs.Connecting.{ConnectsAt}
use Rattle.ix_core.specs.Weights.{WeighsTheSame, core_weight, desks_weight, put_weight, taken_weight}
use Rattle.ix_core.proofs.Units.{unit_within}
use Rattle.ix_core.proofs.Weighs.{changed-weighs, set-weighs}

pub weighs_stay : {U E : Type 0} (weight : (Name → ℕ) → U → ℕ) (x : Core U E) → WeighsTheSame weight x x
weighs_stay weight x = record { held = λ f. refl; put = λ f. refl; took = λ f. refl }

module _ {U E : Type 0} (connected : U → E → ℕ → ℕ → Flow → Ret → U → Type 0) (weight : (Name → ℕ) → U → ℕ)
    (law : (f : Name → ℕ) (x : U) (env : E) (core cookie : ℕ) (flow : Flow) (ret : Ret) (y : U) → connected x env core cookie flow ret y → weight f y ≡ weight f x) where
  pub connect_weighs : (env : E) (core cookie : ℕ) (flow : Flow) (ret : Ret) (old new : Core U E) → ConnectsAt connected env core cookie flow ret old.desks new.desks
      → new ≡ record old { desks = new.desks } → WeighsTheSame weight old new
  connect_weighs env core cookie flow ret old new c rest = record {
    held = λ f.
        let g = group_of_flow flow in
        let lt : g < length old.desks.groups = unit_within old.desks.groups g c.unit c.here in
        let over = ap (desks_weight (weight f) f) c.over in
        let place = set-weighs (weight f) f old.desks g (changed (group_at old.desks g) c.left) lt in
        let unit = changed-weighs (weight f) f (group_at old.desks g) c.unit c.left c.here in
        let same = law f c.unit env core cookie flow ret c.left c.opens in
        omega (arith, ap (core_weight (weight f) f) rest, over, place, unit, same);
    put = λ f. ap (put_weight (weight f) f) rest;
    took = λ f. ap (taken_weight (weight f) f) rest;
  }
