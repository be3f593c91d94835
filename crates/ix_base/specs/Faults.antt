-- Two counts of faults, by kind.
use Rattle.std.specs.Prelude.{◌≡◌, ◌≤◌, ℕ}
use Rattle.ix_base.specs.declared.faults.Faults.{Faults}
use Rattle.ix_base.specs.declared.role.Kind.{Kind}
use Rattle.ix_base.specs.declared.role.Kind.TheVariants.{Reading, Writing}
use Rattle.ix_base.specs.Role.{other_kind}
use Rattle.ix_base.specs.Host.{Rose}

abbrev pub fault_count : Faults → Kind → ℕ
fault_count f Reading = f.reading
fault_count f Writing = f.writing

-- a fault of this kind, and none of the other
pub record Raised (kind : Kind) (before now : Kind → ℕ) : Type 0 where
  pub later : before kind ≤ now kind
  pub rose : Rose (before kind) (now kind)
  pub other : now (other_kind kind) ≡ before (other_kind kind)
