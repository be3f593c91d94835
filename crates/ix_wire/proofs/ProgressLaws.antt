-- Lines that pass their tests.
use Rattle.std.proofs.Common.{◌≡◌, ℕ, refl, true, false}
use Rattle.std.specs.List.{list_any}
use Rattle.ix_wire.specs.declared.progress.Progress.{Progress}
use Rattle.ix_wire.specs.Command.{width_of}
use Rattle.ix_wire.specs.Progress.{core_of, move_run, with_steps}
use Rattle.ix_wire.specs.Table.{groups_from, is_live_core, is_on, is_untagged}

pub move_run-passes : (place to width : ℕ) (p : Progress) → width ≡ width_of p.version → is_live_core to p.table ≡ true
    → list_any (is_untagged p.table) (groups_from place width) ≡ false → list_any (is_on p.table to) (groups_from place width) ≡ false
    → move_run place to p ≡ with_steps (core_of to) (groups_from place width) p
unfolding move_run
move_run-passes place to width p is live tagged other = rw is at-width where
  at-width : move_run place to p ≡ with_steps (core_of to) (groups_from place (width_of p.version)) p
  at-width = rw (live, rw is at tagged, rw is at other) refl
