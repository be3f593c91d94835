use Rattle.std.proofs.Common.{◌≡◌, ℕ, List, sym, Option, Some, None}
use Rattle.std.specs.Prelude.{IfNone, IfSome, position}
use Rattle.ix_desk.specs.Views.{CutPiece}
use Rattle.ix_desk.specs.Groups.{is_seated, HasNoUnit, HasUnitAt}
use Rattle.ix_desk.proofs.Cuts.{no-unit, unit-at}
use Rattle.ix_desk.proofs.group.place_of_unit.Goals as goal

some-unit : {U I : Type 0} (cs : List (CutPiece U I)) (o : Option ℕ) → o ≡ position is_seated cs → IfSome o (HasUnitAt cs)
some-unit cs None e = tt
some-unit cs (Some i) e = unit-at cs i (sym e)

none-unit : {U I : Type 0} (cs : List (CutPiece U I)) (o : Option ℕ) → o ≡ position is_seated cs → IfNone o (HasNoUnit cs)
none-unit cs None e = no-unit cs (sym e)
none-unit cs (Some i) e = tt

pub returns-clause-some : goal.returns-clause-some
returns-clause-some g c = some-unit c.args.cut.now c.place_of_seated.result c.place_of_seated.ensures

pub returns-clause-none : goal.returns-clause-none
returns-clause-none g c = none-unit c.args.cut.now c.place_of_seated.result c.place_of_seated.ensures
