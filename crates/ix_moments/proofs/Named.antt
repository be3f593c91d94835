-- What the settles tell of the owners doesn't depend on the names of frames.
use Rattle.std.proofs.Common.{ℕ, List, [], ◌∷◌}
use Rattle.std.specs.List.{AllByRecursion}
use Rattle.ix_base.specs.declared.id.WireNo.{WireNo}
use Rattle.ix_mbuf.specs.declared.name.Name.{Name}
use Rattle.ix_settled.specs.Moments.{Moment, Opening}
use Rattle.ix_course.specs.Course.{with_names}
use Rattle.ix_owned.specs.Owned.{AreNotPrinted, NotPrinted, TellsOwners}

module _ (p : Opening) (f : WireNo → Name) where
  tells-named : (m : Moment) → TellsOwners p m → TellsOwners (with_names p f) m
  tells-named m tells = record {
    homes = λ c h lt. let one = tells.homes c h lt in record { desk = one.desk; held = one.held; app = one.app; queue = one.queue };
    once = tells.once;
  }

  pub all-named : (ms : List Moment) → AllByRecursion (TellsOwners p) ms → AllByRecursion (TellsOwners (with_names p f)) ms
  all-named [] tell = tt
  all-named (m ∷ ms) tell = (tells-named m tell.0, all-named ms tell.1)

  printed-named : (before m : Moment) → NotPrinted p before m → NotPrinted (with_names p f) before m
  printed-named before m kept = record { none = kept.none }

  pub kept-named : (ms : List Moment) → AreNotPrinted p ms → AreNotPrinted (with_names p f) ms
  kept-named [] kept = tt
  kept-named (m ∷ []) kept = tt
  kept-named (m ∷ before ∷ ms) kept = (printed-named before m kept.0, kept-named (before ∷ ms) kept.1)
