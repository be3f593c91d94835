-- An index by which the first of some pairs is found.
use Rattle.std.specs.Prelude.{◌≡◌, ℕ, List, Option, Some, None}
use Rattle.ix_base.specs.declared.id.Flow.{Flow}
use Rattle.ix_groupdef.specs.Setting.{isn_of, number_in}

-- where there is one, it finds what the pairs say
abbrev pub IsIndexOf : Option (List (Flow × ℕ)) → List (Flow × ℕ) → Type 0
IsIndexOf None pairs = Unit {0}
IsIndexOf (Some es) pairs = (q : Flow) → number_in es q ≡ isn_of q pairs
