-- The times on a ring, by their numbers.
use Rattle.std.proofs.Common.{◌<◌, ℕ, suc, List, [], ◌∷◌, map}
use Rattle.std.specs.List.{AllByRecursion}
use Rattle.ix_stack.specs.declared.item.Item.{Item}
use Rattle.ix_stack.specs.declared.item.Item.TheVariants as items
use Rattle.ix_nic.specs.Words.{word}
use Rattle.ix_course.proofs.Rings.{AreNumbered}

-- the number of a time is below a bound
abbrev pub IsBelow : ℕ → Item → Type 0
IsBelow high (items.Time v t) = v.0 < high
IsBelow high (items.Frame v g buf) = Unit {0}
IsBelow high (items.Tag g) = Unit {0}
IsBelow high (items.Cut g to) = Unit {0}
IsBelow high (items.Start g k) = Unit {0}
IsBelow high items.End = Unit {0}

pub are-below : (low high : ℕ) (its : List Item) → AreNumbered low high (map word its) → AllByRecursion (IsBelow high) its
are-below low high [] h = tt
are-below low high (items.Frame v g buf ∷ its) h = (tt, are-below (suc v.0) high its h.2)
are-below low high (items.Time v t ∷ its) h = (h.1, are-below low high its h.2)
are-below low high (items.Tag g ∷ its) h = (tt, are-below low high its h)
are-below low high (items.Cut g to ∷ its) h = (tt, are-below low high its h)
are-below low high (items.Start g k ∷ its) h = (tt, are-below low high its h)
are-below low high (items.End ∷ its) h = (tt, are-below low high its h)
