-- The elements of an array, one at a time.
use Rattle.std.proofs.Common.{List, ◌++◌, Option, Some, None}

-- elements that were read, before those that are left
abbrev pub with_all : {A : Type 0} → List A → Option (List A) → Option (List A)
with_all front (Some rest) = Some (front ++ rest)
with_all front None = None
