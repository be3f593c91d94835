-- One group among all.
use Rattle.std.proofs.Common.{◌≡◌, ℕ, ◌<◌, Bool, true, false, List, length, get_or, set, refl, sym, ap, ◌∙◌}
use Rattle.std.specs.Prelude.{◌&&◌}
use Rattle.std.proofs.lemmas.Option.{slice_get-get_or}
use Rattle.std.proofs.lemmas.List.{set-get_or}
use Rattle.ix_desk.specs.Views.{Group, View}
use Rattle.ix_desk.specs.Groups.{empty}
use Rattle.ix_desk.specs.Desks.{group_at, with_group}

pub and-left : (a b : Bool) → (a && b) ≡ true → a ≡ true
and-left true b e = refl
and-left false b e = e

pub and-right : (a b : Bool) → (a && b) ≡ true → b ≡ true
and-right true b e = e
and-right false b e = absurd (cc)

-- an element that is there doesn't depend on the default
pub default-free : {X : Type 0} (xs : List X) (i : ℕ) (x d : X) → i < length xs → x ≡ get_or xs i x → get_or xs i d ≡ x
default-free xs i x d lt read = let a = slice_get-get_or xs i d lt in let b = slice_get-get_or xs i x lt in cc

-- an element that is put back
pub put_back : {X : Type 0} (xs : List X) (i : ℕ) (x y : X) → x ≡ get_or xs i x → y ≡ x → set xs i y ≡ xs
put_back xs i x y read same = ap (set xs i) (same ∙ read) ∙ set-get_or xs i x

module _ {U I : Type 0} (v : View U I) (i g : ℕ) (x : Group U I) where
  pub reads : i ≡ g → i < length v.groups → x ≡ get_or v.groups i x → group_at v g ≡ x
  reads at lt read = rw (← at) (default-free v.groups i x empty lt read)

  pub writes : (y : Group U I) (f : Group U I → Group U I) → i ≡ g → i < length v.groups → x ≡ get_or v.groups i x → y ≡ f x
      → record { core = v.core; failed = v.failed; groups = set v.groups i y } ≡ with_group v g (f (group_at v g))
  writes y f at lt read made =
      let whole = λ (gs : List (Group U I)). let w : View U I = record { core = v.core; failed = v.failed; groups = gs } in w in
      let same = reads at lt read in
      let new : y ≡ f (group_at v g) = made ∙ ap f (sym same) in
      ap whole (ap (λ j. set v.groups j y) at ∙ ap (set v.groups g) new)

  pub keeps : (y : Group U I) → x ≡ get_or v.groups i x → y ≡ x → record { core = v.core; failed = v.failed; groups = set v.groups i y } ≡ v
  keeps y read same =
      let whole = λ (gs : List (Group U I)). let w : View U I = record { core = v.core; failed = v.failed; groups = gs } in w in
      ap whole (put_back v.groups i x y read same)
