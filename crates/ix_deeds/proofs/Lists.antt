-- Lists of which each element is so, and members.
use Rattle.std.proofs.Common.{◌≡◌, ℕ, Bool, true, false, List, [], ◌∷◌, ◌++◌, refl, arith, inl, inr}
use Rattle.std.specs.Prelude.{◌==◌, if◌then◌else◌}
use Rattle.std.specs.List.{AllByRecursion}
use Rattle.std.proofs.lemmas.Bool.Decides.{nat_tests}
use Rattle.ix_history.specs.Events.{Parcel, Event, took, came, worked, gone, lent}
use Rattle.ix_history.specs.Items.{came_from, gone_to}
use Rattle.ix_history.specs.Join.{In}

module _ {X : Type 0} (P : X → Type 0) where
  pub all-append : (xs ys : List X) → AllByRecursion P xs → AllByRecursion P ys → AllByRecursion P (xs ++ ys)
  all-append [] ys p q = q
  all-append (x ∷ xs) ys p q = (p.0, all-append xs ys p.1 q)

  pub all-left : (xs ys : List X) → AllByRecursion P (xs ++ ys) → AllByRecursion P xs
  all-left [] ys p = tt
  all-left (x ∷ xs) ys p = (p.0, all-left xs ys p.1)

  pub all-right : (xs ys : List X) → AllByRecursion P (xs ++ ys) → AllByRecursion P ys
  all-right [] ys p = p
  all-right (x ∷ xs) ys p = all-right xs ys p.1

  pub all-none : (xs : List X) → xs ≡ [] → AllByRecursion P xs
  all-none [] e = tt
  all-none (x ∷ xs) e = absurd (cc)

landed-if : {U I : Type 0} (q : Bool) (b c : ℕ) (t s : Parcel U I) (xs : List (Parcel U I)) → (b == c) ≡ q → b ≡ c → t ≡ s → In s (if q then t ∷ xs else xs)
landed-if true b c t s xs q e same = inl (let r = same in cc)
landed-if false b c t s xs q e same = absurd (let p : (b == c) ≡ true = grind (arith, nat_tests) in cc)

kept-if : {U I : Type 0} (q : Bool) (t s : Parcel U I) (xs : List (Parcel U I)) → In s xs → In s (if q then t ∷ xs else xs)
kept-if true t s xs i = inr i
kept-if false t s xs i = i

module _ {U I O : Type 0} where
  -- what came from a core is among all that came from it
  pub landed-in : (c : ℕ) (s : Parcel U I) (es : List (Event U I O)) → In (came c s) es → In s (came_from c es)
  landed-in c s [] i = absurd i
  landed-in c s (took x ∷ es) (inl e) = absurd (cc)
  landed-in c s (took x ∷ es) (inr i) = landed-in c s es i
  landed-in c s (came b t ∷ es) (inl e) = landed-if (b == c) b c t s (came_from c es) refl (cc) (cc)
  landed-in c s (came b t ∷ es) (inr i) = kept-if (b == c) t s (came_from c es) (landed-in c s es i)
  landed-in c s (worked max ∷ es) (inl e) = absurd (cc)
  landed-in c s (worked max ∷ es) (inr i) = landed-in c s es i
  landed-in c s (gone t ∷ es) (inl e) = absurd (cc)
  landed-in c s (gone t ∷ es) (inr i) = landed-in c s es i
  landed-in c s (lent h u out v ∷ es) (inl e) = absurd (cc)
  landed-in c s (lent h u out v ∷ es) (inr i) = landed-in c s es i

  gone-if : (q : Bool) (t s : Parcel U I) (xs : List (Parcel U I)) (es : List (Event U I O)) → (In s xs → In (gone s) es) → In s (if q then t ∷ xs else xs) → In (gone s) (gone t ∷ es)
  gone-if true t s xs es f (inl e) = inl (let r = e in cc)
  gone-if true t s xs es f (inr i) = inr (f i)
  gone-if false t s xs es f i = inr (f i)

  -- what was shipped to a core is gone
  pub gone-among : (d : ℕ) (s : Parcel U I) (es : List (Event U I O)) → In s (gone_to d es) → In (gone s) es
  gone-among d s [] i = absurd i
  gone-among d s (took x ∷ es) i = inr (gone-among d s es i)
  gone-among d s (came b t ∷ es) i = inr (gone-among d s es i)
  gone-among d s (worked max ∷ es) i = inr (gone-among d s es i)
  gone-among d s (gone t ∷ es) i = gone-if (t.to == d) t s (gone_to d es) es (gone-among d s es) i
  gone-among d s (lent h u out v ∷ es) i = inr (gone-among d s es i)
