-- What changes neither which items fit nor which units are awaited.
use Rattle.std.proofs.Common.{◌≡◌, ℕ, zero, suc, List, [], ◌∷◌, ◌++◌, get_or, set, refl, ap, Bool, ◌⊎◌, inl, inr}
use Rattle.std.specs.Prelude.{Option, Some, None, is_some, is_none, nat_lt, not, ◌&&◌}
use Rattle.ix_desk.specs.declared.unit.DeskItem.{DeskItem}
use Rattle.ix_desk.specs.declared.unit.DeskItem.TheVariants.{Work, Tag, Cut, Start}
use Rattle.ix_desk.specs.Views.{Piece, Group, View}
use Rattle.ix_desk.specs.Groups.{fits, empty, is_tagged, is_untagged, shipped}
use Rattle.ix_desk.specs.Steps.{EachWorked, group_leaves, CurrentWorked, GroupWorked, AllWorked}
use Rattle.ix_desk.specs.Failures.{StepFailed, CurrentFailed, FailedAtCut, FailedAtCurrent, GroupFailed, AllFailed}
use Rattle.ix_desk.specs.Desks.{group_at, with_group, SameOrder}

module _ {U I : Type 0} where
  -- what comes next by the piece to which items come is the same
  pub record SameCurrent (old new : Option (Piece U I)) : Type 0 where
    pub some : is_some new ≡ is_some old
    pub none : is_none new ≡ is_none old
    pub untagged : is_untagged new ≡ is_untagged old
    pub tagged : is_tagged new ≡ is_tagged old

  -- and by the group
  pub record SameNext (old new : Group U I) : Type 0 where
    pub current : SameCurrent old.current new.current
    pub arrived : new.arrived ≡ old.arrived
    pub last : new.last ≡ old.last

  same-current : (x : Option (Piece U I)) → SameCurrent x x
  same-current x = record { some = refl; none = refl; untagged = refl; tagged = refl }

  same-tag : (p q : Piece U I) → q.tagged ≡ p.tagged → SameCurrent (Some p) (Some q)
  same-tag p q same = record { some = refl; none = refl; untagged = ap not same; tagged = same }

  same-next : (x : Group U I) → SameNext x x
  same-next x = record { current = same-current x.current; arrived = refl; last = refl }

  same-fits : (x y : Group U I) (it : DeskItem I) → SameNext x y → fits y it ≡ fits x it
  same-fits x y (Work i) s = s.current.some
  same-fits x y Tag s = s.current.untagged
  same-fits x y (Cut to) s = s.current.tagged
  same-fits x y (Start k) s = let none = s.current.none in let last = s.last in cc

  same-order : (v w : View U I) → w.core ≡ v.core → ((g : ℕ) → SameNext (group_at v g) (group_at w g)) → SameOrder v w
  same-order v w core each = record {
    fits = λ g it. ap (λ b. nat_lt g 512 && b) (same-fits (group_at v g) (group_at w g) it (each g));
    welcome = λ g k to. let arrived = (each g).arrived in cc;
  }

  set-next : (xs : List (Group U I)) (i : ℕ) (y : Group U I) → SameNext (get_or xs i empty) y → (g : ℕ) → SameNext (get_or xs g empty) (get_or (set xs i y) g empty)
  set-next [] i y one g = same-next empty
  set-next (x ∷ xs) zero y one zero = one
  set-next (x ∷ xs) zero y one (suc g) = same-next (get_or xs g empty)
  set-next (x ∷ xs) (suc i) y one zero = same-next x
  set-next (x ∷ xs) (suc i) y one (suc g) = set-next xs i y one g

  -- a unit leaves
  pub shipped-order : (v : View U I) (g : ℕ) → SameOrder v (with_group v g (shipped (group_at v g)))
  shipped-order v g =
      let x = group_at v g in
      same-order v (with_group v g (shipped x)) refl (set-next v.groups g (shipped x) (record { current = same-current x.current; arrived = refl; last = refl }))

module _ {U I E : Type 0} (counted : I → Bool) (name : I → ℕ) (stepped : U → List (ℕ × ℕ)) (advanced : U → E → ℕ → List I → U → Type 0) (env : E) (here : ℕ) where
  worked-current : (b : ℕ) (x y : Option (Piece U I)) → CurrentWorked counted name stepped advanced env here b x y → SameCurrent x y
  worked-current b None None w = same-current None
  worked-current b (Some p) (Some q) w = same-tag p q w.tagged
  worked-current b None (Some q) w = absurd w
  worked-current b (Some p) None w = absurd w

  worked-next : (b : ℕ) (x y : Group U I) → GroupWorked counted name stepped advanced env here b x y → SameNext x y
  worked-next b x y w = record { current = worked-current _ x.current y.current w.current; arrived = w.arrived; last = w.last }

  failed-tag : (b : ℕ) (p q : Piece U I) → (q ≡ p) ⊎ StepFailed counted b p q → q.tagged ≡ p.tagged
  failed-tag b p q (inl same) = ap (λ (z : Piece U I). z.tagged) same
  failed-tag b p q (inr fail) = fail.tagged

  failed-current : (b : ℕ) (x y : Option (Piece U I)) → CurrentFailed counted b x y → SameCurrent x y
  failed-current b (Some p) (Some q) w = same-tag p q (failed-tag b p q w.left)
  failed-current b None None w = absurd w
  failed-current b None (Some q) w = absurd w
  failed-current b (Some p) None w = absurd w

  failed-piece : (b : ℕ) (x y : Group U I) → FailedAtCut counted name stepped advanced env here b x y ⊎ FailedAtCurrent counted name stepped advanced env here b x y → SameCurrent x.current y.current
  failed-piece b x y (inl fail) = rw fail.current (same-current x.current)
  failed-piece b x y (inr fail) = failed-current _ x.current y.current fail.current

  failed-next : (b : ℕ) (x y : Group U I) → GroupFailed counted name stepped advanced env here b x y → SameNext x y
  failed-next b x y fail = record { current = failed-piece b x y fail.piece; arrived = fail.arrived; last = fail.last }

  worked-each : (b : ℕ) (xs ys : List (Group U I)) → EachWorked (group_leaves counted) (GroupWorked counted name stepped advanced env here) b xs ys
      → (g : ℕ) → SameNext (get_or xs g empty) (get_or ys g empty)
  worked-each b [] [] w g = same-next empty
  worked-each b (x ∷ xs) (y ∷ ys) w zero = worked-next b x y w.0
  worked-each b (x ∷ xs) (y ∷ ys) w (suc g) = worked-each (group_leaves counted b x) xs ys w.1 g
  worked-each b [] (y ∷ ys) w g = absurd w
  worked-each b (x ∷ xs) [] w g = absurd w

  failed-each : (b : ℕ) (xs ys : List (Group U I)) (x y : Group U I) (rest : List (Group U I)) → EachWorked (group_leaves counted) (GroupWorked counted name stepped advanced env here) b xs ys
      → SameNext x y → (g : ℕ) → SameNext (get_or (xs ++ x ∷ rest) g empty) (get_or (ys ++ y ∷ rest) g empty)
  failed-each b [] [] x y rest w one zero = one
  failed-each b [] [] x y rest w one (suc g) = same-next (get_or rest g empty)
  failed-each b (p ∷ xs) (q ∷ ys) x y rest w one zero = worked-next b p q w.0
  failed-each b (p ∷ xs) (q ∷ ys) x y rest w one (suc g) = failed-each (group_leaves counted b p) xs ys x y rest w.1 one g
  failed-each b [] (q ∷ ys) x y rest w one g = absurd w
  failed-each b (p ∷ xs) [] x y rest w one g = absurd w

  pub worked-order : (b : ℕ) (v w : View U I) → AllWorked counted name stepped advanced env here b v w → SameOrder v w
  worked-order b v w all = same-order v w all.core (worked-each b v.groups w.groups all.groups)

  pub failed-order : (b : ℕ) (v w : View U I) → AllFailed counted name stepped advanced env here b v w → SameOrder v w
  failed-order b v w all =
      let one = all.groups in
      same-order v w all.core (λ g. rw (one.was, one.is) (failed-each b one.before one.done one.one one.left one.behind one.worked (failed-next _ one.one one.left one.failed) g))
