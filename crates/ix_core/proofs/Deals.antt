-- Items go to the desks.
use Rattle.std.proofs.Common.{◌≡◌, ◌<◌, ◌+◌, add-one, ℕ, zero, suc, Bool, true, false, List, [], ◌∷◌, ◌++◌, map, take, drop, length, get_or, set, refl, sym, ap, ◌∙◌, arith, append_assoc}
use Rattle.std.proofs.lemmas.List.{map-append, set-get_or}
use Rattle.std.proofs.lemmas.Bool.Decides.{nat_tests}
use Rattle.ix_mbuf.specs.Buffers.{Buffer}
use Rattle.ix_desk.specs.declared.unit.DeskItem.TheVariants as desk
use Rattle.ix_desk.specs.Views.{Group, View}
use Rattle.ix_desk.specs.Groups.{empty, fits}
use Rattle.ix_desk.specs.Desks.{group_at, with_group, fits_at}
use Rattle.ix_stack.specs.declared.work.Work.{Work}
use Rattle.ix_stack.specs.declared.item.Item.{Item}
use Rattle.ix_history.specs.Events.{given}
use Rattle.ix_core.specs.Items.{item_fits, ring_item, with_item}
use Rattle.ix_core.specs.Runs.{calm-joins, calm-stays, calm-took}
use Rattle.ix_core.specs.Dealing.{Dealt}

-- one more element of a list is mapped in its place
pub map-step : {X : Type 0} (f : X → X) (xs : List X) (i : ℕ) (d : X) → i < length xs
    → set (map f (take i xs) ++ drop i xs) i (f (get_or (map f (take i xs) ++ drop i xs) i d)) ≡ map f (take (suc i) xs) ++ drop (suc i) xs
map-step f [] i d lt = absurd (omega arith)
map-step f (x ∷ xs) zero d lt = refl
map-step f (x ∷ xs) (suc i) d lt = ap (λ ys. f x ∷ ys) (map-step f xs i d (omega arith))

module _ {U : Type 0} where
  -- a piece that isn't open takes no time
  pub closed : (v : View U Work) (g : ℕ) (x : Work) → g < 512 → fits_at v g (desk.Work x) ≡ false → v ≡ with_group v g (given x (group_at v g))
  closed v g x lt shut =
      let not_open : fits (group_at v g) (desk.Work x) ≡ false = grind (arith, nat_tests) in
      let stays : given x (group_at v g) ≡ group_at v g = rw not_open refl in
      let whole = λ (gs : List (Group U Work)). let w : View U Work = record { core = v.core; failed = v.failed; groups = gs } in w in
      ap whole (sym (ap (set v.groups g) stays ∙ set-get_or v.groups g empty))

  -- the first groups took a time
  abbrev pub given_first : View U Work → Work → ℕ → View U Work
  given_first v x n = record { core = v.core; failed = v.failed; groups = map (given x) (take n v.groups) ++ drop n v.groups }

  pub time-more : (v w z : View U Work) (x : Work) (g : ℕ) → g < length v.groups → w ≡ given_first v x g → z ≡ with_group w g (given x (group_at w g)) → z ≡ given_first v x (g + 1)
  time-more v w z x g lt p e =
      let whole = λ (gs : List (Group U Work)). let u : View U Work = record { core = v.core; failed = v.failed; groups = gs } in u in
      rw add-one (e ∙ ap (λ (u : View U Work). with_group u g (given x (group_at u g))) p ∙ ap whole (map-step (given x) v.groups g empty lt))

module _ {U E : Type 0} (counted : Work → Bool) (name : Work → ℕ) (stepped : U → List (ℕ × ℕ)) (advanced : U → E → ℕ → List Work → U → Type 0) (drained : U → List Buffer → U → Type 0) (env : E) where
  pub deals-none : (x : View U Work) (before : List Item) → Dealt counted name stepped advanced drained env x x before before
  deals-none x before = record { items = []; run = calm-stays counted name stepped advanced drained env x; whole = refl }

  pub deals-one : (x y z : View U Work) (before after rest : List Item) (it : Item)
      → Dealt counted name stepped advanced drained env x y before after → after ≡ it ∷ rest → item_fits y it ≡ true → z ≡ with_item y it
      → Dealt counted name stepped advanced drained env x z before rest
  deals-one x y z before after rest it so next f e = record {
    items = so.items ++ it ∷ [];
    run = rw map-append (calm-joins counted name stepped advanced drained env x y z (map ring_item so.items) (ring_item it ∷ []) [] [] [] [] [] [] so.run (calm-took counted name stepped advanced drained env y z it f e));
    whole = so.whole ∙ ap (λ ws. so.items ++ ws) next ∙ sym (append_assoc so.items (it ∷ []) rest);
  }
