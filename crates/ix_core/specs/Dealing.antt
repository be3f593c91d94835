-- What goes from the lists of a core to its desks and back.
use Rattle.std.specs.Prelude.{◌≡◌, ℕ, Bool, false, List, [], ◌∷◌, ◌++◌, map}
use Rattle.ix_mbuf.specs.Buffers.{Buffer}
use Rattle.ix_desk.specs.Views.{View}
use Rattle.ix_stack.specs.declared.work.Work.{Work}
use Rattle.ix_stack.specs.declared.item.Item.{Item}
use Rattle.ix_core.specs.Runs.{Calm}
use Rattle.ix_core.specs.Items.{item_fits, ring_item}

-- the first of these items doesn't fit, or there is none
abbrev pub FirstWaits : {U : Type 0} → View U Work → List Item → Type 0
FirstWaits v [] = Unit {0}
FirstWaits v (x ∷ xs) = item_fits v x ≡ false

module _ {U E : Type 0} (counted : Work → Bool) (name : Work → ℕ) (stepped : U → List (ℕ × ℕ)) (advanced : U → E → ℕ → List Work → U → Type 0) (drained : U → List Buffer → U → Type 0) (env : E) where
  -- Items that came went to the desks, in order.
  pub record Dealt (x y : View U Work) (before after : List Item) : Type 0 where
    pub items : List Item
    pub run : Calm counted name stepped advanced drained env x y (map ring_item items) [] [] []
    pub whole : before ≡ items ++ after

  -- Items that came went to the desks, in order; the next one doesn't fit.
  pub record Deals (x y : View U Work) (before after : List Item) : Type 0 where
    pub items : List Item
    pub run : Calm counted name stepped advanced drained env x y (map ring_item items) [] [] []
    pub whole : before ≡ items ++ after
    pub waits : FirstWaits y after
