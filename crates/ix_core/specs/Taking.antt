-- How many items a turn takes from its receive ring.
use Rattle.std.specs.Prelude.{◌≡◌, ◌<◌, ℕ, Bool, false, not, List, [], ◌∷◌, ◌++◌, length, count_by}
use Rattle.ix_ring.specs.Views.{TakeView}
use Rattle.ix_ring.specs.Ends.{taken, known, SameTakeEnd}
use Rattle.ix_stack.specs.declared.item.Item.{Item}
use Rattle.ix_core.specs.declared.intake.Stop.{Stop}
use Rattle.ix_core.specs.declared.intake.Stop.TheVariants.{Full, Empty, Control}
use Rattle.ix_stack.specs.Items.{is_frame, is_end}

-- one control item, the end or another
pub record OneControl (item : List Item) (end : Bool) : Type 0 where
  pub it : Item
  pub one : item ≡ it ∷ []
  pub control : is_frame it ≡ false
  pub is : is_end it ≡ end

-- Where a turn stops taking: behind so many frames, behind a control item, or where the ring gave none.
abbrev pub StopsAt : ℕ → Stop → List Item → List Item → List Item → Type 0
StopsAt batch Full frames control left = (length frames ≡ batch) × (control ≡ [])
StopsAt batch Empty frames control left = (length frames < batch) × ((control ≡ []) × (left ≡ []))
StopsAt batch (Control end) frames control left = (length frames < batch) × OneControl control end

-- Items that a turn took: they stand behind those that came before.
pub record Takes (batch : ℕ) (stop : Stop) (count : ℕ) (old new : TakeView Item) (before after : List Item) : Type 0 where
  pub ring : SameTakeEnd old new
  pub frames : List Item
  pub control : List Item
  pub took : taken new ≡ taken old ++ (frames ++ control)
  pub came : after ≡ before ++ (frames ++ control)
  pub all : count_by (λ x. not (is_frame x)) frames ≡ 0
  pub number : count ≡ length frames
  pub stops : StopsAt batch stop frames control (known new)

-- So many frames that a turn took so far.
pub record TakesFrames (count : ℕ) (old new : TakeView Item) (before after : List Item) : Type 0 where
  pub ring : SameTakeEnd old new
  pub frames : List Item
  pub took : taken new ≡ taken old ++ frames
  pub came : after ≡ before ++ frames
  pub all : count_by (λ x. not (is_frame x)) frames ≡ 0
  pub number : length frames ≡ count
