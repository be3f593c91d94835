-- What was done to the unit of a group, step after step, each in a tenure and on a core.
use Rattle.std.specs.Prelude.{◌≡◌, ◌≤◌, ℕ, List, [], ◌∷◌, ◌++◌, Bool, count_by, map}
use Rattle.std.specs.List.{AllByRecursion}

pub data Act (I O : Type 0) : Type 0 where
  -- items were stepped in a tenure, on a core
  step : ℕ → ℕ → List I → Act I O
  -- the unit handed something out
  loan : O → Act I O

module _ {I O : Type 0} (name : I → ℕ) where
  -- what was stepped, each item by its name, with its core
  abbrev pub names_by : List (Act I O) → List (ℕ × ℕ)
  names_by [] = []
  names_by (step k c items ∷ acts) = map (λ x. (name x, c)) items ++ names_by acts
  names_by (loan out ∷ acts) = names_by acts

-- An item is the one that its name names, and its name is of this tenure.
pub record IsRight {I : Type 0} (name : I → ℕ) (tenure_of : ℕ → ℕ) (named : ℕ → I) (k : ℕ) (x : I) : Type 0 where
  pub tenure : tenure_of (name x) ≡ k
  pub is : x ≡ named (name x)

module _ {U I O E : Type 0} (counted : I → Bool) (name : I → ℕ) (stepped : U → List (ℕ × ℕ)) (advanced : U → E → ℕ → List I → U → Type 0) (lends : U → O → U → Type 0) (env : E) (tenure_of : ℕ → ℕ) (named : ℕ → I) (bound : ℕ) where
  -- A step is of items of its tenure, and of no more that count than the bound.
  pub record DidStep (x : U) (k c : ℕ) (items : List I) (y : U) : Type 0 where
    pub names : stepped y ≡ stepped x ++ map (λ j. (name j, c)) items
    pub advanced_so : advanced x env c items y
    pub right : AllByRecursion (IsRight name tenure_of named k) items
    pub few : count_by counted items ≤ bound

  abbrev pub DidAct : U → Act I O → U → Type 0
  DidAct x (step k c items) y = DidStep x k c items y
  DidAct x (loan out) y = lends x out y
