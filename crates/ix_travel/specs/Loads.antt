-- What a holder makes of its items.
use Rattle.std.specs.Prelude.{◌≡◌, ℕ, Bool, true, false, if◌then◌else◌, nat_lt, List, [], ◌∷◌, ◌++◌, length, map}
use Rattle.ix_mbuf.specs.Buffers.{Buffer}
use Rattle.ix_travel.specs.declared.holder.Load.{Load}
use Rattle.ix_travel.specs.declared.holder.Load.TheVariants.{Frame, Time}

abbrev pub load_number : Load → ℕ
load_number (Frame w buf) = w
load_number (Time w) = w

abbrev pub is_frame_load : Load → Bool
is_frame_load (Frame w buf) = true
is_frame_load (Time w) = false

-- what is held after one item, where there is room for so many buffers
abbrev pub kept_one : ℕ → List Buffer → Load → List Buffer
kept_one room held (Frame w buf) = if nat_lt (length held) room then held ++ buf ∷ [] else held
kept_one room held (Time w) = held

-- what is laid aside of it
abbrev pub spent_one : ℕ → List Buffer → Load → List Buffer
spent_one room held (Frame w buf) = if nat_lt (length held) room then [] else buf ∷ []
spent_one room held (Time w) = []

abbrev pub kept_of : ℕ → List Buffer → List Load → List Buffer
kept_of room held [] = held
kept_of room held (x ∷ xs) = kept_of room (kept_one room held x) xs

abbrev pub spent_of : ℕ → List Buffer → List Load → List Buffer
spent_of room held [] = []
spent_of room held (x ∷ xs) = spent_one room held x ++ spent_of room (kept_one room held x) xs

-- A step holds the buffers of the first frames, lays the others aside, and lists the numbers.
pub record Holds (room core : ℕ) (items : List Load) (held spent : List Buffer) (seen : List (ℕ × ℕ)) (held' spent' : List Buffer) (seen' : List (ℕ × ℕ)) : Type 0 where
  pub keeps : held' ≡ kept_of room held items
  pub spends : spent' ≡ spent ++ spent_of room held items
  pub names : seen' ≡ seen ++ map (λ x. (load_number x, core)) items
