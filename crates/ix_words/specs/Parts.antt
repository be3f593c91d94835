-- Lists of bytes that one byte parts: lines by the line feed, words by the blank, an address by the point.
use Rattle.std.specs.Borrow.{Bor}
use Rattle.std.specs.Prelude.{Option, Some, None, ℕ, List, [], ◌∷◌, ◌++◌, Bool, true, if◌then◌else◌, ◌==◌, ◌&&◌, not}

-- the parts, with one more element at the front of the first
abbrev pub push_front : ℕ → List (List ℕ) → List (List ℕ)
push_front b [] = (b ∷ []) ∷ []
push_front b (part ∷ rest) = (b ∷ part) ∷ rest

-- the parts of a list: one more than it has marks
abbrev pub parts : ℕ → List ℕ → List (List ℕ)
parts mark [] = [] ∷ []
parts mark (b ∷ bs) = if b == mark then [] ∷ parts mark bs else push_front b (parts mark bs)

-- the parts joined by marks
abbrev pub join : ℕ → List (List ℕ) → List ℕ
join mark [] = []
join mark (part ∷ []) = part
join mark (part ∷ next ∷ rest) = part ++ mark ∷ join mark (next ∷ rest)

abbrev pub lacks : ℕ → List ℕ → Bool
lacks mark [] = true
lacks mark (b ∷ bs) = not (b == mark) && lacks mark bs

abbrev pub all_lack : ℕ → List (List ℕ) → Bool
all_lack mark [] = true
all_lack mark (part ∷ rest) = lacks mark part && all_lack mark rest

-- the parts behind the first
abbrev pub parts_after : ℕ → Option (Bor (List ℕ)) → List (List ℕ)
parts_after mark None = []
parts_after mark (Some rest) = parts mark rest.now
