-- Lines, words and numbers of a script.
use Rattle.std.specs.Prelude.{ℕ, ◌<◌, ◌≢◌, List, [], ◌∷◌, ◌&&◌, if◌then◌else◌, Option, ◌==◌, slice_index}
use Rattle.ix_words.specs.Numbers.{number_of}

-- no line feed stands before a place
abbrev pub NoFeed : List ℕ → ℕ → Type 0
NoFeed bytes n = (k : ℕ) → k < n → slice_index bytes k ≢ 10

-- the parts, with one more element at the front of the first
abbrev pub push_front : ℕ → List (List ℕ) → List (List ℕ)
push_front b [] = (b ∷ []) ∷ []
push_front b (part ∷ parts) = (b ∷ part) ∷ parts

-- the lines: each ends at a line feed, which the last may lack, and a carriage return before it is dropped
abbrev pub lines_of : List ℕ → List (List ℕ)
lines_of [] = []
lines_of (b ∷ bs) =
    if b == 10 then [] ∷ lines_of bs
    else if b == 13 && slice_index bs 0 == 10 then lines_of bs
    else push_front b (lines_of bs)

-- the words, which are parted by one blank each
abbrev pub words_of : List ℕ → List (List ℕ)
words_of [] = [] ∷ []
words_of (b ∷ bs) = if b == 32 then [] ∷ words_of bs else push_front b (words_of bs)

-- a number of a script, which has 32 bits
abbrev pub number_in : List ℕ → Option ℕ
number_in word = number_of 4294967295 word
