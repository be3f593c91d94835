-- Words that are numbers.
use Rattle.std.specs.Prelude.{ℕ, zero, suc, ◌+◌, ◌*◌, ◌/◌, ◌%◌, ◌-◌, List, [], ◌∷◌, ◌++◌, Bool, Option, Some, None, if◌then◌else◌, nat_lt, nat_le, not, ◌&&◌, ◌==◌, length}

abbrev pub is_digit : ℕ → Bool
is_digit b = nat_le 48 b && nat_le b 57

-- the number up to a highest that these digits go on to, from what came before them
abbrev pub digits_from : ℕ → ℕ → List ℕ → Option ℕ
digits_from high n [] = Some n
digits_from high n (d ∷ ds) =
    if is_digit d && nat_le (10 * n + (d - 48)) high then digits_from high (10 * n + (d - 48)) ds else None

-- a decimal number up to a highest, with no leading zero
unfoldable pub number_of : ℕ → List ℕ → Option ℕ
number_of high [] = None
number_of high (d ∷ ds) = if d == 48 && nat_lt 0 (length ds) then None else digits_from high 0 (d ∷ ds)

-- a digit to the base 16
abbrev pub glyph : ℕ → ℕ
glyph d = if nat_lt d 10 then 48 + d else 87 + d

abbrev pub glyph_value : ℕ → Option ℕ
glyph_value c =
    if is_digit c then Some (c - 48)
    else if not (nat_lt c 97) && nat_lt c 103 then Some (c - 87)
    else None

-- the last k digits to the base 16
abbrev pub hex : ℕ → ℕ → List ℕ
hex zero n = []
hex (suc k) n = hex k (n / 16) ++ glyph (n % 16) ∷ []

abbrev pub then_glyph : (ℕ → Option ℕ) → Option ℕ → Option ℕ
then_glyph go None = None
then_glyph go (Some d) = go d

abbrev pub hex_from : ℕ → List ℕ → Option ℕ
hex_from n [] = Some n
hex_from n (c ∷ cs) = then_glyph (λ d. hex_from (16 * n + d) cs) (glyph_value c)

unfoldable pub hex8 : ℕ → List ℕ
hex8 n = hex 8 n

unfoldable pub hex8_of : List ℕ → Option ℕ
hex8_of w = if length w == 8 then hex_from 0 w else None
