-- A number that is written is read, and what is read is written so.
use Rattle.std.proofs.Common.{◌≡◌, ℕ, zero, suc, ◌+◌, ◌-◌, ◌*◌, ◌/◌, ◌%◌, ◌^◌, ◌<◌, ◌≤◌, List, [], ◌∷◌, ◌++◌, length, get_or, refl, ap, sym, ◌∙◌, arith, rules, true, Option, Some, None}
use Rattle.std.specs.Prelude.{if◌then◌else◌, ◌==◌, ◌&&◌, not, nat_le, nat_lt}
use Rattle.std.specs.Fmt.{decimal}
use Rattle.std.specs.Str.{all_ascii_digits}
use Rattle.std.proofs.lemmas.Bool.Decides.{nat_tests}
use Rattle.std.proofs.lemmas.Bool.{cond_both, and_parts, and_from, eqb-true}
use Rattle.std.proofs.lemmas.Str.Parse.{IsNumeralModel, numerals_by_fold}
use Rattle.std.proofs.lemmas.Fmt.{decimal-digits_value, decimal_digit, decimal_by_steps, digits_decimal, first_decimal, decimal_nonempty}
use Rattle.std.proofs.lemmas.Nat.{div_below, mul-le}
use Rattle.std.proofs.Math.Nat.{pow-suc, mul_comm, mul_assoc}
use Rattle.std.proofs.Common.{length-append, append-nil, append_assoc}
use Rattle.ix_words.specs.Parts.{lacks}
use Rattle.ix_words.specs.PartLaws.{is_plain}
use Rattle.ix_words.specs.Numbers.{is_digit, digits_from, number_of, glyph, glyph_value, hex, then_glyph, hex_from, hex8, hex8_of}

abbrev read_on : ℕ → List ℕ → ℕ
read_on n [] = n
read_on n (c ∷ cs) = read_on (10 * n + (c - 48)) cs

own : IsNumeralModel (λ ds. all_ascii_digits ds ≡ true) (read_on 0)
own = numerals_by_fold _ (search rules) read_on (search rules)

-- what the digits are and give, where they give a number
digits_takes : (high n m : ℕ) (ds : List ℕ) → m ≤ high → digits_from high m ds ≡ Some n
    → (all_ascii_digits ds ≡ true) × (read_on m ds ≡ n) × (n ≤ high)
digits_takes high n m [] h e = (refl, cc, (let k : m ≡ n = cc in omega arith))
digits_takes high n m (d ∷ ds) h e =
    cond_both (is_digit d && nat_le (10 * m + (d - 48)) high) (digits_from high (10 * m + (d - 48)) ds) None
    (λ r. r ≡ Some n → (is_digit d && all_ascii_digits ds ≡ true) × (read_on (10 * m + (d - 48)) ds ≡ n) × (n ≤ high))
    (λ t f.
    let both = and_parts (is_digit d) (nat_le (10 * m + (d - 48)) high) t in
    let r = digits_takes high n (10 * m + (d - 48)) ds (grind (arith, nat_tests, both.1)) f in
    (and_from (is_digit d) (all_ascii_digits ds) both.0 r.0, r.1, r.2))
    (λ t f. absurd (cc)) e

-- what is read is written so
pub number_of-takes : (high n : ℕ) (w : List ℕ) → high < 2 ^ 64 → number_of high w ≡ Some n → (w ≡ decimal n) × (n ≤ high)
unfolding number_of
number_of-takes high n [] h e = absurd (cc)
number_of-takes high n (d ∷ ds) h e =
    cond_both (d == 48 && nat_lt 0 (length ds)) None (digits_from high 0 (d ∷ ds))
    (λ r. r ≡ Some n → (d ∷ ds ≡ decimal n) × (n ≤ high))
    (λ t f. absurd (cc))
    (λ t f.
    let r = digits_takes high n 0 (d ∷ ds) (omega arith) f in
    let short : d ≡ 48 → length (d ∷ ds) ≡ 1 = λ z. grind (arith, nat_tests) in
    let below : read_on 0 (d ∷ ds) < 2 ^ 64 = omega (arith, r.1, r.2) in
    let back : decimal (read_on 0 (d ∷ ds)) ≡ d ∷ ds = decimal-digits_value own (d ∷ ds) r.0 (omega arith) short below in
    (sym back ∙ ap decimal r.1, r.2))
    e

-- a digit more behind digits
then_digit : ℕ → ℕ → Option ℕ → Option ℕ
then_digit high d None = None
then_digit high d (Some n) = if is_digit d && nat_le (10 * n + (d - 48)) high then Some (10 * n + (d - 48)) else None

digits_push : (high m d : ℕ) (ds : List ℕ) → digits_from high m (ds ++ d ∷ []) ≡ then_digit high d (digits_from high m ds)
unfolding then_digit
digits_push high m d [] = refl
digits_push high m d (c ∷ ds) =
    let more = digits_push high (10 * m + (c - 48)) d ds in
    cond_both (is_digit c && nat_le (10 * m + (c - 48)) high) (digits_from high (10 * m + (c - 48)) ds) None
    (λ r. (if is_digit c && nat_le (10 * m + (c - 48)) high then digits_from high (10 * m + (c - 48)) (ds ++ d ∷ []) else None) ≡ then_digit high d r)
    (λ t. rw t more) (λ t. rw t refl)

one_digit : (high n : ℕ) → n < 10 → n ≤ high → digits_from high 0 ((48 + n) ∷ []) ≡ Some n
one_digit high n h k = grind (arith, nat_tests)

last_digit : (high n : ℕ) → n ≤ high → then_digit high (48 + n % 10) (Some (n / 10)) ≡ Some n
unfolding then_digit
last_digit high n h = grind (arith, nat_tests)

digits_again : (high n : ℕ) → n < 2 ^ 64 → n ≤ high → digits_from high 0 (decimal n) ≡ Some n
digits_again high n small = decimal_by_steps (λ n ds. n ≤ high → digits_from high 0 ds ≡ Some n)
    (λ n h k. one_digit high n h k)
    (λ n ds h go k. digits_push high 0 (48 + n % 10) ds ∙ ap (then_digit high (48 + n % 10)) (go (omega arith)) ∙ last_digit high n k)
    n small

no_zero : (high n : ℕ) (w : List ℕ) → 0 < length w → (0 < n → 48 < get_or w 0 0) → (n ≡ 0 → length w ≡ 1)
    → digits_from high 0 w ≡ Some n → number_of high w ≡ Some n
unfolding number_of
no_zero high n [] h first one e = absurd (omega arith)
no_zero high n (d ∷ ds) h first one e =
    cond_both (d == 48 && nat_lt 0 (length ds)) None (digits_from high 0 (d ∷ ds)) (λ r. r ≡ Some n)
    (λ t. absurd (grind (arith, nat_tests))) (λ t. e)

-- what is written is read
pub number_of-again : (high n : ℕ) → high < 2 ^ 64 → n ≤ high → number_of high (decimal n) ≡ Some n
number_of-again high n h k =
    let small : n < 2 ^ 64 = omega arith in
    no_zero high n (decimal n) (decimal_nonempty n small) (λ p. first_decimal n p small)
    (λ z. rw z (ap length (decimal_digit 0 (omega arith)))) (digits_again high n small k)

-- no digit is a blank or a point
digits_lack : (mark : ℕ) (ds : List ℕ) → mark < 48 → all_ascii_digits ds ≡ true → lacks mark ds ≡ true
digits_lack mark [] h e = refl
digits_lack mark (d ∷ ds) h e =
    let both = and_parts (is_digit d) (all_ascii_digits ds) e in
    and_from (not (d == mark)) (lacks mark ds) (grind (arith, nat_tests, both.0)) (digits_lack mark ds h both.1)

pub lacks-decimal : (mark n : ℕ) → mark < 48 → n < 2 ^ 64 → lacks mark (decimal n) ≡ true
lacks-decimal mark n h small = digits_lack mark (decimal n) h (digits_decimal own n small)

digits_plain : (ds : List ℕ) → all_ascii_digits ds ≡ true → is_plain ds ≡ true
digits_plain [] e = refl
digits_plain (d ∷ ds) e =
    let both = and_parts (is_digit d) (all_ascii_digits ds) e in
    and_from (nat_lt 32 d) (is_plain ds) (grind (arith, nat_tests, both.0)) (digits_plain ds both.1)

pub plain-decimal : (n : ℕ) → n < 2 ^ 64 → is_plain (decimal n) ≡ true
plain-decimal n small = digits_plain (decimal n) (digits_decimal own n small)

-- one digit to the base 16
glyph_again : (d : ℕ) → d < 16 → glyph_value (glyph d) ≡ Some d
glyph_again d h = grind (arith, nat_tests)

glyph_takes : (c d : ℕ) → glyph_value c ≡ Some d → (c ≡ glyph d) × (d < 16)
glyph_takes c d e =
    cond_both (is_digit c) (Some (c - 48)) (if not (nat_lt c 97) && nat_lt c 103 then Some (c - 87) else None) (λ r. r ≡ Some d → (c ≡ glyph d) × (d < 16))
    (λ t f. let g : c - 48 ≡ d = cc in (grind (arith, nat_tests), grind (arith, nat_tests)))
    (λ t f.
    cond_both (not (nat_lt c 97) && nat_lt c 103) (Some (c - 87)) None (λ r. r ≡ Some d → (c ≡ glyph d) × (d < 16))
    (λ u g. let k : c - 87 ≡ d = cc in (grind (arith, nat_tests), grind (arith, nat_tests)))
    (λ u g. absurd (cc)) f)
    e

hex_push : (m d : ℕ) (cs : List ℕ) → d < 16 → hex_from m (cs ++ glyph d ∷ []) ≡ then_glyph (λ n. Some (16 * n + d)) (hex_from m cs)
hex_push m d [] h = rw (glyph_again d h) refl
hex_push m d (c ∷ cs) h = go (glyph_value c) (λ k. hex_push (16 * m + k) d cs h) where
  go : (o : Option ℕ) → ((k : ℕ) → hex_from (16 * m + k) (cs ++ glyph d ∷ []) ≡ then_glyph (λ n. Some (16 * n + d)) (hex_from (16 * m + k) cs))
      → then_glyph (λ k. hex_from (16 * m + k) (cs ++ glyph d ∷ [])) o ≡ then_glyph (λ n. Some (16 * n + d)) (then_glyph (λ k. hex_from (16 * m + k) cs) o)
  go None more = refl
  go (Some k) more = more k

hex_again : (k n : ℕ) → n < 16 ^ k → hex_from 0 (hex k n) ≡ Some n
hex_again zero n h = let e : 0 ≡ n = omega arith in ap Some e
hex_again (suc k) n h =
    let part : n / 16 < 16 ^ k = div_below n 16 (16 ^ k) (omega arith) (let e : 16 ^ suc k ≡ 16 ^ k * 16 = pow-suc 16 k in omega arith) in
    let low : n % 16 < 16 = omega arith in
    hex_push 0 (n % 16) (hex k (n / 16)) low ∙ ap (then_glyph (λ m. Some (16 * m + n % 16))) (hex_again k (n / 16) part)
    ∙ (let e : 16 * (n / 16) + n % 16 ≡ n = omega arith in ap Some e)

length-hex : (k n : ℕ) → length (hex k n) ≡ k
length-hex zero n = refl
length-hex (suc k) n = length-append (hex k (n / 16)) (glyph (n % 16) ∷ []) ∙ (let e = length-hex k (n / 16) in omega (arith, e))

pub hex8_of-again : (n : ℕ) → n < 2 ^ 32 → hex8_of (hex8 n) ≡ Some n
unfolding hex8_of hex8
hex8_of-again n h = hex_again 8 n (omega arith)

hex_takes : (k m n : ℕ) (w : List ℕ) → hex_from m w ≡ Some n → hex (length w + k) n ≡ hex k m ++ w
hex_takes k m n [] e = let s : m ≡ n = cc in let z : 0 + k ≡ k = omega arith in rw (z, s) (sym (append-nil (hex k n)))
hex_takes k m n (c ∷ cs) e = go (glyph_value c) refl e (λ d. hex_takes (suc k) (16 * m + d) n cs) where
  go : (o : Option ℕ) → glyph_value c ≡ o → then_glyph (λ d. hex_from (16 * m + d) cs) o ≡ Some n
      → ((d : ℕ) → hex_from (16 * m + d) cs ≡ Some n → hex (length cs + suc k) n ≡ hex (suc k) (16 * m + d) ++ cs)
      → hex (suc (length cs) + k) n ≡ hex k m ++ c ∷ cs
  go None p f more = absurd (cc)
  go (Some d) p f more =
      let g = glyph_takes c d p in
      let q : (16 * m + d) / 16 ≡ m = omega (arith, g.1) in
      let r : (16 * m + d) % 16 ≡ d = omega (arith, g.1) in
      let l : suc (length cs) + k ≡ length cs + suc k = omega arith in
      rw (l, more d f, q, r, append_assoc, g.0) refl

ring_step : (a b : ℕ) → a * 16 * b ≡ a * (b * 16)
ring_step a b = mul_assoc a 16 b ∙ ap (λ x. a * x) (mul_comm 16 b)

hex_low : (m n : ℕ) (w : List ℕ) → hex_from m w ≡ Some n → n < (m + 1) * 16 ^ length w
hex_low m n [] e = let s : m ≡ n = cc in omega arith
hex_low m n (c ∷ cs) e = go (glyph_value c) refl e (λ d. hex_low (16 * m + d) n cs) where
  go : (o : Option ℕ) → glyph_value c ≡ o → then_glyph (λ d. hex_from (16 * m + d) cs) o ≡ Some n
      → ((d : ℕ) → hex_from (16 * m + d) cs ≡ Some n → n < (16 * m + d + 1) * 16 ^ length cs) → n < (m + 1) * 16 ^ suc (length cs)
  go None p f more = absurd (cc)
  go (Some d) p f more =
      let g = glyph_takes c d p in
      let below = more d f in
      let e : 16 ^ suc (length cs) ≡ 16 ^ length cs * 16 = pow-suc 16 (length cs) in
      let u : (16 * m + d + 1) * 16 ^ length cs ≤ (m + 1) * 16 * 16 ^ length cs = mul-le (16 * m + d + 1) (16 ^ length cs) ((m + 1) * 16) (16 ^ length cs) (omega (arith, g.1)) (omega arith) in
      let v : (m + 1) * 16 * 16 ^ length cs ≡ (m + 1) * (16 ^ length cs * 16) = ring_step (m + 1) (16 ^ length cs) in
      rw (e, ← v) (omega arith)

pub hex8_of-takes : (n : ℕ) (w : List ℕ) → hex8_of w ≡ Some n → (w ≡ hex8 n) × (n < 2 ^ 32)
unfolding hex8_of hex8
hex8_of-takes n w e =
    cond_both (length w == 8) (hex_from 0 w) None (λ r. r ≡ Some n → (w ≡ hex 8 n) × (n < 2 ^ 32))
    (λ t f.
    let l : length w ≡ 8 = eqb-true (length w) 8 t in
    let z : length w + 0 ≡ 8 = omega arith in
    (sym (rw z at (hex_takes 0 0 n w f)), (let b = rw l at (hex_low 0 n w f) in omega (arith, b))))
    (λ t f. absurd (cc)) e
