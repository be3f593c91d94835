-- Options one at a time.
use Rattle.std.proofs.Common.{◌≡◌, ℕ, zero, suc, ◌+◌, ◌-◌, ◌≤◌, ◌≢◌, List, [], ◌∷◌, length, get_or, take, drop, Option, None, refl, arith, ◌∙◌}
use Rattle.std.specs.Prelude.{if◌then◌else◌, nat_lt, ◌==◌, ◌||◌, ◌&&◌}
use Rattle.std.proofs.lemmas.List.{take_rest}
use native.Mathlib.Numerals.{unary_clauses}
use Rattle.ix_seg.specs.Options.{mss_after}

pub mss_after-skip : (n : ℕ) (options : List ℕ) → mss_after n options ≡ mss_after 0 (drop n options)
mss_after-skip zero options = refl
mss_after-skip (suc n) [] = refl
mss_after-skip (suc n) (x ∷ rest) = mss_after-skip n rest

-- an option that is skipped by its length
pub mss_after-other : (options : List ℕ) (len : ℕ) → 2 ≤ length options → len ≡ get_or options 1 0 → 2 ≤ len → len ≤ length options
    → mss_after (len - 1) (drop 1 options) ≡ mss_after 0 (take (length options - len) (drop len options))
mss_after-other [] len h e two fits = absurd (omega arith)
mss_after-other (kind ∷ rest) zero h e two fits = absurd (omega arith)
mss_after-other (kind ∷ rest) (suc n) h e two fits = rw (take_rest (kind ∷ rest) (suc n)) (simp unary_clauses (mss_after-skip n rest))

chain : (kind len n : ℕ) (x y z : Option ℕ) → kind ≢ 0 → kind ≢ 1 → 1 ≤ n → 2 ≤ len → len ≤ n + 1 → (kind ≡ 2 → len ≢ 4)
    → (if kind == 0 then None else if kind == 1 then x else if (nat_lt n 1 || nat_lt len 2) || nat_lt (n + 1) len then None
    else if kind == 2 && len == 4 then y else z) ≡ z
chain kind len n x y z a b c d e f = grind arith

-- an option of another kind is passed by its length
pub mss_after-past : (options : List ℕ) → 2 ≤ length options → get_or options 0 0 ≢ 0 → get_or options 0 0 ≢ 1
    → 2 ≤ get_or options 1 0 → get_or options 1 0 ≤ length options → (get_or options 0 0 ≡ 2 → get_or options 1 0 ≢ 4)
    → mss_after 0 options ≡ mss_after 0 (take (length options - get_or options 1 0) (drop (get_or options 1 0) options))
mss_after-past [] h a b d e f = absurd (omega arith)
mss_after-past (kind ∷ []) h a b d e f = absurd (omega arith)
mss_after-past (kind ∷ len ∷ rest) h a b d e f =
    chain kind len (length (len ∷ rest)) _ _ _ a b (omega arith) d (omega arith) f
    ∙ mss_after-other (kind ∷ len ∷ rest) len h refl d e
