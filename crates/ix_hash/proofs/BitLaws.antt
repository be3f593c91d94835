-- Windows of bits.
use Rattle.std.proofs.Common.{◌≡◌, ℕ, zero, suc, ◌+◌, ◌*◌, ◌%◌, ◌<◌, ◌^◌, List, refl, ◌∙◌, sym, ap, arith}
use Rattle.std.proofs.Math.Nat.{pow-suc}
use Rattle.std.proofs.Math.Numerals.{add-one}
use Rattle.std.proofs.Math.Pow.{pow_mono}
use Rattle.std.specs.Prelude.{bit_xor, ◌≢◌}
use Rattle.ix_hash.specs.Bits.{bit_of, bits_from}
use Rattle.ix_hash.specs.Toeplitz.{hash_of_bits}

pub bit_of-below : (bytes : List ℕ) (i : ℕ) → bit_of bytes i < 2
unfolding bit_of
bit_of-below bytes i = omega arith

doubled_below : (n p b m : ℕ) → p ≡ 2 * m → n < m → b < 2 → 2 * n + b < p
doubled_below n p b m e h k = omega arith

pow_doubles : (n : ℕ) → 2 ^ suc n ≡ 2 * 2 ^ n
pow_doubles n = omega (arith, pow-suc 2 n)

pub bits_from-below : (bytes : List ℕ) (at n : ℕ) → bits_from bytes at n < 2 ^ n
unfolding bits_from
bits_from-below bytes at zero = omega arith
bits_from-below bytes at (suc n) =
    doubled_below _ _ _ (2 ^ n) (pow_doubles n) (bits_from-below bytes at n) (bit_of-below bytes (at + n))

-- one bit more in front
pub bits_from-front : (bytes : List ℕ) (at n : ℕ) → 2 * bits_from bytes at n + bit_of bytes (at + n) ≡ bit_of bytes at * 2 ^ n + bits_from bytes (at + 1) n
unfolding bits_from
bits_from-front bytes at zero = omega (arith, ap (bit_of bytes) (let e : at + 0 ≡ at = omega arith in e))
bits_from-front bytes at (suc n) =
    let more = bits_from-front bytes at n in
    let place : at + suc n ≡ (at + 1) + n = omega arith in
    omega (arith, more, ap (bit_of bytes) place, ap (λ p. bit_of bytes at * p) (pow_doubles n))

window_step : (w b f v : ℕ) → 2 * w + b ≡ f * 2 ^ 32 + v → v < 2 ^ 32 → f < 2 → b < 2 → v ≡ w * 2 % 2 ^ 32 + b
window_step w b f v e h k l = omega arith

-- the next window
pub bits_from-next : (bytes : List ℕ) (i : ℕ) → bits_from bytes (i + 1) 32 ≡ bits_from bytes i 32 * 2 % 2 ^ 32 + bit_of bytes (i + 32)
bits_from-next bytes i =
    window_step _ _ _ _ (bits_from-front bytes i 32) (bits_from-below bytes (i + 1) 32) (bit_of-below bytes i) (bit_of-below bytes (i + 32))

pub bits_from-none : (bytes : List ℕ) (at : ℕ) → bits_from bytes at 0 ≡ 0
unfolding bits_from
bits_from-none bytes at = refl

no_carry : (w b : ℕ) → w < 2 ^ 31 → w * 2 % 2 ^ 32 + b ≡ 2 * w + b
no_carry w b h = omega arith

-- the first bits, one more
pub bits_from-more : (bytes : List ℕ) (i : ℕ) → i < 32 → bits_from bytes 0 (i + 1) ≡ bits_from bytes 0 i * 2 % 2 ^ 32 + bit_of bytes i
unfolding bits_from
bits_from-more bytes i h =
    let below : bits_from bytes 0 i < 2 ^ 31 = omega (arith, bits_from-below bytes 0 i, pow_mono {i = i} {j = 31} (omega arith)) in
    rw add-one (sym (no_carry _ _ below ∙ ap (λ j. 2 * bits_from bytes 0 i + bit_of bytes j) (let e : i ≡ 0 + i = omega arith in e)))

pub hash_of_bits-none : (key input : List ℕ) → hash_of_bits key input 0 ≡ 0
unfolding hash_of_bits
hash_of_bits-none key input = refl

pub hash_of_bits-set : (key input : List ℕ) (i : ℕ) → bit_of input i ≡ 1 → hash_of_bits key input (i + 1) ≡ bit_xor (hash_of_bits key input i) (bits_from key i 32)
unfolding hash_of_bits
hash_of_bits-set key input i h = rw (add-one, h) refl

pub hash_of_bits-clear : (key input : List ℕ) (i : ℕ) → bit_of input i ≢ 1 → hash_of_bits key input (i + 1) ≡ hash_of_bits key input i
unfolding hash_of_bits
hash_of_bits-clear key input i h = let e : bit_of input i ≡ 0 = omega (arith, bit_of-below input i) in rw (add-one, e) refl

pub ruleset bit_steps = (bits_from-none, bits_from-more, bits_from-next, hash_of_bits-none, hash_of_bits-set, hash_of_bits-clear)
