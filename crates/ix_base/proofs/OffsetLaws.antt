-- Sequence numbers modulo 2^32.
use Rattle.std.proofs.Common.{◌≡◌, ℕ, ◌+◌, ◌*◌, ◌/◌, ◌^◌, ◌<◌, ℤ, pos, ◌+ℤ◌, ◌-ℤ◌, refl, arith}
use Rattle.std.proofs.lemmas.Int.{ints}
use Rattle.ix_base.specs.Sequence.{ahead, IsCongruent}

turned : (base x : ℕ) → base < 2 ^ 32 → x < 2 ^ 32 → base + ahead base x ≡ x + (base + ahead base x) / 2 ^ 32 * 2 ^ 32
turned base x hb hx = omega arith

congruent : (base a x d : ℕ) (z turns : ℤ) → base + a ≡ x + d * 2 ^ 32 → z ≡ pos a → turns ≡ pos d → IsCongruent (pos base +ℤ z) (pos x)
congruent base a x d z turns e is t = record { turns = turns; equal = omega (arith, ints) }

congruent-behind : (base a x d : ℕ) (z turns : ℤ) → base + a ≡ x + d * 2 ^ 32 → z ≡ pos a -ℤ pos (2 ^ 32) → turns ≡ pos d -ℤ pos 1 → IsCongruent (pos base +ℤ z) (pos x)
congruent-behind base a x d z turns e is t = record { turns = turns; equal = omega (arith, ints) }

pub congruent-ahead : (base x : ℕ) (z : ℤ) → base < 2 ^ 32 → x < 2 ^ 32 → z ≡ pos (ahead base x) → IsCongruent (pos base +ℤ z) (pos x)
congruent-ahead base x z hb hx is =
    congruent base (ahead base x) x ((base + ahead base x) / 2 ^ 32) z (pos ((base + ahead base x) / 2 ^ 32)) (turned base x hb hx) is refl

pub congruent-back : (base x : ℕ) (z : ℤ) → base < 2 ^ 32 → x < 2 ^ 32 → z ≡ pos (ahead base x) -ℤ pos (2 ^ 32) → IsCongruent (pos base +ℤ z) (pos x)
congruent-back base x z hb hx is =
    congruent-behind base (ahead base x) x ((base + ahead base x) / 2 ^ 32) z (pos ((base + ahead base x) / 2 ^ 32) -ℤ pos 1) (turned base x hb hx) is refl
