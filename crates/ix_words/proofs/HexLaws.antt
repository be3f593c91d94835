-- Room for one digit more.
use Rattle.std.proofs.Common.{◌≡◌, ℕ, suc, ◌+◌, ◌*◌, ◌^◌, ◌<◌, ◌≤◌, arith, lit<}
use Rattle.std.proofs.Math.Nat.{pow-suc, pow-le-pow_right}

pub hex_room : (i n : ℕ) → n < 16 ^ i → i < 8 → 16 * n + 16 ≤ 2 ^ 32
hex_room i n h k = let z : 0 < 16 = lit< tt in let l : i ≤ 7 = omega arith in let p : 16 ^ i ≤ 16 ^ 7 = pow-le-pow_right z l in omega arith

pub hex_more : (i n d : ℕ) → n < 16 ^ i → d < 16 → 16 * n + d < 16 ^ (i + 1)
hex_more i n d h k = let p : 16 ^ suc i ≡ 16 ^ i * 16 = pow-suc 16 i in let e : i + 1 ≡ suc i = omega arith in rw (e, p) (omega arith)

pub ruleset hex_steps = (hex_room, hex_more)
