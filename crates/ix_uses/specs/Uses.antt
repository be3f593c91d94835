-- What becomes of the names of buffers where frames are put in them: a buffer that is filled is in use once more, so its name changes and its
-- id stays.
use Rattle.std.specs.Prelude.{◌≡◌, ◌≤◌, ◌<◌, ◌+◌, ◌^◌, ◌==◌, ◌&&◌, ℕ, Bool, List, if◌then◌else◌, length}
use Rattle.ix_base.specs.declared.id.BufId.{BufId}
use Rattle.ix_mbuf.specs.declared.name.Name.{Name}
use Rattle.ix_mbuf.specs.Buffers.{next_use}
use Rattle.ix_mbuf.specs.Owners.{one_if, same_id, times, weigh}

-- what is held weighs what these names weigh, for each weight of names
pub record AreNames (held : (Name → ℕ) → ℕ) : Type 0 where
  pub names : List Name
  pub sum : (f : Name → ℕ) → held f ≡ weigh f names

-- The buffers of these names were filled, one after the other: each is held in its next use. No other came, and none went.
pub record AreFilled (names : List Name) (held held' : (Name → ℕ) → ℕ) : Type 0 where
  pub weight : (f : Name → ℕ) → held' f + weigh f names ≡ held f + weigh (λ x. f (next_use x)) names

-- the weight that counts one use of a buffer
abbrev pub is_name : Name → Name → Bool
is_name x y = same_id x.id y.id && x.uses == y.uses

abbrev pub one_name : Name → Name → ℕ
one_name x y = if is_name x y then 1 else 0

-- ## Laws
-- Each buffer is held as often as before.
abbrev pub BuffersStay : Type 0
BuffersStay =
    (names : List Name) (held held' : (Name → ℕ) → ℕ) → AreFilled names held held' → (f : BufId → ℕ) → held' (λ x. f x.id) ≡ held (λ x. f x.id)

-- Uses are counted modulo 2^32. So a buffer that is held once, and in the same use before and after fewer than 2^32 were filled, was not filled.
abbrev pub NoUseComesBack : Type 0
NoUseComesBack =
    (names : List Name) (held held' : (Name → ℕ) → ℕ) → AreNames held → AreNames held' → AreFilled names held held' → length names < 2 ^ 32
    → (x : Name) → held (one_if x.id) ≤ 1 → 1 ≤ held (one_name x) → 1 ≤ held' (one_name x) → times x.id names ≡ 0
