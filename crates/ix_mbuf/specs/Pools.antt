-- What contracts see of a pool, and what it keeps.
use Rattle.std.specs.Prelude.{◌≡◌, ◌≤◌, ◌<◌, ◌+◌, ◌^◌, ◌==◌, ◌&&◌, nat_lt, not, zero, suc, ◌++◌, ℕ, Bool, true, List, [], ◌∷◌, length, count_by, slice_index_or, if◌then◌else◌}
use Rattle.ix_base.specs.declared.id.BufId.{BufId}
use Rattle.ix_base.specs.declared.id.CoreId.{CoreId}
use Rattle.ix_mbuf.specs.Owners.{times, at_home}
use Rattle.ix_mbuf.specs.declared.name.Name.{Name}

-- a pool: its core, the number of its buffers, and the names of those that are free
pub record Stock : Type 0 where
  pub home : CoreId
  pub n : ℕ
  pub free : List Name

-- The buffer is one of the pool's, and not free.
abbrev pub is_out_of : Stock → BufId → Bool
is_out_of p id = id.home.0 == p.home.0 && (nat_lt id.slot p.n && times id p.free == 0)

-- The slot of this buffer is one of the pool's, and its flag is down.
abbrev pub is_in : CoreId → List Bool → BufId → Bool
is_in home out id = id.home.0 == home.0 && not (slice_index_or out id.slot true)

-- Free and given-out buffers are together those of the slots, each once.
pub record FreeAndOut (home : CoreId) (out : List Bool) (free : List Name) (capacity : ℕ) : Type 0 where
  -- a buffer stands among the free ones once where its flag is down, and else never
  pub each : (id : BufId) → times id free ≡ (if is_in home out id then 1 else 0)
  pub homes : at_home home.0 free ≡ length free
  pub count : length free + count_by (λ b. b) out ≡ length out
  pub room : length out ≤ capacity
  pub small : capacity < 2 ^ 32

-- the buffer of a slot before its first use
abbrev pub unused : CoreId → ℕ → Name
unused home slot = record { id = record { home = home; slot = slot }; uses = 0 }

-- all buffers of a core before their first use, by rising slot
abbrev pub all_names : CoreId → ℕ → List Name
all_names home zero = []
all_names home (suc n) = all_names home n ++ unused home n ∷ []
