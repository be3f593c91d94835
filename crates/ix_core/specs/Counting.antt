-- Where the buffers of one home are at a settle. Each number stands still at the end of its type.
use Rattle.std.specs.Prelude.{◌≡◌, ◌+◌, ◌<◌, ℕ, List, Option, Some, None, length, slice_index_or, sum_by}
use Rattle.ix_base.specs.declared.id.Owned.{Owned}
use Rattle.ix_mbuf.specs.Owners.{one_at}
use Rattle.ix_desk.specs.Views.{Group}
use Rattle.ix_desk.specs.Groups.{unit_of}
use Rattle.ix_desk.specs.Desks.{groups_wait}
use Rattle.ix_stack.specs.declared.work.Work.{Work}
use Rattle.ix_stack.specs.Works.{works_weight}
use Rattle.ix_nic.specs.declared.offer.Counts.{Counts}
use Rattle.ix_nic.specs.Ports.{capped}
use Rattle.ix_core.specs.declared.counting.Home.{Home}
use Rattle.ix_core.specs.declared.turning.Core.{Core}

abbrev pub none_owned : Owned
none_owned = record { held = 0; app = 0; queue = 0 }

abbrev pub owned_plus : Owned → Owned → Owned
owned_plus a b = record { held = capped (a.held + b.held); app = capped (a.app + b.app); queue = capped (a.queue + b.queue) }

-- what a unit owns of a home, if it is here
abbrev pub owned_by : {U : Type 0} → (U → ℕ → Owned) → ℕ → Option U → Owned
owned_by owners home None = none_owned
owned_by owners home (Some u) = owners u home

module _ {U : Type 0} (owners : U → ℕ → Owned) (home : ℕ) where
  -- what the unit of a group owns that is here
  abbrev pub owned_at : Group U Work → Owned
  owned_at g = owned_by owners home (unit_of g)

  -- what all of them own
  abbrev pub held_of : List (Group U Work) → ℕ
  held_of groups = sum_by (λ g. (owned_at g).held) groups

  abbrev pub app_of : List (Group U Work) → ℕ
  app_of groups = sum_by (λ g. (owned_at g).app) groups

  abbrev pub queue_of : List (Group U Work) → ℕ
  queue_of groups = sum_by (λ g. (owned_at g).queue) groups

  abbrev pub owned_of : List (Group U Work) → Owned
  owned_of groups = record { held = capped (held_of groups); app = capped (app_of groups); queue = capped (queue_of groups) }

module _ {U E : Type 0} (owners : U → ℕ → Owned) (home : ℕ) where
  abbrev pub held_over : List (Core U E) → ℕ
  held_over cores = sum_by (λ c. held_of owners home c.desks.groups) cores

  abbrev pub app_over : List (Core U E) → ℕ
  app_over cores = sum_by (λ c. app_of owners home c.desks.groups) cores

  abbrev pub queue_over : List (Core U E) → ℕ
  queue_over cores = sum_by (λ c. queue_of owners home c.desks.groups) cores

  -- what the units own that are here on any core
  abbrev pub owned_over : List (Core U E) → Owned
  owned_over cores = record { held = capped (held_over cores); app = capped (app_over cores); queue = capped (queue_over cores) }

-- the frames in buffers of a home that wait at the desks of any core
abbrev pub frames_over : {U E : Type 0} → ℕ → List (Core U E) → ℕ
frames_over home cores = sum_by (λ c. works_weight (one_at home) (groups_wait c.desks)) cores

-- The buffers of a core, by where they are: free in its pool; posted, which the card tells; in frames that wait at desks; held, lent to the
-- application and queued by flow groups.
abbrev pub home_of : {U E : Type 0} → (U → ℕ → Owned) → List (Core U E) → Core U E → ℕ → Home
home_of owners cores own posted = record {
  pool = length own.pool.free;
  posted = posted;
  desk = capped (frames_over own.pool.home.0 cores);
  held = capped (held_over owners own.pool.home.0 cores);
  app = capped (app_over owners own.pool.home.0 cores);
  queue = capped (queue_over owners own.pool.home.0 cores);
}

-- those of the first cores, in order
pub record AreHomes {U E : Type 0} (owners : U → ℕ → Owned) (n : ℕ) (cores : List (Core U E)) (rings : List Counts) (homes : List Home) : Type 0 where
  pub count : length homes ≡ n
  pub each : (c : ℕ) (d : Core U E) (r : Counts) (h : Home) → c < n → slice_index_or homes c h ≡ home_of owners cores (slice_index_or cores c d) (slice_index_or rings c r).posted
