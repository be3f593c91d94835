-- What a holder makes of its items.
use Rattle.std.specs.Prelude.{◌≡◌, ◌≤◌, ◌<◌, ◌==◌, ◌⊎◌, ℕ, Bool, true, false, if◌then◌else◌, nat_lt, List, [], ◌∷◌, ◌++◌, length, map}
use Rattle.std.specs.List.{list_any}
use Rattle.ix_base.specs.declared.id.Flow.{Flow}
use Rattle.ix_base.specs.declared.segment.Ret.{Ret}
use Rattle.ix_base.specs.declared.segment.Ret.TheVariants.{Done, TableFull}
use Rattle.ix_mbuf.specs.Buffers.{Buffer}
use Rattle.ix_stack.specs.declared.work.Work.{Work}
use Rattle.ix_stack.specs.declared.work.Work.TheVariants.{Frame, Time}

abbrev pub number_of : Work → ℕ
number_of (Frame x) = x.w.0
number_of (Time w t) = w.0

abbrev pub is_frame : Work → Bool
is_frame (Frame x) = true
is_frame (Time w t) = false

-- what it holds after one item, and what it doesn't need
abbrev pub kept_one : ℕ → List Buffer → Work → List Buffer
kept_one keep held (Frame x) = if nat_lt (length held) keep then held ++ x.buf ∷ [] else held
kept_one keep held (Time w t) = held

abbrev pub spent_one : ℕ → List Buffer → Work → List Buffer
spent_one keep held (Frame x) = if nat_lt (length held) keep then [] else x.buf ∷ []
spent_one keep held (Time w t) = []

abbrev pub kept_of : ℕ → List Buffer → List Work → List Buffer
kept_of keep held [] = held
kept_of keep held (x ∷ xs) = kept_of keep (kept_one keep held x) xs

abbrev pub spent_of : ℕ → List Buffer → List Work → List Buffer
spent_of keep held [] = []
spent_of keep held (x ∷ xs) = spent_one keep held x ++ spent_of keep (kept_one keep held x) xs

pub record Advanced (keep core : ℕ) (items : List Work) (held spent : List Buffer) (seen : List (ℕ × ℕ)) (held' spent' : List Buffer) (seen' : List (ℕ × ℕ)) : Type 0 where
  pub keeps : held' ≡ kept_of keep held items
  pub spends : spent' ≡ spent ++ spent_of keep held items
  pub names : seen' ≡ seen ++ map (λ x. (number_of x, core)) items

pub record Drained (held spent bufs held' spent' : List Buffer) : Type 0 where
  pub out : bufs ≡ spent
  pub holds : held' ≡ held
  pub none : spent' ≡ []

-- the flow from a local port
abbrev pub flow_of : ℕ → ℕ → ℕ → Flow
flow_of ip port local = record { remote = ip; local = 1; remote_port = port; local_port = local }

-- whether it has a connection from this port
abbrev pub has_port : List ℕ → ℕ → Bool
has_port ports port = list_any (λ p. p == port) ports

-- a connection more, or four that there are
pub record Connected (ports : List ℕ) (held spent : List Buffer) (port : ℕ) (ret : Ret) (ports' : List ℕ) (held' spent' : List Buffer) : Type 0 where
  pub answer : ((length ports < 4) × (ret ≡ Done 0) × (ports' ≡ ports ++ port ∷ [])) ⊎ ((4 ≤ length ports) × (ret ≡ TableFull) × (ports' ≡ ports))
  pub holds : held' ≡ held
  pub spends : spent' ≡ spent

-- all that it had is handed out
pub record Finished (held spent bufs held' spent' : List Buffer) : Type 0 where
  pub out : bufs ≡ held ++ spent
  pub holds : held' ≡ []
  pub none : spent' ≡ []
