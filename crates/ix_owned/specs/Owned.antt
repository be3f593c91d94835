-- What the settles of a play on the plain stacks tell of its buffers: docs/SETTLES.md.
use Rattle.std.specs.Prelude.{◌≡◌, ◌<◌, ◌≤◌, ◌==◌, ◌&&◌, ℕ, Bool, true, false, if◌then◌else◌, List, [], ◌∷◌, Some, drop, length, slice_index_or, sum_by}
use Rattle.std.specs.List.{AllByRecursion, range_with_len}
use Rattle.ix_mbuf.specs.declared.name.Name.{Name}
use Rattle.ix_base.specs.declared.id.BufId.{BufId}
use Rattle.ix_mbuf.specs.Owners.{one_at, one_if, same_id}
use Rattle.ix_desk.specs.Desks.{groups_wait}
use Rattle.ix_desk.specs.Views.{View}
use Rattle.ix_stack.specs.declared.work.Work.{Work}
use Rattle.ix_stack.specs.Works.{works_weight}
use Rattle.ix_appdef.specs.declared.application.Application.{Application}
use Rattle.ix_groupdef.specs.declared.env.Env.{Env}
use Rattle.ix_lines.specs.declared.types.HomeLine.{HomeLine}
use Rattle.ix_core.specs.Counting.{app_of, held_of, queue_of}
use Rattle.ix_core.specs.Weights.{desks_weight}
use Rattle.ix_core.specs.declared.turning.Core.{Core}
use Rattle.ix_fits.specs.Owners.{Play, all_settles, app_at, desk_at, held_at, is_printed, queue_at}
use Rattle.ix_plainstack.specs.Stack.{Stack, owners_at, stack_weight}
use Rattle.ix_settled.specs.Cuts.{AreCut, play_of}
use Rattle.ix_settled.specs.Moments.{Moment, Opening, Settled, lines_of}
use Rattle.ix_settled.specs.Renamed.{AgreesWith}

-- ## Sums over the cores
abbrev pub over_cores : Opening → Moment → (View Stack Work → ℕ) → ℕ
over_cores p m f = sum_by (λ c. f (m.desks c)) (range_with_len 0 p.cores)

-- the frames in buffers of a home that wait at desks
abbrev pub frames_at : ℕ → View Stack Work → ℕ
frames_at home v = works_weight (one_at home) (groups_wait v)

-- the frames in buffers of a home that the stacks own: held, with the application, and queued
abbrev pub held_by : ℕ → View Stack Work → ℕ
held_by home v = held_of owners_at home v.groups

abbrev pub app_by : ℕ → View Stack Work → ℕ
app_by home v = app_of owners_at home v.groups

abbrev pub queue_by : ℕ → View Stack Work → ℕ
queue_by home v = queue_of owners_at home v.groups

-- the weights of all buffers at desks
abbrev pub out_weight : Opening → Moment → (Name → ℕ) → ℕ
out_weight p m f = over_cores p m (desks_weight (stack_weight f) f)

-- These cores have the desks of a moment.
pub record HasDesks (n : ℕ) (desks : ℕ → View Stack Work) (cores : List (Core Stack (Env Application))) : Type 0 where
  pub count : length cores ≡ n
  pub each : (c : ℕ) (d : Core Stack (Env Application)) → c < n → (slice_index_or cores c d).desks ≡ desks c

-- A sum over the cores is the sum over the desks.
abbrev pub CoresAreSummed : Type 0
CoresAreSummed =
    (p : Opening) (m : Moment) (cores : List (Core Stack (Env Application))) → HasDesks p.cores m.desks cores
    → (f : View Stack Work → ℕ) → sum_by (λ c. f c.desks) cores ≡ over_cores p m f

-- ## Homes
-- Where the buffers of all frames are named as the entries have it: at a settle the numbers of a home, over the desks of all cores, are those of the definitions.
pub record HomesAre (p : Opening) (play : Play) (m : Moment) : Type 0 where
  pub desk : (home : ℕ) → over_cores p m (frames_at home) ≡ desk_at play m.done home
  pub held : (home : ℕ) → over_cores p m (held_by home) ≡ held_at play m.done home
  pub app : (home : ℕ) → over_cores p m (app_by home) ≡ app_at play m.done home
  pub queue : (home : ℕ) → over_cores p m (queue_by home) ≡ queue_at play m.done home

abbrev pub HomesAreRight : Type 0
HomesAreRight =
    (p : Opening) (m : Moment) (ms : List Moment) → Settled p (m ∷ ms) → AgreesWith m.done p.name → (a : AreCut p m ms)
    → AllByRecursion (HomesAre p (play_of p m.done a.cycles)) (m ∷ ms)

-- ## The lines of a settle
-- A line of a home tells these numbers.
pub record TellsHome (p : Opening) (m : Moment) (home : ℕ) (h : HomeLine) : Type 0 where
  pub desk : h.desk ≡ over_cores p m (frames_at home)
  pub held : h.held ≡ over_cores p m (held_by home)
  pub app : h.app ≡ over_cores p m (app_by home)
  pub queue : h.queue ≡ over_cores p m (queue_by home)

-- A settle tells of each home, and no buffer is there twice.
pub record TellsOwners (p : Opening) (m : Moment) : Type 0 where
  pub homes : (c : ℕ) (h : HomeLine) → c < length m.line.homes → TellsHome p m c (slice_index_or m.line.homes c h)
  pub once : (id : BufId) → out_weight p m (one_if id) ≤ 1

-- the weight that counts one use of a buffer
abbrev pub is_name : Name → Name → Bool
is_name x y = same_id x.id y.id && x.uses == y.uses

abbrev pub one_name : Name → Name → ℕ
one_name x y = if is_name x y then 1 else 0

-- The buffer of a use that is out at two settles, one behind the other, is printed in no entry between them.
pub record NotPrinted (p : Opening) (before m : Moment) : Type 0 where
  pub none : (x : Name) → 1 ≤ out_weight p before (one_name x) → 1 ≤ out_weight p m (one_name x) → is_printed (Some x.id) (drop (length before.done) m.done) ≡ false

abbrev pub AreNotPrinted : Opening → List Moment → Type 0
AreNotPrinted p [] = Unit {0}
AreNotPrinted p (m ∷ []) = Unit {0}
AreNotPrinted p (m ∷ before ∷ ms) = NotPrinted p before m × AreNotPrinted p (before ∷ ms)

-- So the settles tell where the buffers are.
abbrev pub SettlesTellOwners : Type 0
SettlesTellOwners =
    (p : Opening) (m : Moment) (ms : List Moment) → Settled p (m ∷ ms) → AgreesWith m.done p.name → AllByRecursion (TellsOwners p) (m ∷ ms) → AreNotPrinted p (m ∷ ms)
    → (a : AreCut p m ms) → all_settles (play_of p m.done a.cycles) (lines_of (m ∷ ms)) ≡ true
