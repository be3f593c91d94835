-- A buffer that is out in one use at two settles in a row is printed in no entry between them.
use Rattle.std.proofs.Common.{◌≡◌, ◌+◌, ◌*◌, ◌<◌, ◌≤◌, ◌^◌, ◌||◌, ℕ, Bool, true, false, List, [], ◌∷◌, ◌++◌, drop, length, refl, sym, ap, subst, ◌∙◌, arith, eq-eqb}
use Rattle.std.specs.Prelude.{Some, cond, count_by, if◌then◌else◌}
use Rattle.std.specs.List.{AllByRecursion}
use Rattle.std.proofs.Math.Seq.{drop-append_seam}
use Rattle.std.proofs.lemmas.List.Sums.{sum_by-append}
use Rattle.ix_base.specs.declared.id.BufId.{BufId}
use Rattle.ix_mbuf.specs.declared.name.Name.{Name}
use Rattle.ix_mbuf.specs.Owners.{one_if, same_id, times}
use Rattle.ix_uses.specs.Uses.{NoUseComesBack, one_name}
use Rattle.ix_appdef.specs.declared.application.Application.{Application}
use Rattle.ix_groupdef.specs.declared.env.Env.{Env}
use Rattle.ix_lines.specs.declared.types.EntryLine.{EntryLine}
use Rattle.ix_lines.specs.declared.types.EntryLine.TheVariants as lines
use Rattle.ix_lines.specs.declared.types.Fate.TheVariants as fates
use Rattle.ix_fits.specs.Owners.{is_printed}
use Rattle.ix_nic.specs.Cards.{CardView}
use Rattle.ix_core.specs.declared.settling.SettleReport.{SettleReport}
use Rattle.ix_core.specs.declared.turning.Core.{Core}
use Rattle.ix_core.specs.Settling.{Settles}
use Rattle.ix_core.specs.Weights.{desks_weight}
use Rattle.ix_feed.specs.Replays.{FeedView}
use Rattle.ix_feed.specs.Told.{used_by, used_on}
use Rattle.ix_epochs.specs.Epochs.{EpochRan}
use Rattle.ix_epochs.specs.Ready.{EpochsAreReady}
use Rattle.ix_homes.specs.Held.{EpochFills, EpochsFill, SettlesHold, held}
use Rattle.ix_homes.specs.Homes.{IsHome}
use Rattle.ix_slots.specs.Slots.{HasRing}
use Rattle.ix_plainstack.specs.Batches.{is_frame_work, work_number}
use Rattle.ix_plainstack.specs.Stack.{Stack, Advances, Drains, owners_at, stack_weight}
use Rattle.ix_settled.specs.Moments.{Moment, Opening, stack_steps}
use Rattle.ix_owned.specs.Owned.{CoresAreSummed, HasDesks, out_weight}
use Rattle.ix_printed.specs.Printed.{UsesAreNotPrinted}
use Rattle.ix_printed.proofs.Names.{all-held, in-stack}
use Rattle.ix_printed.proofs.Once.{desks-held, made-once, some-core}

-- ## What wasn't used isn't printed
counts-apart : (x : BufId) (xs ys : List BufId) → count_by (same_id x) (xs ++ ys) ≡ count_by (same_id x) xs + count_by (same_id x) ys
counts-apart x xs ys = sum_by-append (λ y. cond (same_id x y) 1 0) xs ys

none-of : (b : Bool) → ◌≡◌ {A = ℕ} (if b then 1 else 0) 0 → b ≡ false
none-of true e = absurd (omega (arith, e))
none-of false e = refl

neither : (a b : Bool) → a ≡ false → b ≡ false → (a || b) ≡ false
neither a b e d = grind arith

-- a line whose frame lies in another buffer, or in none
line-apart : (x : BufId) (n : ℕ) (l : EntryLine) (ls : List EntryLine) → HasRing n l → ((r : ℕ) → r < n → count_by (same_id x) (used_by r l) ≡ 0)
    → is_printed (Some x) ls ≡ false → is_printed (Some x) (l ∷ ls) ≡ false
line-apart x n (lines.Frame rec at group ring (fates.Buf b)) ls ring-is none rest = neither (same_id x b) (is_printed (Some x) ls) (none-of (same_id x b) other) rest
  where
    other : ◌≡◌ {A = ℕ} (if same_id x b then 1 else 0) 0
    other =
        let one : count_by (same_id x) (b ∷ []) ≡ 0 = subst (λ (t : Bool). count_by (same_id x) (if t then b ∷ [] else []) ≡ 0) (eq-eqb ring.0 ring.0 refl) (none ring.0 ring-is) in
        omega (arith, one)
line-apart x n (lines.Frame rec at group ring (fates.RingFull k)) ls ring-is none rest = rest
line-apart x n (lines.Frame rec at group ring (fates.NoBuffer k)) ls ring-is none rest = rest
line-apart x n (lines.Frame rec at group ring (fates.TooLong k)) ls ring-is none rest = rest
line-apart x n (lines.Time t) ls ring-is none rest = rest
line-apart x n (lines.Tag group) ls ring-is none rest = rest
line-apart x n (lines.Move group to) ls ring-is none rest = rest
line-apart x n lines.Settle ls ring-is none rest = rest

not-printed : (x : BufId) (n : ℕ) (ls : List EntryLine) → AllByRecursion (HasRing n) ls → ((r : ℕ) → r < n → count_by (same_id x) (used_on r ls) ≡ 0) → is_printed (Some x) ls ≡ false
not-printed x n [] rings none = refl
not-printed x n (l ∷ ls) rings none =
    line-apart x n l ls rings.0 (λ r lt. omega (arith, none r lt, counts-apart x (used_by r l) (used_on r ls)))
    (not-printed x n ls rings.1 (λ r lt. omega (arith, none r lt, counts-apart x (used_by r l) (used_on r ls))))

-- ## The law
fewer : (a b c : ℕ) → a ≤ b → b < c → a < c
fewer a b c le lt = omega (arith, le, lt)

none-left : (a b : ℕ) → a ≤ b → b ≡ 0 → a ≡ 0
none-left a b le e = omega (arith, le, e)

-- a core of a play
abbrev PlayCore : Type 0
PlayCore = Core Stack (Env Application)

-- all that is held on the plain stacks
abbrev all : CardView → List PlayCore → (Name → ℕ) → ℕ
all = held stack_weight

module _ (ready : EpochsAreReady {U = Stack} {E = Env Application} is_frame_work work_number stack_steps Advances Drains)
    (fill : EpochsFill Stack (Env Application) is_frame_work work_number stack_steps Advances Drains stack_weight) (hold : SettlesHold Stack (Env Application) stack_weight)
    (uses : NoUseComesBack) (sums : CoresAreSummed) where
  -- what is out at a moment is held by the cores that have its desks
  out-held : (p : Opening) (m : Moment) (card : CardView) (cores : List PlayCore) → HasDesks p.cores m.desks cores → (f : Name → ℕ) → out_weight p m f ≤ all card cores f
  out-held p m card cores has f = omega (arith, sums p m cores has (desks_weight (stack_weight f) f), desks-held (stack_weight f) f cores)

  module _ (p : Opening) (env : Env Application) (before m : Moment) (feed feed' : FeedView) (card : CardView) (report : SettleReport) (cores cores' after : List PlayCore)
      (home : IsHome Drains stack_weight feed.card cores) (ran : EpochRan is_frame_work work_number stack_steps Advances Drains env feed feed' cores cores')
      (settles : Settles owners_at report feed'.card card cores' after) (was : HasDesks p.cores before.desks cores) (is : HasDesks p.cores m.desks after)
      (done : before.done ≡ feed.replay.lines) (done' : m.done ≡ feed'.replay.lines) (rings : AllByRecursion (HasRing (length cores)) ran.feed.told)
      (few : length cores * length ran.feed.told < 2 ^ 32) where
    filled : EpochFills stack_weight ran.feed.told feed.card feed'.card cores cores'
    filled = fill env feed feed' cores cores' (λ c d lt. (home.level c d lt).size) home.ready ran

    once : (x : BufId) → all feed.card cores (one_if x) ≤ 1
    once x = omega (arith, home.same (λ i. if same_id x i then 1 else 0), made-once x cores home.ready.order.numbers)

    there : (x : Name) → 1 ≤ out_weight p before (one_name x) → 1 ≤ length cores
    there x out = some-core (λ (c : PlayCore). desks_weight (stack_weight (one_name x)) (one_name x) c.desks) cores
        (omega (arith, out, sums p before cores was (desks_weight (stack_weight (one_name x)) (one_name x))))

    still : (x : Name) → 1 ≤ length cores → all card after (one_name x) ≡ all feed'.card cores' (one_name x)
    still x some = hold owners_at report feed'.card card cores' after (ready env feed feed' cores cores' some home.ready ran).ready ran.over.empty settles (one_name x)

    not-filled : (x : Name) → 1 ≤ out_weight p before (one_name x) → 1 ≤ out_weight p m (one_name x) → times x.id filled.fills ≡ 0
    not-filled x out out' =
        uses filled.fills (all feed.card cores) (all feed'.card cores') (all-held stack_weight in-stack feed.card cores) (all-held stack_weight in-stack feed'.card cores') filled.filled
        (fewer (length filled.fills) (length cores * length ran.feed.told) (2 ^ 32) filled.few few) x (once x.id)
        (omega (arith, out, out-held p before feed.card cores was (one_name x)))
        (omega (arith, out', out-held p m card after is (one_name x), still x (there x out)))

    between : drop (length before.done) m.done ≡ ran.feed.told
    between = ap (drop (length before.done)) (done' ∙ ran.feed.lines ∙ ap (λ ls. ls ++ ran.feed.told) (sym done)) ∙ drop-append_seam before.done ran.feed.told

    none-printed : (x : Name) → 1 ≤ out_weight p before (one_name x) → 1 ≤ out_weight p m (one_name x) → is_printed (Some x.id) (drop (length before.done) m.done) ≡ false
    none-printed x out out' =
        subst (λ ls. is_printed (Some x.id) ls ≡ false) (sym between)
        (not-printed x.id (length cores) ran.feed.told rings (λ r lt. none-left (count_by (same_id x.id) (used_on r ran.feed.told)) (times x.id filled.fills) (filled.among r x.id lt) (not-filled x out out')))

  pub uses-are-not-printed : UsesAreNotPrinted
  uses-are-not-printed p env before m feed feed' card report cores cores' after home ran settles was is done done' rings few = record {
    none = none-printed p env before m feed feed' card report cores cores' after home ran settles was is done done' rings few;
  }
