-- The settles of a report tell the owners.
use Rattle.std.proofs.Common.{◌≡◌, ℕ, suc, zero, ◌+◌, ◌<◌, ◌≤◌, Bool, true, false, List, [], ◌∷◌, ◌++◌, drop, length, refl, sym, ap, ◌∙◌, subst, arith, append_assoc, append-nil}
use Rattle.std.specs.Prelude.{◌==◌, ◌&&◌, ◌||◌, Some, count_by, slice_index_or, sum_by}
use Rattle.std.specs.List.{AllByRecursion, list_any, range_with_len}
use Rattle.ix_base.specs.declared.id.TheConstants.{FLOW_GROUPS}
use Rattle.ix_base.specs.declared.id.WireNo.{WireNo}
use Rattle.ix_mbuf.specs.Owners.{one_if}
use Rattle.ix_mbuf.specs.declared.name.Name.{Name}
use Rattle.ix_deeds.specs.Going.{AllDesksStay}
use Rattle.ix_appdef.specs.declared.application.Application.{Application}
use Rattle.ix_groupdef.specs.declared.env.Env.{Env}
use Rattle.ix_groupdef.specs.Group.{Cycle, Group, run}
use Rattle.ix_groupdef.specs.Owners.{owners_of}
use Rattle.ix_base.specs.declared.id.Owned.{Owned}
use Rattle.ix_lines.specs.declared.types.EntryLine.{EntryLine}
use Rattle.ix_lines.specs.declared.types.EntryLine.TheVariants as lines
use Rattle.ix_lines.specs.declared.types.HomeLine.{HomeLine}
use Rattle.ix_lines.specs.declared.types.SettleLine.{SettleLine}
use Rattle.ix_core.specs.declared.turning.Core.{Core}
use Rattle.ix_fits.specs.Cutting.{is_settle}
use Rattle.ix_fits.specs.Journals.{buffer_of_line}
use Rattle.ix_fits.specs.Owners.{Play, all_groups, all_settles, all_stay, app_at, are_apart, are_homes, are_settles, buffers_of, desk_at, group_after, held_at, home_of, is_at, is_home, is_printed, is_settle_of, out_after, out_from, owners_in, queue_at, same_buffer, waiting}
use Rattle.ix_fits.specs.Owners as outs
use Rattle.ix_plainstack.specs.Batches.{is_frame_work, work_number}
use Rattle.ix_plainstack.specs.Stack.{Stack, Advances, Drains}
use Rattle.ix_plainstack.specs.Standing.{OwnersAreRight}
use Rattle.ix_settled.specs.Cuts.{StandsAt, play_of}
use Rattle.ix_settled.specs.Moments.{AtSettle, Moment, Opening, Settled, lines_of, stack_steps}
use Rattle.ix_settled.specs.Renamed.{AgreesWith}
use Rattle.ix_owned.specs.Owned.{AreNotPrinted, CoresAreSummed, HasDesks, HomesAre, HomesAreRight, SettlesTellOwners, TellsHome, TellsOwners, one_name, out_weight, over_cores}
use Rattle.ix_owned.proofs.Apart.{apart, self-test, stay}
use Rattle.ix_owned.proofs.Homes.{groups-range, homes-are}
use Rattle.ix_owned.proofs.Out.{out-bound}
use Rattle.ix_owned.proofs.Sums.{sum-places, sum-range, total-same}

-- ## Cores
pub cores-summed : CoresAreSummed
cores-summed p m cores has f = by_cores cores has
  where
    by_cores : (cores : List (Core Stack (Env Application))) → HasDesks p.cores m.desks cores → sum_by (λ (c : Core Stack (Env Application)). f c.desks) cores ≡ over_cores p m f
    by_cores [] has = sym (ap (λ n. sum_by (λ c. f (m.desks c)) (range_with_len 0 n)) (sym has.count))
    by_cores (c ∷ cs) has =
        sum-places (λ (x : Core Stack (Env Application)). f x.desks) (c ∷ cs) c (λ i. f (m.desks i)) 0
        (λ i lt. (let first : 0 + i ≡ i = omega arith in ap (λ n. f (m.desks n)) first ∙ ap f (sym (has.each i c (let count = has.count in omega (arith, lt, count))))))
        ∙ sym (sum-range (λ i. f (m.desks i)) 0 (length (c ∷ cs)))
        ∙ ap (λ n. sum_by (λ i. f (m.desks i)) (range_with_len 0 n)) has.count

-- ## Two lists of entries at which all groups are the same
range-below : (s n k : ℕ) → s + n ≤ k → AllByRecursion (λ g. g < k) (range_with_len s n)
range-below s zero k le = tt
range-below s (suc n) k le = (omega (arith, le), range-below (s + 1) n k (omega (arith, le)))

groups-below : (k : ℕ) → k ≡ FLOW_GROUPS → AllByRecursion (λ g. g < k) all_groups
groups-below k e = subst (AllByRecursion (λ g. g < k)) (sym (groups-range k e)) (range-below 0 k k (omega arith))

module _ (p : Play) (done done' : List EntryLine) (waits : (g : ℕ) → g < FLOW_GROUPS → waiting done g ≡ waiting done' g) (same : (g : ℕ) → g < FLOW_GROUPS → group_after p done g ≡ group_after p done' g) where
  sum-same : (h k : ℕ → ℕ) → ((g : ℕ) → g < FLOW_GROUPS → h g ≡ k g) → (n : ℕ) → n ≡ FLOW_GROUPS → sum_by h all_groups ≡ sum_by k all_groups
  sum-same h k is n e =
      ap (sum_by h) (groups-range n e) ∙ sum-range h 0 n ∙ total-same h k 0 n (λ g low high. is g (omega (arith, high, e))) ∙ sym (ap (sum_by k) (groups-range n e) ∙ sum-range k 0 n)

  desk-same : (core : ℕ) → desk_at p done core ≡ desk_at p done' core
  desk-same core = sum-same (λ g. count_by (is_at p.entries core) (waiting done g)) (λ g. count_by (is_at p.entries core) (waiting done' g)) (λ g lt. ap (count_by (is_at p.entries core)) (waits g lt)) FLOW_GROUPS refl

  owners-same : (core g : ℕ) → g < FLOW_GROUPS → owners_in p done core g ≡ owners_in p done' core g
  owners-same core g lt = ap (λ (z : Group). owners_of p.whole (home_of p.entries) (record { 0 = core }) z) (same g lt)

  held-same : (core : ℕ) → held_at p done core ≡ held_at p done' core
  held-same core = sum-same (λ g. (owners_in p done core g).held) (λ g. (owners_in p done' core g).held) (λ g lt. ap (λ (o : Owned). o.held) (owners-same core g lt)) FLOW_GROUPS refl

  app-same : (core : ℕ) → app_at p done core ≡ app_at p done' core
  app-same core = sum-same (λ g. (owners_in p done core g).app) (λ g. (owners_in p done' core g).app) (λ g lt. ap (λ (o : Owned). o.app) (owners-same core g lt)) FLOW_GROUPS refl

  queue-same : (core : ℕ) → queue_at p done core ≡ queue_at p done' core
  queue-same core = sum-same (λ g. (owners_in p done core g).queue) (λ g. (owners_in p done' core g).queue) (λ g lt. ap (λ (o : Owned). o.queue) (owners-same core g lt)) FLOW_GROUPS refl

  out-same-in : (gs : List ℕ) → AllByRecursion (λ g. g < FLOW_GROUPS) gs → out_from p done gs ≡ out_from p done' gs
  out-same-in [] below = refl
  out-same-in (g ∷ gs) below =
      ap (λ (z : List WireNo). z ++ outs.owned_by p.whole (group_after p done g).lives ++ out_from p done gs) (waits g below.0)
      ∙ ap (λ (z : Group). waiting done' g ++ outs.owned_by p.whole z.lives ++ out_from p done gs) (same g below.0)
      ∙ ap (λ (z : List WireNo). waiting done' g ++ outs.owned_by p.whole (group_after p done' g).lives ++ z) (out-same-in gs below.1)

  pub out-same : out_after p done ≡ out_after p done'
  out-same = out-same-in all_groups (groups-below FLOW_GROUPS refl)

-- ## One settle
module _ (q : Play) (p : Opening) (m : Moment) (done : List EntryLine) (homes : HomesAre p q m) (desk : (core : ℕ) → desk_at q done core ≡ desk_at q m.done core) (held : (core : ℕ) → held_at q done core ≡ held_at q m.done core)
    (app : (core : ℕ) → app_at q done core ≡ app_at q m.done core) (queue : (core : ℕ) → queue_at q done core ≡ queue_at q m.done core) where
  test-same : (a b : ℕ) → a ≡ b → (a == b) ≡ true
  test-same a b e = ap (λ n. n == b) e ∙ self-test b

  home-is : (core : ℕ) (h : HomeLine) → TellsHome p m core h → is_home q done core h ≡ true
  home-is core h tells = rw (
    test-same h.desk (desk_at q done core) (tells.desk ∙ homes.desk core ∙ sym (desk core)),
    test-same h.held (held_at q done core) (tells.held ∙ homes.held core ∙ sym (held core)),
    test-same h.app (app_at q done core) (tells.app ∙ homes.app core ∙ sym (app core)),
    test-same h.queue (queue_at q done core) (tells.queue ∙ homes.queue core ∙ sym (queue core)),
  ) refl

  homes-told : (core : ℕ) (hs : List HomeLine) → ((i : ℕ) (h : HomeLine) → i < length hs → TellsHome p m (core + i) (slice_index_or hs i h)) → are_homes q done core hs ≡ true
  homes-told core [] tells = refl
  homes-told core (h ∷ hs) tells =
      let here : TellsHome p m core h = (let first : core + 0 ≡ core = omega arith in subst (λ c. TellsHome p m c h) first (tells 0 h (omega arith))) in
      ap (λ b. b && are_homes q done (core + 1) hs) (home-is core h here)
      ∙ homes-told (core + 1) hs (λ i d lt. (let next : core + suc i ≡ (core + 1) + i = omega arith in subst (λ c. TellsHome p m c (slice_index_or hs i d)) next (tells (suc i) d (omega (arith, lt)))))

-- ## From settle to settle
-- entries without a settle tell nothing
walk : (q : Play) (before : List WireNo) (acc done between later : List EntryLine) (ss : List SettleLine) → list_any is_settle between ≡ false
    → are_settles q before (acc ++ between) (done ++ between) later ss ≡ true → are_settles q before acc done (between ++ later) ss ≡ true
walk q before acc done [] later ss plain so =
    subst (λ (z : List EntryLine). are_settles q before z done later ss ≡ true) (append-nil acc) (subst (λ (z : List EntryLine). are_settles q before (acc ++ []) z later ss ≡ true) (append-nil done) so)
walk q before acc done (l ∷ ls) later ss plain so =
    by_line l plain
    (subst (λ (z : List EntryLine). are_settles q before z ((done ++ l ∷ []) ++ ls) later ss ≡ true) (sym (append_assoc acc (l ∷ []) ls))
    (subst (λ (z : List EntryLine). are_settles q before (acc ++ l ∷ ls) z later ss ≡ true) (sym (append_assoc done (l ∷ []) ls)) so))
    (walk q before (acc ++ l ∷ []) (done ++ l ∷ []) ls later ss)
  where
    by_line : (l : EntryLine) → (is_settle l || list_any is_settle ls) ≡ false → are_settles q before ((acc ++ l ∷ []) ++ ls) ((done ++ l ∷ []) ++ ls) later ss ≡ true
        → (list_any is_settle ls ≡ false → are_settles q before ((acc ++ l ∷ []) ++ ls) ((done ++ l ∷ []) ++ ls) later ss ≡ true → are_settles q before (acc ++ l ∷ []) (done ++ l ∷ []) (ls ++ later) ss ≡ true)
        → are_settles q before acc done (l ∷ (ls ++ later)) ss ≡ true
    by_line (lines.Frame rec at group ring fate) plain so f = f plain so
    by_line (lines.Time t) plain so f = f plain so
    by_line (lines.Tag group) plain so f = f plain so
    by_line (lines.Move group to) plain so f = f plain so
    by_line lines.Settle plain so f = absurd (cc)

drop-past : {X : Type 0} (xs ys : List X) → drop (length xs) (xs ++ ys) ≡ ys
drop-past [] ys = refl
drop-past (x ∷ xs) ys = drop-past xs ys

or-left : (a b : Bool) → (a || b) ≡ false → a ≡ false
or-left true b e = absurd (cc)
or-left false b e = refl

or-right : (a b : Bool) → (a || b) ≡ false → b ≡ false
or-right true b e = absurd (cc)
or-right false b e = e

any-front : (f : EntryLine → Bool) (xs ys : List EntryLine) → list_any f (xs ++ ys) ≡ false → list_any f xs ≡ false
any-front f [] ys e = refl
any-front f (x ∷ xs) ys e = ap (λ b. b || list_any f xs) (or-left (f x) (list_any f (xs ++ ys)) e) ∙ any-front f xs ys (or-right (f x) (list_any f (xs ++ ys)) e)

both : (a b : Bool) → a ≡ true → b ≡ true → (a && b) ≡ true
both true b e f = f
both false b e f = absurd (cc)

abbrev Stays : Type 0
Stays = AllDesksStay is_frame_work work_number stack_steps Advances Drains

module _ (stays : Stays) (right : OwnersAreRight) (p : Opening) (entries : List EntryLine) (cycles : ℕ → List Cycle) (agrees : AgreesWith entries p.name) where
  abbrev the : Play
  the = play_of p entries cycles

  abbrev StandHere : Moment → Type 0
  StandHere m = (g : ℕ) → g < FLOW_GROUPS → StandsAt p (cycles g) g m

  at-settle : (m : Moment) (ms : List Moment) → Settled p (m ∷ ms) → AtSettle p m
  at-settle m [] s = s.settle
  at-settle m (before ∷ ms) s = s.0

  sizes : (m : Moment) → AtSettle p m → (c : ℕ) → c < p.cores → length (m.desks c).groups ≡ FLOW_GROUPS
  sizes m at c lt = (stays p.env (p.desks c) (m.desks c) (m.history c) (at.played.runs c lt)).size ∙ at.played.size c lt

  homes-at : (m : Moment) → AtSettle p m → StandHere m → HomesAre p the m
  homes-at m at stand = homes-are p entries cycles m (sizes m at) agrees stand right

  bound-at : (m : Moment) → AtSettle p m → StandHere m → (f : Name → ℕ) → sum_by (λ w. f (p.name w)) (out_after the m.done) ≤ out_weight p m f
  bound-at m at stand f = out-bound p entries cycles m (sizes m at) agrees stand f

  pub all-homes : (m : Moment) (ms : List Moment) → Settled p (m ∷ ms) → ((g : ℕ) → g < FLOW_GROUPS → AllByRecursion (StandsAt p (cycles g) g) (m ∷ ms)) → AllByRecursion (HomesAre p the) (m ∷ ms)
  all-homes m [] s stand = (homes-at m s.settle (λ g lt. (stand g lt).0), tt)
  all-homes m (before ∷ ms) s stand = (homes-at m s.0 (λ g lt. (stand g lt).0), all-homes before ms s.2 (λ g lt. (stand g lt).1))

  -- the lines of one settle, behind these entries
  settle-so : (m : Moment) → AtSettle p m → StandHere m → TellsOwners p m → (done : List EntryLine) → ((g : ℕ) → g < FLOW_GROUPS → waiting done g ≡ waiting m.done g) → ((g : ℕ) → g < FLOW_GROUPS → group_after the done g ≡ group_after the m.done g)
      → is_settle_of the done m.line ≡ true
  settle-so m at stand tells done waits same =
      both (are_homes the done 0 m.line.homes) (are_apart (buffers_of the.entries (out_after the done)))
      (homes-told the p m done (homes-at m at stand) (desk-same the done m.done waits same) (held-same the done m.done waits same) (app-same the done m.done waits same) (queue-same the done m.done waits same) 0 m.line.homes
      (λ i h lt. (let first : i ≡ 0 + i = omega arith in subst (λ c. TellsHome p m c (slice_index_or m.line.homes i h)) first (tells.homes i h lt))))
      (apart entries p.name agrees (out_after the done)
      (λ id. (let out = out-same the done m.done waits same in let same_sum = ap (sum_by (λ w. one_if id (p.name w))) out in let bound = bound-at m at stand (one_if id) in let once = tells.once id in omega (arith, same_sum, bound, once))))

  -- ## The chain
  settles-so : (m : Moment) (ms : List Moment) → Settled p (m ∷ ms) → ((g : ℕ) → g < FLOW_GROUPS → AllByRecursion (StandsAt p (cycles g) g) (m ∷ ms)) → AllByRecursion (TellsOwners p) (m ∷ ms) → AreNotPrinted p (m ∷ ms)
      → (later : List EntryLine) (ss : List SettleLine) → entries ≡ m.done ++ later → are_settles the (out_after the m.done) [] m.done later ss ≡ true → all_settles the (lines_of (m ∷ ms) ++ ss) ≡ true
  settles-so m [] s stand tells kept later ss is so =
      let here = λ (g : ℕ) (lt : g < FLOW_GROUPS). (stand g lt).0 in
      let none = s.done in
      let first = settle-so m s.settle here tells.0 [] (λ g lt. ap (λ (z : List EntryLine). waiting z g) (sym none)) (λ g lt. ap (λ (z : List EntryLine). group_after the z g) (sym none)) in
      let rest = subst (λ (z : List EntryLine). are_settles the (out_after the []) [] [] z ss ≡ true) (sym (is ∙ ap (λ (z : List EntryLine). z ++ later) none))
      (subst (λ (z : List EntryLine). are_settles the (out_after the z) [] z later ss ≡ true) none so) in
      both (is_settle_of the [] m.line) (are_settles the (out_after the []) [] [] the.entries ss) first rest
  settles-so m (before ∷ ms) s stand tells kept later ss is so =
      let on = s.1 in
      let done = before.done ++ on.between in
      let last : m.done ≡ done ++ lines.Settle ∷ [] = on.done ∙ sym (append_assoc before.done on.between (lines.Settle ∷ [])) in
      let here = λ (g : ℕ) (lt : g < FLOW_GROUPS). (stand g lt).0 in
      let earlier = λ (g : ℕ) (lt : g < FLOW_GROUPS). (stand g lt).1.0 in
      let waits = λ (g : ℕ) (lt : g < FLOW_GROUPS). ((stand g lt).0.still done last).1 in
      let same = λ (g : ℕ) (lt : g < FLOW_GROUPS). ap (run the.env (the.asked g)) ((stand g lt).0.still done last).0 in
      let out = out-same the done m.done waits same in
      let settle = settle-so m s.0 here tells.0 done waits same in
      let not_printed = λ (x : Name) (a : 1 ≤ sum_by (λ v. one_name x (p.name v)) (out_after the before.done)) (b : 1 ≤ sum_by (λ v. one_name x (p.name v)) (out_after the m.done)).
      (let first = bound-at before (at-settle before ms s.2) earlier (one_name x) in
      let second = bound-at m s.0 here (one_name x) in
      let printed = kept.0.none x (omega (arith, a, first)) (omega (arith, b, second)) in
      let since : drop (length before.done) m.done ≡ on.between ++ lines.Settle ∷ [] = ap (drop (length before.done)) on.done ∙ drop-past before.done (on.between ++ lines.Settle ∷ []) in
      any-front (λ l. same_buffer (buffer_of_line l) (Some x.id)) on.between (lines.Settle ∷ []) (subst (λ (z : List EntryLine). is_printed (Some x.id) z ≡ false) since printed)) in
      let stays_so = stay entries p.name agrees the refl (out_after the before.done) (out_after the m.done) on.between not_printed in
      let stays_here = subst (λ (z : List WireNo). all_stay the (out_after the before.done) z on.between ≡ true) (sym out) stays_so in
      let rest = subst (λ (z : List WireNo). are_settles the z [] (done ++ lines.Settle ∷ []) later ss ≡ true) (sym out) (subst (λ (z : List EntryLine). are_settles the (out_after the m.done) [] z later ss ≡ true) last so) in
      let at_settle = both (is_settle_of the done m.line && all_stay the (out_after the before.done) (out_after the done) on.between) (are_settles the (out_after the done) [] (done ++ lines.Settle ∷ []) later ss)
      (both (is_settle_of the done m.line) (all_stay the (out_after the before.done) (out_after the done) on.between) settle stays_here) rest in
      let all = walk the (out_after the before.done) [] before.done on.between (lines.Settle ∷ later) (m.line ∷ ss) on.no_settle at_settle in
      let entries_are : entries ≡ before.done ++ (on.between ++ lines.Settle ∷ later)
      = is ∙ ap (λ (z : List EntryLine). z ++ later) on.done ∙ append_assoc before.done (on.between ++ lines.Settle ∷ []) later ∙ ap (λ z. before.done ++ z) (append_assoc on.between (lines.Settle ∷ []) later) in
      let before_so = settles-so before ms s.2 (λ g lt. (stand g lt).1) tells.1 kept.1 (on.between ++ lines.Settle ∷ later) (m.line ∷ ss) entries_are all in
      subst (λ (z : List SettleLine). all_settles the z ≡ true) (sym (append_assoc (lines_of (before ∷ ms)) (m.line ∷ []) ss)) before_so

pub homes-right : Stays → OwnersAreRight → HomesAreRight
homes-right stays right p m ms settled agrees a = all-homes stays right p m.done a.cycles agrees m ms settled (λ g lt. (a.groups g lt).each)

pub settles-right : Stays → OwnersAreRight → SettlesTellOwners
settles-right stays right p m ms settled agrees tells kept a =
    subst (λ (z : List SettleLine). all_settles (play_of p m.done a.cycles) z ≡ true) (append-nil (lines_of (m ∷ ms)))
    (settles-so stays right p m.done a.cycles agrees m ms settled (λ g lt. (a.groups g lt).each) tells kept [] [] (sym (append-nil m.done)) refl)
