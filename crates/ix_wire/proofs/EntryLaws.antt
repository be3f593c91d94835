-- One entry after another: what the entries come to is what the reader keeps, and each of them is allowed.
use Rattle.std.proofs.Common.{◌≡◌, ◌≢◌, ◌<◌, ◌≤◌, ◌+◌, ◌^◌, ◌++◌, ◌⊎◌, inl, inr, ℕ, zero, suc, List, [], ◌∷◌, length, Bool, true, false, Some, None, refl, ap, subst, sym, ◌∙◌, arith}
use Rattle.std.specs.Prelude.{◌==◌, if◌then◌else◌, not, nat_lt, Result, Ok, All, count_by, fold, slice_get, slice_set}
use Rattle.std.proofs.lemmas.Bool.{cases_eq}
use Rattle.std.proofs.lemmas.Bool.Decides.{nat_tests}
use Rattle.std.proofs.lemmas.List.Elements.{All-append, All-cons, All-nil}
use Rattle.std.proofs.lemmas.List.Sums.{fold-append, sum_by_push}
use Rattle.ix_base.specs.declared.id.CoreId.{CoreId}
use Rattle.ix_cp.specs.Plan.{is_core}
use Rattle.ix_wire.specs.declared.entry.Entry.{Entry}
use Rattle.ix_wire.specs.declared.entry.Entry.TheVariants as entries
use Rattle.ix_wire.specs.declared.fault.ScriptKind.{ScriptKind}
use Rattle.ix_wire.specs.declared.fault.ScriptKind.TheVariants as kinds
use Rattle.ix_wire.specs.Entries.{EachAllowed, IsThere, IsWireSoFar, Terms, alternates, clock_by, cores_behind, is_control, is_elsewhere, is_frame, is_in_time, is_turn, is_within, moved_by, since_settle, tagged_by}
use Rattle.ix_wire.specs.Table.{Standing, is_on, is_tag, is_tagged, moved, opening_cores, tagged}
use Rattle.ix_wire.specs.Wire.{Written, at_pace, settled, with_all_each, with_control, with_each, with_frame, with_frames, with_move}
use Rattle.ix_wire.proofs.Effects.{passed, unless}

-- one entry more
EachAllowed-more : {S : Type 0} (allowed : S → Entry → Bool) (next : S → Entry → S) (s : S) (es : List Entry) (e : Entry)
    → EachAllowed allowed next s es → allowed (fold next s es) e ≡ true → EachAllowed allowed next s (es ++ e ∷ [])
EachAllowed-more allowed next s [] e so one = (one, tt)
EachAllowed-more allowed next s (x ∷ es) e so one = (so.0, EachAllowed-more allowed next (next s x) es e so.1 one)

-- the entries are allowed, and come to this table, this clock and these numbers
pub record IsGood (x : Terms) (es : List Entry) (w : Written) (t : Standing) (clock : ℕ) : Type 0 where
  pub there : All (IsThere x) es
  pub alternate : (group : ℕ) → group < 512 → EachAllowed (alternates group) (tagged_by group) false es
  pub elsewhere : EachAllowed is_elsewhere moved_by (opening_cores x.live 512) es
  pub times : EachAllowed is_in_time clock_by 0 es
  pub paced : 0 < x.pace → EachAllowed (is_within is_frame x.pace) (since_settle is_frame) 0 es
  pub controls : EachAllowed (is_within is_control 1000) (since_settle is_control) 0 es
  pub tags_are : (group : ℕ) → group < 512 → fold (tagged_by group) false es ≡ is_tagged t group
  pub cores_are : cores_behind x.live es ≡ t.at
  pub clock_is : fold clock_by 0 es ≡ clock
  pub paced_is : fold (since_settle is_frame) 0 es ≡ w.paced
  pub controls_are : fold (since_settle is_control) 0 es ≡ w.controls
  pub frames_are : count_by is_frame es ≡ w.frames
  pub moves_are : count_by is_turn es ≡ w.moves
  pub pace_is : w.pace ≡ x.pace

-- an entry is allowed there
record Fits (x : Terms) (w : Written) (t : Standing) (clock : ℕ) (e : Entry) : Type 0 where
  there : IsThere x e
  alternate : (group : ℕ) → group < 512 → alternates group (is_tagged t group) e ≡ true
  elsewhere : is_elsewhere t.at e ≡ true
  times : is_in_time clock e ≡ true
  paced : 0 < x.pace → is_within is_frame x.pace w.paced e ≡ true
  controls : is_within is_control 1000 w.controls e ≡ true

-- what it makes of the table, the clock and the numbers
record Makes (e : Entry) (w v : Written) (t u : Standing) (clock tick : ℕ) : Type 0 where
  tags : (group : ℕ) → group < 512 → tagged_by group (is_tagged t group) e ≡ is_tagged u group
  at : moved_by t.at e ≡ u.at
  time : clock_by clock e ≡ tick
  paced : since_settle is_frame w.paced e ≡ v.paced
  controls : since_settle is_control w.controls e ≡ v.controls
  frames : w.frames + (if is_frame e then 1 else 0) ≡ v.frames
  moves : w.moves + (if is_turn e then 1 else 0) ≡ v.moves
  pace : v.pace ≡ w.pace

more : (x : Terms) (es : List Entry) (e : Entry) (w v : Written) (t u : Standing) (clock tick : ℕ) → IsGood x es w t clock
    → Fits x w t clock e → Makes e w v t u clock tick → IsGood x (es ++ e ∷ []) v u tick
more x es e w v t u clock tick good fits makes = record {
  there = All-append (IsThere x) es (e ∷ []) good.there (All-cons (IsThere x) e [] fits.there (All-nil _));
  alternate = λ group h. EachAllowed-more (alternates group) (tagged_by group) false es e (good.alternate group h)
      (ap (λ b. alternates group b e) (good.tags_are group h) ∙ fits.alternate group h);
  elsewhere = EachAllowed-more is_elsewhere moved_by (opening_cores x.live 512) es e good.elsewhere
      (ap (λ at. is_elsewhere at e) good.cores_are ∙ fits.elsewhere);
  times = EachAllowed-more is_in_time clock_by 0 es e good.times (ap (λ n. is_in_time n e) good.clock_is ∙ fits.times);
  paced = λ h. EachAllowed-more (is_within is_frame x.pace) (since_settle is_frame) 0 es e (good.paced h)
      (ap (λ n. is_within is_frame x.pace n e) good.paced_is ∙ fits.paced h);
  controls = EachAllowed-more (is_within is_control 1000) (since_settle is_control) 0 es e good.controls
      (ap (λ n. is_within is_control 1000 n e) good.controls_are ∙ fits.controls);
  tags_are = λ group h.
      fold-append (tagged_by group) false es (e ∷ []) ∙ ap (λ b. tagged_by group b e) (good.tags_are group h) ∙ makes.tags group h;
  cores_are = fold-append moved_by (opening_cores x.live 512) es (e ∷ []) ∙ ap (λ at. moved_by at e) good.cores_are ∙ makes.at;
  clock_is = fold-append clock_by 0 es (e ∷ []) ∙ ap (λ n. clock_by n e) good.clock_is ∙ makes.time;
  paced_is = fold-append (since_settle is_frame) 0 es (e ∷ []) ∙ ap (λ n. since_settle is_frame n e) good.paced_is ∙ makes.paced;
  controls_are = fold-append (since_settle is_control) 0 es (e ∷ []) ∙ ap (λ n. since_settle is_control n e) good.controls_are ∙ makes.controls;
  frames_are = sum_by_push (λ (y : Entry). if is_frame y then 1 else 0) es e ∙ ap (λ n. n + (if is_frame e then 1 else 0)) good.frames_are ∙ makes.frames;
  moves_are = sum_by_push (λ (y : Entry). if is_turn y then 1 else 0) es e ∙ ap (λ n. n + (if is_turn e then 1 else 0)) good.moves_are ∙ makes.moves;
  pace_is = makes.pace ∙ good.pace_is;
}

no_more : (n : ℕ) → n + 0 ≡ n
no_more n = omega arith

pub settled_good : (x : Terms) (w : Written) (t : Standing) (clock : ℕ) → IsGood x w.entries w t clock
    → IsGood x (settled w).entries (settled w) t clock
unfolding settled
settled_good x w t clock good =
    more x w.entries entries.Settle w (record w { entries = w.entries ++ entries.Settle ∷ []; paced = 0; controls = 0 }) t t clock clock good
    (record { there = tt; alternate = λ group h. refl; elsewhere = refl; times = refl; paced = λ h. refl; controls = refl })
    (record {
      tags = λ group h. refl;
      at = refl;
      time = refl;
      paced = refl;
      controls = refl;
      frames = no_more w.frames;
      moves = no_more w.moves;
      pace = refl;
    })

-- the same between two entries, where no settle has to be added
pub record IsReady (x : Terms) (w : Written) (t : Standing) (clock : ℕ) : Type 0 where
  pub good : IsGood x w.entries w t clock
  pub paced : 0 < x.pace → w.paced < x.pace
  pub controls : w.controls < 1000

test_below : (a b : ℕ) → a < b → nat_lt a b ≡ true
test_below a b h = grind (arith, nat_tests)

-- a number that is within a limit, and not at it
below_limit : (a p q : ℕ) → p ≡ q → a ≤ q → (a == p) ≡ false → a < q
below_limit a p q same h is = grind (arith, nat_tests)

none_below : 0 < 1000
none_below = omega arith

pub settled_ready : (x : Terms) (w : Written) (t : Standing) (clock : ℕ) → IsGood x w.entries w t clock → IsReady x (settled w) t clock
unfolding settled
settled_ready x w t clock good = record { good = settled_good x w t clock good; paced = λ h. h; controls = none_below }

pace_ready : (x : Terms) (w : Written) (t : Standing) (clock : ℕ) → IsGood x w.entries w t clock → (0 < x.pace → w.paced ≤ x.pace)
    → w.controls < 1000 → IsReady x (at_pace w) t clock
pace_ready x w t clock good within controls = step (w.paced == w.pace) refl where
  step : (b : Bool) → (w.paced == w.pace) ≡ b → IsReady x (if b then settled w else w) t clock
  step true is = settled_ready x w t clock good
  step false is = record { good = good; paced = λ h. below_limit w.paced w.pace x.pace good.pace_is (within h) is; controls = controls }

control_ready : (x : Terms) (e : Entry) (w : Written) (t : Standing) (clock : ℕ)
    → IsGood x (w.entries ++ e ∷ []) (record w { entries = w.entries ++ e ∷ []; controls = w.controls + 1 }) t clock
    → (0 < x.pace → w.paced < x.pace) → w.controls < 1000 → IsReady x (with_control e w) t clock
unfolding with_control
control_ready x e w t clock good paced controls = step (w.controls + 1 == 1000) refl where
  next : Written
  next = record w { entries = w.entries ++ e ∷ []; controls = w.controls + 1 }

  step : (b : Bool) → (w.controls + 1 == 1000) ≡ b → IsReady x (if b then settled next else next) t clock
  step true is = settled_ready x next t clock good
  step false is = record { good = good; paced = paced; controls = below_limit (w.controls + 1) 1000 1000 refl (omega arith) is }

written : (x : Terms) (t : Standing) (clock : ℕ) (v w : Written) → ◌≡◌ {A = Result Written ScriptKind} (Ok v) (Ok w) → IsReady x v t clock
    → IsReady x w t clock
written x t clock v w e ready = let is : v ≡ w = cc in subst (λ y. IsReady x y t clock) is ready

-- a frame
frame1_ready : (x : Terms) (rec : ℕ) (w v : Written) (t : Standing) (clock : ℕ) → slice_get x.own rec ≡ Some false → IsReady x w t clock
    → with_frame rec w ≡ Ok v → IsReady x v t clock
unfolding with_frame
frame1_ready x rec w v t clock here ready e =
    let next = record w { entries = w.entries ++ entries.Frame rec ∷ []; paced = w.paced + 1; frames = w.frames + 1 } in
    written x t clock _ v (unless (w.frames == 262144) kinds.TooMany _ v e)
    (pace_ready x next t clock
    (more x w.entries (entries.Frame rec) w next t t clock clock ready.good
    (record {
      there = here;
      alternate = λ group h. refl;
      elsewhere = refl;
      times = refl;
      paced = λ h. test_below w.paced x.pace (ready.paced h);
      controls = refl;
    })
    (record {
      tags = λ group h. refl;
      at = refl;
      time = refl;
      paced = refl;
      controls = refl;
      frames = refl;
      moves = no_more w.moves;
      pace = refl;
    }))
    (λ h. let below : w.paced < x.pace = ready.paced h in omega arith) ready.controls)

pub frames_ready : (x : Terms) (recs : List ℕ) (w v : Written) (t : Standing) (clock : ℕ) → All (λ rec. slice_get x.own rec ≡ Some false) recs
    → IsReady x w t clock → with_frames recs w ≡ Ok v → IsReady x v t clock
frames_ready x [] w v t clock all ready e = written x t clock w v e ready
frames_ready x (rec ∷ recs) w v t clock all ready e =
    let step = passed (with_frame rec w) (with_frames recs) v e in
    frames_ready x recs step.value v t clock (λ k d h. all (suc k) d (omega arith))
    (frame1_ready x rec w step.value t clock (all 0 rec (omega arith)) ready step.first) step.rest

each1_ready : (x : Terms) (rec : ℕ) (w v : Written) (t : Standing) (clock : ℕ) → slice_get x.own rec ≡ Some false → IsReady x w t clock
    → with_each rec w ≡ Ok v → IsReady x v t clock
unfolding with_each
each1_ready x rec w v t clock here ready e =
    let step = passed (with_frame rec w) _ v e in
    written x t clock (settled step.value) v step.rest
    (settled_ready x step.value t clock (frame1_ready x rec w step.value t clock here ready step.first).good)

pub each_ready : (x : Terms) (recs : List ℕ) (w v : Written) (t : Standing) (clock : ℕ) → All (λ rec. slice_get x.own rec ≡ Some false) recs
    → IsReady x w t clock → with_all_each recs w ≡ Ok v → IsReady x v t clock
each_ready x [] w v t clock all ready e = written x t clock w v e ready
each_ready x (rec ∷ recs) w v t clock all ready e =
    let step = passed (with_each rec w) (with_all_each recs) v e in
    each_ready x recs step.value v t clock (λ k d h. all (suc k) d (omega arith))
    (each1_ready x rec w step.value t clock (all 0 rec (omega arith)) ready step.first) step.rest

-- a time
pub time_ready : (x : Terms) (tick : ℕ) (w : Written) (t : Standing) (clock : ℕ) → nat_lt tick clock ≡ false → IsReady x w t clock
    → IsReady x (with_control (entries.Time tick) w) t tick
time_ready x tick w t clock later ready =
    control_ready x (entries.Time tick) w t tick
    (more x w.entries (entries.Time tick) w (record w { entries = w.entries ++ entries.Time tick ∷ []; controls = w.controls + 1 }) t t clock tick
    ready.good
    (record {
      there = tt;
      alternate = λ group h. refl;
      elsewhere = refl;
      times = ap not later;
      paced = λ h. refl;
      controls = test_below w.controls 1000 ready.controls;
    })
    (record {
      tags = λ group h. refl;
      at = refl;
      time = refl;
      paced = refl;
      controls = refl;
      frames = no_more w.frames;
      moves = no_more w.moves;
      pace = refl;
    }))
    ready.paced ready.controls

-- the tag and the core of a group that is written, and of another
get_set_same : {X : Type 0} (xs : List X) (i : ℕ) (x : X) → i < length xs → slice_get (slice_set xs i x) i ≡ Some x
get_set_same [] i x h = absurd (omega arith)
get_set_same (y ∷ xs) zero x h = refl
get_set_same (y ∷ xs) (suc i) x h = get_set_same xs i x (omega arith)

pub get_set_other : {X : Type 0} (xs : List X) (i j : ℕ) (x : X) → j ≢ i → slice_get (slice_set xs i x) j ≡ slice_get xs j
get_set_other [] i j x other = refl
get_set_other (y ∷ xs) zero zero x other = absurd (other refl)
get_set_other (y ∷ xs) zero (suc j) x other = refl
get_set_other (y ∷ xs) (suc i) zero x other = refl
get_set_other (y ∷ xs) (suc i) (suc j) x other = get_set_other xs i j x (λ e. other (ap suc e))

pub tagged-same : (line group : ℕ) (t : Standing) → group < length t.tags → is_tagged (tagged line group t) group ≡ true
unfolding tagged
tagged-same line group t h = ap is_tag (get_set_same t.tags group (Some line) h)

pub tagged-other : (line group y : ℕ) (t : Standing) → y ≢ group → is_tagged (tagged line group t) y ≡ is_tagged t y
unfolding tagged
tagged-other line group y t other = ap is_tag (get_set_other t.tags group y (Some line) other)

pub tagged-stays : (line core group y : ℕ) (t : Standing) → is_on (tagged line group t) core y ≡ is_on t core y
unfolding tagged
tagged-stays line core group y t = refl

pub moved-same : (to : CoreId) (group : ℕ) (t : Standing) → group < length t.tags → is_tagged (moved group to t) group ≡ false
unfolding moved
moved-same to group t h = ap is_tag (get_set_same t.tags group None h)

pub moved-other : (to : CoreId) (group y : ℕ) (t : Standing) → y ≢ group → is_tagged (moved group to t) y ≡ is_tagged t y
unfolding moved
moved-other to group y t other = ap is_tag (get_set_other t.tags group y None other)

pub moved-stays : (to : CoreId) (core group y : ℕ) (t : Standing) → y ≢ group → is_on (moved group to t) core y ≡ is_on t core y
unfolding moved
moved-stays to core group y t other = ap (is_core core) (get_set_other t.at group y to other)

equal : (a b : ℕ) → b ≡ a → (a == b) ≡ true
equal a b h = grind (arith, nat_tests)

unequal : (a b : ℕ) → b ≢ a → (a == b) ≡ false
unequal a b h = grind (arith, nat_tests)

-- a tag
tag_alternates : (group y : ℕ) (t : Standing) → is_tagged t group ≡ false → alternates y (is_tagged t y) (entries.Tag (record { 0 = group })) ≡ true
tag_alternates group y t over = step (cases_eq y group) where
  step : (y ≡ group) ⊎ (y ≢ group) → alternates y (is_tagged t y) (entries.Tag (record { 0 = group })) ≡ true
  step (inl is) = rw (equal group y is, is, over) refl
  step (inr other) = rw (unequal group y other) refl

tag_tags : (line group y : ℕ) (t : Standing) → group < length t.tags
    → tagged_by y (is_tagged t y) (entries.Tag (record { 0 = group })) ≡ is_tagged (tagged line group t) y
tag_tags line group y t within = step (cases_eq y group) where
  step : (y ≡ group) ⊎ (y ≢ group) → tagged_by y (is_tagged t y) (entries.Tag (record { 0 = group })) ≡ is_tagged (tagged line group t) y
  step (inl is) = rw (equal group y is) (sym (ap (is_tagged (tagged line group t)) is ∙ tagged-same line group t within))
  step (inr other) = rw (unequal group y other) (sym (tagged-other line group y t other))

pub tag_ready : (x : Terms) (line group : ℕ) (w v : Written) (t : Standing) (clock : ℕ) → group < 512 → length t.tags ≡ 512
    → is_tagged t group ≡ false → IsReady x w t clock → with_move (entries.Tag (record { 0 = group })) w ≡ Ok v
    → IsReady x v (tagged line group t) clock
unfolding with_move tagged
tag_ready x line group w v t clock within count over ready e =
    let entry = entries.Tag (record { 0 = group }) in
    written x (tagged line group t) clock _ v (unless (w.moves == 16777216) kinds.TooMany _ v e)
    (control_ready x entry (record w { moves = w.moves + 1 }) (tagged line group t) clock
    (more x w.entries entry w (record w { entries = w.entries ++ entry ∷ []; moves = w.moves + 1; controls = w.controls + 1 }) t (tagged line group t)
    clock clock ready.good
    (record {
      there = within;
      alternate = λ y h. tag_alternates group y t over;
      elsewhere = refl;
      times = refl;
      paced = λ h. refl;
      controls = test_below w.controls 1000 ready.controls;
    })
    (record {
      tags = λ y h. tag_tags line group y t (omega arith);
      at = refl;
      time = refl;
      paced = refl;
      controls = refl;
      frames = no_more w.frames;
      moves = refl;
      pace = refl;
    }))
    ready.paced ready.controls)

-- a move
move_alternates : (to : CoreId) (group y : ℕ) (t : Standing) → is_tagged t group ≡ true
    → alternates y (is_tagged t y) (entries.Move (record { 0 = group }) to) ≡ true
move_alternates to group y t is_open = step (cases_eq y group) where
  step : (y ≡ group) ⊎ (y ≢ group) → alternates y (is_tagged t y) (entries.Move (record { 0 = group }) to) ≡ true
  step (inl is) = rw (equal group y is, is, is_open) refl
  step (inr other) = rw (unequal group y other) refl

move_tags : (to : CoreId) (group y : ℕ) (t : Standing) → group < length t.tags
    → tagged_by y (is_tagged t y) (entries.Move (record { 0 = group }) to) ≡ is_tagged (moved group to t) y
move_tags to group y t within = step (cases_eq y group) where
  step : (y ≡ group) ⊎ (y ≢ group) → tagged_by y (is_tagged t y) (entries.Move (record { 0 = group }) to) ≡ is_tagged (moved group to t) y
  step (inl is) = rw (equal group y is) (sym (ap (is_tagged (moved group to t)) is ∙ moved-same to group t within))
  step (inr other) = rw (unequal group y other) (sym (moved-other to group y t other))

pub move_ready : (x : Terms) (group : ℕ) (to : CoreId) (w v : Written) (t : Standing) (clock : ℕ) → group < 512 → to.0 < x.cores
    → length t.tags ≡ 512 → is_tagged t group ≡ true → is_on t to.0 group ≡ false → IsReady x w t clock
    → with_move (entries.Move (record { 0 = group }) to) w ≡ Ok v → IsReady x v (moved group to t) clock
unfolding with_move moved
move_ready x group to w v t clock within core count is_open off ready e =
    let entry = entries.Move (record { 0 = group }) to in
    written x (moved group to t) clock _ v (unless (w.moves == 16777216) kinds.TooMany _ v e)
    (control_ready x entry (record w { moves = w.moves + 1 }) (moved group to t) clock
    (more x w.entries entry w (record w { entries = w.entries ++ entry ∷ []; moves = w.moves + 1; controls = w.controls + 1 }) t (moved group to t)
    clock clock ready.good
    (record {
      there = (within, core);
      alternate = λ y h. move_alternates to group y t is_open;
      elsewhere = ap not off;
      times = refl;
      paced = λ h. refl;
      controls = test_below w.controls 1000 ready.controls;
    })
    (record {
      tags = λ y h. move_tags to group y t (omega arith);
      at = refl;
      time = refl;
      paced = refl;
      controls = refl;
      frames = no_more w.frames;
      moves = refl;
      pace = refl;
    }))
    ready.paced ready.controls)

-- the entries so far, under the limits
pub so_far : (x : Terms) (es : List Entry) (w : Written) (t : Standing) (clock : ℕ) → IsGood x es w t clock → w.frames ≤ 262144
    → w.moves ≤ 16777216 → length es < 2 ^ 32 → IsWireSoFar x es
so_far x es w t clock good frames moves count = record {
  there = good.there;
  alternate = good.alternate;
  elsewhere = good.elsewhere;
  times = good.times;
  paced = good.paced;
  controls = good.controls;
  frames = subst (λ n. n ≤ 262144) (sym good.frames_are) frames;
  turns = subst (λ n. n ≤ 16777216) (sym good.moves_are) moves;
  count = count;
}
