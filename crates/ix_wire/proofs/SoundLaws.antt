-- What tags and moves of groups keep.
use Rattle.std.proofs.Common.{◌≡◌, ◌≢◌, ◌<◌, ◌≤◌, ◌+◌, ◌*◌, ◌⊎◌, inl, inr, ℕ, zero, suc, List, [], ◌∷◌, length, Bool, true, false, refl, ap, subst, sym, ◌∙◌, arith}
use Rattle.std.specs.Prelude.{◌||◌, not, Result, Ok, All, slice_get, slice_index_or, slice_set}
use Rattle.std.specs.List.{list_any}
use Rattle.std.proofs.Math.ListN.{length-set}
use Rattle.std.proofs.lemmas.Bool.{cases_eq}
use Rattle.ix_base.specs.declared.id.CoreId.{CoreId}
use Rattle.ix_cp.specs.declared.plan.PlanMove.{PlanMove}
use Rattle.ix_cp.specs.Plan.{is_core}
use Rattle.ix_wire.specs.declared.entry.Entry.TheVariants as entries
use Rattle.ix_wire.specs.declared.fault.ScriptKind.{ScriptKind}
use Rattle.ix_wire.specs.declared.progress.Progress.{Progress}
use Rattle.ix_wire.specs.Progress.{with_all_planned, with_plan, with_planned, with_step, with_steps, with_tag, with_tags}
use Rattle.ix_wire.specs.Entries.{Terms}
use Rattle.ix_wire.specs.Table.{Standing, are_planned_tagged, groups_from, is_on, is_tagged, is_untagged, moved, tagged}
use Rattle.ix_wire.specs.Wire.{with_move}
use Rattle.ix_wire.proofs.Effects.{passed, with_all_planned-puts, with_planned-puts}
use Rattle.ix_wire.proofs.EntryLaws.{IsReady, get_set_other, move_ready, moved-other, moved-same, moved-stays, tag_ready, tagged-other, tagged-same, tagged-stays}
use Rattle.ix_wire.proofs.GroupLaws.{GroupsGo}

-- what holds between two entries
pub record IsSound (x : Terms) (p : Progress) : Type 0 where
  pub ready : IsReady x p.wire p.table p.clock
  pub tags : length p.table.tags ≡ 512
  pub lives : (core : ℕ) → slice_index_or p.table.live core false ≡ true → core < x.cores
  pub count : p.table.count ≡ x.cores

-- it holds, and the table is this one
record Became (x : Terms) (t : Standing) (q : Progress) : Type 0 where
  sound : IsSound x q
  table : q.table ≡ t

told : (x : Terms) (t : Standing) (r q : Progress) → ◌≡◌ {A = Result Progress ScriptKind} (Ok r) (Ok q) → Became x t r → Became x t q
told x t r q e became = let is : r ≡ q = cc in subst (Became x t) is became

pub sound_told : (x : Terms) (r q : Progress) → ◌≡◌ {A = Result Progress ScriptKind} (Ok r) (Ok q) → IsSound x r → IsSound x q
sound_told x r q e sound = let is : r ≡ q = cc in subst (IsSound x) is sound

tag1 : (x : Terms) (line group : ℕ) (p q : Progress) → group < 512 → is_tagged p.table group ≡ false → IsSound x p
    → with_tag line group p ≡ Ok q → Became x (tagged line group p.table) q
unfolding with_tag tagged
tag1 x line group p q within untagged sound e =
    let step = passed (with_move (entries.Tag (record { 0 = group })) p.wire) _ q e in
    told x _ _ q step.rest (record {
      sound = record {
        ready = tag_ready x line group p.wire step.value p.table p.clock within sound.tags untagged sound.ready step.first;
        tags = length-set p.table.tags group _ ∙ sound.tags;
        lives = sound.lives;
        count = sound.count;
      };
      table = refl;
    })

step1 : (x : Terms) (group : ℕ) (to : CoreId) (p q : Progress) → group < 512 → to.0 < x.cores → is_tagged p.table group ≡ true
    → is_on p.table to.0 group ≡ false → IsSound x p → with_step to group p ≡ Ok q → Became x (moved group to p.table) q
unfolding with_step moved
step1 x group to p q within core is_open off sound e =
    let step = passed (with_move (entries.Move (record { 0 = group }) to) p.wire) _ q e in
    told x _ _ q step.rest (record {
      sound = record {
        ready = move_ready x group to p.wire step.value p.table p.clock within core sound.tags is_open off sound.ready step.first;
        tags = length-set p.table.tags group _ ∙ sound.tags;
        lives = sound.lives;
        count = sound.count;
      };
      table = refl;
    })

-- tests of groups from a place on
any_same : (f g : ℕ → Bool) (place width : ℕ) → ((x : ℕ) → place ≤ x → f x ≡ g x) → list_any f (groups_from place width) ≡ list_any g (groups_from place width)
any_same f g place zero same = refl
any_same f g place (suc width) same =
    ap (λ b. b || list_any f (groups_from (place + 128) width)) (same place (omega arith))
    ∙ ap (λ b. g place || b) (any_same f g (place + 128) width (λ x h. same x (omega arith)))

first_false : (a b : Bool) → (a || b) ≡ false → a ≡ false
first_false true b h = h
first_false false b h = refl

rest_false : (a b : Bool) → (a || b) ≡ false → b ≡ false
rest_false true b h = absurd (cc)
rest_false false b h = h

is_true : (b : Bool) → not b ≡ false → b ≡ true
is_true true h = refl
is_true false h = absurd (cc)

pub tags_sound : (x : Terms) (line width place : ℕ) (p q : Progress) → place + 128 * width < 640
    → list_any (is_tagged p.table) (groups_from place width) ≡ false → IsSound x p
    → with_tags line (groups_from place width) p ≡ Ok q → IsSound x q
tags_sound x line zero place p q within none sound e = sound_told x p q e sound
tags_sound x line (suc width) place p q within none sound e =
    let step = passed (with_tag line place p) (with_tags line (groups_from (place + 128) width)) q e in
    let became = tag1 x line place p step.value (omega arith) (first_false _ _ none) sound step.first in
    tags_sound x line width (place + 128) step.value q (omega arith)
    (any_same (is_tagged step.value.table) (is_tagged p.table) (place + 128) width
    (λ y h. ap (λ t. is_tagged t y) became.table ∙ tagged-other line place y p.table (λ is. omega arith))
    ∙ rest_false (is_tagged p.table place) _ none)
    became.sound step.rest

pub steps_sound : (x : Terms) (width place : ℕ) (to : CoreId) (p q : Progress) → place + 128 * width < 640 → to.0 < x.cores
    → list_any (is_untagged p.table) (groups_from place width) ≡ false → list_any (is_on p.table to.0) (groups_from place width) ≡ false
    → IsSound x p → with_steps to (groups_from place width) p ≡ Ok q → IsSound x q
steps_sound x zero place to p q within core none off sound e = sound_told x p q e sound
steps_sound x (suc width) place to p q within core none off sound e =
    let step = passed (with_step to place p) (with_steps to (groups_from (place + 128) width)) q e in
    let became = step1 x place to p step.value (omega arith) core (is_true _ (first_false _ _ none)) (first_false _ _ off) sound step.first in
    steps_sound x width (place + 128) to step.value q (omega arith) core
    (any_same (is_untagged step.value.table) (is_untagged p.table) (place + 128) width
    (λ y h. ap (λ t. not (is_tagged t y)) became.table ∙ ap not (moved-other to place y p.table (λ is. omega arith)))
    ∙ rest_false (is_untagged p.table place) _ none)
    (any_same (is_on step.value.table to.0) (is_on p.table to.0) (place + 128) width
    (λ y h. ap (λ t. is_on t to.0 y) became.table ∙ moved-stays to to.0 place y p.table (λ is. omega arith))
    ∙ rest_false (is_on p.table to.0 place) _ off)
    became.sound step.rest

-- it holds, and the tags are as before
pub record Shifted (x : Terms) (p q : Progress) : Type 0 where
  pub sound : IsSound x q
  pub tags : (y : ℕ) → is_tagged q.table y ≡ is_tagged p.table y

shift1 : (x : Terms) (line group : ℕ) (to : CoreId) (p q : Progress) → group < 512 → to.0 < x.cores → is_tagged p.table group ≡ false
    → is_on p.table to.0 group ≡ false → IsSound x p → with_planned line to group p ≡ Ok q → Shifted x p q
unfolding with_planned
shift1 x line group to p q within core untagged off sound e =
    let step = passed (with_tag line group p) (with_step to group) q e in
    let first = tag1 x line group p step.value within untagged sound step.first in
    let now : is_tagged step.value.table group ≡ true
    = ap (λ t. is_tagged t group) first.table ∙ tagged-same line group p.table (omega (arith, sound.tags)) in
    let last = step1 x group to step.value q within core now (ap (λ t. is_on t to.0 group) first.table ∙ tagged-stays line to.0 group group p.table ∙ off)
    first.sound step.rest in
    record {
      sound = last.sound;
      tags = λ y. ap (λ t. is_tagged t y) last.table ∙ tag_of y step.value first.table first.sound.tags (cases_eq y group);
    } where
      tag_of : (y : ℕ) (r : Progress) → r.table ≡ tagged line group p.table → length r.table.tags ≡ 512 → (y ≡ group) ⊎ (y ≢ group)
          → is_tagged (moved group to r.table) y ≡ is_tagged p.table y
      tag_of y r at count (inl is) =
          ap (is_tagged (moved group to r.table)) is ∙ moved-same to group r.table (omega arith) ∙ sym untagged ∙ ap (is_tagged p.table) (sym is)
      tag_of y r at count (inr other) =
          moved-other to group y r.table other ∙ ap (λ t. is_tagged t y) at ∙ tagged-other line group y p.table other

-- the groups of a core, by the cores of all groups
on : List CoreId → ℕ → ℕ → Bool
on at core group = is_core core (slice_get at group)

on_same : (core group y : ℕ) (to : CoreId) (at : List CoreId) → y ≢ group → on (slice_set at group to) core y ≡ on at core y
unfolding on
on_same core group y to at other = ap (is_core core) (get_set_other at group y to other)

pub shifts_sound : (x : Terms) (line width place : ℕ) (to : CoreId) (p q : Progress) → place + 128 * width < 640 → to.0 < x.cores
    → list_any (is_tagged p.table) (groups_from place width) ≡ false → list_any (is_on p.table to.0) (groups_from place width) ≡ false → IsSound x p
    → with_all_planned line to (groups_from place width) p ≡ Ok q → Shifted x p q
unfolding on
shifts_sound x line zero place to p q within core none off sound e =
    let is : p ≡ q = cc in subst (Shifted x p) is (record { sound = sound; tags = λ y. refl })
shifts_sound x line (suc width) place to p q within core none off sound e =
    let step = passed (with_planned line to place p) (with_all_planned line to (groups_from (place + 128) width)) q e in
    let first = shift1 x line place to p step.value (omega arith) core (first_false _ _ none) (first_false _ _ off) sound step.first in
    let puts = with_planned-puts line to place p step.value step.first in
    let last = shifts_sound x line width (place + 128) to step.value q (omega arith) core
    (any_same (is_tagged step.value.table) (is_tagged p.table) (place + 128) width (λ y h. first.tags y) ∙ rest_false (is_tagged p.table place) _ none)
    (any_same (is_on step.value.table to.0) (is_on p.table to.0) (place + 128) width
    (λ y h. ap (λ at. on at to.0 y) puts.at ∙ on_same to.0 place y to p.table.at (λ is. omega arith))
    ∙ rest_false (is_on p.table to.0 place) _ off)
    first.sound step.rest in
    record { sound = last.sound; tags = λ y. last.tags y ∙ first.tags y }

planned_same : (t u : Standing) (width : ℕ) (plan : List PlanMove) → ((y : ℕ) → is_tagged t y ≡ is_tagged u y)
    → are_planned_tagged t width plan ≡ are_planned_tagged u width plan
planned_same t u width [] same = refl
planned_same t u width (m ∷ plan) same =
    ap (λ b. b || are_planned_tagged t width plan) (any_same (is_tagged t) (is_tagged u) m.group.0 width (λ y h. same y))
    ∙ ap (λ b. list_any (is_tagged u) (groups_from m.group.0 width) || b) (planned_same t u width plan same)

-- the groups and the cores of a plan are there
pub record IsPlan (cores width : ℕ) (m : PlanMove) : Type 0 where
  pub place : m.group.0 + 128 * width < 640
  pub core : m.to.0 < cores

pub plan_sound : (x : Terms) (line width : ℕ) (plan : List PlanMove) (p q : Progress) → All (IsPlan x.cores width) plan
    → are_planned_tagged p.table width plan ≡ false → GroupsGo width p.table.at plan → IsSound x p → with_plan line width plan p ≡ Ok q → IsSound x q
plan_sound x line width [] p q moves none go sound e = sound_told x p q e sound
plan_sound x line width (m ∷ plan) p q moves none go sound e =
    let step = passed (with_all_planned line m.to (groups_from m.group.0 width) p) (with_plan line width plan) q e in
    let one = moves 0 m (omega arith) in
    let first = shifts_sound x line width m.group.0 m.to p step.value one.place one.core (first_false _ _ none) go.0 sound step.first in
    let puts = with_all_planned-puts line m.to (groups_from m.group.0 width) p step.value step.first in
    plan_sound x line width plan step.value q (λ k d h. moves (suc k) d (omega arith))
    (planned_same step.value.table p.table width plan first.tags ∙ rest_false (list_any (is_tagged p.table) (groups_from m.group.0 width)) _ none)
    (subst (λ at. GroupsGo width at plan) (sym puts.at) go.1) first.sound step.rest
