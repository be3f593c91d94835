-- What a line does to the cores of the flow groups.
use Rattle.std.proofs.Common.{◌≡◌, ℕ, List, [], ◌∷◌, Bool, true, false, refl, ap, subst, ◌∙◌}
use Rattle.std.specs.Prelude.{if◌then◌else◌, Result, Ok, Err, slice_set}
use Rattle.ix_base.specs.declared.id.CoreId.{CoreId}
use Rattle.ix_cp.specs.declared.plan.PlanMove.{PlanMove}
use Rattle.ix_wire.specs.declared.entry.Entry.TheVariants as entries
use Rattle.ix_wire.specs.declared.fault.ScriptKind.{ScriptKind}
use Rattle.ix_wire.specs.declared.progress.Progress.{Progress}
use Rattle.ix_wire.specs.Chain.{◌>>=◌}
use Rattle.ix_wire.specs.Progress.{with_all_planned, with_plan, with_planned, with_step, with_steps, with_tag, with_tags}
use Rattle.ix_wire.specs.Table.{groups_from, moved, tagged}
use Rattle.ix_wire.specs.Wire.{with_move}
use Rattle.ix_wire.proofs.PutLaws.{put_all, put_plan}

-- the two parts of a chain that passes
pub record Passed {A B E : Type 0} (r : Result A E) (f : A → Result B E) (y : B) : Type 0 where
  pub value : A
  pub first : r ≡ Ok value
  pub rest : f value ≡ Ok y

pub passed : {A B E : Type 0} (r : Result A E) (f : A → Result B E) (y : B) → (r >>= f) ≡ Ok y → Passed r f y
passed (Ok x) f y e = record { value = x; first = refl; rest = e }
passed (Err fault) f y e = absurd (cc)

-- a test that is passed
pub unless : {A : Type 0} (b : Bool) (kind : ScriptKind) (r : Result A ScriptKind) (y : A) → (if b then Err kind else r) ≡ Ok y → r ≡ Ok y
unless true kind r y e = absurd (cc)
unless false kind r y e = e

pub unless_not : {A : Type 0} (b : Bool) (kind : ScriptKind) (r : Result A ScriptKind) (y : A) → (if b then Err kind else r) ≡ Ok y → b ≡ false
unless_not true kind r y e = absurd (cc)
unless_not false kind r y e = refl

-- what a line that is skipped or not keeps
pub skipped : (P : Progress → Type 0) (b : Bool) (p q : Progress) (r : Result Progress ScriptKind) → (r ≡ Ok q → P q) → P p
    → (if b then Ok p else r) ≡ Ok q → P q
skipped P true p q r rest here e = let is : p ≡ q = cc in subst P is here
skipped P false p q r rest here e = rest e

-- the version stays, and the cores of the groups change as said
pub record Puts (f : List CoreId → List CoreId) (p q : Progress) : Type 0 where
  pub version : q.version ≡ p.version
  pub begun : q.begun ≡ p.begun
  pub at : q.table.at ≡ f p.table.at

pub Puts-told : (f : List CoreId → List CoreId) (p x q : Progress) → ◌≡◌ {A = Result Progress ScriptKind} (Ok x) (Ok q) → Puts f p x → Puts f p q
Puts-told f p x q e puts = let same : x ≡ q = cc in subst (Puts f p) same puts

pub Puts-then : (f g : List CoreId → List CoreId) (p q r : Progress) → Puts f p q → Puts g q r → Puts (λ at. g (f at)) p r
Puts-then f g p q r a b = record { version = b.version ∙ a.version; begun = b.begun ∙ a.begun; at = b.at ∙ ap g a.at }

with_tag-puts : (line group : ℕ) (p q : Progress) → with_tag line group p ≡ Ok q → Puts (λ at. at) p q
unfolding with_tag tagged
with_tag-puts line group p q e =
    let step = passed (with_move (entries.Tag (record { 0 = group })) p.wire) _ q e in
    Puts-told (λ at. at) p _ q step.rest (record { version = refl; begun = refl; at = refl })

with_step-puts : (to : CoreId) (group : ℕ) (p q : Progress) → with_step to group p ≡ Ok q → Puts (λ at. slice_set at group to) p q
unfolding with_step moved
with_step-puts to group p q e =
    let step = passed (with_move (entries.Move (record { 0 = group }) to) p.wire) _ q e in
    Puts-told (λ at. slice_set at group to) p _ q step.rest (record { version = refl; begun = refl; at = refl })

pub with_tags-puts : (line : ℕ) (groups : List ℕ) (p q : Progress) → with_tags line groups p ≡ Ok q → Puts (λ at. at) p q
with_tags-puts line [] p q e = Puts-told (λ at. at) p p q e (record { version = refl; begun = refl; at = refl })
with_tags-puts line (group ∷ groups) p q e =
    let step = passed (with_tag line group p) (with_tags line groups) q e in
    Puts-then (λ at. at) (λ at. at) p step.value q (with_tag-puts line group p step.value step.first)
    (with_tags-puts line groups step.value q step.rest)

pub with_steps-puts : (to : CoreId) (groups : List ℕ) (p q : Progress) → with_steps to groups p ≡ Ok q → Puts (put_all to groups) p q
with_steps-puts to [] p q e = Puts-told (put_all to []) p p q e (record { version = refl; begun = refl; at = refl })
with_steps-puts to (group ∷ groups) p q e =
    let step = passed (with_step to group p) (with_steps to groups) q e in
    Puts-then (λ at. slice_set at group to) (put_all to groups) p step.value q (with_step-puts to group p step.value step.first)
    (with_steps-puts to groups step.value q step.rest)

pub with_planned-puts : (line : ℕ) (to : CoreId) (group : ℕ) (p q : Progress) → with_planned line to group p ≡ Ok q
    → Puts (λ at. slice_set at group to) p q
unfolding with_planned
with_planned-puts line to group p q e =
    let step = passed (with_tag line group p) (with_step to group) q e in
    Puts-then (λ at. at) (λ at. slice_set at group to) p step.value q (with_tag-puts line group p step.value step.first)
    (with_step-puts to group step.value q step.rest)

pub with_all_planned-puts : (line : ℕ) (to : CoreId) (groups : List ℕ) (p q : Progress) → with_all_planned line to groups p ≡ Ok q
    → Puts (put_all to groups) p q
with_all_planned-puts line to [] p q e = Puts-told (put_all to []) p p q e (record { version = refl; begun = refl; at = refl })
with_all_planned-puts line to (group ∷ groups) p q e =
    let step = passed (with_planned line to group p) (with_all_planned line to groups) q e in
    Puts-then (λ at. slice_set at group to) (put_all to groups) p step.value q (with_planned-puts line to group p step.value step.first)
    (with_all_planned-puts line to groups step.value q step.rest)

pub with_plan-puts : (line width : ℕ) (plan : List PlanMove) (p q : Progress) → with_plan line width plan p ≡ Ok q
    → Puts (put_plan width plan) p q
with_plan-puts line width [] p q e = Puts-told (put_plan width []) p p q e (record { version = refl; begun = refl; at = refl })
with_plan-puts line width (m ∷ plan) p q e =
    let step = passed (with_all_planned line m.to (groups_from m.group.0 width) p) (with_plan line width plan) q e in
    Puts-then (put_all m.to (groups_from m.group.0 width)) (put_plan width plan) p step.value q
    (with_all_planned-puts line m.to (groups_from m.group.0 width) p step.value step.first)
    (with_plan-puts line width plan step.value q step.rest)
