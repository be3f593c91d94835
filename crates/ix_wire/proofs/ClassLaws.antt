-- The four groups of a class stay together, line after line.
use Rattle.std.proofs.Common.{◌≡◌, ◌<◌, ℕ, List, length, Bool, true, false, refl, ap, subst, sym, ◌∙◌, arith}
use Rattle.std.specs.Prelude.{◌||◌, nat_lt, not, Ok, All, slice_set, take}
use Rattle.std.specs.List.{list_all, list_any}
use Rattle.std.proofs.lemmas.List.{length-take}
use Rattle.ix_base.specs.declared.id.CoreId.{CoreId}
use Rattle.ix_cp.specs.declared.plan.PlanMove.{PlanMove}
use Rattle.ix_cp.specs.Plan.{ArePlans, IsMoveTo, add_plan, revoke_plan}
use Rattle.ix_wire.specs.declared.command.Command.{Command}
use Rattle.ix_wire.specs.declared.command.Command.TheVariants as commands
use Rattle.ix_wire.specs.declared.command.Version.TheVariants.{One}
use Rattle.ix_wire.specs.declared.fault.ScriptKind.TheVariants as kinds
use Rattle.ix_wire.specs.declared.progress.Progress.{Progress}
use Rattle.ix_wire.specs.Chain.{◌>>=◌}
use Rattle.ix_wire.specs.Command.{IsCommand, command_of, places_of, width_of}
use Rattle.ix_wire.specs.Progress.{add_run, core_of, each_run, frames_run, is_printable, is_skipped, line_run, move_run, revoke_run, run, tag_run, time_run, with_plan}
use Rattle.ix_wire.specs.Records.{records_in}
use Rattle.ix_wire.specs.Script.{opening}
use Rattle.ix_wire.specs.Table.{are_planned_tagged, groups_from, has_core, has_tagged_on, is_live_core, is_on, is_only_live, is_tagged, is_untagged, opening_cores, opening_table, with_live}
use Rattle.ix_wire.specs.Text.{words_of}
use Rattle.ix_wire.specs.Wire.{with_all_each, with_frames}
use Rattle.ix_wire.specs.Classes.{AreTogether}
use Rattle.ix_wire.proofs.CommandRanges.{IsVersionFirst, command_of-known}
use Rattle.ix_wire.proofs.Effects.{Puts, Puts-told, passed, skipped, unless, with_plan-puts, with_steps-puts, with_tags-puts}
use Rattle.ix_wire.proofs.PutLaws.{length-put_all, length-put_plan, opening_cores-count, opening_cores-together, put_all, put_all-together, put_plan, put_plan-together}

-- What holds between two lines: there are 512 groups, and the classes are together before the first line that says something, and as long
-- as the version is 1.
pub record HasClasses (p : Progress) : Type 0 where
  pub count : length p.table.at ≡ 512
  pub fresh : p.begun ≡ false → AreTogether p.table.at
  pub one : p.version ≡ One → AreTogether p.table.at

-- a line of a script that has begun keeps it
stays : (f : List CoreId → List CoreId) (p q : Progress) → length (f p.table.at) ≡ length p.table.at
    → (p.version ≡ One → AreTogether (f p.table.at)) → p.begun ≡ true → HasClasses p → Puts f p q → HasClasses q
stays f p q count together begun kept puts = record {
  count = ap length puts.at ∙ count ∙ kept.count;
  fresh = λ fresh. absurd (let known : q.begun ≡ true = puts.begun ∙ begun in cc);
  one = λ is. subst AreTogether (sym puts.at) (together (sym puts.version ∙ is));
}

same : (p q : Progress) → p.begun ≡ true → HasClasses p → Puts (λ at. at) p q → HasClasses q
same p q begun kept puts = stays (λ at. at) p q refl kept.one begun kept puts

frames_kept : (own : List Bool) (from to : ℕ) (p q : Progress) → p.begun ≡ true → HasClasses p → frames_run own from to p ≡ Ok q → HasClasses q
unfolding frames_run
frames_kept own from to p q begun kept e =
    let step = passed (with_frames (records_in own from to) p.wire) _ q (unless (not (nat_lt to (length own))) kinds.NoRecord _ q e) in
    same p q begun kept (Puts-told (λ at. at) p _ q step.rest (record { version = refl; begun = refl; at = refl }))

each_kept : (own : List Bool) (from to : ℕ) (p q : Progress) → p.begun ≡ true → HasClasses p → each_run own from to p ≡ Ok q → HasClasses q
unfolding each_run
each_kept own from to p q begun kept e =
    let step = passed (with_all_each (records_in own from to) p.wire) _ q (unless (not (nat_lt to (length own))) kinds.NoRecord _ q e) in
    same p q begun kept (Puts-told (λ at. at) p _ q step.rest (record { version = refl; begun = refl; at = refl }))

time_kept : (t : ℕ) (p q : Progress) → p.begun ≡ true → HasClasses p → time_run t p ≡ Ok q → HasClasses q
unfolding time_run
time_kept t p q begun kept e =
    same p q begun kept (Puts-told (λ at. at) p _ q (unless (nat_lt t p.clock) kinds.Back _ q e) (record { version = refl; begun = refl; at = refl }))

tag_kept : (line place : ℕ) (p q : Progress) → p.begun ≡ true → HasClasses p → tag_run line place p ≡ Ok q → HasClasses q
unfolding tag_run
tag_kept line place p q begun kept e =
    same p q begun kept (with_tags-puts line (groups_from place (width_of p.version)) p q
    (unless (list_any (is_tagged p.table) (groups_from place (width_of p.version))) kinds.AlreadyTagged _ q e))

move_kept : (place to : ℕ) (p q : Progress) → place < places_of p.version → p.begun ≡ true → HasClasses p → move_run place to p ≡ Ok q → HasClasses q
unfolding move_run
move_kept place to p q within begun kept e =
    stays (put_all (core_of to) (groups_from place (width_of p.version))) p q
    (length-put_all (core_of to) (groups_from place (width_of p.version)) p.table.at)
    (λ is. subst (λ v. AreTogether (put_all (core_of to) (groups_from place (width_of v)) p.table.at)) (sym is)
    (put_all-together (core_of to) place p.table.at kept.count (subst (λ v. place < places_of v) is within) (kept.one is)))
    begun kept (with_steps-puts (core_of to) (groups_from place (width_of p.version)) p q
    (unless (list_any (is_on p.table to) (groups_from place (width_of p.version))) kinds.SameCore _ q
    (unless (list_any (is_untagged p.table) (groups_from place (width_of p.version))) kinds.NotTagged _ q
    (unless (not (is_live_core to p.table)) kinds.NoCore _ q e))))

-- the places of a plan over classes
below : (live : List Bool) (at : List CoreId) (plan : List PlanMove) → length at ≡ 512 → All (IsMoveTo live (length (take 128 at))) plan
    → All (λ (m : PlanMove). m.group.0 < 128) plan
below live at plan count moves k d h = let one = moves k d h in omega (arith, one.place, length-take 128 at)

-- a plan, behind a change of the cores that are live
plan_kept : (line : ℕ) (plan : List PlanMove) (p r q : Progress) → r.table.at ≡ p.table.at → r.version ≡ p.version → r.begun ≡ p.begun
    → (p.version ≡ One → All (λ (m : PlanMove). m.group.0 < 128) plan) → p.begun ≡ true → HasClasses p
    → with_plan line (width_of p.version) plan r ≡ Ok q → HasClasses q
plan_kept line plan p r q at version begun moves known kept e =
    let puts = with_plan-puts line (width_of p.version) plan r q e in
    stays (put_plan (width_of p.version) plan) p q (length-put_plan (width_of p.version) plan p.table.at)
    (λ is. subst (λ v. AreTogether (put_plan (width_of v) plan p.table.at)) (sym is) (put_plan-together plan p.table.at kept.count (moves is) (kept.one is)))
    known kept
    (record { version = puts.version ∙ version; begun = puts.begun ∙ begun; at = puts.at ∙ ap (put_plan (width_of p.version) plan) at })

add_kept : ArePlans → (line core : ℕ) (p q : Progress) → p.begun ≡ true → HasClasses p → add_run line core p ≡ Ok q → HasClasses q
unfolding add_run with_live
add_kept plans line core p q begun kept e =
    plan_kept line (add_plan p.table.live core (take (places_of p.version) p.table.at)) p (record p { table = with_live core true p.table }) q refl refl refl
    (λ is. subst (λ v. All (λ (m : PlanMove). m.group.0 < 128) (add_plan p.table.live core (take (places_of v) p.table.at))) (sym is)
    (below (slice_set p.table.live core true) p.table.at (add_plan p.table.live core (take 128 p.table.at)) kept.count
    (plans.add p.table.live core (take 128 p.table.at)).moves))
    begun kept
    (unless (are_planned_tagged p.table (width_of p.version) (add_plan p.table.live core (take (places_of p.version) p.table.at))) kinds.AlreadyTagged _ q
    (unless (is_live_core core p.table) kinds.Live _ q (unless (not (has_core core p.table)) kinds.NoCore _ q e)))

revoke_kept : ArePlans → (line core : ℕ) (p q : Progress) → p.begun ≡ true → HasClasses p → revoke_run line core p ≡ Ok q → HasClasses q
unfolding revoke_run with_live
revoke_kept plans line core p q begun kept e =
    plan_kept line (revoke_plan p.table.live core (take (places_of p.version) p.table.at)) p (record p { table = with_live core false p.table }) q
    refl refl refl
    (λ is. subst (λ v. All (λ (m : PlanMove). m.group.0 < 128) (revoke_plan p.table.live core (take (places_of v) p.table.at))) (sym is)
    (below (slice_set p.table.live core false) p.table.at (revoke_plan p.table.live core (take 128 p.table.at)) kept.count
    (plans.revoke p.table.live core (take 128 p.table.at)).moves))
    begun kept
    (unless (are_planned_tagged p.table (width_of p.version) (revoke_plan p.table.live core (take (places_of p.version) p.table.at))
    || has_tagged_on p.table core 512) kinds.AlreadyTagged _ q
    (unless (is_only_live p.table core 8) kinds.LastCore _ q (unless (not (is_live_core core p.table)) kinds.NoCore _ q e)))

-- a line says something
abbrev begun : Progress → Progress
begun p = record p { begun = true }

started : (p : Progress) → HasClasses p → HasClasses (begun p)
started p kept = record { count = kept.count; fresh = λ fresh. absurd (cc); one = kept.one }

run_kept : ArePlans → (own : List Bool) (line : ℕ) (c : Command) (p q : Progress) → IsCommand p.version c → (IsVersionFirst p.begun c) → HasClasses p
    → run own line c (record p { begun = true }) ≡ Ok q → HasClasses q
unfolding run
run_kept plans own line (commands.Version version) p q range first kept e =
    let is : record p { begun = true; version = version } ≡ q = cc in
    subst HasClasses is (record { count = kept.count; fresh = λ fresh. absurd (cc); one = λ one. kept.fresh first })
run_kept plans own line (commands.Frames from to) p q range first kept e = frames_kept own from to (begun p) q refl (started p kept) e
run_kept plans own line (commands.Each from to) p q range first kept e = each_kept own from to (begun p) q refl (started p kept) e
run_kept plans own line (commands.Time t) p q range first kept e = time_kept t (begun p) q refl (started p kept) e
run_kept plans own line (commands.Tag place) p q range first kept e = tag_kept line place (begun p) q refl (started p kept) e
run_kept plans own line (commands.Move place to) p q range first kept e = move_kept place to (begun p) q range refl (started p kept) e
run_kept plans own line commands.Settle p q range first kept e =
    same (begun p) q refl (started p kept) (Puts-told (λ at. at) (begun p) _ q e (record { version = refl; begun = refl; at = refl }))
run_kept plans own line (commands.Add core) p q range first kept e = add_kept plans line core (begun p) q refl (started p kept) e
run_kept plans own line (commands.Revoke core) p q range first kept e = revoke_kept plans line core (begun p) q refl (started p kept) e

pub line_kept : ArePlans → (own : List Bool) (number : ℕ) (line : List ℕ) (p q : Progress) → HasClasses p → line_run own number line p ≡ Ok q → HasClasses q
unfolding line_run
line_kept plans own number line p q kept e =
    skipped HasClasses (is_skipped line) p q _ (λ r. carried (unless (not (list_all is_printable line)) kinds.Word _ q r)) kept
    (unless (nat_lt 128 (length line)) kinds.TooLong _ q e) where
      carried : (command_of p.begun p.version (words_of line) >>= λ command. run own number command (record p { begun = true })) ≡ Ok q → HasClasses q
      carried r =
          let step = passed (command_of p.begun p.version (words_of line)) (λ command. run own number command (record p { begun = true })) q r in
          let known = command_of-known p.begun p.version (words_of line) step.value step.first in
          run_kept plans own number step.value p q known.range known.first kept step.rest

opening_kept : (pace cores live groups : ℕ) (p : Progress) → groups ≡ 512 → p.table.at ≡ opening_cores live groups → HasClasses p
opening_kept pace cores live groups p all at = record {
  count = ap length at ∙ opening_cores-count live groups ∙ all;
  fresh = λ no. subst AreTogether (sym at) (opening_cores-together live groups all);
  one = λ is. subst AreTogether (sym at) (opening_cores-together live groups all);
}

opening_at : (pace cores live : ℕ) → (opening pace cores live).table.at ≡ opening_cores live 512
unfolding opening opening_table
opening_at pace cores live = refl

pub opening_classes : (pace cores live : ℕ) → HasClasses (opening pace cores live)
opening_classes pace cores live = opening_kept pace cores live 512 _ refl (opening_at pace cores live)
