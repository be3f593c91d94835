-- What each line keeps, and so what the entries of a script so far and its wire list are like.
use Rattle.std.proofs.Common.{◌≡◌, ◌≢◌, ◌<◌, ◌≤◌, ◌+◌, ◌*◌, ◌^◌, ◌++◌, ◌⊎◌, inl, inr, ℕ, zero, suc, List, [], ◌∷◌, length, get_or, Bool, true, false, Option, Some, None, refl, ap, subst, sym, ◌∙◌, arith, length-append, take}
use Rattle.std.specs.Prelude.{◌==◌, ◌||◌, ◌&&◌, if◌then◌else◌, nat_lt, not, fold, Result, Ok, Err, IfOk, All, Vec, slice_get, slice_index_or, slice_set}
use Rattle.std.specs.List.{list_all, list_any}
use Rattle.std.specs.declared.alloc.Global.{Global}
use Rattle.std.proofs.lemmas.Bool.{cases_eq}
use Rattle.std.proofs.lemmas.Bool.Decides.{nat_tests}
use Rattle.std.proofs.lemmas.List.{get_or-set_other, length-take, take_all}
use Rattle.std.proofs.lemmas.List.Elements.{All-nil}
use Rattle.ix_base.specs.declared.id.CoreId.{CoreId}
use Rattle.ix_cp.specs.declared.plan.PlanMove.{PlanMove}
use Rattle.ix_cp.specs.Plan.{ArePlans, GoElsewhere, IsMoveTo, IsPlanOf, add_plan, revoke_plan}
use Rattle.ix_wire.specs.declared.command.Command.{Command}
use Rattle.ix_wire.specs.declared.command.Command.TheVariants as commands
use Rattle.ix_wire.specs.declared.command.Version.{Version}
use Rattle.ix_wire.specs.declared.command.Version.TheVariants.{One, Two}
use Rattle.ix_wire.specs.declared.entry.Entry.{Entry}
use Rattle.ix_wire.specs.declared.fault.ScriptFault.{ScriptFault}
use Rattle.ix_wire.specs.declared.fault.ScriptFault.TheVariants as faults
use Rattle.ix_wire.specs.declared.fault.ScriptKind.{ScriptKind}
use Rattle.ix_wire.specs.declared.fault.ScriptKind.TheVariants as kinds
use Rattle.ix_wire.specs.declared.progress.Progress.{Progress}
use Rattle.ix_wire.specs.Chain.{◌>>=◌}
use Rattle.ix_wire.specs.Classes.{AreTogether}
use Rattle.ix_wire.specs.Command.{IsCommand, command_of, places_of, width_of}
use Rattle.ix_wire.specs.Entries.{IsWire, Terms}
use Rattle.ix_wire.specs.Kept.{ScriptsKeepRules}
use Rattle.ix_wire.specs.Progress.{add_run, core_of, each_run, frames_run, is_printable, is_skipped, line_run, move_run, revoke_run, run, tag_run, time_run}
use Rattle.ix_wire.specs.Records.{records_in}
use Rattle.ix_wire.specs.Script.{Gives, behind, entries_unless, finish, lines_run, opening, wire_of}
use Rattle.ix_wire.specs.Table.{Standing, are_planned_tagged, earlier, earliest, first_live, groups_from, has_core, has_tagged_on, is_live_core, is_on, is_only_live, is_tag, is_tagged, is_untagged, no_tags, opening_table, with_live}
use Rattle.ix_wire.specs.Text.{lines_of, words_of}
use Rattle.ix_wire.specs.Wire.{Written, settled, start, with_all_each, with_frames}
use Rattle.ix_wire.proofs.ClassLaws.{HasClasses, line_kept, opening_classes}
use Rattle.ix_wire.proofs.CommandRanges.{command_of-known}
use Rattle.ix_wire.proofs.CountLaws.{IsFew, below, line_few, settled_few, wider}
use Rattle.ix_wire.proofs.Effects.{passed, skipped, unless, unless_not}
use Rattle.ix_wire.proofs.EntryLaws.{IsReady, each_ready, frames_ready, settled_good, settled_ready, so_far, time_ready}
use Rattle.ix_wire.proofs.GroupLaws.{GroupsGo, groups_go-one, groups_go-two}
use Rattle.ix_wire.proofs.RecordLaws.{records_in-others}
use Rattle.ix_wire.proofs.SoundLaws.{IsPlan, IsSound, plan_sound, sound_told, steps_sound, tags_sound}

-- a test that was passed
passes : (b : Bool) → not b ≡ false → b ≡ true
passes true h = refl
passes false h = absurd (cc)

left_of : (a b : Bool) → (a && b) ≡ true → a ≡ true
left_of true b h = refl
left_of false b h = absurd (cc)

first_not : (a b : Bool) → (a || b) ≡ false → a ≡ false
first_not true b h = h
first_not false b h = refl

frames_sound : (x : Terms) (from to : ℕ) (p q : Progress) → IsSound x p → frames_run x.own from to p ≡ Ok q → IsSound x q
unfolding frames_run
frames_sound x from to p q sound e =
    let step = passed (with_frames (records_in x.own from to) p.wire) _ q (unless (not (nat_lt to (length x.own))) kinds.NoRecord _ q e) in
    sound_told x _ q step.rest (record {
      ready = frames_ready x (records_in x.own from to) p.wire step.value p.table p.clock (records_in-others x.own from to) sound.ready step.first;
      tags = sound.tags;
      lives = sound.lives;
      count = sound.count;
    })

each_sound : (x : Terms) (from to : ℕ) (p q : Progress) → IsSound x p → each_run x.own from to p ≡ Ok q → IsSound x q
unfolding each_run
each_sound x from to p q sound e =
    let step = passed (with_all_each (records_in x.own from to) p.wire) _ q (unless (not (nat_lt to (length x.own))) kinds.NoRecord _ q e) in
    sound_told x _ q step.rest (record {
      ready = each_ready x (records_in x.own from to) p.wire step.value p.table p.clock (records_in-others x.own from to) sound.ready step.first;
      tags = sound.tags;
      lives = sound.lives;
      count = sound.count;
    })

time_sound : (x : Terms) (t : ℕ) (p q : Progress) → IsSound x p → time_run t p ≡ Ok q → IsSound x q
unfolding time_run
time_sound x t p q sound e =
    sound_told x _ q (unless (nat_lt t p.clock) kinds.Back _ q e) (record {
      ready = time_ready x t p.wire p.table p.clock (unless_not (nat_lt t p.clock) kinds.Back _ q e) sound.ready;
      tags = sound.tags;
      lives = sound.lives;
      count = sound.count;
    })

-- a place names groups that are there
place_within : (version : Version) (place : ℕ) → place < places_of version → place + 128 * width_of version < 640
place_within One place h = omega arith
place_within Two place h = omega arith

tag_sound : (x : Terms) (line place : ℕ) (p q : Progress) → place < places_of p.version → IsSound x p → tag_run line place p ≡ Ok q
    → IsSound x q
unfolding tag_run
tag_sound x line place p q within sound e =
    tags_sound x line (width_of p.version) place p q (place_within p.version place within)
    (unless_not (list_any (is_tagged p.table) (groups_from place (width_of p.version))) kinds.AlreadyTagged _ q e) sound
    (unless (list_any (is_tagged p.table) (groups_from place (width_of p.version))) kinds.AlreadyTagged _ q e)

core_within : (core cores : ℕ) (t : Standing) → t.count ≡ cores → has_core core t ≡ true → core < cores
core_within core cores t count is = grind (arith, nat_tests)

move_sound : (x : Terms) (place to : ℕ) (p q : Progress) → place < places_of p.version → IsSound x p → move_run place to p ≡ Ok q → IsSound x q
unfolding move_run
move_sound x place to p q within sound e =
    let live : is_live_core to p.table ≡ true = passes _ (unless_not (not (is_live_core to p.table)) kinds.NoCore _ q e) in
    let e2 = unless (not (is_live_core to p.table)) kinds.NoCore _ q e in
    let e3 = unless (list_any (is_untagged p.table) (groups_from place (width_of p.version))) kinds.NotTagged _ q e2 in
    steps_sound x (width_of p.version) place (core_of to) p q (place_within p.version place within)
    (core_within to x.cores p.table sound.count (left_of _ _ live))
    (unless_not (list_any (is_untagged p.table) (groups_from place (width_of p.version))) kinds.NotTagged _ q e2)
    (unless_not (list_any (is_on p.table to) (groups_from place (width_of p.version))) kinds.SameCore _ q e3) sound
    (unless (list_any (is_on p.table to) (groups_from place (width_of p.version))) kinds.SameCore _ q e3)

places_length : (version : Version) (at : List CoreId) → length (take (places_of version) at) ≤ places_of version
places_length version at = omega (arith, length-take (places_of version) at)

live_set : (live : List Bool) (core other : ℕ) (b : Bool) → other ≢ core → slice_index_or (slice_set live core b) other false ≡ slice_index_or live other false
live_set live core other b apart = get_or-set_other live core other b false apart

-- the moves of a plan over the places of a version, where the core that changes is there
planned : (version : Version) (cores core : ℕ) (live : List Bool) (b : Bool) (at : List CoreId) (plan : List PlanMove) → core < cores
    → ((other : ℕ) → slice_index_or live other false ≡ true → other < cores)
    → All (IsMoveTo (slice_set live core b) (length (take (places_of version) at))) plan → All (IsPlan cores (width_of version)) plan
planned version cores core live b at plan there lives moves = λ k d h.
    let one = moves k d h in
    record {
      place = place_within version (get_or plan k d).group.0 (omega (arith, one.place, places_length version at));
      core = within (get_or plan k d).to.0 one.is_live (cases_eq (get_or plan k d).to.0 core);
    } where
      within : (other : ℕ) → slice_index_or (slice_set live core b) other false ≡ true → (other ≡ core) ⊎ (other ≢ core) → other < cores
      within other is (inl same) = rw same there
      within other is (inr apart) = lives other (sym (live_set live core other b apart) ∙ is)

-- a table with other live cores
same_ready : (x : Terms) (w : Written) (t u : Standing) (clock : ℕ) → u.at ≡ t.at → u.tags ≡ t.tags → IsReady x w t clock → IsReady x w u clock
same_ready x w t u clock at tags ready = record {
  good = record {
    there = ready.good.there;
    alternate = ready.good.alternate;
    elsewhere = ready.good.elsewhere;
    times = ready.good.times;
    paced = ready.good.paced;
    controls = ready.good.controls;
    tags_are = λ group h. ready.good.tags_are group h ∙ ap (λ (all : List (Option ℕ)). is_tag (slice_get all group)) (sym tags);
    cores_are = ready.good.cores_are ∙ sym at;
    clock_is = ready.good.clock_is;
    paced_is = ready.good.paced_is;
    controls_are = ready.good.controls_are;
    frames_are = ready.good.frames_are;
    moves_are = ready.good.moves_are;
    pace_is = ready.good.pace_is;
  };
  paced = ready.paced;
  controls = ready.controls;
}

with_live_sound : (x : Terms) (core : ℕ) (b : Bool) (p : Progress) → core < x.cores → IsSound x p
    → IsSound x (record p { table = with_live core b p.table })
unfolding with_live
with_live_sound x core b p there sound = record {
  ready = same_ready x p.wire p.table _ p.clock refl refl sound.ready;
  tags = sound.tags;
  lives = λ other is. within other is (cases_eq other core);
  count = sound.count;
} where
  within : (other : ℕ) → slice_index_or (slice_set p.table.live core b) other false ≡ true → (other ≡ core) ⊎ (other ≢ core) → other < x.cores
  within other is (inl same) = rw same there
  within other is (inr apart) = sound.lives other (sym (live_set p.table.live core other b apart) ∙ is)

live_tags : (core width : ℕ) (b : Bool) (t : Standing) (plan : List PlanMove) → are_planned_tagged (with_live core b t) width plan ≡ are_planned_tagged t width plan
unfolding with_live
live_tags core width b t plan = refl

-- the groups of a plan over the places of a version go to other cores
groups_go : (version : Version) (at : List CoreId) (live : List Bool) (plan : List PlanMove) → length at ≡ 512 → (version ≡ One → AreTogether at)
    → IsPlanOf live (take (places_of version) at) plan → GroupsGo (width_of version) at plan
groups_go One at live plan count together is =
    groups_go-one plan at count
    (λ k d h. let one = is.moves k d h in omega (arith, one.place, length-take 128 at)) (together refl) is.elsewhere
groups_go Two at live plan count together is =
    groups_go-two plan at (subst (λ places. GoElsewhere places plan) (take_all 512 at (omega arith)) is.elsewhere)

add_sound : ArePlans → (x : Terms) (line core : ℕ) (p q : Progress) → HasClasses p → IsSound x p → add_run line core p ≡ Ok q → IsSound x q
unfolding add_run with_live
add_sound plans x line core p q classes sound e =
    let at = take (places_of p.version) p.table.at in
    let plan = add_plan p.table.live core at in
    let is = plans.add p.table.live core at in
    let there : core < x.cores = core_within core x.cores p.table sound.count (passes _ (unless_not (not (has_core core p.table)) kinds.NoCore _ q e)) in
    let e2 = unless (not (has_core core p.table)) kinds.NoCore _ q e in
    let e3 = unless (is_live_core core p.table) kinds.Live _ q e2 in
    plan_sound x line (width_of p.version) plan (record p { table = with_live core true p.table }) q
    (planned p.version x.cores core p.table.live true p.table.at plan there sound.lives is.moves)
    (live_tags core (width_of p.version) true p.table plan
    ∙ unless_not (are_planned_tagged p.table (width_of p.version) plan) kinds.AlreadyTagged _ q e3)
    (groups_go p.version p.table.at (slice_set p.table.live core true) plan classes.count classes.one is)
    (with_live_sound x core true p there sound)
    (unless (are_planned_tagged p.table (width_of p.version) plan) kinds.AlreadyTagged _ q e3)

revoke_sound : ArePlans → (x : Terms) (line core : ℕ) (p q : Progress) → HasClasses p → IsSound x p → revoke_run line core p ≡ Ok q → IsSound x q
unfolding revoke_run with_live
revoke_sound plans x line core p q classes sound e =
    let at = take (places_of p.version) p.table.at in
    let plan = revoke_plan p.table.live core at in
    let is = plans.revoke p.table.live core at in
    let live : is_live_core core p.table ≡ true = passes _ (unless_not (not (is_live_core core p.table)) kinds.NoCore _ q e) in
    let there : core < x.cores = core_within core x.cores p.table sound.count (left_of _ _ live) in
    let e2 = unless (not (is_live_core core p.table)) kinds.NoCore _ q e in
    let e3 = unless (is_only_live p.table core 8) kinds.LastCore _ q e2 in
    plan_sound x line (width_of p.version) plan (record p { table = with_live core false p.table }) q
    (planned p.version x.cores core p.table.live false p.table.at plan there sound.lives is.moves)
    (live_tags core (width_of p.version) false p.table plan
    ∙ first_not _ _ (unless_not (are_planned_tagged p.table (width_of p.version) plan || has_tagged_on p.table core 512) kinds.AlreadyTagged _ q e3))
    (groups_go p.version p.table.at (slice_set p.table.live core false) plan classes.count classes.one is)
    (with_live_sound x core false p there sound)
    (unless (are_planned_tagged p.table (width_of p.version) plan || has_tagged_on p.table core 512) kinds.AlreadyTagged _ q e3)

-- a line says something
abbrev begun : Progress → Progress
begun p = record p { begun = true }

started : (x : Terms) (p : Progress) → IsSound x p → IsSound x (begun p)
started x p sound = record { ready = sound.ready; tags = sound.tags; lives = sound.lives; count = sound.count }

begun_classes : (p : Progress) → HasClasses p → HasClasses (begun p)
begun_classes p kept = record { count = kept.count; fresh = λ fresh. absurd (cc); one = kept.one }

run_sound : ArePlans → (x : Terms) (line : ℕ) (c : Command) (p q : Progress) → IsCommand p.version c → HasClasses p → IsSound x p
    → run x.own line c (begun p) ≡ Ok q → IsSound x q
unfolding run
run_sound plans x line (commands.Version version) p q range classes sound e =
    sound_told x _ q e (record { ready = sound.ready; tags = sound.tags; lives = sound.lives; count = sound.count })
run_sound plans x line (commands.Frames from to) p q range classes sound e = frames_sound x from to (begun p) q (started x p sound) e
run_sound plans x line (commands.Each from to) p q range classes sound e = each_sound x from to (begun p) q (started x p sound) e
run_sound plans x line (commands.Time t) p q range classes sound e = time_sound x t (begun p) q (started x p sound) e
run_sound plans x line (commands.Tag place) p q range classes sound e = tag_sound x line place (begun p) q range (started x p sound) e
run_sound plans x line (commands.Move place to) p q range classes sound e = move_sound x place to (begun p) q range (started x p sound) e
run_sound plans x line commands.Settle p q range classes sound e =
    sound_told x _ q e (record {
      ready = settled_ready x p.wire p.table p.clock sound.ready.good;
      tags = sound.tags;
      lives = sound.lives;
      count = sound.count;
    })
run_sound plans x line (commands.Add core) p q range classes sound e =
    add_sound plans x line core (begun p) q (begun_classes p classes) (started x p sound) e
run_sound plans x line (commands.Revoke core) p q range classes sound e =
    revoke_sound plans x line core (begun p) q (begun_classes p classes) (started x p sound) e

line_sound : ArePlans → (x : Terms) (number : ℕ) (line : List ℕ) (p q : Progress) → HasClasses p → IsSound x p → line_run x.own number line p ≡ Ok q
    → IsSound x q
unfolding line_run
line_sound plans x number line p q classes sound e =
    skipped (IsSound x) (is_skipped line) p q _ (λ r. carried (unless (not (list_all is_printable line)) kinds.Word _ q r)) sound
    (unless (nat_lt 128 (length line)) kinds.TooLong _ q e) where
      carried : (command_of p.begun p.version (words_of line) >>= λ command. run x.own number command (record p { begun = true })) ≡ Ok q
          → IsSound x q
      carried r =
          let step = passed (command_of p.begun p.version (words_of line)) (λ command. run x.own number command (record p { begun = true })) q r in
          let known = command_of-known p.begun p.version (words_of line) step.value step.first in
          run_sound plans x number step.value p q known.range classes sound step.rest

-- what each line keeps holds after all of them
lines_keep : (P : ℕ → Progress → Type 0) (limit : ℕ) (own : List Bool)
    → ((number : ℕ) (line : List ℕ) (p q : Progress) → (number == limit) ≡ false → P number p → line_run own (number + 1) line p ≡ Ok q → P (number + 1) q)
    → (number : ℕ) (lines : List (List ℕ)) (p q : Progress) → P number p → lines_run limit own number p lines ≡ Ok q → (m : ℕ) × P m q
lines_keep P limit own each number [] p q here e = (number, (let is : p ≡ q = cc in subst (P number) is here))
lines_keep P limit own each number (line ∷ lines) p q here e =
    step (number == limit) refl (line_run own (number + 1) line p) (λ apart next is. each number line p next apart here is)
    (λ next there rest. lines_keep P limit own each (number + 1) lines next q there rest) e where
      step : (b : Bool) → (number == limit) ≡ b → (r : Result Progress ScriptKind)
          → ((number == limit) ≡ false → (next : Progress) → r ≡ Ok next → P (number + 1) next)
          → ((next : Progress) → P (number + 1) next → lines_run limit own (number + 1) next lines ≡ Ok q → (m : ℕ) × P m q)
          → (if b then Err (faults.At (number + 1) kinds.TooMany) else behind (number + 1) r (λ next. lines_run limit own (number + 1) next lines)) ≡ Ok q
          → (m : ℕ) × P m q
      step true is r grown later e = absurd (cc)
      step false is (Err kind) grown later e = absurd (cc)
      step false is (Ok next) grown later e = later next (grown is next refl) e

-- what holds after so many lines of at most `limit`
record Holds (limit : ℕ) (x : Terms) (number : ℕ) (p : Progress) : Type 0 where
  within : number ≤ limit
  few : IsFew (2 * number + 1) p.wire
  classes : HasClasses p
  sound : IsSound x p

line_holds : ArePlans → (limit : ℕ) (x : Terms) (number : ℕ) (line : List ℕ) (p q : Progress) → (number == limit) ≡ false → Holds limit x number p
    → line_run x.own (number + 1) line p ≡ Ok q → Holds limit x (number + 1) q
line_holds plans limit x number line p q apart here e = record {
  within = below number limit here.within apart;
  few = wider (2 * number + 3) (2 * (number + 1) + 1) q.wire (omega arith) (line_few x.own (2 * number) (number + 1) line p q here.few e);
  classes = line_kept plans x.own (number + 1) line p q here.classes e;
  sound = line_sound plans x (number + 1) line p q here.classes here.sound e;
}

-- what there is before the first line
no_tags-count : (n : ℕ) → length (no_tags n) ≡ n
unfolding no_tags
no_tags-count zero = refl
no_tags-count (suc n) =
    length-append (no_tags n) (None ∷ []) ∙ (let e : length (no_tags n) + 1 ≡ suc n = omega (arith, no_tags-count n) in e)

tag_append : (tags : List (Option ℕ)) (group : ℕ) → is_tag (slice_get tags group) ≡ false → is_tag (slice_get (tags ++ None ∷ []) group) ≡ false
tag_append [] zero h = refl
tag_append [] (suc group) h = refl
tag_append (tag ∷ tags) zero h = h
tag_append (tag ∷ tags) (suc group) h = tag_append tags group h

no_tags-over : (n group : ℕ) → is_tag (slice_get (no_tags n) group) ≡ false
unfolding no_tags
no_tags-over zero group = refl
no_tags-over (suc n) group = tag_append (no_tags n) group (no_tags-over n group)

first_live-below : (live core : ℕ) → slice_index_or (first_live live) core false ≡ true → core < live
first_live-below live zero is = grind (arith, nat_tests)
first_live-below live (suc zero) is = grind (arith, nat_tests)
first_live-below live (suc (suc zero)) is = grind (arith, nat_tests)
first_live-below live (suc (suc (suc zero))) is = grind (arith, nat_tests)
first_live-below live (suc (suc (suc (suc zero)))) is = grind (arith, nat_tests)
first_live-below live (suc (suc (suc (suc (suc zero))))) is = grind (arith, nat_tests)
first_live-below live (suc (suc (suc (suc (suc (suc zero)))))) is = grind (arith, nat_tests)
first_live-below live (suc (suc (suc (suc (suc (suc (suc zero))))))) is = grind (arith, nat_tests)
first_live-below live (suc (suc (suc (suc (suc (suc (suc (suc core)))))))) is = absurd (cc)

opening_sound : (x : Terms) → x.live ≤ x.cores → IsSound x (opening x.pace x.cores x.live)
unfolding opening opening_table start
opening_sound x h = record {
  ready = record {
    good = record {
      there = All-nil _;
      alternate = λ group within. tt;
      elsewhere = tt;
      times = tt;
      paced = λ above. tt;
      controls = tt;
      tags_are = λ group within. sym (no_tags-over 512 group);
      cores_are = refl;
      clock_is = refl;
      paced_is = refl;
      controls_are = refl;
      frames_are = refl;
      moves_are = refl;
      pace_is = refl;
    };
    paced = λ above. above;
    controls = omega arith;
  };
  tags = no_tags-count 512;
  lives = λ core is. omega (arith, first_live-below x.live core is);
  count = refl;
}

opening_few : (x : Terms) → IsFew 1 (opening x.pace x.cores x.live).wire
unfolding opening start
opening_few x = record { frames = omega arith; moves = omega arith; entries = omega arith }

opening_holds : (limit : ℕ) (x : Terms) → x.live ≤ x.cores → Holds limit x 0 (opening x.pace x.cores x.live)
opening_holds limit x h = record {
  within = omega arith;
  few = opening_few x;
  classes = opening_classes x.pace x.cores x.live;
  sound = opening_sound x h;
}

lines_hold : ArePlans → (limit : ℕ) (x : Terms) (lines : List (List ℕ)) (p : Progress) → x.live ≤ x.cores
    → lines_run limit x.own 0 (opening x.pace x.cores x.live) lines ≡ Ok p → (m : ℕ) × Holds limit x m p
lines_hold plans limit x lines p h e =
    lines_keep (Holds limit x) limit x.own (λ number line p q apart here is. line_holds plans limit x number line p q apart here is) 0 lines
    (opening x.pace x.cores x.live) p (opening_holds limit x h) e

few_at_end : (number : ℕ) (w : Written) → number ≤ 65536 → IsFew (2 * number + 1 + 1) w → length w.entries < 2 ^ 32
few_at_end number w within few = omega (arith, few.entries, few.frames, few.moves)

-- there are few entries
few_entries : (limit number : ℕ) (w : Written) → limit ≤ 65536 → number ≤ limit → IsFew (2 * number + 1) w → length w.entries < 2 ^ 32
few_entries limit number w h within few = omega (arith, few.entries, few.frames, few.moves)

pub keep_rules : ArePlans → ScriptsKeepRules
keep_rules plans limit x lines h live n p e =
    let held = lines_hold plans limit x (take n lines) p live e in
    record {
      wire = so_far x p.wire.entries p.wire p.table p.clock held.1.sound.ready.good held.1.few.frames held.1.few.moves
          (few_entries limit held.0 p.wire h held.1.within held.1.few);
      cores = sym held.1.sound.ready.good.cores_are;
      classes = held.1.classes.one;
    }

-- no tag is left
open_tag : (first : ℕ) (tags : List (Option ℕ)) → fold earlier (Some first) tags ≡ None → ⊥
open_tag first [] e = cc
open_tag first (None ∷ tags) e = open_tag first tags e
open_tag first (Some line ∷ tags) e = open_tag (if nat_lt line first then line else first) tags e

all_over : (tags : List (Option ℕ)) (group : ℕ) → fold earlier None tags ≡ None → is_tag (slice_get tags group) ≡ false
all_over [] group e = refl
all_over (None ∷ tags) zero e = refl
all_over (None ∷ tags) (suc group) e = all_over tags group e
all_over (Some line ∷ tags) group e = absurd (open_tag line tags e)

settled_wire : (x : Terms) (p : Progress) → length (settled p.wire).entries < 2 ^ 32 → p.wire.frames ≤ 262144 → p.wire.moves ≤ 16777216
    → IsSound x p → earliest p.table.tags ≡ None → IsWire x (settled p.wire).entries
unfolding settled
settled_wire x p count frames moves sound none =
    let good = settled_good x p.wire p.table p.clock sound.ready.good in
    record {
      so_far = so_far x (settled p.wire).entries (settled p.wire) p.table p.clock good frames moves count;
      closed = λ group h. good.tags_are group h ∙ all_over p.table.tags group none;
      ends = record { before = p.wire.entries; is = refl };
    }

finish_wire : (x : Terms) (number : ℕ) (p : Progress) (es : List Entry) → Holds 65536 x number p → finish p ≡ Ok es → IsWire x es
unfolding finish
finish_wire x number p es held e = step (earliest p.table.tags) refl e where
  step : (o : Option ℕ) → earliest p.table.tags ≡ o → entries_unless o (settled p.wire).entries ≡ Ok es → IsWire x es
  step (Some line) first e = absurd (cc)
  step None first e =
      let is : (settled p.wire).entries ≡ es = cc in
      let last = settled_few (2 * number + 1) p.wire held.few in
      subst (IsWire x) is
      (settled_wire x p (few_at_end number (settled p.wire) held.within last) held.few.frames held.few.moves held.sound first)

pub wire_of-is_wire : ArePlans → (x : Terms) (bytes : List ℕ) (es : List Entry) → x.live ≤ x.cores
    → wire_of x.pace x.cores x.live x.own bytes ≡ Ok es → IsWire x es
unfolding wire_of
wire_of-is_wire plans x bytes es h e =
    let step = passed (lines_run 65536 x.own 0 (opening x.pace x.cores x.live) (lines_of bytes)) finish es e in
    let held = lines_hold plans 65536 x (lines_of bytes) step.value h step.first in
    finish_wire x held.0 step.value es held.1 step.rest

-- what is answered
pub answer_is_wire : (x : Terms) (r : Result (Vec Entry Global) ScriptFault) (meaning : Result (List Entry) ScriptFault)
    → ((es : List Entry) → meaning ≡ Ok es → IsWire x es) → Gives (λ v. v.items) r meaning → IfOk r (λ v. IsWire x v.items)
answer_is_wire x (Ok v) meaning each gives = each v.items gives
answer_is_wire x (Err fault) meaning each gives = tt
