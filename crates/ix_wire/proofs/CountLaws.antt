-- How many entries there are in a wire list.
use Rattle.std.proofs.Common.{◌≡◌, ◌≤◌, ◌+◌, ◌*◌, ◌++◌, ℕ, List, [], ◌∷◌, length, Bool, true, false, refl, subst, arith, length-append, take}
use Rattle.std.specs.Prelude.{◌==◌, ◌||◌, if◌then◌else◌, nat_lt, not, Result, Ok}
use Rattle.std.specs.List.{list_all, list_any}
use Rattle.std.proofs.lemmas.Bool.Decides.{nat_tests}
use Rattle.ix_base.specs.declared.id.CoreId.{CoreId}
use Rattle.ix_cp.specs.declared.plan.PlanMove.{PlanMove}
use Rattle.ix_cp.specs.Plan.{add_plan, revoke_plan}
use Rattle.ix_wire.specs.declared.command.Command.{Command}
use Rattle.ix_wire.specs.declared.command.Command.TheVariants as commands
use Rattle.ix_wire.specs.declared.entry.Entry.{Entry}
use Rattle.ix_wire.specs.declared.entry.Entry.TheVariants as entries
use Rattle.ix_wire.specs.declared.fault.ScriptKind.{ScriptKind}
use Rattle.ix_wire.specs.declared.fault.ScriptKind.TheVariants as kinds
use Rattle.ix_wire.specs.declared.progress.Progress.{Progress}
use Rattle.ix_wire.specs.Chain.{◌>>=◌}
use Rattle.ix_wire.specs.Command.{command_of, places_of, width_of}
use Rattle.ix_wire.specs.Progress.{add_run, core_of, each_run, frames_run, is_printable, is_skipped, line_run, move_run, revoke_run, run, tag_run, time_run, with_all_planned, with_plan, with_planned, with_step, with_steps, with_tag, with_tags}
use Rattle.ix_wire.specs.Records.{records_in}
use Rattle.ix_wire.specs.Table.{are_planned_tagged, groups_from, has_core, has_tagged_on, is_live_core, is_on, is_only_live, is_tagged, is_untagged, with_live}
use Rattle.ix_wire.specs.Text.{words_of}
use Rattle.ix_wire.specs.Wire.{Written, settled, with_all_each, with_control, with_each, with_frame, with_frames, with_move}
use Rattle.ix_wire.proofs.Effects.{passed, skipped, unless, unless_not}

-- The limits are kept, and there are no more entries than three for each frame, which are itself, the settle of the pace and its own, two for
-- each tag or move, which are itself and the settle behind the thousandth, and so many others.
pub record IsFew (others : ℕ) (w : Written) : Type 0 where
  pub frames : w.frames ≤ 262144
  pub moves : w.moves ≤ 16777216
  pub entries : length w.entries ≤ 3 * w.frames + 2 * w.moves + others

pub wider : (few many : ℕ) (w : Written) → few ≤ many → IsFew few w → IsFew many w
wider few many w h is = record { frames = is.frames; moves = is.moves; entries = omega arith }

-- the second has at most so many entries more than the first, and counts as many frames, tags and moves
record Wrote (n : ℕ) (v w : Written) : Type 0 where
  frames : w.frames ≡ v.frames
  moves : w.moves ≡ v.moves
  entries : length w.entries ≤ length v.entries + n

settled_wrote : (w : Written) → Wrote 1 w (settled w)
unfolding settled
settled_wrote w = record { frames = refl; moves = refl; entries = omega (arith, length-append w.entries (entries.Settle ∷ [])) }

-- a settle, or none
perhaps_wrote : (b : Bool) (w : Written) → Wrote 1 w (if b then settled w else w)
perhaps_wrote true w = settled_wrote w
perhaps_wrote false w = record { frames = refl; moves = refl; entries = omega arith }

control_wrote : (e : Entry) (w : Written) → Wrote 2 w (with_control e w)
unfolding with_control
control_wrote e w =
    let last = perhaps_wrote (w.controls + 1 == 1000) (record w { entries = w.entries ++ e ∷ []; controls = w.controls + 1 }) in
    record { frames = last.frames; moves = last.moves; entries = omega (arith, last.entries, length-append w.entries (e ∷ [])) }

others_more : (n others : ℕ) (v w : Written) → Wrote n v w → IsFew others v → IsFew (others + n) w
others_more n others v w wrote few = record { frames = omega arith; moves = omega arith; entries = omega arith }

pub settled_few : (others : ℕ) (w : Written) → IsFew others w → IsFew (others + 1) (settled w)
settled_few others w few = others_more 1 others w (settled w) (settled_wrote w) few

-- a limit that is not reached
pub below : (a b : ℕ) → a ≤ b → (a == b) ≡ false → a + 1 ≤ b
below a b h apart = grind (arith, nat_tests)

written_few : (others : ℕ) (v w : Written) → ◌≡◌ {A = Result Written ScriptKind} (Ok v) (Ok w) → IsFew others v → IsFew others w
written_few others v w e few = let is : v ≡ w = cc in subst (IsFew others) is few

-- a frame leaves one entry for a settle of its own
frame_few : (others rec : ℕ) (w v : Written) → IsFew (others + 1) w → with_frame rec w ≡ Ok v → IsFew others v
unfolding with_frame
frame_few others rec w v few e =
    let limit : w.frames + 1 ≤ 262144 = below w.frames 262144 few.frames (unless_not (w.frames == 262144) kinds.TooMany _ v e) in
    let last = perhaps_wrote (w.paced + 1 == w.pace)
    (record w { entries = w.entries ++ entries.Frame rec ∷ []; paced = w.paced + 1; frames = w.frames + 1 }) in
    written_few others _ v (unless (w.frames == 262144) kinds.TooMany _ v e) (record {
      frames = omega (arith, limit, last.frames);
      moves = omega (arith, last.moves, few.moves);
      entries = omega (arith, last.entries, last.frames, last.moves, few.entries, length-append w.entries (entries.Frame rec ∷ []));
    })

frames_few : (others : ℕ) (recs : List ℕ) (w v : Written) → IsFew others w → with_frames recs w ≡ Ok v → IsFew others v
frames_few others [] w v few e = written_few others w v e few
frames_few others (rec ∷ recs) w v few e =
    let step = passed (with_frame rec w) (with_frames recs) v e in
    frames_few others recs step.value v (frame_few others rec w step.value (wider others (others + 1) w (omega arith) few) step.first) step.rest

each_few : (others : ℕ) (recs : List ℕ) (w v : Written) → IsFew (others + 1) w → with_all_each recs w ≡ Ok v → IsFew (others + 1) v
unfolding with_each
each_few others [] w v few e = written_few (others + 1) w v e few
each_few others (rec ∷ recs) w v few e =
    let step = passed (with_each rec w) (with_all_each recs) v e in
    each_few others recs step.value v (one step.value step.first) step.rest where
      one : (next : Written) → with_each rec w ≡ Ok next → IsFew (others + 1) next
      one next is =
          let frame = passed (with_frame rec w) _ next is in
          written_few (others + 1) (settled frame.value) next frame.rest
          (settled_few others frame.value (frame_few others rec w frame.value few frame.first))

move_few : (others : ℕ) (entry : Entry) (w v : Written) → IsFew others w → with_move entry w ≡ Ok v → IsFew others v
unfolding with_move
move_few others entry w v few e =
    let limit : w.moves + 1 ≤ 16777216 = below w.moves 16777216 few.moves (unless_not (w.moves == 16777216) kinds.TooMany _ v e) in
    let last = control_wrote entry (record w { moves = w.moves + 1 }) in
    written_few others _ v (unless (w.moves == 16777216) kinds.TooMany _ v e) (record {
      frames = omega (arith, last.frames, few.frames);
      moves = omega (arith, limit, last.moves);
      entries = omega (arith, last.entries, last.frames, last.moves, few.entries);
    })

-- groups that are tagged and moved
told_few : (others : ℕ) (x q : Progress) → ◌≡◌ {A = Result Progress ScriptKind} (Ok x) (Ok q) → IsFew others x.wire → IsFew others q.wire
told_few others x q e few = let is : x ≡ q = cc in subst (λ p. IsFew others p.wire) is few

tag_few : (others line group : ℕ) (p q : Progress) → IsFew others p.wire → with_tag line group p ≡ Ok q → IsFew others q.wire
unfolding with_tag
tag_few others line group p q few e =
    let step = passed (with_move (entries.Tag (record { 0 = group })) p.wire) _ q e in
    told_few others _ q step.rest (move_few others (entries.Tag (record { 0 = group })) p.wire step.value few step.first)

step_few : (others group : ℕ) (to : CoreId) (p q : Progress) → IsFew others p.wire → with_step to group p ≡ Ok q → IsFew others q.wire
unfolding with_step
step_few others group to p q few e =
    let step = passed (with_move (entries.Move (record { 0 = group }) to) p.wire) _ q e in
    told_few others _ q step.rest (move_few others (entries.Move (record { 0 = group }) to) p.wire step.value few step.first)

tags_few : (others line : ℕ) (groups : List ℕ) (p q : Progress) → IsFew others p.wire → with_tags line groups p ≡ Ok q → IsFew others q.wire
tags_few others line [] p q few e = told_few others p q e few
tags_few others line (group ∷ groups) p q few e =
    let step = passed (with_tag line group p) (with_tags line groups) q e in
    tags_few others line groups step.value q (tag_few others line group p step.value few step.first) step.rest

steps_few : (others : ℕ) (to : CoreId) (groups : List ℕ) (p q : Progress) → IsFew others p.wire → with_steps to groups p ≡ Ok q → IsFew others q.wire
steps_few others to [] p q few e = told_few others p q e few
steps_few others to (group ∷ groups) p q few e =
    let step = passed (with_step to group p) (with_steps to groups) q e in
    steps_few others to groups step.value q (step_few others group to p step.value few step.first) step.rest

planned_few : (others line : ℕ) (to : CoreId) (groups : List ℕ) (p q : Progress) → IsFew others p.wire → with_all_planned line to groups p ≡ Ok q
    → IsFew others q.wire
unfolding with_planned
planned_few others line to [] p q few e = told_few others p q e few
planned_few others line to (group ∷ groups) p q few e =
    let step = passed (with_planned line to group p) (with_all_planned line to groups) q e in
    planned_few others line to groups step.value q (one step.value step.first) step.rest where
      one : (next : Progress) → with_planned line to group p ≡ Ok next → IsFew others next.wire
      one next is =
          let first = passed (with_tag line group p) (with_step to group) next is in
          step_few others group to first.value next (tag_few others line group p first.value few first.first) first.rest

plan_few : (others line width : ℕ) (plan : List PlanMove) (p q : Progress) → IsFew others p.wire → with_plan line width plan p ≡ Ok q
    → IsFew others q.wire
plan_few others line width [] p q few e = told_few others p q e few
plan_few others line width (m ∷ plan) p q few e =
    let step = passed (with_all_planned line m.to (groups_from m.group.0 width) p) (with_plan line width plan) q e in
    plan_few others line width plan step.value q
    (planned_few others line m.to (groups_from m.group.0 width) p step.value few step.first) step.rest

-- a line, of which a time gives two entries at most, and a settle one
frames_run_few : (own : List Bool) (others from to : ℕ) (p q : Progress) → IsFew others p.wire → frames_run own from to p ≡ Ok q → IsFew others q.wire
unfolding frames_run
frames_run_few own others from to p q few e =
    let step = passed (with_frames (records_in own from to) p.wire) _ q (unless (not (nat_lt to (length own))) kinds.NoRecord _ q e) in
    told_few others _ q step.rest (frames_few others (records_in own from to) p.wire step.value few step.first)

each_run_few : (own : List Bool) (others from to : ℕ) (p q : Progress) → IsFew (others + 1) p.wire → each_run own from to p ≡ Ok q
    → IsFew (others + 1) q.wire
unfolding each_run
each_run_few own others from to p q few e =
    let step = passed (with_all_each (records_in own from to) p.wire) _ q (unless (not (nat_lt to (length own))) kinds.NoRecord _ q e) in
    told_few (others + 1) _ q step.rest (each_few others (records_in own from to) p.wire step.value few step.first)

time_run_few : (others t : ℕ) (p q : Progress) → IsFew others p.wire → time_run t p ≡ Ok q → IsFew (others + 2) q.wire
unfolding time_run
time_run_few others t p q few e =
    told_few (others + 2) _ q (unless (nat_lt t p.clock) kinds.Back _ q e)
    (others_more 2 others p.wire _ (control_wrote (entries.Time t) p.wire) few)

tag_run_few : (others line place : ℕ) (p q : Progress) → IsFew others p.wire → tag_run line place p ≡ Ok q → IsFew others q.wire
unfolding tag_run
tag_run_few others line place p q few e =
    tags_few others line (groups_from place (width_of p.version)) p q few
    (unless (list_any (is_tagged p.table) (groups_from place (width_of p.version))) kinds.AlreadyTagged _ q e)

move_run_few : (others place to : ℕ) (p q : Progress) → IsFew others p.wire → move_run place to p ≡ Ok q → IsFew others q.wire
unfolding move_run
move_run_few others place to p q few e =
    steps_few others (core_of to) (groups_from place (width_of p.version)) p q few
    (unless (list_any (is_on p.table to) (groups_from place (width_of p.version))) kinds.SameCore _ q
    (unless (list_any (is_untagged p.table) (groups_from place (width_of p.version))) kinds.NotTagged _ q
    (unless (not (is_live_core to p.table)) kinds.NoCore _ q e)))

add_run_few : (others line core : ℕ) (p q : Progress) → IsFew others p.wire → add_run line core p ≡ Ok q → IsFew others q.wire
unfolding add_run
add_run_few others line core p q few e =
    let plan = add_plan p.table.live core (take (places_of p.version) p.table.at) in
    plan_few others line (width_of p.version) plan (record p { table = with_live core true p.table }) q few
    (unless (are_planned_tagged p.table (width_of p.version) plan) kinds.AlreadyTagged _ q
    (unless (is_live_core core p.table) kinds.Live _ q (unless (not (has_core core p.table)) kinds.NoCore _ q e)))

revoke_run_few : (others line core : ℕ) (p q : Progress) → IsFew others p.wire → revoke_run line core p ≡ Ok q → IsFew others q.wire
unfolding revoke_run
revoke_run_few others line core p q few e =
    let plan = revoke_plan p.table.live core (take (places_of p.version) p.table.at) in
    plan_few others line (width_of p.version) plan (record p { table = with_live core false p.table }) q few
    (unless (are_planned_tagged p.table (width_of p.version) plan || has_tagged_on p.table core 512) kinds.AlreadyTagged _ q
    (unless (is_only_live p.table core 8) kinds.LastCore _ q (unless (not (is_live_core core p.table)) kinds.NoCore _ q e)))

run_few : (own : List Bool) (others line : ℕ) (c : Command) (p q : Progress) → IsFew (others + 1) p.wire → run own line c p ≡ Ok q
    → IsFew (others + 3) q.wire
unfolding run
run_few own others line (commands.Version version) p q few e =
    wider (others + 1) (others + 3) q.wire (omega arith) (told_few (others + 1) _ q e few)
run_few own others line (commands.Frames from to) p q few e =
    wider (others + 1) (others + 3) q.wire (omega arith) (frames_run_few own (others + 1) from to p q few e)
run_few own others line (commands.Each from to) p q few e =
    wider (others + 1) (others + 3) q.wire (omega arith) (each_run_few own others from to p q few e)
run_few own others line (commands.Time t) p q few e =
    wider (others + 1 + 2) (others + 3) q.wire (omega arith) (time_run_few (others + 1) t p q few e)
run_few own others line (commands.Tag place) p q few e =
    wider (others + 1) (others + 3) q.wire (omega arith) (tag_run_few (others + 1) line place p q few e)
run_few own others line (commands.Move place to) p q few e =
    wider (others + 1) (others + 3) q.wire (omega arith) (move_run_few (others + 1) place to p q few e)
run_few own others line commands.Settle p q few e =
    wider (others + 1 + 1) (others + 3) q.wire (omega arith) (told_few (others + 1 + 1) _ q e (settled_few (others + 1) p.wire few))
run_few own others line (commands.Add core) p q few e =
    wider (others + 1) (others + 3) q.wire (omega arith) (add_run_few (others + 1) line core p q few e)
run_few own others line (commands.Revoke core) p q few e =
    wider (others + 1) (others + 3) q.wire (omega arith) (revoke_run_few (others + 1) line core p q few e)

pub line_few : (own : List Bool) (others number : ℕ) (line : List ℕ) (p q : Progress) → IsFew (others + 1) p.wire → line_run own number line p ≡ Ok q
    → IsFew (others + 3) q.wire
unfolding line_run
line_few own others number line p q few e =
    skipped (λ next. IsFew (others + 3) next.wire) (is_skipped line) p q _
    (λ r. carried (unless (not (list_all is_printable line)) kinds.Word _ q r)) (wider (others + 1) (others + 3) p.wire (omega arith) few)
    (unless (nat_lt 128 (length line)) kinds.TooLong _ q e) where
      carried : (command_of p.begun p.version (words_of line) >>= λ command. run own number command (record p { begun = true })) ≡ Ok q
          → IsFew (others + 3) q.wire
      carried r =
          let step = passed (command_of p.begun p.version (words_of line)) (λ command. run own number command (record p { begun = true })) q r in
          run_few own others number step.value (record p { begun = true }) q few step.rest
