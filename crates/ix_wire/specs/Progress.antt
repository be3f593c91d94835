-- What the lines of a script do, one at a time. Formats: docs/SCRIPT.md, "Lines" and "Faults".
use Rattle.std.specs.Prelude.{ℕ, ◌==◌, ◌&&◌, ◌||◌, not, Bool, true, false, List, [], ◌∷◌, length, if◌then◌else◌, nat_le, nat_lt, Result, Ok, Err, slice_index, take}
use Rattle.std.specs.List.{list_all, list_any}
use Rattle.ix_base.specs.declared.id.CoreId.{CoreId}
use Rattle.ix_cp.specs.declared.plan.PlanMove.{PlanMove}
use Rattle.ix_cp.specs.Plan.{add_plan, revoke_plan}
use Rattle.ix_wire.specs.declared.command.Command.{Command}
use Rattle.ix_wire.specs.declared.command.Command.TheVariants as commands
use Rattle.ix_wire.specs.declared.entry.Entry.TheVariants as entries
use Rattle.ix_wire.specs.declared.fault.ScriptKind.{ScriptKind}
use Rattle.ix_wire.specs.declared.fault.ScriptKind.TheVariants as kinds
use Rattle.ix_wire.specs.declared.progress.Progress.{Progress}
use Rattle.ix_wire.specs.Chain.{◌>>=◌}
use Rattle.ix_wire.specs.Command.{command_of, places_of, width_of}
use Rattle.ix_wire.specs.Records.{records_in}
use Rattle.ix_wire.specs.Table.{are_planned_tagged, groups_from, has_core, has_tagged_on, is_live_core, is_on, is_only_live, is_tagged, is_untagged, moved, tagged, with_live}
use Rattle.ix_wire.specs.Text.{words_of}
use Rattle.ix_wire.specs.Wire.{Written, settled, with_all_each, with_control, with_frames, with_move}

-- a core by its number
abbrev pub core_of : ℕ → CoreId
core_of core = record { 0 = core }

-- the same with other entries
abbrev pub with_wire : Progress → Written → Progress
with_wire p w = record p { wire = w }

-- a group is tagged
unfoldable pub with_tag : ℕ → ℕ → Progress → Result Progress ScriptKind
with_tag line group p =
    with_move (entries.Tag (record { 0 = group })) p.wire >>= λ w. Ok (record p { wire = w; table = tagged line group p.table })

-- a group is moved
unfoldable pub with_step : CoreId → ℕ → Progress → Result Progress ScriptKind
with_step to group p =
    with_move (entries.Move (record { 0 = group }) to) p.wire >>= λ w. Ok (record p { wire = w; table = moved group to p.table })

-- a group of a planned move is tagged, and then moved
unfoldable pub with_planned : ℕ → CoreId → ℕ → Progress → Result Progress ScriptKind
with_planned line to group p = with_tag line group p >>= with_step to group

-- each of these groups
abbrev pub with_tags : ℕ → List ℕ → Progress → Result Progress ScriptKind
with_tags line [] p = Ok p
with_tags line (group ∷ groups) p = with_tag line group p >>= with_tags line groups

abbrev pub with_steps : CoreId → List ℕ → Progress → Result Progress ScriptKind
with_steps to [] p = Ok p
with_steps to (group ∷ groups) p = with_step to group p >>= with_steps to groups

abbrev pub with_all_planned : ℕ → CoreId → List ℕ → Progress → Result Progress ScriptKind
with_all_planned line to [] p = Ok p
with_all_planned line to (group ∷ groups) p = with_planned line to group p >>= with_all_planned line to groups

-- each move of a plan, for each group of its place
abbrev pub with_plan : ℕ → ℕ → List PlanMove → Progress → Result Progress ScriptKind
with_plan line width [] p = Ok p
with_plan line width (m ∷ plan) p = with_all_planned line m.to (groups_from m.group.0 width) p >>= with_plan line width plan

-- `frames A B`
unfoldable pub frames_run : List Bool → ℕ → ℕ → Progress → Result Progress ScriptKind
frames_run own from to p =
    if not (nat_lt to (length own)) then Err kinds.NoRecord
    else with_frames (records_in own from to) p.wire >>= λ w. Ok (with_wire p w)

-- `each A B`
unfoldable pub each_run : List Bool → ℕ → ℕ → Progress → Result Progress ScriptKind
each_run own from to p =
    if not (nat_lt to (length own)) then Err kinds.NoRecord
    else with_all_each (records_in own from to) p.wire >>= λ w. Ok (with_wire p w)

-- `time T`
unfoldable pub time_run : ℕ → Progress → Result Progress ScriptKind
time_run t p =
    if nat_lt t p.clock then Err kinds.Back
    else Ok (record p { wire = with_control (entries.Time t) p.wire; clock = t })

-- `tag G`
unfoldable pub tag_run : ℕ → ℕ → Progress → Result Progress ScriptKind
tag_run line place p =
    let groups = groups_from place (width_of p.version) in
    if list_any (is_tagged p.table) groups then Err kinds.AlreadyTagged
    else with_tags line groups p

-- `move G C`
unfoldable pub move_run : ℕ → ℕ → Progress → Result Progress ScriptKind
move_run place to p =
    let groups = groups_from place (width_of p.version) in
    if not (is_live_core to p.table) then Err kinds.NoCore
    else if list_any (is_untagged p.table) groups then Err kinds.NotTagged
    else if list_any (is_on p.table to) groups then Err kinds.SameCore
    else with_steps (core_of to) groups p

-- `add C`
unfoldable pub add_run : ℕ → ℕ → Progress → Result Progress ScriptKind
add_run line core p =
    let plan = add_plan p.table.live core (take (places_of p.version) p.table.at) in
    if not (has_core core p.table) then Err kinds.NoCore
    else if is_live_core core p.table then Err kinds.Live
    else if are_planned_tagged p.table (width_of p.version) plan then Err kinds.AlreadyTagged
    else with_plan line (width_of p.version) plan (record p { table = with_live core true p.table })

-- `revoke C`
unfoldable pub revoke_run : ℕ → ℕ → Progress → Result Progress ScriptKind
revoke_run line core p =
    let plan = revoke_plan p.table.live core (take (places_of p.version) p.table.at) in
    if not (is_live_core core p.table) then Err kinds.NoCore
    else if is_only_live p.table core 8 then Err kinds.LastCore
    else if are_planned_tagged p.table (width_of p.version) plan || has_tagged_on p.table core 512 then Err kinds.AlreadyTagged
    else with_plan line (width_of p.version) plan (record p { table = with_live core false p.table })

-- what a command of a line does
unfoldable pub run : List Bool → ℕ → Command → Progress → Result Progress ScriptKind
run own line (commands.Version version) p = Ok (record p { version = version })
run own line (commands.Frames from to) p = frames_run own from to p
run own line (commands.Each from to) p = each_run own from to p
run own line (commands.Time t) p = time_run t p
run own line (commands.Tag place) p = tag_run line place p
run own line (commands.Move place to) p = move_run place to p
run own line commands.Settle p = Ok (with_wire p (settled p.wire))
run own line (commands.Add core) p = add_run line core p
run own line (commands.Revoke core) p = revoke_run line core p

-- an empty line, or one that begins with `#`
abbrev pub is_skipped : List ℕ → Bool
is_skipped line = length line == 0 || slice_index line 0 == 35

abbrev pub is_printable : ℕ → Bool
is_printable byte = nat_le 32 byte && nat_le byte 126

-- what a line does, or the first kind of fault that applies to it
unfoldable pub line_run : List Bool → ℕ → List ℕ → Progress → Result Progress ScriptKind
line_run own number line p =
    if nat_lt 128 (length line) then Err kinds.TooLong
    else if is_skipped line then Ok p
    else if not (list_all is_printable line) then Err kinds.Word
    else command_of p.begun p.version (words_of line) >>= λ command. run own number command (record p { begun = true })
