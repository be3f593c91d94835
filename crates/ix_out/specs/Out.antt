-- The frames that are out at a settle, each with its place.
use Rattle.std.specs.Prelude.{ℕ, ◌+◌, ◌-◌, Bool, true, ◌==◌, ◌&&◌, not, if◌then◌else◌, List, [], ◌∷◌, ◌++◌, map, count_by, Option, Some, None}
use Rattle.std.specs.List.{list_all, list_any, range_with_len}
use Rattle.ix_base.specs.declared.id.WireNo.{WireNo}
use Rattle.ix_groupdef.specs.Life.{Life, lives}
use Rattle.ix_groupdef.specs.Owners.{Ended, is_queued, is_with_app, told_parts}
use Rattle.ix_lines.specs.declared.types.EntryLine.{EntryLine}
use Rattle.ix_lines.specs.declared.types.HomeLine.{HomeLine}
use Rattle.ix_lines.specs.declared.types.SettleLine.{SettleLine}
use Rattle.ix_tcpdef.specs.declared.types.Connection.{Connection}
use Rattle.ix_tcpdef.specs.declared.types.HeldSegment.{HeldSegment}
use Rattle.ix_fits.specs.Journals.{buffer_of}
use Rattle.ix_fits.specs.Owners.{Play, all_groups, are_apart, buffers_of, group_after, is_at, is_printed, waiting}
use Rattle.ix_out.specs.declared.frames_out.OutFrame.{OutFrame}
use Rattle.ix_out.specs.declared.frames_out.Place.{Place}
use Rattle.ix_out.specs.declared.frames_out.Place.TheVariants.{App, Desk, Held, Queue}

abbrev pub out_at : Place → WireNo → OutFrame
out_at place w = record { w = w; place = place }

abbrev pub held_out : List HeldSegment → List OutFrame
held_out [] = []
held_out (h ∷ hs) = out_at Held h.w ∷ held_out hs

-- where a told part is that ends at this byte, if it is out
abbrev pub part_place : Connection → ℕ → Option Place
part_place c end = if is_with_app c end then Some App else (if is_queued c end then Some Queue else None)

abbrev pub out_if : Option Place → WireNo → List OutFrame
out_if None w = []
out_if (Some place) w = out_at place w ∷ []

abbrev pub told_out : Connection → List Ended → List OutFrame
told_out c [] = []
told_out c (e ∷ es) = out_if (part_place c e.end) e.w ++ told_out c es

-- of a connection whose application sends parts whole, or releases them
abbrev pub life_out : Bool → Life → List OutFrame
life_out whole l = held_out l.connection.held ++ (if whole && lives l then told_out l.connection (told_parts l.connection) else [])

abbrev pub lives_out : Bool → List Life → List OutFrame
lives_out whole [] = []
lives_out whole (l ∷ ls) = life_out whole l ++ lives_out whole ls

abbrev pub group_out : Play → List EntryLine → ℕ → List OutFrame
group_out p done g = map (out_at Desk) (waiting done g) ++ lives_out p.whole (group_after p done g).lives

abbrev pub groups_out : Play → List EntryLine → List ℕ → List OutFrame
groups_out p done [] = []
groups_out p done (g ∷ gs) = group_out p done g ++ groups_out p done gs

-- the groups from this one on
unfoldable pub groups_from : ℕ → List ℕ
groups_from g = range_with_len g (512 - g)

abbrev pub all_out : Play → List EntryLine → List OutFrame
all_out p done = groups_out p done all_groups

-- ## Counts by home and place
abbrev pub place_number : Place → ℕ
place_number Desk = 0
place_number Held = 1
place_number App = 2
place_number Queue = 3

abbrev pub is_out_at : List EntryLine → ℕ → Place → OutFrame → Bool
is_out_at entries core place o = place_number o.place == place_number place && is_at entries core o.w

abbrev pub count_out : List EntryLine → List OutFrame → ℕ → Place → ℕ
count_out entries outs core place = count_by (is_out_at entries core place) outs

abbrev pub is_home_of : List EntryLine → List OutFrame → ℕ → HomeLine → Bool
is_home_of entries outs core h =
    (h.desk == count_out entries outs core Desk && h.held == count_out entries outs core Held)
    && (h.app == count_out entries outs core App && h.queue == count_out entries outs core Queue)

abbrev pub are_homes_of : List EntryLine → List OutFrame → ℕ → List HomeLine → Bool
are_homes_of entries outs core [] = true
are_homes_of entries outs core (h ∷ hs) = is_home_of entries outs core h && are_homes_of entries outs (core + 1) hs

-- ## A settle
abbrev pub number_out : OutFrame → WireNo
number_out o = o.w

abbrev pub settle_fits : List EntryLine → List OutFrame → SettleLine → Bool
settle_fits entries outs s = are_homes_of entries outs 0 s.homes && are_apart (buffers_of entries (map number_out outs))

-- whether one of these is out in the place of this frame
abbrev pub is_same_frame : WireNo → OutFrame → Bool
is_same_frame w o = o.w.0 == w.0

abbrev pub stays_out : List EntryLine → List OutFrame → List EntryLine → OutFrame → Bool
stays_out entries now between o = not (list_any (is_same_frame o.w) now && is_printed (buffer_of entries o.w.0) between)

abbrev pub all_stay_out : List EntryLine → List OutFrame → List OutFrame → List EntryLine → Bool
all_stay_out entries before now between = list_all (stays_out entries now between) before
