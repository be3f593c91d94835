-- Which buffers are out at a settle, and where.
use Rattle.std.specs.Prelude.{ℕ, suc, ◌+◌, Bool, true, false, ◌==◌, not, ◌&&◌, ◌||◌, nat_lt, nat_le, if◌then◌else◌, List, [], ◌∷◌, ◌++◌, count_by, sum_by, Option, Some, None}
use Rattle.std.specs.List.{list_any, list_all, range_with_len}
use Rattle.ix_base.specs.declared.id.BufId.{BufId}
use Rattle.ix_base.specs.declared.id.CoreId.{CoreId}
use Rattle.ix_base.specs.declared.id.Owned.{Owned}
use Rattle.ix_base.specs.declared.id.TheConstants.{FLOW_GROUPS}
use Rattle.ix_base.specs.declared.id.WireNo.{WireNo}
use Rattle.ix_groupdef.specs.Calls.{is_empty}
use Rattle.ix_groupdef.specs.Group.{Group, Cycle, Frames, Time, Connect, last_number, run}
use Rattle.ix_groupdef.specs.Life.{Life, lives}
use Rattle.ix_groupdef.specs.Owners.{Ended, is_queued, is_with_app, owners_of, told_parts}
use Rattle.ix_groupdef.specs.Setting.{Setting}
use Rattle.ix_lines.specs.declared.types.EntryLine.{EntryLine}
use Rattle.ix_lines.specs.declared.types.EntryLine.TheVariants as lines
use Rattle.ix_lines.specs.declared.types.Fate.{Fate}
use Rattle.ix_lines.specs.declared.types.Fate.TheVariants as fates
use Rattle.ix_lines.specs.declared.types.HomeLine.{HomeLine}
use Rattle.ix_lines.specs.declared.types.SettleLine.{SettleLine}
use Rattle.ix_tcpdef.specs.declared.types.Connection.{Connection}
use Rattle.ix_tcpdef.specs.declared.types.HeldSegment.{HeldSegment}
use Rattle.ix_fits.specs.Card.{settles_after}
use Rattle.ix_fits.specs.Cutting.{reach}
use Rattle.ix_fits.specs.Journals.{buffer_of, buffer_of_line, is_buffer}

unfoldable pub all_groups : List ℕ
all_groups = range_with_len 0 FLOW_GROUPS

-- ## What runs
-- the setting, whether the application sends parts whole, all entries, and per group its connects and its cycles
pub record Play : Type 0 where
  pub env : Setting
  pub whole : Bool
  pub entries : List EntryLine
  pub asked : ℕ → List Connect
  pub cycles : ℕ → List Cycle

abbrev pub ends_below : ℕ → Option WireNo → Bool
ends_below n (Some w) = nat_lt w.0 n
ends_below n None = true

abbrev pub is_below : ℕ → Cycle → Bool
is_below n (Frames core ts) = ends_below n (last_number ts)
is_below n (Time core w t) = nat_lt w.0 n

-- the first cycles, whose entries have numbers below this
abbrev pub below : ℕ → List Cycle → List Cycle
below n [] = []
below n (c ∷ cs) = if is_below n c then c ∷ below n cs else []

-- a group once these first entries are carried out
abbrev pub group_after : Play → List EntryLine → ℕ → Group
group_after p done g = run p.env (p.asked g) (below (reach g done) (p.cycles g))

-- ## Which frames are out
-- behind an open tag: accepted frames of the group that are not stepped
abbrev pub is_accepted : Fate → Bool
is_accepted (fates.Buf b) = true
is_accepted (fates.RingFull n) = false
is_accepted (fates.NoBuffer n) = false
is_accepted (fates.TooLong n) = false

abbrev pub waits : ℕ → ℕ → ℕ → EntryLine → Bool
waits g reached w (lines.Frame rec at group ring fate) = (group.0 == g && is_accepted fate) && nat_le reached w
waits g reached w (lines.Time t) = false
waits g reached w (lines.Tag group) = false
waits g reached w (lines.Move group to) = false
waits g reached w lines.Settle = false

abbrev pub waiting_from : ℕ → ℕ → ℕ → List EntryLine → List WireNo
waiting_from g reached w [] = []
waiting_from g reached w (l ∷ ls) = (if waits g reached w l then record { 0 = w } ∷ [] else []) ++ waiting_from g reached (suc w) ls

abbrev pub waiting : List EntryLine → ℕ → List WireNo
waiting done g = waiting_from g (reach g done) 0 done

-- held, with the application, or queued
abbrev pub held_by : List HeldSegment → List WireNo
held_by [] = []
held_by (h ∷ hs) = h.w ∷ held_by hs

abbrev pub is_out : Connection → ℕ → Bool
is_out c end = is_with_app c end || is_queued c end

abbrev pub parts_out : Connection → List Ended → List WireNo
parts_out c [] = []
parts_out c (e ∷ es) = (if is_out c e.end then e.w ∷ [] else []) ++ parts_out c es

abbrev pub owned_by : Bool → List Life → List WireNo
owned_by whole [] = []
owned_by whole (l ∷ ls) = held_by l.connection.held ++ (if whole && lives l then parts_out l.connection (told_parts l.connection) else []) ++ owned_by whole ls

abbrev pub out_from : Play → List EntryLine → List ℕ → List WireNo
out_from p done [] = []
out_from p done (g ∷ gs) = waiting done g ++ owned_by p.whole (group_after p done g).lives ++ out_from p done gs

abbrev pub out_after : Play → List EntryLine → List WireNo
out_after p done = out_from p done all_groups

-- ## Counts by home
abbrev pub home_in : Option BufId → CoreId
home_in (Some b) = b.home
home_in None = record { 0 = 0 }

abbrev pub home_of : List EntryLine → WireNo → CoreId
home_of entries w = home_in (buffer_of entries w.0)

abbrev pub is_at : List EntryLine → ℕ → WireNo → Bool
is_at entries core w = (home_of entries w).0 == core

abbrev pub desk_at : Play → List EntryLine → ℕ → ℕ
desk_at p done core = sum_by (λ g. count_by (is_at p.entries core) (waiting done g)) all_groups

abbrev pub owners_in : Play → List EntryLine → ℕ → ℕ → Owned
owners_in p done core g = owners_of p.whole (home_of p.entries) (record { 0 = core }) (group_after p done g)

abbrev pub held_at : Play → List EntryLine → ℕ → ℕ
held_at p done core = sum_by (λ g. (owners_in p done core g).held) all_groups

abbrev pub app_at : Play → List EntryLine → ℕ → ℕ
app_at p done core = sum_by (λ g. (owners_in p done core g).app) all_groups

abbrev pub queue_at : Play → List EntryLine → ℕ → ℕ
queue_at p done core = sum_by (λ g. (owners_in p done core g).queue) all_groups

-- ## The lines of a settle
abbrev pub is_home : Play → List EntryLine → ℕ → HomeLine → Bool
is_home p done core h =
    (h.desk == desk_at p done core && h.held == held_at p done core) && (h.app == app_at p done core && h.queue == queue_at p done core)

abbrev pub are_homes : Play → List EntryLine → ℕ → List HomeLine → Bool
are_homes p done core [] = true
are_homes p done core (h ∷ hs) = is_home p done core h && are_homes p done (core + 1) hs

-- No two of these frames have one buffer.
abbrev pub same_buffer : Option BufId → Option BufId → Bool
same_buffer None b = false
same_buffer (Some a) b = is_buffer a b

abbrev pub are_apart : List (Option BufId) → Bool
are_apart [] = true
are_apart (b ∷ bs) = not (list_any (same_buffer b) bs) && are_apart bs

abbrev pub buffers_of : List EntryLine → List WireNo → List (Option BufId)
buffers_of entries [] = []
buffers_of entries (w ∷ ws) = buffer_of entries w.0 ∷ buffers_of entries ws

-- a settle, once these entries are carried out
abbrev pub is_settle_of : Play → List EntryLine → SettleLine → Bool
is_settle_of p done s = are_homes p done 0 s.homes && are_apart (buffers_of p.entries (out_after p done))

-- ## From one settle to the next
-- An id that is out at two settles in a row for the same frame is printed in no entry between them.
abbrev pub is_among : List WireNo → WireNo → Bool
is_among ws w = list_any (λ (v : WireNo). v.0 == w.0) ws

abbrev pub is_printed : Option BufId → List EntryLine → Bool
is_printed b between = list_any (λ l. same_buffer (buffer_of_line l) b) between

abbrev pub stays : Play → List WireNo → List EntryLine → WireNo → Bool
stays p now between w = not (is_among now w && is_printed (buffer_of p.entries w.0) between)

abbrev pub all_stay : Play → List WireNo → List WireNo → List EntryLine → Bool
all_stay p before now between = list_all (stays p now between) before

abbrev pub settles_here : Play → List WireNo → List EntryLine → List EntryLine → EntryLine → List SettleLine → Bool
settles_here p before between done lines.Settle [] = false
settles_here p before between done lines.Settle (s ∷ ss) = is_settle_of p done s && all_stay p before (out_after p done) between
settles_here p before between done _ ss = true

-- what was out at the last settle, and the entries since, behind an entry
abbrev pub out_before : Play → List WireNo → List EntryLine → EntryLine → List WireNo
out_before p before done lines.Settle = out_after p done
out_before p before done _ = before

abbrev pub between_after : List EntryLine → EntryLine → List EntryLine
between_after between lines.Settle = []
between_after between l = between ++ l ∷ []

-- the settles among the entries that are still to come, where `done` are carried out, the last of them, `between`, since a settle at which
-- the frames `before` were out
abbrev pub are_settles : Play → List WireNo → List EntryLine → List EntryLine → List EntryLine → List SettleLine → Bool
are_settles p before between done [] ss = is_empty ss
are_settles p before between done (l ∷ ls) ss =
    settles_here p before between done l ss
    && are_settles p (out_before p before done l) (between_after between l) (done ++ l ∷ []) ls (settles_after l ss)

-- all, from that before the first entry on
abbrev pub all_settles : Play → List SettleLine → Bool
all_settles p [] = false
all_settles p (s ∷ ss) = is_settle_of p [] s && are_settles p (out_after p []) [] [] p.entries ss
