-- Each entry of a journal has what its line tells.
use Rattle.std.proofs.Common.{ℕ, zero, suc, ◌-◌, ◌<◌, sym, subst, arith, Bool, true, false, List, [], ◌∷◌, ◌++◌, length}
use Rattle.std.specs.Prelude.{◌&&◌, if◌then◌else◌, not, Result, Ok, Err, Option, Some, None, option_map}
use Rattle.std.specs.List.{AllByRecursion, list_any}
use Rattle.std.proofs.lemmas.Option.{slice_get-get_or}
use Rattle.ix_base.specs.declared.frame.Disposition.{Disposition}
use Rattle.ix_base.specs.declared.id.CoreId.{CoreId}
use Rattle.ix_base.specs.declared.id.Flow.{Flow}
use Rattle.ix_base.specs.declared.id.WireNo.{WireNo}
use Rattle.ix_base.specs.declared.segment.Seg.{Seg}
use Rattle.ix_tcpdef.specs.Flush.{is_due}
use Rattle.ix_tcpdef.specs.declared.types.Ask.TheVariants as asks
use Rattle.ix_tcpdef.specs.declared.types.Input.{Input}
use Rattle.ix_tcpdef.specs.declared.types.Input.TheVariants as inputs
use Rattle.ix_groupdef.specs.declared.types.JournalEntry.{JournalEntry}
use Rattle.ix_groupdef.specs.declared.types.Taken.{Taken}
use Rattle.ix_groupdef.specs.declared.types.Turn.{Turn}
use Rattle.ix_groupdef.specs.Setting.{Setting, mac_of}
use Rattle.ix_groupdef.specs.Life.{Life, hears, given, given_all, core_of, entry_of, outputs_of}
use Rattle.ix_groupdef.specs.Calls.{calls_of, is_empty, round, rounds}
use Rattle.ix_groupdef.specs.Strays.{asks_to_open}
use Rattle.ix_groupdef.specs.Group.{Group, heard, opened, dialled, has_room, read_of, take_segment, take_as, take_frame, take_frames, timer, closed, number_of, last_number, turn_of, Cycle, Frames, Time, run_cycle, run_cycles, Connect, connect_to, connect, connect_all, flow_of_connect, empty}
use Rattle.ix_groupdef.specs.Whole.{HasCore, HasEnd, AreWhole, HasEntry, JournalsAreWhole}
use Rattle.ix_groupdef.proofs.Keeps.{each-append, each-map, by_test, by_test_life, kept-heard, kept-round}

abbrev Whole : Life → Type 0
Whole l = AreWhole l.journal l.ends

-- ## One input
whole-push : (es : List JournalEntry) (ends : List (Option WireNo)) (e : JournalEntry) (end : Option WireNo)
    → AreWhole es ends → HasCore e.input e.core → HasEnd e.input end → AreWhole (es ++ e ∷ []) (ends ++ end ∷ [])
whole-push [] [] e end w c h = (c, h, tt)
whole-push [] (y ∷ ends) e end w c h = absurd w
whole-push (x ∷ es) [] e end w c h = absurd w
whole-push (x ∷ es) (y ∷ ends) e end w c h = (w.0, w.1, whole-push es ends e end w.2 c h)

its-core : (i : Input) (core : CoreId) → HasCore i (core_of i core)
its-core (inputs.Segment w s) core = tt
its-core inputs.Timer core = tt
its-core (inputs.Call ask) core = tt
its-core inputs.Flush core = tt

whole-given : (turn : Turn) (i : Input) (l : Life) → HasEnd i turn.end → Whole l → Whole (given turn i l)
unfolding given
whole-given turn i l h w = whole-push l.journal l.ends (entry_of turn i (outputs_of turn i l)) turn.end w (its-core i turn.core) h

-- ## The end of a cycle that has an entry
module _ (env : Setting) (turn : Turn) (ends : HasEnd inputs.Flush turn.end) where
  whole-round : (l : Life) → Whole l → Whole (round env turn l)
  whole-round l w = kept-round Whole (λ t a m v. whole-given t (inputs.Call a) m tt v) env turn l w

  whole-rounds : (n : ℕ) (l : Life) → Whole l → Whole (rounds env turn n l)
  unfolding rounds
  whole-rounds zero l w = w
  whole-rounds (suc n) l w = by_test_life Whole (is_empty (calls_of env l)) _ _ (whole-round l w) (whole-rounds n (round env turn l) (whole-round l w))

  whole-if : (b : Bool) (i : Input) (l : Life) → HasEnd i turn.end → Whole l → Whole (given_all turn (if b then i ∷ [] else []) l)
  whole-if true i l h w = whole-given turn i l h w
  whole-if false i l h w = w

  whole-closed : (timed : Bool) (l : Life) → Whole l → Whole (closed env timed turn l)
  unfolding closed
  whole-closed timed l w =
      let a : Life = given_all turn (timer timed turn l) l in
      let b : Life = rounds env turn 4 a in
      let first : Whole a = whole-if (timed && is_due l.connection.deadline turn.clock) inputs.Timer l tt w in
      let called : Whole b = whole-rounds 4 a first in
      whole-if b.touched inputs.Flush b ends called

-- ## Frames and connects
abbrev AllWhole : Group → Type 0
AllWhole g = AllByRecursion Whole g.lives

module _ (env : Setting) where
  whole-opened : (turn : Turn) (w : WireNo) (s : Seg) → Whole (opened env turn w s)
  unfolding opened
  whole-opened turn w s = whole-given turn (inputs.Segment w s) _ tt tt

  whole-dialled : (turn : Turn) (flow : Flow) (mac : List ℕ) → Whole (dialled env turn flow mac)
  unfolding dialled
  whole-dialled turn flow mac = whole-given turn (inputs.Call asks.Connect) _ tt tt

  whole-segment : (turn : Turn) (w : WireNo) (s : Seg) (g : Group) → AllWhole g → AllWhole (take_segment env turn w s g)
  unfolding take_segment
  whole-segment turn w s g p =
      by_test AllWhole (list_any (hears s.head.flow) g.lives) _ _
      (each-map Whole (heard turn w s) (kept-heard Whole (λ t v z l q. whole-given t (inputs.Segment v z) l tt q) turn w s) g.lives p)
      (by_test AllWhole (asks_to_open env s.head && has_room g.lives) _ _ (each-append Whole g.lives _ p (whole-opened turn w s, tt)) p)

  whole-as : (r : Result Seg Disposition) (turn : Turn) (t : Taken) (g : Group) → AllWhole g → AllWhole (take_as r env turn t g)
  whole-as (Ok s) turn t g p = whole-segment turn t.w s g p
  whole-as (Err kind) turn t g p = p

  whole-frames : (turn : Turn) (ts : List Taken) (g : Group) → AllWhole g → AllWhole (take_frames env turn ts g)
  whole-frames turn [] g p = p
  whole-frames turn (t ∷ ts) g p = whole-frames turn ts (take_frame env turn t g) (whole-as (read_of env t.frame) turn t g p)

  whole-connect_to : (m : Option (List ℕ)) (core : CoreId) (flow : Flow) (g : Group) → AllWhole g → AllWhole (connect_to m env core flow g)
  whole-connect_to None core flow g p = p
  whole-connect_to (Some mac) core flow g p =
      by_test AllWhole (has_room g.lives && not (list_any (hears flow) g.lives)) _ _
      (each-append Whole g.lives _ p (whole-dialled (turn_of g.clock core None) flow mac, tt)) p

  whole-connects : (asked : List Connect) (g : Group) → AllWhole g → AllWhole (connect_all env asked g)
  unfolding connect
  whole-connects [] g p = p
  whole-connects (c ∷ cs) g p =
      whole-connects cs (connect env c g) (whole-connect_to (mac_of c.ip env.neighbours) c.core (flow_of_connect env c) g p)

  -- ## Cycles
  last-ends : (ts : List Taken) → 0 < length ts → HasEnd inputs.Flush (last_number ts)
  last-ends [] h = absurd (omega arith)
  last-ends (t ∷ ts) h =
      subst (λ (o : Option Taken). HasEnd inputs.Flush (option_map number_of o))
      (sym (slice_get-get_or (t ∷ ts) (length (t ∷ ts) - 1) t (omega arith))) tt

  whole-cycle : (c : Cycle) (g : Group) → HasEntry c → AllWhole g → AllWhole (run_cycle env c g)
  unfolding run_cycle
  whole-cycle (Frames core ts) g h p =
      let turn : Turn = turn_of g.clock core (last_number ts) in
      each-map Whole (closed env false turn) (whole-closed env turn (last-ends ts h) false) _ (whole-frames turn ts g p)
  whole-cycle (Time core w t) g h p = each-map Whole (closed env true _) (whole-closed env _ tt true) _ p

  whole-cycles : (cs : List Cycle) (g : Group) → AllByRecursion HasEntry cs → AllWhole g → AllWhole (run_cycles env cs g)
  whole-cycles [] g h p = p
  whole-cycles (c ∷ cs) g h p = whole-cycles cs (run_cycle env c g) h.1 (whole-cycle c g h.0 p)

pub journals_are_whole : JournalsAreWhole
journals_are_whole env asked cs h = whole-cycles env cs (connect_all env asked empty) h (whole-connects env asked empty tt)
