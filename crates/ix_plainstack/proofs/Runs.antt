-- What each connection keeps, each connection of a run keeps.
use Rattle.std.proofs.Common.{ℕ, Bool, true, false, List, [], ◌∷◌, ◌++◌, map}
use Rattle.std.specs.Prelude.{if◌then◌else◌, ◌&&◌, not, Result, Ok, Err, Option, Some, None}
use Rattle.std.specs.List.{AllByRecursion, list_any}
use Rattle.ix_base.specs.declared.frame.Disposition.{Disposition}
use Rattle.ix_base.specs.declared.id.CoreId.{CoreId}
use Rattle.ix_base.specs.declared.id.Flow.{Flow}
use Rattle.ix_base.specs.declared.id.WireNo.{WireNo}
use Rattle.ix_base.specs.declared.segment.Seg.{Seg}
use Rattle.ix_groupdef.specs.declared.types.Taken.{Taken}
use Rattle.ix_groupdef.specs.declared.types.Turn.{Turn}
use Rattle.ix_groupdef.specs.Setting.{Setting, mac_of}
use Rattle.ix_groupdef.specs.Life.{Life, hears}
use Rattle.ix_groupdef.specs.Strays.{asks_to_open}
use Rattle.ix_groupdef.specs.Group.{Group, heard, opened, dialled, has_room, read_of, take_segment, take_as, take_frame, take_frames, closed, end_cycle, Cycle, Frames, Time, run_cycle, run_cycles, Connect, connect_to, connect, connect_all, flow_of_connect, turn_of, empty, run}

pub each-append : (P : Life → Type 0) (xs ys : List Life) → AllByRecursion P xs → AllByRecursion P ys → AllByRecursion P (xs ++ ys)
each-append P [] ys p q = q
each-append P (x ∷ xs) ys p q = (p.0, each-append P xs ys p.1 q)

pub each-map : (P : Life → Type 0) (f : Life → Life) → ((l : Life) → P l → P (f l)) → (xs : List Life) → AllByRecursion P xs → AllByRecursion P (map f xs)
each-map P f k [] p = tt
each-map P f k (x ∷ xs) p = (k x p.0, each-map P f k xs p.1)

pub by_test : (P : Group → Type 0) (b : Bool) (x y : Group) → P x → P y → P (if b then x else y)
by_test P true x y p q = p
by_test P false x y p q = q

-- ## Kept at each event of one connection
pub record IsKept (env : Setting) (P : Life → Type 0) : Type 0 where
  pub opened : (turn : Turn) (w : WireNo) (s : Seg) → P (opened env turn w s)
  pub dialled : (turn : Turn) (flow : Flow) (mac : List ℕ) → P (dialled env turn flow mac)
  pub heard : (turn : Turn) (w : WireNo) (s : Seg) (l : Life) → P l → P (heard turn w s l)
  pub closed : (timed : Bool) (turn : Turn) (l : Life) → P l → P (closed env timed turn l)

module _ (env : Setting) (P : Life → Type 0) (k : IsKept env P) where
  each-take_segment : (turn : Turn) (w : WireNo) (s : Seg) (g : Group) → AllByRecursion P g.lives → AllByRecursion P (take_segment env turn w s g).lives
  unfolding take_segment
  each-take_segment turn w s g p =
      by_test (λ g. AllByRecursion P g.lives) (list_any (hears s.head.flow) g.lives) _ _
      (each-map P (heard turn w s) (k.heard turn w s) g.lives p)
      (by_test (λ g. AllByRecursion P g.lives) (asks_to_open env s.head && has_room g.lives) _ _ (each-append P g.lives _ p (k.opened turn w s, tt)) p)

  each-take_as : (r : Result Seg Disposition) (turn : Turn) (t : Taken) (g : Group) → AllByRecursion P g.lives → AllByRecursion P (take_as r env turn t g).lives
  each-take_as (Ok s) turn t g p = each-take_segment turn t.w s g p
  each-take_as (Err kind) turn t g p = p

  each-connect_to : (m : Option (List ℕ)) (core : CoreId) (flow : Flow) (g : Group) → AllByRecursion P g.lives → AllByRecursion P (connect_to m env core flow g).lives
  each-connect_to None core flow g p = p
  each-connect_to (Some mac) core flow g p =
      by_test (λ g. AllByRecursion P g.lives) (has_room g.lives && not (list_any (hears flow) g.lives)) _ _
      (each-append P g.lives _ p (k.dialled (turn_of g.clock core None) flow mac, tt)) p

-- ## What the whole group keeps
pub record GroupKeeps (env : Setting) (P : Group → Type 0) : Type 0 where
  pub connected : (m : Option (List ℕ)) (core : CoreId) (flow : Flow) (g : Group) → P g → P (connect_to m env core flow g)
  pub taken : (r : Result Seg Disposition) (turn : Turn) (t : Taken) (g : Group) → P g → P (take_as r env turn t g)
  pub clocked : (t : ℕ) (g : Group) → P g → P (record g { clock = t })
  pub closed : (timed : Bool) (turn : Turn) (g : Group) → P g → P (end_cycle env timed turn g)

module _ (env : Setting) (P : Group → Type 0) (k : GroupKeeps env P) where
  group-take_frames : (turn : Turn) (ts : List Taken) (g : Group) → P g → P (take_frames env turn ts g)
  group-take_frames turn [] g p = p
  group-take_frames turn (t ∷ ts) g p = group-take_frames turn ts (take_frame env turn t g) (k.taken (read_of env t.frame) turn t g p)

  group-run_cycle : (c : Cycle) (g : Group) → P g → P (run_cycle env c g)
  unfolding run_cycle
  group-run_cycle (Frames core ts) g p = k.closed false _ _ (group-take_frames _ ts g p)
  group-run_cycle (Time core w t) g p = k.closed true _ _ (k.clocked _ g p)

  pub group-run_cycles : (cs : List Cycle) (g : Group) → P g → P (run_cycles env cs g)
  group-run_cycles [] g p = p
  group-run_cycles (c ∷ cs) g p = group-run_cycles cs (run_cycle env c g) (group-run_cycle c g p)

  pub group-connect_all : (asked : List Connect) (g : Group) → P g → P (connect_all env asked g)
  unfolding connect
  group-connect_all [] g p = p
  group-connect_all (c ∷ cs) g p =
      group-connect_all cs (connect env c g) (k.connected (mac_of c.ip env.neighbours) c.core (flow_of_connect env c) g p)

  pub group-run : (asked : List Connect) (cs : List Cycle) → P empty → P (run env asked cs)
  group-run asked cs p = group-run_cycles cs (connect_all env asked empty) (group-connect_all asked empty p)

-- what each connection keeps, each connection of the group keeps
pub each-run : (env : Setting) (P : Life → Type 0) → IsKept env P → (asked : List Connect) (cs : List Cycle) → AllByRecursion P (run env asked cs).lives
each-run env P k asked cs =
    group-run env (λ g. AllByRecursion P g.lives)
    (record {
      connected = each-connect_to env P k;
      taken = each-take_as env P k;
      clocked = λ t g p. p;
      closed = λ timed turn g p. each-map P (closed env timed turn) (k.closed timed turn) g.lives p;
    })
    asked cs tt
