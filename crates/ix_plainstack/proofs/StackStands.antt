-- What the calls of a stack make of the cutting that it stands for.
use Rattle.std.proofs.Common.{◌≡◌, ℕ, refl, sym, ap, ◌∙◌, subst, Bool, true, false, List, [], ◌∷◌, ◌++◌, arith}
use Rattle.std.specs.Prelude.{if◌then◌else◌, ◌&&◌, ◌==◌, not, Option, Some, None}
use Rattle.std.specs.List.{flat_map, list_any}
use Rattle.std.proofs.lemmas.Bool.Decides.{nat_tests}
use Rattle.ix_base.specs.declared.id.CoreId.{CoreId}
use Rattle.ix_base.specs.declared.id.Flow.{Flow}
use Rattle.ix_base.specs.declared.id.WireNo.{WireNo}
use Rattle.ix_appdef.specs.Answers.{NothingFirst}
use Rattle.ix_tcpdef.specs.Calls.{called}
use Rattle.ix_tcpdef.specs.Opening.{connecting}
use Rattle.ix_tcpdef.specs.Step.{step, stepped}
use Rattle.ix_groupdef.specs.declared.types.Turn.{Turn}
use Rattle.ix_groupdef.specs.Env.{setting_of}
use Rattle.ix_groupdef.specs.Setting.{Setting, mac_of}
use Rattle.ix_groupdef.specs.Life.{Life, lives, given, hears}
use Rattle.ix_groupdef.specs.Group.{Group, Connect, dialled, has_room, connect_to, connect, connect_all, flow_of_connect, turn_of, empty}
use Rattle.ix_groupdef.specs.Owners.{ended_from, sends_parts, is_with_app, is_queued}
use Rattle.ix_tcpdef.specs.declared.types.Connection.{Connection}
use Rattle.ix_plainstack.specs.Numbers.{numbers_where, held_by, parts_by, held_numbers, app_numbers, queue_numbers}
use Rattle.ix_plainstack.specs.Batches.{batches, cycles_of}
use Rattle.ix_plainstack.specs.Owning.{IsReached}
use Rattle.ix_plainstack.specs.Stack.{Stack, connect_of, connected_from}
use Rattle.ix_plainstack.specs.Standing.{StandsFor, Stands, StandsOn, StandsFirst, ConnectsStand, StepsStand, DrainsStand}

pub stands_first : StandsFirst
stands_first whole env name = record { group = refl; held = refl; app = refl; queue = refl; named = tt }

-- ## A step
pub steps_stand : NothingFirst → StandsOn → StepsStand
steps_stand nothing on env name asked cs core items x y a rise named s =
    let reached : IsReached (setting_of env) x.owning.group = record { asked = asked; cs = cs; is = s.group } in
    subst (λ o. StandsFor (sends_parts env.app) (setting_of env) name asked (cs ++ cycles_of (record { 0 = core }) (batches items)) o) (sym (a.owning reached))
    (on (sends_parts env.app) (setting_of env) (nothing env.app) name asked cs (record { 0 = core }) (batches items) x.owning s rise named)

pub drains_stand : DrainsStand
drains_stand env name asked cs bufs x y d s =
    subst (λ (t : Stack). Stands env name asked cs t) (sym d.rest) (record { group = s.group; held = s.held; app = s.app; queue = s.queue; named = s.named })

-- ## A connect
connect_all-push : (env : Setting) (asked : List Connect) (c : Connect) (g : Group) → connect_all env (asked ++ c ∷ []) g ≡ connect env c (connect_all env asked g)
connect_all-push env [] c g = refl
connect_all-push env (d ∷ asked) c g = connect_all-push env asked c (connect env d g)

-- a connection that is asked for has no buffers
held-dialled : (env : Setting) (turn : Turn) (flow : Flow) (mac : List ℕ) → held_by (dialled env turn flow mac) ≡ []
unfolding dialled given step stepped called connecting
held-dialled env turn flow mac = refl

fresh-dialled : (env : Setting) (turn : Turn) (flow : Flow) (mac : List ℕ) → (dialled env turn flow mac).connection.accepted ≡ false
unfolding dialled given step stepped called connecting
fresh-dialled env turn flow mac = refl

no-parts : (counts : Connection → ℕ → Bool) (whole : Bool) (l : Life) → l.connection.accepted ≡ false → parts_by counts whole l ≡ []
no-parts counts whole l e = by_case (whole && lives l)
  where
    by_case : (b : Bool) → (if b then numbers_where (counts l.connection) (ended_from 0 (if l.connection.accepted then l.connection.pieces else [])) else []) ≡ []
    by_case true = ap (λ a. numbers_where (counts l.connection) (ended_from 0 (if a then l.connection.pieces else []))) e
    by_case false = refl

flat-push : (f : Life → List WireNo) (ls : List Life) (l : Life) → f l ≡ [] → flat_map f (ls ++ l ∷ []) ≡ flat_map f ls
flat-push f [] l e = ap (λ ns. ns ++ []) e
flat-push f (x ∷ ls) l e = ap (λ ns. f x ++ ns) (flat-push f ls l e)

record SameNumbers (whole : Bool) (ls ms : List Life) : Type 0 where
  held : held_numbers ms ≡ held_numbers ls
  app : app_numbers whole ms ≡ app_numbers whole ls
  queue : queue_numbers whole ms ≡ queue_numbers whole ls

same-dialled : (whole : Bool) (env : Setting) (turn : Turn) (flow : Flow) (mac : List ℕ) (ls : List Life) → SameNumbers whole ls (ls ++ dialled env turn flow mac ∷ [])
same-dialled whole env turn flow mac ls =
    record {
      held = flat-push held_by ls (dialled env turn flow mac) (held-dialled env turn flow mac);
      app = flat-push (parts_by is_with_app whole) ls (dialled env turn flow mac) (no-parts is_with_app whole (dialled env turn flow mac) (fresh-dialled env turn flow mac));
      queue = flat-push (parts_by is_queued whole) ls (dialled env turn flow mac) (no-parts is_queued whole (dialled env turn flow mac) (fresh-dialled env turn flow mac));
    }

same-if : (whole b : Bool) (ls : List Life) (g h : Group) → SameNumbers whole ls g.lives → SameNumbers whole ls h.lives → SameNumbers whole ls (if b then g else h).lives
same-if whole true ls g h p q = p
same-if whole false ls g h p q = q

same-connect_to : (whole : Bool) (env : Setting) (m : Option (List ℕ)) (core : CoreId) (flow : Flow) (g : Group) → SameNumbers whole g.lives (connect_to m env core flow g).lives
same-connect_to whole env None core flow g = record { held = refl; app = refl; queue = refl }
same-connect_to whole env (Some mac) core flow g =
    same-if whole (has_room g.lives && not (list_any (hears flow) g.lives)) g.lives _ _ (same-dialled whole env (turn_of g.clock core None) flow mac g.lives) (record { held = refl; app = refl; queue = refl })

same-connect : (whole : Bool) (env : Setting) (c : Connect) (g : Group) → SameNumbers whole g.lives (connect env c g).lives
unfolding connect
same-connect whole env c g = same-connect_to whole env (mac_of c.ip env.neighbours) c.core (flow_of_connect env c) g

pub connects_stand : ConnectsStand
connects_stand env name asked core flow ret x y ours c s =
    let e : Setting = setting_of env in
    let k : Connect = connect_of core flow in
    let here : (flow.local == env.local.ip) ≡ true = grind (arith, nat_tests) in
    let is : y ≡ record x { owning = record x.owning { group = connect e k x.owning.group } } =
    c.rest ∙ ap (λ b. record x { owning = record x.owning { group = connected_from b env core flow x.owning.group } }) here in
    let n = same-connect (sends_parts env.app) e k x.owning.group in
    subst (λ (t : Stack). Stands env name (asked ++ connect_of core flow ∷ []) [] t) (sym is)
    (record {
      group = ap (connect e k) s.group ∙ sym (connect_all-push e asked k empty);
      held = s.held ∙ sym n.held;
      app = s.app ∙ sym n.app;
      queue = s.queue ∙ sym n.queue;
      named = s.named;
    })
