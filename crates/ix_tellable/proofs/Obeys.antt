-- Each connection of a group obeys the group's configuration.
use Rattle.std.proofs.Common.{◌≡◌, ℕ, zero, suc, refl, ◌∙◌, Bool, true, false, List, [], ◌∷◌, ◌++◌, map}
use Rattle.std.specs.Prelude.{if◌then◌else◌, ◌&&◌, not, Result, Ok, Err, Option, Some, None}
use Rattle.std.specs.List.{AllByRecursion, list_any}
use Rattle.ix_base.specs.declared.frame.Disposition.{Disposition}
use Rattle.ix_base.specs.declared.id.CoreId.{CoreId}
use Rattle.ix_base.specs.declared.id.Flow.{Flow}
use Rattle.ix_base.specs.declared.id.WireNo.{WireNo}
use Rattle.ix_base.specs.declared.segment.Seg.{Seg}
use Rattle.ix_groupdef.specs.declared.types.Taken.{Taken}
use Rattle.ix_groupdef.specs.declared.types.Turn.{Turn}
use Rattle.ix_groupdef.specs.Calls.{begun, calls_of, is_empty, round, rounds}
use Rattle.ix_groupdef.specs.Group.{Connect, Cycle, Frames, Group, Time, closed, connect, connect_all, connect_to, dialled, empty, flow_of_connect, flush_of, has_room, heard, opened, read_of, run, run_cycle, run_cycles, take_as, take_frame, take_frames, take_segment, timer}
use Rattle.ix_groupdef.specs.Life.{Life, given, given_all, hears}
use Rattle.ix_groupdef.specs.Setting.{Setting, mac_of}
use Rattle.ix_groupdef.specs.Strays.{asks_to_open}
use Rattle.ix_tcpdef.specs.declared.types.Cfg.{Cfg}
use Rattle.ix_tcpdef.specs.declared.types.Input.{Input}

by_test : {A : Type 0} (P : A → Type 0) (b : Bool) (x y : A) → P x → P y → P (if b then x else y)
by_test P true x y p q = p
by_test P false x y p q = q

-- ## Inputs leave the configuration
cfg-given : (turn : Turn) (i : Input) (l : Life) → (given turn i l).cfg ≡ l.cfg
unfolding given
cfg-given turn i l = refl

cfg-given_all : (turn : Turn) (is : List Input) (l : Life) → (given_all turn is l).cfg ≡ l.cfg
cfg-given_all turn [] l = refl
cfg-given_all turn (i ∷ is) l = cfg-given_all turn is (given turn i l) ∙ cfg-given turn i l

cfg-round : (env : Setting) (turn : Turn) (l : Life) → (round env turn l).cfg ≡ l.cfg
unfolding round
cfg-round env turn l = cfg-given_all turn (calls_of env l) (begun env l)

cfg-rounds : (env : Setting) (turn : Turn) (n : ℕ) (l : Life) → (rounds env turn n l).cfg ≡ l.cfg
unfolding rounds
cfg-rounds env turn zero l = refl
cfg-rounds env turn (suc n) l =
    by_test (λ (m : Life). m.cfg ≡ l.cfg) (is_empty (calls_of env l)) (round env turn l) (rounds env turn n (round env turn l))
    (cfg-round env turn l) (cfg-rounds env turn n (round env turn l) ∙ cfg-round env turn l)

cfg-closed : (env : Setting) (timed : Bool) (turn : Turn) (l : Life) → (closed env timed turn l).cfg ≡ l.cfg
unfolding closed
cfg-closed env timed turn l =
    let first : Life = given_all turn (timer timed turn l) l in
    let a : Life = rounds env turn 4 first in
    cfg-given_all turn (flush_of a) a ∙ cfg-rounds env turn 4 first ∙ cfg-given_all turn (timer timed turn l) l

-- ## Each connection of a group
abbrev pub Obeys : Cfg → Life → Type 0
Obeys cfg l = l.cfg ≡ cfg

obey-append : (cfg : Cfg) (xs ys : List Life) → AllByRecursion (Obeys cfg) xs → AllByRecursion (Obeys cfg) ys → AllByRecursion (Obeys cfg) (xs ++ ys)
obey-append cfg [] ys p q = q
obey-append cfg (x ∷ xs) ys p q = (p.0, obey-append cfg xs ys p.1 q)

obey-map : (cfg : Cfg) (f : Life → Life) → ((l : Life) → (f l).cfg ≡ l.cfg) → (xs : List Life) → AllByRecursion (Obeys cfg) xs → AllByRecursion (Obeys cfg) (map f xs)
obey-map cfg f same [] p = tt
obey-map cfg f same (x ∷ xs) p = (same x ∙ p.0, obey-map cfg f same xs p.1)

cfg-heard : (turn : Turn) (w : WireNo) (s : Seg) (l : Life) → (heard turn w s l).cfg ≡ l.cfg
unfolding heard
cfg-heard turn w s l = by_test (λ (m : Life). m.cfg ≡ l.cfg) (hears s.head.flow l) _ l (cfg-given turn _ l) refl

cfg-opened : (env : Setting) (turn : Turn) (w : WireNo) (s : Seg) → (opened env turn w s).cfg ≡ env.cfg
unfolding opened
cfg-opened env turn w s = cfg-given turn _ _

cfg-dialled : (env : Setting) (turn : Turn) (flow : Flow) (mac : List ℕ) → (dialled env turn flow mac).cfg ≡ env.cfg
unfolding dialled
cfg-dialled env turn flow mac = cfg-given turn _ _

abbrev AllObey : Setting → Group → Type 0
AllObey env g = AllByRecursion (Obeys env.cfg) g.lives

obey-segment : (env : Setting) (turn : Turn) (w : WireNo) (s : Seg) (g : Group) → AllObey env g → AllObey env (take_segment env turn w s g)
unfolding take_segment
obey-segment env turn w s g p =
    by_test (AllObey env) (list_any (hears s.head.flow) g.lives) _ _
    (obey-map env.cfg (heard turn w s) (cfg-heard turn w s) g.lives p)
    (by_test (AllObey env) (asks_to_open env s.head && has_room g.lives) _ _
    (obey-append env.cfg g.lives (opened env turn w s ∷ []) p (cfg-opened env turn w s, tt)) p)

obey-as : (env : Setting) (r : Result Seg Disposition) (turn : Turn) (t : Taken) (g : Group) → AllObey env g → AllObey env (take_as r env turn t g)
obey-as env (Ok s) turn t g p = obey-segment env turn t.w s g p
obey-as env (Err kind) turn t g p = p

obey-frames : (env : Setting) (turn : Turn) (ts : List Taken) (g : Group) → AllObey env g → AllObey env (take_frames env turn ts g)
obey-frames env turn [] g p = p
obey-frames env turn (t ∷ ts) g p = obey-frames env turn ts (take_frame env turn t g) (obey-as env (read_of env t.frame) turn t g p)

obey-cycle : (env : Setting) (c : Cycle) (g : Group) → AllObey env g → AllObey env (run_cycle env c g)
unfolding run_cycle
obey-cycle env (Frames core ts) g p = obey-map env.cfg _ (cfg-closed env false _) _ (obey-frames env _ ts g p)
obey-cycle env (Time core w t) g p = obey-map env.cfg _ (cfg-closed env true _) g.lives p

obey-cycles : (env : Setting) (cs : List Cycle) (g : Group) → AllObey env g → AllObey env (run_cycles env cs g)
obey-cycles env [] g p = p
obey-cycles env (c ∷ cs) g p = obey-cycles env cs (run_cycle env c g) (obey-cycle env c g p)

obey-connect_to : (env : Setting) (o : Option (List ℕ)) (core : CoreId) (flow : Flow) (g : Group) → AllObey env g → AllObey env (connect_to o env core flow g)
obey-connect_to env None core flow g p = p
obey-connect_to env (Some mac) core flow g p =
    by_test (AllObey env) (has_room g.lives && not (list_any (hears flow) g.lives)) _ g (obey-append env.cfg g.lives (dialled env _ flow mac ∷ []) p (cfg-dialled env _ flow mac, tt)) p

obey-connect : (env : Setting) (c : Connect) (g : Group) → AllObey env g → AllObey env (connect env c g)
unfolding connect
obey-connect env c g p = obey-connect_to env (mac_of c.ip env.neighbours) c.core (flow_of_connect env c) g p

obey-connects : (env : Setting) (asked : List Connect) (g : Group) → AllObey env g → AllObey env (connect_all env asked g)
obey-connects env [] g p = p
obey-connects env (c ∷ asked) g p = obey-connects env asked (connect env c g) (obey-connect env c g p)

pub all_obey : (env : Setting) (asked : List Connect) (cs : List Cycle) → AllByRecursion (Obeys env.cfg) (run env asked cs).lives
all_obey env asked cs = obey-cycles env cs (connect_all env asked empty) (obey-connects env asked empty tt)
