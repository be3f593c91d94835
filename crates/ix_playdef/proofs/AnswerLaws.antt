-- Each group has room for all connects of an application that pushes.
use Rattle.std.proofs.Common.{◌≡◌, ℕ, suc, ◌+◌, ◌<◌, ◌≤◌, refl, sym, ap, ◌∙◌, Bool, true, false, List, [], ◌∷◌, ◌++◌, length, map, arith, length-append}
use Rattle.std.specs.Prelude.{if◌then◌else◌, ◌&&◌, not, count_by, filter, Option, Some, None}
use Rattle.std.specs.List.{list_any}
use Rattle.std.proofs.lemmas.Bool.Decides.{nat_tests}
use Rattle.std.proofs.lemmas.List.Sums.{count_by-le-length, length-filter}
use Rattle.ix_base.specs.declared.id.CoreId.{CoreId}
use Rattle.ix_base.specs.declared.id.Flow.{Flow}
use Rattle.ix_base.specs.declared.segment.Ret.{Ret}
use Rattle.ix_base.specs.declared.segment.Ret.TheVariants as rets
use Rattle.ix_conf.specs.Settings.{Settings}
use Rattle.ix_groupdef.specs.declared.types.TheConstants.{LIMIT}
use Rattle.ix_groupdef.specs.Life.{Life, lives, hears}
use Rattle.ix_groupdef.specs.Group.{Group, Connect, has_room, dialled, turn_of, connect_to, connect, connect_all, flow_of_connect, answer_to_connect, empty}
use Rattle.ix_groupdef.specs.Setting.{Setting, mac_of}
use Rattle.ix_hash.specs.Group.{group_of_flow}
use Rattle.ix_playdef.specs.Connects.{connects_from, flow_asked, is_asked_in, answer_behind, answers_from, connect_answers, answer_with_room, answer_to_peer, answers_with_room}
use Rattle.ix_playdef.specs.Setting.{is_push, setting_of_play}

-- ## A connect makes at most one connection
grown : (m : Option (List ℕ)) (env : Setting) (core : CoreId) (flow : Flow) (g : Group) → length (connect_to m env core flow g).lives ≤ length g.lives + 1
grown None env core flow g = omega arith
grown (Some mac) env core flow g = by_test (has_room g.lives && not (list_any (hears flow) g.lives))
  where
    born : Life
    born = dialled env (turn_of g.clock core None) flow mac

    by_test : (b : Bool) → length (if b then record g { lives = g.lives ++ born ∷ [] } else g).lives ≤ length g.lives + 1
    by_test true = omega (arith, length-append g.lives (born ∷ []))
    by_test false = omega arith

grown-connect : (env : Setting) (c : Connect) (g : Group) → length (connect env c g).lives ≤ length g.lives + 1
unfolding connect
grown-connect env c g = grown (mac_of c.ip env.neighbours) env c.core (flow_of_connect env c) g

grown-connects : (env : Setting) (cs : List Connect) (g : Group) → length (connect_all env cs g).lives ≤ length g.lives + length cs
grown-connects env [] g = omega arith
grown-connects env (c ∷ cs) g = omega (arith, grown-connects env cs (connect env c g), grown-connect env c g)

-- ## Room
roomy : (ls : List Life) → length ls < 64 → has_room ls ≡ true
roomy ls lt = let few : count_by lives ls < LIMIT = omega (arith, count_by-le-length lives ls, lt) in grind (arith, nat_tests)

answered : (m : Option (List ℕ)) (ls : List Life) → has_room ls ≡ true → answer_to_connect m ls ≡ answer_with_room m
answered None ls room = refl
answered (Some mac) ls room = ap (λ (b : Bool). if b then rets.Done 0 else rets.TableFull) room

-- a connect behind fewer than 64
one-answered : (env : Setting) (earlier : List Connect) (c : Connect) → length earlier < 64 → answer_behind env earlier c ≡ answer_with_room (mac_of c.ip env.neighbours)
one-answered env earlier c lt =
    let of_its : Connect → Bool = is_asked_in env.local.ip (group_of_flow (flow_asked env.local.ip c)) in
    let ls : List Life = (connect_all env (filter of_its earlier) empty).lives in
    answered (mac_of c.ip env.neighbours) ls
    (roomy ls (omega (arith, grown-connects env (filter of_its earlier) empty, length-filter of_its earlier, count_by-le-length of_its earlier, lt)))

all-answered : (env : Setting) (earlier cs : List Connect) → length earlier + length cs ≤ 64
    → answers_from env earlier cs ≡ map (λ (c : Connect). answer_with_room (mac_of c.ip env.neighbours)) cs
all-answered env earlier [] le = refl
all-answered env earlier (c ∷ cs) le =
    ap (λ r. r ∷ answers_from env (earlier ++ c ∷ []) cs) (one-answered env earlier c (omega arith))
    ∙ ap (λ rs. answer_with_room (mac_of c.ip env.neighbours) ∷ rs) (all-answered env (earlier ++ c ∷ []) cs (omega (arith, length-append earlier (c ∷ []))))

-- ## Peer by peer
by-peers : (f : ℕ → Ret) (earlier peers : List (ℕ × ℕ)) → map (λ (c : Connect). f c.ip) (connects_from earlier peers) ≡ map (λ (p : ℕ × ℕ). f p.0) peers
by-peers f earlier [] = refl
by-peers f earlier (p ∷ peers) = ap (λ rs. f p.0 ∷ rs) (by-peers f (earlier ++ p ∷ []) peers)

length-connects : (earlier peers : List (ℕ × ℕ)) → length (connects_from earlier peers) ≡ length peers
length-connects earlier [] = refl
length-connects earlier (p ∷ peers) = ap suc (length-connects (earlier ++ p ∷ []) peers)

known : (s : Settings) (frames : List (List ℕ)) → length s.peers ≤ 64 → answers_with_room s ≡ connect_answers s frames
known s frames few = by_app (is_push s.app)
  where
    by_app : (b : Bool) → (if b then map (answer_to_peer s.neighbours) s.peers else []) ≡ answers_from (setting_of_play s frames) [] (if b then connects_from [] s.peers else [])
    by_app true =
        sym (all-answered (setting_of_play s frames) [] (connects_from [] s.peers) (omega (arith, length-connects [] s.peers, few))
        ∙ by-peers (λ ip. answer_with_room (mac_of ip s.neighbours)) [] s.peers)
    by_app false = refl

pub answers-known : (s : Settings) (frames : List (List ℕ)) (neighbours : List (ℕ × List ℕ)) (peers : List (ℕ × ℕ)) (answers : List Ret) → length s.peers ≤ 64
    → is_push s.app ≡ true → neighbours ≡ s.neighbours → peers ≡ s.peers → answers ≡ map (answer_to_peer neighbours) peers → answers ≡ connect_answers s frames
answers-known s frames neighbours peers answers few pushes same whole are =
    are
    ∙ ap (λ ns. map (answer_to_peer ns) peers) same
    ∙ ap (map (answer_to_peer s.neighbours)) whole
    ∙ ap (λ (b : Bool). if b then map (answer_to_peer s.neighbours) s.peers else []) (sym pushes)
    ∙ known s frames few
