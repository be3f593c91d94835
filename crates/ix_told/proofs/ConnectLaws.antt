-- The connects of an application that pushes, one by one.
use Rattle.std.proofs.Common.{◌≡◌, ℕ, suc, ◌+◌, ◌-◌, ◌<◌, ◌≤◌, refl, sym, ap, ◌∙◌, Bool, true, false, List, [], ◌∷◌, ◌++◌, length, take, drop, get_or, arith, append_assoc, append-nil}
use Rattle.std.specs.Prelude.{if◌then◌else◌, cond, ◌&&◌, not, filter, Option, Some, None}
use Rattle.std.specs.List.{list_any}
use Rattle.std.proofs.lemmas.List.{drop_more, drop_all, take_all}
use Rattle.std.proofs.lemmas.List.Elements.{filter_more}
use Rattle.ix_base.specs.declared.id.CoreId.{CoreId}
use Rattle.ix_base.specs.declared.id.Flow.{Flow}
use Rattle.ix_groupdef.specs.Group.{Group, Connect, connect, connect_all, connect_to, dialled, empty, flow_of_connect, has_room, turn_of}
use Rattle.ix_groupdef.specs.Life.{hears}
use Rattle.ix_groupdef.specs.Setting.{Setting, mac_of}
use Rattle.ix_lines.specs.declared.types.ConnectLine.{ConnectLine}
use Rattle.ix_lines.specs.declared.types.ConnectLine.TheVariants as answers
use Rattle.ix_fits.specs.Connects.{answer_behind, answer_by, answers_from, asked_behind, asked_by, asked_from, connect_by, free_port, group_asked, last_port, lives_behind, port_behind}

-- ## One connect
heard-to : (m : Option (List ℕ)) (env : Setting) (core : CoreId) (flow : Flow) (g : Group) → list_any (hears flow) g.lives ≡ true → connect_to m env core flow g ≡ g
heard-to None env core flow g e = refl
heard-to (Some mac) env core flow g e =
    by_test (record g { lives = g.lives ++ dialled env (turn_of g.clock core None) flow mac ∷ [] }) (has_room g.lives) (list_any (hears flow) g.lives) e
  where
    by_test : (h : Group) (a b : Bool) → b ≡ true → (if a && not b then h else g) ≡ g
    by_test h true true same = refl
    by_test h false true same = refl
    by_test h a false same = absurd (cc)

heard-connect : (env : Setting) (c : Connect) (g : Group) → list_any (hears (flow_of_connect env c)) g.lives ≡ true → connect env c g ≡ g
unfolding connect
heard-connect env c g e = heard-to (mac_of c.ip env.neighbours) env c.core (flow_of_connect env c) g e

connect_all-push : (env : Setting) (asked : List Connect) (c : Connect) (g : Group) → connect_all env (asked ++ c ∷ []) g ≡ connect env c (connect_all env asked g)
connect_all-push env [] c g = refl
connect_all-push env (d ∷ asked) c g = connect_all-push env asked c (connect env d g)

-- one whose flow has a connection makes nothing
pub heard-one : (env : Setting) (asked : List Connect) (c : Connect) (g : Group) → list_any (hears (flow_of_connect env c)) g.lives ≡ true
    → g ≡ connect_all env asked empty → g ≡ connect_all env (asked ++ c ∷ []) empty
heard-one env asked c g heard e =
    sym (heard-connect env c g heard) ∙ ap (connect env c) e ∙ sym (connect_all-push env asked c empty)

pub ruleset for_one = (heard-one)

-- where its flow is of the group, and where it is not
pub one-made : (env : Setting) (q : Connect → Bool) (asked : List Connect) (c : Connect) (g : Group) → q c ≡ true
    → g ≡ connect_all env (asked ++ c ∷ []) empty → g ≡ connect_all env (asked ++ filter q (c ∷ [])) empty
one-made env q asked c g passes e = e ∙ ap (λ (b : Bool). connect_all env (asked ++ cond b (c ∷ []) []) empty) (sym passes)

pub one-left : (env : Setting) (q : Connect → Bool) (asked : List Connect) (c : Connect) (g : Group) → q c ≡ false
    → g ≡ connect_all env asked empty → g ≡ connect_all env (asked ++ filter q (c ∷ [])) empty
one-left env q asked c g fails e =
    e ∙ ap (λ xs. connect_all env xs empty) (sym (append-nil asked)) ∙ ap (λ (b : Bool). connect_all env (asked ++ cond b (c ∷ []) []) empty) (sym fails)

pub ruleset for_filters = (one-made, one-left)

-- ## Connect by connect
pub made-none : (env : Setting) (q : Connect → Bool) (cs : List Connect) (g : Group) → g ≡ empty → g ≡ connect_all env (filter q (take 0 cs)) empty
made-none env q cs g e = e

pub made-more : (env : Setting) (q : Connect → Bool) (cs : List Connect) (i : ℕ) (c : Connect) (g : Group) → i < length cs → c ≡ get_or cs i c
    → g ≡ connect_all env (filter q (take i cs) ++ filter q (c ∷ [])) empty → g ≡ connect_all env (filter q (take (i + 1) cs)) empty
made-more env q cs i c g lt is e =
    e ∙ ap (λ xs. connect_all env xs empty)
    (ap (λ x. filter q (take i cs) ++ filter q (x ∷ [])) is ∙ sym (filter_more q cs i c lt))

pub made-all : (env : Setting) (q : Connect → Bool) (cs : List Connect) (i : ℕ) (g : Group) → length cs ≤ i
    → g ≡ connect_all env (filter q (take i cs)) empty → g ≡ connect_all env (filter q cs) empty
made-all env q cs i g le e = e ∙ ap (λ xs. connect_all env (filter q xs) empty) (take_all i cs le)

pub ruleset for_group = (made-none, made-more, made-all)

-- ## Port by port
pub port-next : (free : ℕ → Bool) (p : ℕ) → p < last_port + 1 → free p ≡ false → free_port free p (last_port + 1 - p) ≡ free_port free (p + 1) (last_port + 1 - (p + 1))
unfolding free_port
port-next free p lt taken =
    let n : ℕ = last_port + 1 - (p + 1) in
    let more : last_port + 1 - p ≡ suc n = omega (arith, lt) in
    ap (free_port free p) more ∙ ap (λ (b : Bool). if b then Some p else free_port free (p + 1) n) taken

pub port-here : (free : ℕ → Bool) (p : ℕ) → p < last_port + 1 → free p ≡ true → free_port free p (last_port + 1 - p) ≡ Some p
unfolding free_port
port-here free p lt unused =
    let n : ℕ = last_port + 1 - (p + 1) in
    let more : last_port + 1 - p ≡ suc n = omega (arith, lt) in
    ap (free_port free p) more ∙ ap (λ (b : Bool). if b then Some p else free_port free (p + 1) n) unused

pub port-none : (free : ℕ → Bool) (p : ℕ) → last_port + 1 ≤ p → free_port free p (last_port + 1 - p) ≡ None
unfolding free_port
port-none free p le = let none : last_port + 1 - p ≡ 0 = omega (arith, le) in ap (free_port free p) none

pub ruleset for_ports = (port-next, port-here, port-none)

-- ## Peer by peer
pub asked-nobody : (env : Setting) (live : ℕ) (earlier : List Connect) (peer : ℕ × ℕ) → mac_of peer.0 env.neighbours ≡ None → asked_behind env live earlier peer ≡ []
asked-nobody env live earlier peer e = ap (λ (m : Option (List ℕ)). asked_by m peer (port_behind env live earlier peer)) e

pub answer-nobody : (env : Setting) (live : ℕ) (earlier : List Connect) (peer : ℕ × ℕ) → mac_of peer.0 env.neighbours ≡ None → answer_behind env live earlier peer ≡ answers.NoNeighbour
answer-nobody env live earlier peer e =
    ap (λ (m : Option (List ℕ)). answer_by m (port_behind env live earlier peer) (λ port. lives_behind env earlier (group_asked env peer port))) e

pub asked-nowhere : (env : Setting) (live : ℕ) (earlier : List Connect) (peer : ℕ × ℕ) (mac : List ℕ) → mac_of peer.0 env.neighbours ≡ Some mac → port_behind env live earlier peer ≡ None
    → asked_behind env live earlier peer ≡ []
asked-nowhere env live earlier peer mac e f =
    ap (λ (m : Option (List ℕ)). asked_by m peer (port_behind env live earlier peer)) e ∙ ap (asked_by (Some mac) peer) f

pub answer-nowhere : (env : Setting) (live : ℕ) (earlier : List Connect) (peer : ℕ × ℕ) (mac : List ℕ) → mac_of peer.0 env.neighbours ≡ Some mac → port_behind env live earlier peer ≡ None
    → answer_behind env live earlier peer ≡ answers.NoPort
answer-nowhere env live earlier peer mac e f =
    ap (λ (m : Option (List ℕ)). answer_by m (port_behind env live earlier peer) (λ port. lives_behind env earlier (group_asked env peer port))) e
    ∙ ap (λ (p : Option ℕ). answer_by (Some mac) p (λ port. lives_behind env earlier (group_asked env peer port))) f

pub asked-one : (env : Setting) (live : ℕ) (earlier : List Connect) (peer : ℕ × ℕ) (mac : List ℕ) (port : ℕ) → mac_of peer.0 env.neighbours ≡ Some mac → port_behind env live earlier peer ≡ Some port
    → asked_behind env live earlier peer ≡ connect_by peer port ∷ []
asked-one env live earlier peer mac port e f =
    ap (λ (m : Option (List ℕ)). asked_by m peer (port_behind env live earlier peer)) e ∙ ap (asked_by (Some mac) peer) f

pub answer-one : (env : Setting) (live : ℕ) (earlier : List Connect) (peer : ℕ × ℕ) (mac : List ℕ) (port : ℕ) → mac_of peer.0 env.neighbours ≡ Some mac → port_behind env live earlier peer ≡ Some port
    → answer_behind env live earlier peer ≡ (if has_room (lives_behind env earlier (group_asked env peer port)) then answers.Done else answers.TableFull)
answer-one env live earlier peer mac port e f =
    ap (λ (m : Option (List ℕ)). answer_by m (port_behind env live earlier peer) (λ p. lives_behind env earlier (group_asked env peer p))) e
    ∙ ap (λ (o : Option ℕ). answer_by (Some mac) o (λ p. lives_behind env earlier (group_asked env peer p))) f

pub ruleset for_peer = (asked-nobody, answer-nobody, asked-nowhere, answer-nowhere, asked-one, answer-one, append-nil)

pub asked-next : (env : Setting) (live : ℕ) (peers : List (ℕ × ℕ)) (i : ℕ) (d : ℕ × ℕ) (asked more : List Connect) → i < length peers → more ≡ asked ++ asked_behind env live asked (get_or peers i d)
    → asked ++ asked_from env live asked (drop i peers) ≡ more ++ asked_from env live more (drop (i + 1) peers)
asked-next env live peers i d asked more lt put =
    let here : List Connect = asked_behind env live asked (get_or peers i d) in
    ap (λ ps. asked ++ asked_from env live asked ps) (drop_more peers i d lt)
    ∙ sym (append_assoc asked here (asked_from env live (asked ++ here) (drop (i + 1) peers)))
    ∙ ap (λ (cs : List Connect). cs ++ asked_from env live cs (drop (i + 1) peers)) (sym put)

pub asked-end : (env : Setting) (live : ℕ) (peers : List (ℕ × ℕ)) (i : ℕ) (asked : List Connect) → length peers ≤ i → asked ++ asked_from env live asked (drop i peers) ≡ asked
asked-end env live peers i asked le = ap (λ ps. asked ++ asked_from env live asked ps) (drop_all i peers le) ∙ append-nil asked

pub answers-next : (env : Setting) (live : ℕ) (peers : List (ℕ × ℕ)) (i : ℕ) (d : ℕ × ℕ) (asked more : List Connect) (given later : List ConnectLine) → i < length peers
    → more ≡ asked ++ asked_behind env live asked (get_or peers i d) → later ≡ given ++ answer_behind env live asked (get_or peers i d) ∷ []
    → given ++ answers_from env live asked (drop i peers) ≡ later ++ answers_from env live more (drop (i + 1) peers)
answers-next env live peers i d asked more given later lt put told =
    let p : ℕ × ℕ = get_or peers i d in
    let rest : List (ℕ × ℕ) = drop (i + 1) peers in
    ap (λ ps. given ++ answers_from env live asked ps) (drop_more peers i d lt)
    ∙ sym (append_assoc given (answer_behind env live asked p ∷ []) (answers_from env live (asked ++ asked_behind env live asked p) rest))
    ∙ ap (λ (ls : List ConnectLine). ls ++ answers_from env live (asked ++ asked_behind env live asked p) rest) (sym told)
    ∙ ap (λ (cs : List Connect). later ++ answers_from env live cs rest) (sym put)

pub answers-end : (env : Setting) (live : ℕ) (peers : List (ℕ × ℕ)) (i : ℕ) (asked : List Connect) (given : List ConnectLine) → length peers ≤ i
    → given ++ answers_from env live asked (drop i peers) ≡ given
answers-end env live peers i asked given le = ap (λ ps. given ++ answers_from env live asked ps) (drop_all i peers le) ∙ append-nil given

pub ruleset for_peers = (asked-next, asked-end, answers-next, answers-end)
