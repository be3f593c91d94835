-- The connects of an application that pushes, each of a flow of its own.
use Rattle.std.proofs.Common.{◌≡◌, ℕ, ◌+◌, ◌<◌, ◌≤◌, refl, sym, ap, ◌∙◌, subst, Bool, true, false, List, [], ◌∷◌, ◌++◌, length, get_or, take, arith, append_assoc, append-nil, length-append, inl, inr}
use Rattle.std.specs.Prelude.{if◌then◌else◌, cond, ◌==◌, ◌&&◌, not, count_by, filter, Option, Some, None}
use Rattle.std.specs.List.{list_any}
use Rattle.std.proofs.lemmas.Bool.{and_parts, cases_eq, eqb-true, or_parts, or_from, false_from_ne_true}
use Rattle.std.proofs.lemmas.Bool.Decides.{nat_tests}
use Rattle.std.proofs.lemmas.List.{take_more, take_all, take-append-le, get_or_append_left}
use Rattle.std.proofs.lemmas.List.Elements.{filter_more}
use Rattle.std.proofs.lemmas.List.Folds.{list_any-append}
use Rattle.std.proofs.lemmas.List.Sums.{sum_by-append, sum_by-cons}
use Rattle.std.proofs.Math.Seq.{get_or-append_seam, take-append_seam}
use Rattle.ix_base.specs.declared.id.CoreId.{CoreId}
use Rattle.ix_base.specs.declared.id.Flow.{Flow}
use Rattle.ix_groupdef.specs.Flow.{same_flow}
use Rattle.ix_groupdef.specs.Life.{Life, lives, hears, given}
use Rattle.ix_groupdef.specs.Group.{Group, Connect, has_room, dialled, turn_of, connect_to, connect, connect_all, flow_of_connect, empty}
use Rattle.ix_groupdef.specs.Setting.{Setting, mac_of}
use Rattle.ix_playdef.specs.Connects.{port_behind, connect_behind, connects_from, flow_asked, same_asked, same_peer, AreApart}

-- ## Peer by peer
connects-push : (earlier ps : List (ℕ × ℕ)) (p : ℕ × ℕ) → connects_from earlier (ps ++ p ∷ []) ≡ connects_from earlier ps ++ connect_behind (earlier ++ ps) p ∷ []
connects-push earlier [] p = ap (λ es. connect_behind es p ∷ []) (sym (append-nil earlier))
connects-push earlier (q ∷ ps) p =
    ap (λ cs. connect_behind earlier q ∷ cs)
    (connects-push (earlier ++ q ∷ []) ps p ∙ ap (λ es. connects_from (earlier ++ q ∷ []) ps ++ connect_behind es p ∷ []) (append_assoc earlier (q ∷ []) ps))

pub connects-none : (peers : List (ℕ × ℕ)) → [] ≡ connects_from [] (take 0 peers)
connects-none peers = refl

pub connects-more : (peers : List (ℕ × ℕ)) (i : ℕ) (d : ℕ × ℕ) (cs after : List Connect) (c : Connect) → i < length peers
    → after ≡ cs ++ c ∷ [] → c ≡ connect_behind (take i peers) (get_or peers i d) → cs ≡ connects_from [] (take i peers)
    → after ≡ connects_from [] (take (i + 1) peers)
connects-more peers i d cs after c lt put is e =
    put
    ∙ ap (λ xs. xs ++ c ∷ []) e
    ∙ ap (λ x. connects_from [] (take i peers) ++ x ∷ []) is
    ∙ sym (connects-push [] (take i peers) (get_or peers i d))
    ∙ ap (connects_from []) (sym (take_more peers i d lt))

pub connects-all : (peers : List (ℕ × ℕ)) (i : ℕ) (cs : List Connect) → length peers ≤ i → cs ≡ connects_from [] (take i peers) → cs ≡ connects_from [] peers
connects-all peers i cs le e = e ∙ ap (connects_from []) (take_all i peers le)

-- ## Ports
-- a peer that comes again is counted
counted-again : (earlier later : List (ℕ × ℕ)) (p q : ℕ × ℕ) → same_peer p q ≡ true
    → count_by (same_peer p) (earlier ++ q ∷ later) ≡ count_by (same_peer p) earlier + (1 + count_by (same_peer p) later)
counted-again earlier later p q e =
    let one : (ℕ × ℕ) → ℕ = λ x. cond (same_peer p x) 1 0 in
    sum_by-append one earlier (q ∷ later)
    ∙ ap (λ n. count_by (same_peer p) earlier + n) (sum_by-cons one q later ∙ ap (λ (b : Bool). cond b 1 0 + count_by (same_peer p) later) e)

same-peers : (p q : ℕ × ℕ) → p.0 ≡ q.0 → p.1 ≡ q.1 → same_peer p q ≡ true
same-peers p q e f =
    let a : (p.0 == q.0) ≡ true = grind (arith, nat_tests) in
    let b : (p.1 == q.1) ≡ true = grind (arith, nat_tests) in
    ap (λ (x : Bool). x && (p.1 == q.1)) a ∙ b

other-port : (earlier later : List (ℕ × ℕ)) (p q : ℕ × ℕ) → p.0 ≡ q.0 → p.1 ≡ q.1 → port_behind (earlier ++ q ∷ later) p ≡ port_behind earlier q → ⊥
other-port earlier later p q e f same =
    let more : count_by (same_peer p) (earlier ++ q ∷ later) ≡ count_by (same_peer p) earlier + (1 + count_by (same_peer p) later) = counted-again earlier later p q (same-peers p q e f) in
    let pq : p ≡ q = ap (λ x. (x, p.1)) e ∙ ap (λ y. (q.0, y)) f in
    let counts : count_by (same_peer p) earlier ≡ count_by (same_peer q) earlier = ap (λ (r : ℕ × ℕ). count_by (same_peer r) earlier) pq in
    omega arith

-- what one flow has of another
record SameEnds (f g : Flow) : Type 0 where
  remote : f.remote ≡ g.remote
  remote_port : f.remote_port ≡ g.remote_port
  local_port : f.local_port ≡ g.local_port

same-ends : (f g : Flow) → same_flow f g ≡ true → SameEnds f g
same-ends f g e =
    let ports = and_parts ((f.remote == g.remote) && (f.local == g.local) && (f.remote_port == g.remote_port)) (f.local_port == g.local_port) e in
    let peers = and_parts ((f.remote == g.remote) && (f.local == g.local)) (f.remote_port == g.remote_port) ports.0 in
    let addresses = and_parts (f.remote == g.remote) (f.local == g.local) peers.0 in
    record { remote = eqb-true f.remote g.remote addresses.0; remote_port = eqb-true f.remote_port g.remote_port peers.1; local_port = eqb-true f.local_port g.local_port ports.1 }

-- A connect behind others asks for a flow that none of them asks for.
fresh-behind : (ip : ℕ) (earlier later : List (ℕ × ℕ)) (p : ℕ × ℕ) → list_any (same_asked ip (connect_behind (earlier ++ later) p)) (connects_from earlier later) ≡ false
fresh-behind ip earlier [] p = refl
fresh-behind ip earlier (q ∷ later) p =
    let here : same_asked ip (connect_behind (earlier ++ q ∷ later) p) (connect_behind earlier q) ≡ false =
    false_from_ne_true _ (λ e.
    let same : SameEnds (flow_asked ip (connect_behind (earlier ++ q ∷ later) p)) (flow_asked ip (connect_behind earlier q)) = same-ends _ _ e in
    other-port earlier later p q same.remote same.remote_port same.local_port) in
    or_from _ _ here
    (ap (λ es. list_any (same_asked ip (connect_behind es p)) (connects_from (earlier ++ q ∷ []) later)) (sym (append_assoc earlier (q ∷ []) later))
    ∙ fresh-behind ip (earlier ++ q ∷ []) later p)

apart-push : (ip : ℕ) (cs : List Connect) (c : Connect) → AreApart ip cs → list_any (same_asked ip c) cs ≡ false → AreApart ip (cs ++ c ∷ [])
apart-push ip cs c apart fresh =
    record {
      each = λ i d lt. elim (cases_eq i (length cs)) [
        | inl is ↦ rw is (ap (λ x. list_any (same_asked ip x) (take (length cs) (cs ++ c ∷ []))) (get_or-append_seam cs c [] d)
            ∙ ap (list_any (same_asked ip c)) (take-append_seam cs (c ∷ [])) ∙ fresh)
        | inr other ↦ (let less : i < length cs = omega (arith, length-append cs (c ∷ [])) in
            ap (λ x. list_any (same_asked ip x) (take i (cs ++ c ∷ []))) (get_or_append_left cs (c ∷ []) d i less)
            ∙ ap (list_any (same_asked ip (get_or cs i d))) (take-append-le i cs (c ∷ []) (omega arith))
            ∙ apart.each i d less)
      ];
    }

pub apart_none : (ip : ℕ) → AreApart ip []
apart_none ip = record { each = λ i d lt. absurd (omega arith) }

pub apart-more : (ip : ℕ) (earlier : List (ℕ × ℕ)) (p : ℕ × ℕ) (cs after : List Connect) (c : Connect)
    → after ≡ cs ++ c ∷ [] → c ≡ connect_behind earlier p → cs ≡ connects_from [] earlier → AreApart ip cs → AreApart ip after
apart-more ip earlier p cs after c put is e apart =
    subst (AreApart ip) (sym (put ∙ ap (λ x. cs ++ x ∷ []) is))
    (apart-push ip cs (connect_behind earlier p) apart (ap (list_any (same_asked ip (connect_behind earlier p))) e ∙ fresh-behind ip [] earlier p))

pub ruleset for_connects = (connects-none, connects-more, connects-all, apart_none, apart-more)

-- ## Who hears a flow was asked for
deaf-dialled : (env : Setting) (core : CoreId) (f flow : Flow) (mac : List ℕ) (clock : ℕ) → same_flow f flow ≡ false
    → hears f (dialled env (turn_of clock core None) flow mac) ≡ false
unfolding dialled given
deaf-dialled env core f flow mac clock d = ap (λ (a : Bool). a && lives (dialled env (turn_of clock core None) flow mac)) d

deaf-connect_to : (m : Option (List ℕ)) (env : Setting) (core : CoreId) (f flow : Flow) (g : Group) → same_flow f flow ≡ false → list_any (hears f) g.lives ≡ false
    → list_any (hears f) (connect_to m env core flow g).lives ≡ false
deaf-connect_to None env core f flow g d e = e
deaf-connect_to (Some mac) env core f flow g d e = by_test (has_room g.lives && not (list_any (hears flow) g.lives))
  where
    born : Life
    born = dialled env (turn_of g.clock core None) flow mac

    by_test : (b : Bool) → list_any (hears f) (if b then record g { lives = g.lives ++ born ∷ [] } else g).lives ≡ false
    by_test true = list_any-append (hears f) g.lives (born ∷ []) ∙ or_from _ _ e (or_from _ _ (deaf-dialled env core f flow mac g.clock d) refl)
    by_test false = e

deaf-connect : (env : Setting) (f : Flow) (c : Connect) (g : Group) → same_flow f (flow_of_connect env c) ≡ false → list_any (hears f) g.lives ≡ false
    → list_any (hears f) (connect env c g).lives ≡ false
unfolding connect
deaf-connect env f c g d e = deaf-connect_to (mac_of c.ip env.neighbours) env c.core f (flow_of_connect env c) g d e

deaf-connects : (env : Setting) (f : Flow) (cs : List Connect) (g : Group) → list_any (λ c. same_flow f (flow_of_connect env c)) cs ≡ false → list_any (hears f) g.lives ≡ false
    → list_any (hears f) (connect_all env cs g).lives ≡ false
deaf-connects env f [] g d e = e
deaf-connects env f (c ∷ cs) g d e =
    let parts = or_parts (same_flow f (flow_of_connect env c)) (list_any (λ c. same_flow f (flow_of_connect env c)) cs) d in
    deaf-connects env f cs (connect env c g) parts.1 (deaf-connect env f c g parts.0 e)

none-filter : (p q : Connect → Bool) (cs : List Connect) → list_any p cs ≡ false → list_any p (filter q cs) ≡ false
none-filter p q [] e = refl
none-filter p q (c ∷ cs) e =
    let parts = or_parts (p c) (list_any p cs) e in by_test (q c) parts.0 (none-filter p q cs parts.1)
  where
    by_test : (b : Bool) → p c ≡ false → list_any p (filter q cs) ≡ false → list_any p (cond b (c ∷ filter q cs) (filter q cs)) ≡ false
    by_test true d n = or_from _ _ d n
    by_test false d n = n

-- ## Connect by connect
-- No connection of a group hears the flow of the next connect.
pub free-next : (env : Setting) (q : Connect → Bool) (cs : List Connect) (i : ℕ) (c : Connect) (g : Group) → i < length cs → c ≡ get_or cs i c → AreApart env.local.ip cs
    → g ≡ connect_all env (filter q (take i cs)) empty → list_any (hears (flow_of_connect env c)) g.lives ≡ false
free-next env q cs i c g lt is apart e =
    ap (λ (x : Group). list_any (hears (flow_of_connect env c)) x.lives) e
    ∙ deaf-connects env (flow_of_connect env c) (filter q (take i cs)) empty
    (none-filter (same_asked env.local.ip c) q (take i cs)
    (ap (λ x. list_any (same_asked env.local.ip x) (take i cs)) is ∙ apart.each i c lt)) refl

pub made-none : (env : Setting) (q : Connect → Bool) (cs : List Connect) (g : Group) → g ≡ empty → g ≡ connect_all env (filter q (take 0 cs)) empty
made-none env q cs g e = e

pub made-more : (env : Setting) (q : Connect → Bool) (cs : List Connect) (i : ℕ) (c : Connect) (g : Group) → i < length cs → c ≡ get_or cs i c
    → g ≡ connect_all env (filter q (take i cs) ++ filter q (c ∷ [])) empty → g ≡ connect_all env (filter q (take (i + 1) cs)) empty
made-more env q cs i c g lt is e =
    e ∙ ap (λ xs. connect_all env xs empty)
    (ap (λ x. filter q (take i cs) ++ filter q (x ∷ [])) is ∙ sym (filter_more q cs i c lt))

pub made-all : (env : Setting) (q : Connect → Bool) (cs : List Connect) (i : ℕ) (g : Group) → length cs ≤ i
    → g ≡ connect_all env (filter q (take i cs)) empty → g ≡ connect_all env (filter q cs) empty
made-all env q cs i g le e = e ∙ ap (λ xs. connect_all env (filter q xs) empty) (take_all i cs le)

pub ruleset for_group = (free-next, made-none, made-more, made-all)

-- one connect, where its flow is of the group and where it is not
pub one-made : (env : Setting) (q : Connect → Bool) (asked : List Connect) (c : Connect) (g : Group) → q c ≡ true
    → g ≡ connect_all env (asked ++ c ∷ []) empty → g ≡ connect_all env (asked ++ filter q (c ∷ [])) empty
one-made env q asked c g passes e = e ∙ ap (λ (b : Bool). connect_all env (asked ++ cond b (c ∷ []) []) empty) (sym passes)

pub one-left : (env : Setting) (q : Connect → Bool) (asked : List Connect) (c : Connect) (g : Group) → q c ≡ false
    → g ≡ connect_all env asked empty → g ≡ connect_all env (asked ++ filter q (c ∷ [])) empty
one-left env q asked c g fails e =
    e ∙ ap (λ xs. connect_all env xs empty) (sym (append-nil asked)) ∙ ap (λ (b : Bool). connect_all env (asked ++ cond b (c ∷ []) []) empty) (sym fails)

pub ruleset for_one = (one-made, one-left)
