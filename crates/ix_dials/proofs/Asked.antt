-- One connect, and many.
use Rattle.std.proofs.Common.{◌≡◌, ◌≢◌, ◌<◌, ◌+◌, ℕ, suc, List, [], ◌∷◌, ◌++◌, length, Bool, true, false, None, Some, refl, ap, sym, subst, ◌∙◌, inl, inr, append_assoc, append-nil, arith, eq-eqb, length-set, get_or-set_same, get_or-set_other}
use Rattle.std.specs.Prelude.{◌==◌, ◌&&◌, not, if◌then◌else◌, Option, filter, is_some}
use Rattle.std.specs.List.{list_any}
use Rattle.std.proofs.lemmas.Bool.{and_parts, cases_eq, eqb-true}
use Rattle.std.proofs.lemmas.Bool.Decides.{nat_tests}
use Rattle.std.proofs.lemmas.List.Elements.{filter-append}
use Rattle.std.proofs.lemmas.Nat.{mod_below}
use Rattle.ix_base.specs.Branches.{if_true, if_false}
use Rattle.ix_base.specs.declared.id.Flow.{Flow}
use Rattle.ix_base.specs.declared.id.TheConstants.{FLOW_GROUPS}
use Rattle.ix_base.specs.declared.id.WireNo.{WireNo}
use Rattle.ix_base.specs.declared.segment.Ret.{Ret}
use Rattle.ix_base.specs.declared.segment.Ret.TheVariants as rets
use Rattle.ix_mbuf.specs.declared.name.Name.{Name}
use Rattle.ix_desk.specs.Desks.{group_at, with_group}
use Rattle.ix_desk.specs.Groups.{at_home, changed, empty, unit_of}
use Rattle.ix_desk.specs.Views.{Group, View}
use Rattle.ix_stack.specs.declared.work.Work.{Work}
use Rattle.ix_core.specs.Connecting.{Connects, ConnectsAt, FirstFree, NoneFree, Opens, is_free_in, no_neighbour, no_port, opened}
use Rattle.ix_core.specs.Connecting as core
use Rattle.ix_appdef.specs.declared.application.Application.{Application}
use Rattle.ix_groupdef.specs.declared.env.Env.{Env}
use Rattle.ix_groupdef.specs.Env.{setting_of}
use Rattle.ix_groupdef.specs.Group.{Connect, Group as AGroup, answer_to_connect, has_room}
use Rattle.ix_groupdef.specs.Life.{Life, hears}
use Rattle.ix_groupdef.specs.Setting.{mac_of}
use Rattle.ix_hash.specs.Group.{group_of_flow, hash_of_flow}
use Rattle.ix_lines.specs.declared.types.ConnectLine.{ConnectLine}
use Rattle.ix_lines.specs.declared.types.ConnectLine.TheVariants as lines
use Rattle.ix_playdef.specs.Connects.{is_asked_in}
use Rattle.ix_plainstack.specs.Stack.{Stack, answer_from, connect_of, empty_stack, flow_to, holds_flow}
use Rattle.ix_plainstack.specs.Stack as stacks
use Rattle.ix_plainstack.specs.Standing.{ConnectsStand, Stands, StandsFirst}
use Rattle.ix_reta.specs.Table.{opening_core}
use Rattle.ix_fits.specs.Connects.{answer_behind, answer_by, asked_behind, asked_by, asked_from, connect_by, group_asked, is_free, lives_behind, port_behind}
use Rattle.ix_dials.specs.Dials.{AreDialed, Dials, DialsAreAsked, HasHomes, StackConnects, StackCore, StandAtFirst, StandFor, connect_line}
use Rattle.ix_dials.proofs.Ports.{first-is, none-is}

pub stand_at_first : StandsFirst → StandAtFirst
stand_at_first first env name live = record {
  stands = λ g lt. first _ (setting_of env) name;
  steps = λ g lt. refl;
  elsewhere = λ g lt other. refl;
}

group-below : (flow : Flow) → group_of_flow flow < FLOW_GROUPS
group-below flow = mod_below (hash_of_flow flow) FLOW_GROUPS (omega arith)

same-either : (a b : ℕ) → (a == b) ≡ (b == a)
same-either a b = grind (arith, nat_tests)

-- ## Which ports are free
free-by : (flow : Flow) (u : Stack) (ls : List Life) (t s : Bool) → t ≡ s → u.owning.group.lives ≡ ls
    → is_free_in holds_flow flow (unit_of (let x : Group Stack Work = (if t then at_home u else empty) in x)) ≡ (s && not (list_any (hears flow) ls))
free-by flow u ls true true e same = ap (λ (k : List Life). not (list_any (hears flow) k)) same
free-by flow u ls false false e same = refl
free-by flow u ls true false e same = absurd (cc)
free-by flow u ls false true e same = absurd (cc)

module _ (env : Env Application) (name : WireNo → Name) (live : ℕ) (earlier : List Connect) (unit : ℕ → Stack) (stand : StandFor env name live earlier unit) where
  lives-are : (g : ℕ) → g < FLOW_GROUPS → (unit g).owning.group.lives ≡ lives_behind (setting_of env) earlier g
  lives-are g lt = ap (λ o. o.lives) (stand.stands g lt).group

  free-same : (peer : ℕ × ℕ) (port : ℕ) (v : View Stack Work) → HasHomes live 0 unit v
      → core.is_free holds_flow v (flow_to env peer.0 peer.1 port) ≡ is_free (setting_of env) live earlier peer port
  unfolding is_free
  free-same peer port v homes =
      let flow : Flow = flow_to env peer.0 peer.1 port in
      let g : ℕ = group_of_flow flow in
      let lt : g < FLOW_GROUPS = group-below flow in
      ap (λ (x : Group Stack Work). is_free_in holds_flow flow (unit_of x)) (homes.home g lt)
      ∙ free-by flow (unit g) (lives_behind (setting_of env) earlier g) (0 == (opening_core live g).0) ((opening_core live g).0 == 0) (same-either 0 (opening_core live g).0) (lives-are g lt)

  port-found : (peer : ℕ × ℕ) (v : View Stack Work) → HasHomes live 0 unit v → (flow : Flow) (f : FirstFree (core.is_free holds_flow v) (flow_to env peer.0 peer.1) flow)
      → port_behind (setting_of env) live earlier peer ≡ Some (49152 + f.step)
  port-found peer v homes flow f =
      first-is (is_free (setting_of env) live earlier peer) 49152 16384 f.step f.within
      (sym (free-same peer (49152 + f.step) v homes) ∙ subst (λ (x : Flow). core.is_free holds_flow v x ≡ true) f.its_port f.free)
      (λ k lt. sym (free-same peer (49152 + k) v homes) ∙ f.before k lt)

  port-none : (peer : ℕ × ℕ) (v : View Stack Work) → HasHomes live 0 unit v → NoneFree (core.is_free holds_flow v) (flow_to env peer.0 peer.1)
      → port_behind (setting_of env) live earlier peer ≡ None
  port-none peer v homes none =
      none-is (is_free (setting_of env) live earlier peer) 49152 16384 (λ k lt. sym (free-same peer (49152 + k) v homes) ∙ none.none k lt)

  -- the flow's group is at home on core 0
  home-there : (peer : ℕ × ℕ) (port : ℕ) → is_free (setting_of env) live earlier peer port ≡ true → (opening_core live (group_asked (setting_of env) peer port)).0 ≡ 0
  unfolding is_free
  home-there peer port free = eqb-true (opening_core live (group_asked (setting_of env) peer port)).0 0 (and_parts _ _ free).0

-- ## One connect
pub record IsDialed (env : Env Application) (name : WireNo → Name) (live : ℕ) (earlier : List Connect) (peer : ℕ × ℕ) (ret : Ret) (unit : ℕ → Stack) (x y : StackCore) : Type 0 where
  pub now : ℕ → Stack
  pub stand : StandFor env name live (earlier ++ asked_behind (setting_of env) live earlier peer) now
  pub homes : HasHomes live 0 now y.desks
  pub others : (g : ℕ) → g < FLOW_GROUPS → ((opening_core live g).0 ≡ 0 → ⊥) → now g ≡ unit g
  pub told : connect_line ret ≡ answer_behind (setting_of env) live earlier peer
  pub rest : y ≡ record x { desks = y.desks }

none-some : (o : Option (List ℕ)) → is_some o ≡ false → o ≡ None
none-some None e = refl
none-some (Some m) e = absurd (cc)

-- nothing is asked for
idle : (env : Env Application) (name : WireNo → Name) (live : ℕ) (earlier : List Connect) (peer : ℕ × ℕ) (ret : Ret) (unit : ℕ → Stack) (x y : StackCore) → StandFor env name live earlier unit
    → HasHomes live 0 unit x.desks → asked_behind (setting_of env) live earlier peer ≡ [] → connect_line ret ≡ answer_behind (setting_of env) live earlier peer → y ≡ x
    → IsDialed env name live earlier peer ret unit x y
idle env name live earlier peer ret unit x y stand homes none told same = record {
  now = unit;
  stand = subst (λ (asked : List Connect). StandFor env name live asked unit) (sym (ap (λ (more : List Connect). earlier ++ more) none ∙ append-nil earlier)) stand;
  homes = subst (λ (z : StackCore). HasHomes live 0 unit z.desks) (sym same) homes;
  others = λ g lt other. refl;
  told = told;
  rest = subst (λ (z : StackCore). z ≡ record x { desks = z.desks }) (sym same) refl;
}

asked-one : (o : Option (List ℕ)) (peer : ℕ × ℕ) (port : ℕ) (p : Option ℕ) → is_some o ≡ true → p ≡ Some port → asked_by o peer p ≡ connect_by peer port ∷ []
asked-one None peer port p e f = absurd (cc)
asked-one (Some m) peer port p e f = ap (asked_by (Some m) peer) f

asked-none : (o : Option (List ℕ)) (peer : ℕ × ℕ) (p : Option ℕ) → p ≡ None → asked_by o peer p ≡ []
asked-none None peer p f = refl
asked-none (Some m) peer p f = ap (asked_by (Some m) peer) f

answer-none : (o : Option (List ℕ)) (p : Option ℕ) (lives : ℕ → List Life) → is_some o ≡ true → p ≡ None → answer_by o p lives ≡ lines.NoPort
answer-none None p lives e f = absurd (cc)
answer-none (Some m) p lives e f = ap (λ (q : Option ℕ). answer_by (Some m) q lives) f

told-by : (b : Bool) → connect_line (let r : Ret = (if b then rets.Done 0 else rets.TableFull) in r) ≡ (if b then lines.Done else lines.TableFull)
told-by true = refl
told-by false = refl

answer-one : (o : Option (List ℕ)) (port : ℕ) (p : Option ℕ) (lives : ℕ → List Life) (ret : Ret) → is_some o ≡ true → p ≡ Some port → ret ≡ answer_to_connect o (lives port)
    → connect_line ret ≡ answer_by o p lives
answer-one None port p lives ret e f is = absurd (cc)
answer-one (Some m) port p lives ret e f is = ap connect_line is ∙ told-by (has_room (lives port)) ∙ sym (ap (λ (q : Option ℕ). answer_by (Some m) q lives) f)

answer-ours : (env : Env Application) (flow : Flow) (g : AGroup) → flow.local ≡ env.local.ip → answer_from (flow.local == env.local.ip) env flow g ≡ answer_to_connect (mac_of flow.remote env.neighbours) g.lives
answer-ours env flow g is = if_true (flow.local == env.local.ip) (answer_to_connect (mac_of flow.remote env.neighbours) g.lives) rets.NoNeighbour (eq-eqb flow.local env.local.ip is)

-- the stack of a group that is at home
changed-home : (u v : Stack) → (let x : Group Stack Work = at_home u in changed x v) ≡ at_home v
unfolding changed
changed-home u v = refl

asked-here : (ip g : ℕ) (c : Connect) (cs : List Connect) → is_asked_in ip g c ≡ true → filter (is_asked_in ip g) (cs ++ c ∷ []) ≡ filter (is_asked_in ip g) cs ++ c ∷ []
asked-here ip g c cs is =
    filter-append (is_asked_in ip g) cs (c ∷ []) ∙ ap (λ (more : List Connect). filter (is_asked_in ip g) cs ++ more) (if_true (is_asked_in ip g c) (c ∷ []) [] is)

asked-there : (ip g : ℕ) (c : Connect) (cs : List Connect) → is_asked_in ip g c ≡ false → filter (is_asked_in ip g) (cs ++ c ∷ []) ≡ filter (is_asked_in ip g) cs
asked-there ip g c cs is =
    filter-append (is_asked_in ip g) cs (c ∷ []) ∙ ap (λ (more : List Connect). filter (is_asked_in ip g) cs ++ more) (if_false (is_asked_in ip g c) (c ∷ []) [] is)
    ∙ append-nil (filter (is_asked_in ip g) cs)

module _ (stands : ConnectsStand) (env : Env Application) (name : WireNo → Name) (live : ℕ) (earlier : List Connect) (peer : ℕ × ℕ) (port : ℕ) (ret : Ret) (unit : ℕ → Stack) (x y : StackCore)
    (zero_core : x.pool.home.0 ≡ 0) (stand : StandFor env name live earlier unit) (homes : HasHomes live 0 unit x.desks)
    (home : (opening_core live (group_of_flow (flow_to env peer.0 peer.1 port))).0 ≡ 0) where
  abbrev flow : Flow
  flow = flow_to env peer.0 peer.1 port

  abbrev g : ℕ
  g = group_of_flow (flow_to env peer.0 peer.1 port)

  below : g < FLOW_GROUPS
  below = group-below (flow_to env peer.0 peer.1 port)

  at-home : group_at x.desks g ≡ at_home (unit g)
  at-home = homes.home g below ∙ if_true (0 == (opening_core live g).0) (at_home (unit g)) empty (eq-eqb 0 (opening_core live g).0 (sym home))

  -- the group's stack as the connect leaves it, and all others
  now : Stack → ℕ → Stack
  now left h = if h == g then left else unit h

  now-here : (left : Stack) (h : ℕ) → h ≡ g → now left h ≡ left
  unfolding now
  now-here left h is = if_true (h == g) left (unit h) (eq-eqb h g is)

  other-test : (h : ℕ) → h ≢ g → (h == g) ≡ false
  other-test h other = grind (arith, nat_tests)

  now-there : (left : Stack) (h : ℕ) → h ≢ g → now left h ≡ unit h
  unfolding now
  now-there left h other = if_false (h == g) left (unit h) (other-test h other)

  homes-now : (left : Stack) → y.desks ≡ with_group x.desks g (changed (group_at x.desks g) left) → HasHomes live 0 (now left) y.desks
  homes-now left over =
      let groups : List (Group Stack Work) = x.desks.groups in
      let new : Group Stack Work = changed (group_at x.desks g) left in
      let in_place : g < length groups = subst (λ n. g < n) (sym homes.size) below in
      let new_is : new ≡ at_home left = ap (λ (z : Group Stack Work). changed z left) at-home ∙ changed-home (unit g) left in
      subst (HasHomes live 0 (now left)) (sym over)
      (record {
        size = length-set groups g new ∙ homes.size;
        home = λ h lt.
            elim (cases_eq h g) [
              | inl is ↦
                  subst (λ (k : ℕ). group_at (with_group x.desks g new) k ≡ (if 0 == (opening_core live k).0 then at_home (now left k) else empty)) (sym is)
                  (get_or-set_same groups g new empty in_place ∙ new_is ∙ ap (λ (u : Stack). at_home u) (sym (now-here left g refl))
                  ∙ sym (if_true (0 == (opening_core live g).0) (at_home (now left g)) empty (at-zero g home-g)))
              | inr other ↦
                  get_or-set_other groups g h new empty other ∙ homes.home h lt
                  ∙ ap (λ (u : Stack). (if 0 == (opening_core live h).0 then at_home u else empty)) (sym (now-there left h other))
            ];
      })
    where
      home-g : (opening_core live g).0 ≡ 0
      home-g = home

      at-zero : (k : ℕ) → (opening_core live k).0 ≡ 0 → (0 == (opening_core live k).0) ≡ true
      at-zero k is = eq-eqb 0 (opening_core live k).0 (sym is)

  asked-test : (h : ℕ) → h ≡ g → is_asked_in env.local.ip h (connect_by peer port) ≡ true
  asked-test h is = eq-eqb g h (sym is)

  asked-not : (h : ℕ) → h ≢ g → is_asked_in env.local.ip h (connect_by peer port) ≡ false
  asked-not h other = let apart : g ≢ h = (λ e. other (sym e)) in not-same g h apart
    where
      not-same : (a b : ℕ) → a ≢ b → (a == b) ≡ false
      not-same a b other = grind (arith, nat_tests)

  same-connect : connect_of x.pool.home.0 flow ≡ connect_by peer port
  same-connect = ap (λ (n : ℕ). connect_of n (flow_to env peer.0 peer.1 port)) zero_core

  stands-left : (u left : Stack) → u ≡ unit g → stacks.Connects u env x.pool.home.0 flow ret left
      → Stands env name (filter (is_asked_in env.local.ip g) earlier ++ connect_by peer port ∷ []) [] left
  stands-left u left is opens =
      subst (λ (c : Connect). Stands env name (filter (is_asked_in env.local.ip g) earlier ++ c ∷ []) [] left) same-connect
      (stands env name (filter (is_asked_in env.local.ip g) earlier) x.pool.home.0 flow ret u left refl opens
      (subst (λ (v : Stack). Stands env name (filter (is_asked_in env.local.ip g) earlier) [] v) (sym is) (stand.stands g below)))

  stand-now : (u left : Stack) → u ≡ unit g → stacks.Connects u env x.pool.home.0 flow ret left → StandFor env name live (earlier ++ connect_by peer port ∷ []) (now left)
  stand-now u left is opens = record {
    stands = λ h lt.
        elim (cases_eq h g) [
          | inl same ↦
              subst (λ (k : ℕ). Stands env name (filter (is_asked_in env.local.ip k) (earlier ++ connect_by peer port ∷ [])) [] (now left k)) (sym same)
              (subst (λ (v : Stack). Stands env name (filter (is_asked_in env.local.ip g) (earlier ++ connect_by peer port ∷ [])) [] v) (sym (now-here left g refl))
              (subst (λ (asked : List Connect). Stands env name asked [] left) (sym (asked-here env.local.ip g (connect_by peer port) earlier (asked-test g refl)))
              (stands-left u left is opens)))
          | inr other ↦
              subst (λ (v : Stack). Stands env name (filter (is_asked_in env.local.ip h) (earlier ++ connect_by peer port ∷ [])) [] v) (sym (now-there left h other))
              (subst (λ (asked : List Connect). Stands env name asked [] (unit h)) (sym (asked-there env.local.ip h (connect_by peer port) earlier (asked-not h other)))
              (stand.stands h lt))
        ];
    steps = λ h lt.
        elim (cases_eq h g) [
          | inl same ↦ ap (λ (v : Stack). v.steps) (now-here left h same) ∙ ap (λ (v : Stack). v.steps) opens.rest ∙ ap (λ (v : Stack). v.steps) is ∙ stand.steps g below
          | inr other ↦ ap (λ (v : Stack). v.steps) (now-there left h other) ∙ stand.steps h lt
        ];
    elsewhere = λ h lt away.
        asked-there env.local.ip h (connect_by peer port) earlier (asked-not h (λ same. away (ap (λ (k : ℕ). (opening_core live k).0) same ∙ home-is))) ∙ stand.elsewhere h lt away;
  }
    where
      home-is : (opening_core live g).0 ≡ 0
      home-is = home

opens-one : (stands : ConnectsStand) (env : Env Application) (name : WireNo → Name) (live cookie : ℕ) (earlier : List Connect) (peer : ℕ × ℕ) (ret : Ret) (unit : ℕ → Stack) (x y : StackCore)
    → x.pool.home.0 ≡ 0 → StandFor env name live earlier unit → HasHomes live 0 unit x.desks → is_some (mac_of peer.0 env.neighbours) ≡ true
    → Opens (λ e ip. is_some (mac_of ip e.neighbours)) flow_to holds_flow (λ u e core c flow r v. stacks.Connects u e core flow r v) env cookie peer.0 peer.1 ret x y
    → IsDialed env name live earlier peer ret unit x y
opens-one stands env name live cookie earlier peer ret unit x y zero_core stand homes near o =
    let port : ℕ = 49152 + o.first.step in
    let found : port_behind (setting_of env) live earlier peer ≡ Some port = port-found env name live earlier unit stand peer x.desks homes o.flow o.first in
    let free : is_free (setting_of env) live earlier peer port ≡ true =
    sym (free-same env name live earlier unit stand peer port x.desks homes) ∙ subst (λ (f : Flow). core.is_free holds_flow x.desks f ≡ true) o.first.its_port o.first.free in
    let home = home-there env name live earlier unit stand peer port free in
    let made : ConnectsAt (λ u e k c f r v. stacks.Connects u e k f r v) env x.pool.home.0 cookie (flow_to env peer.0 peer.1 port) ret x.desks y.desks =
    subst (λ (f : Flow). ConnectsAt (λ u e k c f r v. stacks.Connects u e k f r v) env x.pool.home.0 cookie f ret x.desks y.desks) o.first.its_port o.opens in
    let place : ℕ = group_of_flow (flow_to env peer.0 peer.1 port) in
    let there : group_at x.desks place ≡ at_home (unit place) = at-home stands env name live earlier peer port ret unit x y zero_core stand homes home in
    let its : made.unit ≡ unit place = some-same (sym made.here ∙ ap (λ (z : Group Stack Work). unit_of z) there) in
    record {
      now = now stands env name live earlier peer port ret unit x y zero_core stand homes home made.left;
      stand = subst (λ (more : List Connect). StandFor env name live (earlier ++ more) (now stands env name live earlier peer port ret unit x y zero_core stand homes home made.left))
          (sym (asked-one (mac_of peer.0 env.neighbours) peer port (port_behind (setting_of env) live earlier peer) near found))
          (stand-now stands env name live earlier peer port ret unit x y zero_core stand homes home made.unit made.left its made.opens);
      homes = homes-now stands env name live earlier peer port ret unit x y zero_core stand homes home made.left made.over;
      others = λ h lt away. now-there stands env name live earlier peer port ret unit x y zero_core stand homes home made.left h (λ same. away (ap (λ (k : ℕ). (opening_core live k).0) same ∙ home));
      told = answer-one (mac_of peer.0 env.neighbours) port (port_behind (setting_of env) live earlier peer) (λ p. lives_behind (setting_of env) earlier (group_asked (setting_of env) peer p)) ret near found
          (made.opens.answer ∙ answer-ours env (flow_to env peer.0 peer.1 port) made.unit.owning.group refl
          ∙ ap (answer_to_connect (mac_of peer.0 env.neighbours)) (ap (λ (u : Stack). u.owning.group.lives) its ∙ lives-are env name live earlier unit stand place (group-below (flow_to env peer.0 peer.1 port))));
      rest = o.rest;
    }
  where
    some-same : {u v : Stack} → Some u ≡ Some v → u ≡ v
    some-same e = cc

dial-one : (stands : ConnectsStand) (env : Env Application) (name : WireNo → Name) (live cookie : ℕ) (earlier : List Connect) (peer : ℕ × ℕ) (ret : Ret) (unit : ℕ → Stack) (x y : StackCore)
    → x.pool.home.0 ≡ 0 → StandFor env name live earlier unit → HasHomes live 0 unit x.desks → StackConnects env cookie peer ret x y → IsDialed env name live earlier peer ret unit x y
dial-one stands env name live cookie earlier peer ret unit x y zero_core stand homes (no_neighbour none told same) =
    let mac : mac_of peer.0 env.neighbours ≡ None = none-some (mac_of peer.0 env.neighbours) none in
    idle env name live earlier peer ret unit x y stand homes (ap (λ (o : Option (List ℕ)). asked_by o peer (port_behind (setting_of env) live earlier peer)) mac)
    (ap connect_line told ∙ sym (ap (λ (o : Option (List ℕ)). answer_by o (port_behind (setting_of env) live earlier peer) (λ port. lives_behind (setting_of env) earlier (group_asked (setting_of env) peer port))) mac)) same
dial-one stands env name live cookie earlier peer ret unit x y zero_core stand homes (no_port near none told same) =
    let ports : port_behind (setting_of env) live earlier peer ≡ None = port-none env name live earlier unit stand peer x.desks homes none in
    idle env name live earlier peer ret unit x y stand homes (asked-none (mac_of peer.0 env.neighbours) peer (port_behind (setting_of env) live earlier peer) ports)
    (ap connect_line told ∙ sym (answer-none (mac_of peer.0 env.neighbours) (port_behind (setting_of env) live earlier peer) (λ port. lives_behind (setting_of env) earlier (group_asked (setting_of env) peer port)) near ports)) same
dial-one stands env name live cookie earlier peer ret unit x y zero_core stand homes (opened near o) =
    opens-one stands env name live cookie earlier peer ret unit x y zero_core stand homes near o

-- ## Many
pub dials_are_asked : ConnectsStand → DialsAreAsked
dials_are_asked stands env name live cookie peers rets earlier unit x y zero_core stand homes dials = all peers rets cookie earlier unit x zero_core stand homes dials
  where
    all : (peers : List (ℕ × ℕ)) (rets : List Ret) (cookie : ℕ) (earlier : List Connect) (unit : ℕ → Stack) (x : StackCore) → x.pool.home.0 ≡ 0 → StandFor env name live earlier unit
        → HasHomes live 0 unit x.desks → Dials env cookie peers rets x y → AreDialed env name live earlier peers rets unit x y
    all [] [] cookie earlier unit x zero_core stand homes same = record {
      now = unit;
      stand = subst (λ (asked : List Connect). StandFor env name live asked unit) (sym (append-nil earlier)) stand;
      homes = subst (λ (z : StackCore). HasHomes live 0 unit z.desks) (sym same) homes;
      others = λ g lt other. refl;
      told = refl;
      rest = subst (λ (z : StackCore). z ≡ record x { desks = z.desks }) (sym same) refl;
    }
    all [] (ret ∷ rets) cookie earlier unit x zero_core stand homes dials = absurd dials
    all (peer ∷ peers) [] cookie earlier unit x zero_core stand homes dials = absurd dials
    all (peer ∷ peers) (ret ∷ rets) cookie earlier unit x zero_core stand homes dials =
        let mid : StackCore = dials.0 in
        let one : IsDialed env name live earlier peer ret unit x mid = dial-one stands env name live cookie earlier peer ret unit x mid zero_core stand homes dials.1.0 in
        let more : List Connect = asked_behind (setting_of env) live earlier peer in
        let rest : AreDialed env name live (earlier ++ more) peers rets one.now mid y =
        all peers rets (suc cookie) (earlier ++ more) one.now mid (ap (λ (z : StackCore). z.pool.home.0) one.rest ∙ zero_core) one.stand one.homes dials.1.1 in
        record {
          now = rest.now;
          stand = subst (λ (asked : List Connect). StandFor env name live asked rest.now) (append_assoc earlier more (asked_from (setting_of env) live (earlier ++ more) peers)) rest.stand;
          homes = rest.homes;
          others = λ g lt other. rest.others g lt other ∙ one.others g lt other;
          told = joins one.told rest.told;
          rest = rest.rest ∙ ap (λ (z : StackCore). record z { desks = y.desks }) one.rest;
        }
      where
        joins : {a b : ConnectLine} {xs ys : List ConnectLine} → a ≡ b → xs ≡ ys → a ∷ xs ≡ b ∷ ys
        joins p q = cc
