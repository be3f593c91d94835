-- How a play begins: what connects change, and what is ready behind them.
use Rattle.std.proofs.Common.{◌≡◌, ◌<◌, ◌≤◌, ◌+◌, ◌-◌, ◌==◌, ℕ, suc, Bool, false, List, [], ◌∷◌, length, get_or, refl, ap, sym, subst, ◌∙◌, inl, inr, arith}
use Rattle.std.specs.Prelude.{count_by}
use Rattle.std.proofs.lemmas.Bool.{cases_eq}
use Rattle.std.proofs.lemmas.List.{get_or-set_other, get_or-set_same, length-set}
use Rattle.ix_appdef.specs.Answers.{answer_of}
use Rattle.ix_appdef.specs.KeyValue.{answers_from}
use Rattle.ix_appdef.specs.declared.application.Application.{Application}
use Rattle.ix_appdef.specs.declared.application.Application.TheVariants as applications
use Rattle.ix_base.specs.declared.segment.Ret.{Ret}
use Rattle.ix_conf.specs.Settings.{Settings}
use Rattle.ix_core.specs.declared.link.Link.{Link}
use Rattle.ix_core.specs.Connecting.{no_neighbour, no_port, opened}
use Rattle.ix_core.specs.Meeting.{AreInOrder, AreLinked, AreMeshed, IsAtPort, link_at}
use Rattle.ix_core.specs.Order.{AreOpenedAs}
use Rattle.ix_core.specs.Renewing.{IsResting}
use Rattle.ix_dials.specs.Dials.{Dials, StackConnects}
use Rattle.ix_epochs.specs.Ready.{IsReady}
use Rattle.ix_epochs.specs.Rest.{KeepsNothing}
use Rattle.ix_feed.specs.Replays.{CanFeed, ReplayView, is_move}
use Rattle.ix_feed.specs.Told.{CardIsClear, WiresFeed}
use Rattle.ix_groupdef.specs.Owners.{sends_parts}
use Rattle.ix_groupdef.specs.declared.env.Env.{Env}
use Rattle.ix_lines.specs.declared.types.ConnectLine.{ConnectLine}
use Rattle.ix_mbuf.specs.Pools.{all_names}
use Rattle.ix_nic.specs.Cards.{CardView}
use Rattle.ix_nic.specs.Ports.{PortView}
use Rattle.ix_plainstack.specs.Stack.{Stack}
use Rattle.ix_reta.specs.Table.{Table}
use Rattle.ix_ring.specs.Ends.{put_list, taken}
use Rattle.ix_wire.specs.declared.entry.Entry.{Entry}
use Rattle.ix_engine.specs.Courses.{IsWireFor, first_replay}
use Rattle.ix_engine.specs.Openings.{CoresAreOpen, IsOpen, StackCore, StackEnds}
use Rattle.ix_engine.specs.Steps.{FirstDials, begun}

-- ## What an application's answers show
-- an application that answers a told byte with one byte sends the parts that it was told
sends-shown : (app : Application) → sends_parts app ≡ (length (answer_of app false (1 ∷ [])) == 1)
unfolding answers_from
sends-shown applications.Echo = refl
sends-shown applications.Kv = refl
sends-shown (applications.Push text) = refl

pub same_parts : (x y : Application) → answer_of x ≡ answer_of y → sends_parts x ≡ sends_parts y
same_parts x y same = sends-shown x ∙ ap (λ (answer : Bool → List ℕ → List ℕ). length (answer false (1 ∷ [])) == 1) same ∙ sym (sends-shown y)

-- ## The opening
pub opened_as : (s : Settings) (table : Table) (ends : List StackEnds) (cores : List StackCore) → CoresAreOpen s table ends cores → AreOpenedAs ends cores
opened_as s table ends cores are = record {
  count = are.count;
  each = λ c e d lt.
      let core = are.each c e d (omega (arith, lt, are.count)) in
      record {
        id = record { 0 = c };
        pool = record { home = record { 0 = c }; n = s.buffers; free = all_names (record { 0 = c }) s.buffers };
        home = core.homes;
        batch = s.batch;
        own = refl;
        is = core.is;
      };
}

-- ## The connects
-- a connect changes the desks of its core alone
connect-rest : (env : Env Application) (cookie : ℕ) (peer : ℕ × ℕ) (ret : Ret) (x y : StackCore) → StackConnects env cookie peer ret x y → y ≡ record x { desks = y.desks }
connect-rest env cookie peer ret x y (no_neighbour none told same) = subst (λ (z : StackCore). z ≡ record x { desks = z.desks }) (sym same) refl
connect-rest env cookie peer ret x y (no_port near none told same) = subst (λ (z : StackCore). z ≡ record x { desks = z.desks }) (sym same) refl
connect-rest env cookie peer ret x y (opened near opens) = opens.rest

dials-rest : (env : Env Application) (cookie : ℕ) (peers : List (ℕ × ℕ)) (rets : List Ret) (x y : StackCore) → Dials env cookie peers rets x y → y ≡ record x { desks = y.desks }
dials-rest env cookie [] [] x y same = subst (λ (z : StackCore). z ≡ record x { desks = z.desks }) (sym same) refl
dials-rest env cookie [] (r ∷ rets) x y dials = absurd dials
dials-rest env cookie (p ∷ peers) [] x y dials = absurd dials
dials-rest env cookie (p ∷ peers) (r ∷ rets) x y dials =
    dials-rest env (suc cookie) peers rets dials.0 y dials.1.1 ∙ ap (λ (z : StackCore). record z { desks = y.desks }) (connect-rest env cookie p r x dials.0 dials.1.0)

-- the cores are as they were, but for their desks
pub record DesksAlone (old new : List StackCore) : Type 0 where
  pub count : length new ≡ length old
  pub each : (c : ℕ) (d : StackCore) → c < length old → get_or new c d ≡ record (get_or old c d) { desks = (get_or new c d).desks }

pub desks_alone : (env : Env Application) (peers : List (ℕ × ℕ)) (told : List ConnectLine) (old new : List StackCore) → 1 ≤ length old → FirstDials env peers told old new → DesksAlone old new
desks_alone env peers told old new some dials = record {
  count = ap (λ (cores : List StackCore). length cores) dials.cores ∙ length-set old 0 dials.first;
  each = λ c d lt.
      elim (cases_eq c 0) [
        | inl is ↦
            let rest : dials.first ≡ record (get_or old 0 d) { desks = dials.first.desks } = dials-rest env 0 peers (dials.is d).rets (get_or old 0 d) dials.first (dials.is d).dials in
            let first : get_or new 0 d ≡ dials.first = ap (λ (cores : List StackCore). get_or cores 0 d) dials.cores ∙ get_or-set_same old 0 dials.first d (omega (arith, some)) in
            subst (λ (k : ℕ). get_or new k d ≡ record (get_or old k d) { desks = (get_or new k d).desks }) (sym is)
            (subst (λ (z : StackCore). z ≡ record (get_or old 0 d) { desks = z.desks }) (sym first) rest)
        | inr apart ↦
            let other : get_or new c d ≡ get_or old c d = ap (λ (cores : List StackCore). get_or cores c d) dials.cores ∙ get_or-set_other old 0 c dials.first d apart in
            subst (λ (z : StackCore). z ≡ record (get_or old c d) { desks = z.desks }) (sym other) refl
      ];
}

-- ## What is ready stays so
link-stays : (old new : List StackCore) (alone : DesksAlone old new) (c p : ℕ) (d : StackCore) (e : Link Stack (Env Application)) → c < length old → link_at new c p d e ≡ link_at old c p d e
link-stays old new alone c p d e lt = ap (λ (k : StackCore). get_or k.links.items p e) (alone.each c d lt)

port-stays : (p : PortView) (x y : StackCore) → y ≡ record x { desks = y.desks } → IsAtPort p x → IsAtPort p y
port-stays p x y rest at =
    let kept : IsAtPort p (record x { desks = y.desks }) = record { items = at.items; posts = at.posts } in
    subst (λ (z : StackCore). IsAtPort p z) (sym rest) kept

rests-still : (p : PortView) (x y : StackCore) → y ≡ record x { desks = y.desks } → IsResting p x → IsResting p y
rests-still p x y rest was =
    let kept : IsResting p (record x { desks = y.desks }) =
    record {
      items = was.items;
      posts = was.posts;
      items_places = was.items_places;
      posts_places = was.posts_places;
      empty = was.empty;
      none_behind = was.none_behind;
      met = was.met;
      few = was.few;
    } in
    subst (λ (z : StackCore). IsResting p z) (sym rest) kept

keeps-still : (x y : StackCore) → y ≡ record x { desks = y.desks } → KeepsNothing x → KeepsNothing y
keeps-still x y rest was =
    let kept : KeepsNothing (record x { desks = y.desks }) = record { came = was.came; lost = was.lost; links = was.links } in
    subst (λ (z : StackCore). KeepsNothing z) (sym rest) kept

meshed-still : (old new : List StackCore) → DesksAlone old new → AreMeshed old → AreMeshed new
meshed-still old new alone was = record {
  links = λ c d lt.
      let within : c < length old = omega (arith, alone.count, lt) in
      ap (λ (k : StackCore). length k.links.items + 1) (alone.each c d within) ∙ was.links c d within ∙ sym alone.count;
  others = λ c p d e lt below.
      let within : c < length old = omega (arith, alone.count, lt) in
      ap (λ (l : Link Stack (Env Application)). l.core.0) (link-stays old new alone c p d e within) ∙ was.others c p d e within (omega (arith, alone.count, below));
  rings = λ a b d e lt within.
      let second : b < length old = omega (arith, alone.count, within) in
      let first : a < length old = omega (arith, lt, second) in
      subst (λ (l : Link Stack (Env Application)). AreLinked l (link_at new b a d e)) (sym (link-stays old new alone a (b - 1) d e first))
      (subst (λ (l : Link Stack (Env Application)). AreLinked (link_at old a (b - 1) d e) l) (sym (link-stays old new alone b a d e second)) (was.rings a b d e lt second));
}

order-still : (card : CardView) (old new : List StackCore) → DesksAlone old new → AreInOrder card old → AreInOrder card new
order-still card old new alone was = record {
  count = was.count ∙ sym alone.count;
  numbers = λ c d lt.
      let within : c < length old = omega (arith, alone.count, lt) in
      ap (λ (k : StackCore). k.pool.home.0) (alone.each c d within) ∙ was.numbers c d within;
  ports = λ c p d lt.
      let within : c < length old = omega (arith, alone.count, lt) in
      port-stays (get_or card.ports c p) (get_or old c d) (get_or new c d) (alone.each c d within) (was.ports c p d within);
  mesh = meshed-still old new alone was.mesh;
}

pub ready_still : (card : CardView) (old new : List StackCore) → DesksAlone old new → IsReady card old → IsReady card new
ready_still card old new alone was = record {
  order = order-still card old new alone was.order;
  ports = λ c p d lt.
      let within : c < length old = omega (arith, alone.count, lt) in
      rests-still (get_or card.ports c p) (get_or old c d) (get_or new c d) (alone.each c d within) (was.ports c p d within);
  mesh = λ a b d e lt within.
      let second : b < length old = omega (arith, alone.count, within) in
      let first : a < length old = omega (arith, lt, second) in
      let empty = was.mesh a b d e lt second in
      let up = link-stays old new alone a (b - 1) d e first in
      let down = link-stays old new alone b a d e second in (
        ap (λ (l : Link Stack (Env Application)). put_list l.put) up ∙ empty.0 ∙ sym (ap (λ (l : Link Stack (Env Application)). taken l.take) down),
        ap (λ (l : Link Stack (Env Application)). put_list l.put) down ∙ empty.1 ∙ sym (ap (λ (l : Link Stack (Env Application)). taken l.take) up),
      );
  keep = λ c d lt.
      let within : c < length old = omega (arith, alone.count, lt) in
      keeps-still (get_or old c d) (get_or new c d) (alone.each c d within) (was.keep c d within);
}

-- ## What is fed
-- no turn is in the table yet, which has room for those of the wire list
pub first_feeds : WiresFeed → (s : Settings) (frames : List (List ℕ)) (entries : List Entry) (wire : IsWireFor s frames entries) (card card' : CardView) (cores cores' : List StackCore) (replay : ReplayView)
    → IsOpen s (count_by is_move entries) card cores → card'.table ≡ card.table → length card'.ports ≡ length cores' → length cores' ≡ length cores → CardIsClear card'
    → replay ≡ first_replay entries frames → CanFeed card' (begun replay)
first_feeds feeds s frames entries wire card card' cores cores' replay opening same ports count clear is =
    let table : card'.table ≡ record { live = s.live; turns = []; room = count_by is_move entries } = same ∙ opening.table in
    let room : card'.table.room ≡ count_by is_move entries = ap (λ (t : Table). t.room) table in
    let can : CanFeed card' (begun (first_replay entries frames)) =
    feeds wire.terms card' (first_replay entries frames) wire.is wire.own refl (wire.cores ∙ sym (ports ∙ count ∙ opening.cores_are.count ∙ opening.count)) (ap (λ (t : Table). t.live) table ∙ sym wire.live)
    (ap (λ (t : Table). t.turns) table) (omega (arith, room)) clear in
    subst (λ (r : ReplayView). CanFeed card' (begun r)) (sym is) can
