-- Connects change the desks of core 0 alone, so cores that are ready stay so; and after a meeting nothing is on a ring.
use Rattle.std.proofs.Common.{◌≡◌, ◌<◌, ◌≤◌, ◌+◌, ◌-◌, ◌⊎◌, ◌++◌, ℕ, List, [], ◌∷◌, inl, inr, length, get_or, set, refl, sym, ap, subst, ◌∙◌, arith, length-append, length-set, get_or-set_same, get_or-set_other}
use Rattle.std.proofs.lemmas.Bool.{cases_eq, cases_lt}
use Rattle.ix_ring.specs.Views.{PutView, TakeView}
use Rattle.ix_ring.specs.Ends.{known, places, put_list, taken}
use Rattle.ix_nic.specs.Cards.{CardView}
use Rattle.ix_nic.specs.Ports.{PortView}
use Rattle.ix_core.specs.declared.link.Link.{Link}
use Rattle.ix_core.specs.declared.turning.Core.{Core}
use Rattle.ix_core.specs.Meeting.{AllAreTold, AreLinked, AreTold, link_at}
use Rattle.ix_epochs.specs.Ready.{IsReady}
use Rattle.ix_epochs.specs.Rest.{NothingIsOnRings}

pub an-element : {X : Type 0} (xs : List X) (i : ℕ) → i < length xs → X
an-element [] i lt = absurd (omega (arith, lt))
an-element (x ∷ xs) i lt = x

none-long : {X : Type 0} (xs : List X) → length xs ≡ 0 → xs ≡ []
none-long [] e = refl
none-long (x ∷ xs) e = absurd (omega (arith, e))

-- of a list of which nothing is before it either
pub none-behind : {X : Type 0} (before xs : List X) → before ++ xs ≡ [] → xs ≡ []
none-behind before xs none = none-long xs (omega (arith, ap length none, length-append before xs))

-- what was put was taken, so nothing is known
none-known : {T : Type 0} (p : PutView T) (t : TakeView T) → AreTold p t → put_list p ≡ taken t → known t ≡ []
none-known p t told all = none-long (known t) (omega (arith, ap length all, ap length told.whole, length-append (taken t) (known t)))

module _ {U E : Type 0} where
  -- ## Desks
  -- Nothing but desks changed.
  pub record DesksChange (old new : List (Core U E)) : Type 0 where
    pub count : length new ≡ length old
    pub each : (c : ℕ) (d : Core U E) → c < length old → get_or new c d ≡ record (get_or old c d) { desks = (get_or new c d).desks }

  -- those of core 0
  pub first-changes : (old : List (Core U E)) (first : Core U E) → ((d : Core U E) → first ≡ record (get_or old 0 d) { desks = first.desks }) → DesksChange old (set old 0 first)
  first-changes old first rest = record {
    count = length-set old 0 first;
    each = λ c d lt.
        elim (cases_eq c 0) [
          | inl same ↦
              subst (λ (k : ℕ). get_or (set old 0 first) k d ≡ record (get_or old k d) { desks = (get_or (set old 0 first) k d).desks }) (sym same)
              (subst (λ (z : Core U E). z ≡ record (get_or old 0 d) { desks = z.desks }) (sym (get_or-set_same old 0 first d (omega (arith, lt)))) (rest d))
          | inr other ↦
              subst (λ (z : Core U E). z ≡ record (get_or old c d) { desks = z.desks }) (sym (get_or-set_other old 0 c first d other)) refl
        ];
  }

  -- ## Readiness
  pub ready-stays : (card : CardView) (old new : List (Core U E)) → DesksChange old new → IsReady card old → IsReady card new
  ready-stays card old new so ready = record {
    order = record {
      count = ready.order.count ∙ sym so.count;
      numbers = λ c d lt. ap (λ (k : Core U E). k.pool.home.0) (core c d lt) ∙ ready.order.numbers c d (before c lt);
      ports = λ c p d lt.
          let was = ready.order.ports c p d (before c lt) in
          record { items = was.items ∙ sym (ap (λ (k : Core U E). k.items.ring) (core c d lt)); posts = ap (λ (k : Core U E). k.posted.ring) (core c d lt) ∙ was.posts };
      mesh = record {
        links = λ c d lt. omega (arith, ap (λ (k : Core U E). length k.links.items) (core c d lt), ready.order.mesh.links c d (before c lt), so.count);
        others = λ c p d e lt within. ap (λ (l : Link U E). l.core.0) (link c p d e lt) ∙ ready.order.mesh.others c p d e (before c lt) (before (p + 1) within);
        rings = λ a b d e lt within.
            let lower : a < length new = omega (arith, lt, within) in
            subst (λ (l : Link U E). AreLinked l (link_at new b a d e)) (sym (link a (b - 1) d e lower))
            (subst (λ (l : Link U E). AreLinked (link_at old a (b - 1) d e) l) (sym (link b a d e within)) (ready.order.mesh.rings a b d e lt (before b within)));
      };
    };
    ports = λ c p d lt.
        let was = ready.ports c p d (before c lt) in
        record {
          items = was.items ∙ sym (ap (λ (k : Core U E). k.items.ring) (core c d lt));
          posts = ap (λ (k : Core U E). k.posted.ring) (core c d lt) ∙ was.posts;
          items_places = was.items_places;
          posts_places = ap (λ (k : Core U E). places k.posted) (core c d lt) ∙ was.posts_places;
          empty = was.empty ∙ sym (ap (λ (k : Core U E). taken k.items) (core c d lt));
          none_behind = was.none_behind;
          met = ap (λ (k : Core U E). put_list k.posted) (core c d lt) ∙ was.met;
          few = was.few;
        };
    mesh = λ a b d e lt within.
        let was = ready.mesh a b d e lt (before b within) in
        let lower : a < length new = omega (arith, lt, within) in
        let first = link a (b - 1) d e lower in
        let second = link b a d e within in (
          ap (λ (l : Link U E). put_list l.put) first ∙ was.0 ∙ sym (ap (λ (l : Link U E). taken l.take) second),
          ap (λ (l : Link U E). put_list l.put) second ∙ was.1 ∙ sym (ap (λ (l : Link U E). taken l.take) first),
        );
    keep = λ c d lt.
        let was = ready.keep c d (before c lt) in
        record {
          came = ap (λ (k : Core U E). k.came.items) (core c d lt) ∙ was.came;
          lost = ap (λ (k : Core U E). k.lost.items) (core c d lt) ∙ was.lost;
          links = λ p e within.
              let one = was.links p e (omega (arith, within, ap (λ (k : Core U E). length k.links.items) (core c d lt))) in
              record {
                ships = ap (λ (l : Link U E). l.ships.items) (link c p d e lt) ∙ one.ships;
                waits = ap (λ (l : Link U E). l.waiting.items) (link c p d e lt) ∙ one.waits;
              };
        };
  } where
    before : (c : ℕ) → c < length new → c < length old
    before c lt = omega (arith, so.count, lt)

    core : (c : ℕ) (d : Core U E) → c < length new → get_or new c d ≡ record (get_or old c d) { desks = (get_or new c d).desks }
    core c d lt = so.each c d (before c lt)

    link : (c p : ℕ) (d : Core U E) (e : Link U E) → c < length new → link_at new c p d e ≡ link_at old c p d e
    link c p d e lt = ap (λ (k : Core U E). get_or k.links.items p e) (core c d lt)

  -- ## Rings
  -- what holds of both links of each pair holds of each link
  at-link : (Q : Link U E → Type 0) (cores : List (Core U E)) → ((a b : ℕ) (d : Core U E) (e : Link U E) → a < b → b < length cores → Q (link_at cores a (b - 1) d e) × Q (link_at cores b a d e))
      → (c p : ℕ) (d : Core U E) (e : Link U E) → c < length cores → p + 1 < length cores → Q (link_at cores c p d e)
  at-link Q cores both c p d e lt within = at (cases_lt p c) where
    at : (p < c) ⊎ (c ≤ p) → Q (link_at cores c p d e)
    at (inl below) = (both p c d e below lt).1
    at (inr above) = subst (λ (k : ℕ). Q (link_at cores c k d e)) (omega arith) (both c (p + 1) d e (omega arith) within).0

  pub nothing-on-rings : (card : CardView) (cores : List (Core U E)) → IsReady card cores → AllAreTold card cores → NothingIsOnRings cores
  nothing-on-rings card cores ready told c d lt = record {
    items = none-known (get_or card.ports c port).ring (get_or cores c d).items (told.ports c port d lt).items (ready.ports c port d lt).empty;
    links = λ p e within.
        at-link (λ (l : Link U E). known l.take ≡ []) cores
        (λ a b f g low high. (
          none-known (link_at cores b a f g).put (link_at cores a (b - 1) f g).take (told.mesh a b f g low high).back (ready.mesh a b f g low high).1,
          none-known (link_at cores a (b - 1) f g).put (link_at cores b a f g).take (told.mesh a b f g low high).there (ready.mesh a b f g low high).0,
        ))
        c p d e lt (omega (arith, ready.order.mesh.links c d lt, within));
  } where
    port : PortView
    port = an-element card.ports c (omega (arith, lt, ready.order.count))
