-- What stands anywhere where a play is closed is what is held.
use Rattle.std.proofs.Common.{◌≡◌, ◌+◌, ◌-◌, ◌<◌, ◌≤◌, ℕ, zero, suc, List, [], ◌∷◌, ◌++◌, length, get_or, map, sum_by, refl, ap, sym, subst, ◌∙◌, arith, append-nil, inl, inr}
use Rattle.std.specs.Prelude.{Option, Some, None, option_to_list}
use Rattle.std.proofs.lemmas.List.{append_cancel_left, get_or_default, map-append}
use Rattle.std.proofs.lemmas.List.Sums.{sum_by-append, sum_by-cons}
use Rattle.ix_mbuf.specs.declared.name.Name.{Name}
use Rattle.ix_mbuf.specs.Buffers.{Buffer, buffers_weight}
use Rattle.ix_mbuf.specs.Owners.{maybe}
use Rattle.ix_ring.specs.Views.{PutView, TakeView}
use Rattle.ix_ring.specs.Ends.{known, put_list, taken}
use Rattle.ix_desk.specs.Desks.{group_at}
use Rattle.ix_desk.specs.Groups.{empty, unit_of, waits}
use Rattle.ix_desk.specs.Pieces.{joined, piece_waits}
use Rattle.ix_desk.specs.Views.{Arrival, CutPiece, Group, Piece, View}
use Rattle.ix_stack.specs.declared.work.Work.{Work}
use Rattle.ix_stack.specs.Works.{work_weight, works_weight}
use Rattle.ix_nic.specs.Cards.{CardView}
use Rattle.ix_nic.specs.Ports.{PortView}
use Rattle.ix_core.specs.declared.link.Link.{Link}
use Rattle.ix_core.specs.declared.message.Message.{Message}
use Rattle.ix_core.specs.declared.turning.Core.{Core}
use Rattle.ix_core.specs.Closing.{close_weight, port_holds, units_below, units_here, units_of}
use Rattle.ix_core.specs.Homing.{core_returns, link_returns}
use Rattle.ix_core.specs.Landing.{home_in}
use Rattle.ix_core.specs.Meeting.{AllAreTold, AreInOrder, AreTold, link_at}
use Rattle.ix_core.specs.Renewing.{free_weight, posted_weight}
use Rattle.ix_core.specs.Settling.{MeshIsEmpty}
use Rattle.ix_core.specs.Weights.{core_weight, desks_weight, group_weight, link_weight}
use Rattle.ix_epochs.specs.Rest.{KeepsNothing, LinksRest}
use Rattle.ix_homes.specs.Held.{held, kept_weight}
use Rattle.ix_entire.proofs.Lists.{below-all, joined-none, joined-weighs, le-or-lt, sum-below, sums-equal, sums-none, sums-split}

-- ## Rings on which nothing is
nothing-known : {T : Type 0} (p : PutView T) (t : TakeView T) → AreTold p t → put_list p ≡ taken t → known t ≡ []
nothing-known p t told none = append_cancel_left (taken t) (known t) [] (sym told.whole ∙ none ∙ sym (append-nil (taken t)))

module _ {U E : Type 0} where
  -- no message is known to be on a ring of the mesh
  pub mesh-known : (card : CardView) (cores : List (Core U E)) → AreInOrder card cores → AllAreTold card cores → MeshIsEmpty cores
      → (c p : ℕ) (d : Core U E) (e : Link U E) → c < length cores → p < length (get_or cores c d).links.items → known (link_at cores c p d e).take ≡ []
  mesh-known card cores order told mesh c p d e lt within =
      let room : p + 1 < length cores = omega (arith, within, order.mesh.links c d lt) in
      elim (le-or-lt c p) [
        | inl low ↦
            let back : (p + 1) - 1 ≡ p = omega arith in
            let up : c < p + 1 = omega (arith, low) in
            subst (λ (q : ℕ). known (link_at cores c q d e).take ≡ []) back
            (nothing-known (link_at cores (p + 1) c d e).put (link_at cores c ((p + 1) - 1) d e).take (told.mesh c (p + 1) d e up room).back (mesh c (p + 1) d e up room).1)
        | inr high ↦
            nothing-known (link_at cores p (c - 1) d e).put (link_at cores c p d e).take (told.mesh p c d e high lt).there (mesh p c d e high lt).0
      ]

  -- ## A core at rest
  link-returns-none : (l : Link U E) → known l.take ≡ [] → l.waiting.items ≡ [] → link_returns l ≡ []
  link-returns-none l none waiting =
      ap (λ (ms : List (Message U E)). joined home_in ms ++ joined home_in l.waiting.items) none ∙ ap (λ (ms : List (Message U E)). joined home_in ms) waiting

  pub core-returns-none : (c : Core U E) → LinksRest c.links.items → ((p : ℕ) (e : Link U E) → p < length c.links.items → known (get_or c.links.items p e).take ≡ []) → c.returns.items ≡ [] → core_returns c ≡ []
  core-returns-none c rests known_none none = ap (λ (bufs : List Buffer). bufs ++ c.returns.items) (links-none c.links.items rests known_none) ∙ none
    where
      links-none : (ls : List (Link U E)) → LinksRest ls → ((p : ℕ) (e : Link U E) → p < length ls → known (get_or ls p e).take ≡ []) → joined link_returns ls ≡ []
      links-none [] rests none = refl
      links-none (l ∷ ls) rests none =
          ap (λ (bufs : List Buffer). bufs ++ joined link_returns ls) (link-returns-none l (none 0 l (omega arith)) (rests 0 l (omega arith)).waits)
          ∙ links-none ls (λ p e lt. rests (suc p) e (omega (arith, lt))) (λ p e lt. none (suc p) e (omega (arith, lt)))

module _ {U E : Type 0} (w : U → ℕ) (f : Name → ℕ) where
  links-weigh-none : (ls : List (Link U E)) → LinksRest ls → sum_by (link_weight w f) ls ≡ 0
  links-weigh-none [] rests = refl
  links-weigh-none (l ∷ ls) rests =
      let first : link_weight w f l ≡ 0 = rw ((rests 0 l (omega arith)).ships, (rests 0 l (omega arith)).waits) refl in
      omega (arith, first, links-weigh-none ls (λ p e lt. rests (suc p) e (omega (arith, lt))), sum_by-cons (link_weight w f) l ls)

  -- it holds what is free in its pool, and what is at its desks
  rests-weigh : (c : Core U E) → KeepsNothing c → c.returns.items ≡ [] → core_weight w f c ≡ free_weight f c + desks_weight w f c.desks
  rests-weigh c keeps none = rw (keeps.came, keeps.lost, none) (omega (arith, links-weigh-none c.links.items keeps.links))

  pub cores-weigh : (cores : List (Core U E)) → ((c : ℕ) (d : Core U E) → c < length cores → KeepsNothing (get_or cores c d)) → ((c : ℕ) (d : Core U E) → c < length cores → (get_or cores c d).returns.items ≡ [])
      → sum_by (core_weight w f) cores ≡ sum_by (free_weight f) cores + sum_by (λ c. desks_weight w f c.desks) cores
  cores-weigh cores keeps none = sums-split (core_weight w f) (free_weight f) (λ c. desks_weight w f c.desks) cores (λ k d lt. rests-weigh (get_or cores k d) (keeps k d lt) (none k d lt))

-- ## The units
module _ {U : Type 0} (w : U → ℕ) (f : Name → ℕ) where
  -- what the unit of a group weighs, if it is here
  abbrev pub unit-weight : Group U Work → ℕ
  unit-weight g = maybe w (unit_of g)

  -- a group with one piece at most
  one-piece : (c : Option (Piece U Work)) (arrived : List ℕ) (last : ℕ)
      → group_weight w f (record { cut = []; current = c; early = []; arrived = arrived; last = last })
      ≡ works_weight f (waits (record { cut = []; current = c; early = []; arrived = arrived; last = last })) + unit-weight (record { cut = []; current = c; early = []; arrived = arrived; last = last })
  one-piece None arrived last = refl
  one-piece (Some p) arrived last =
      omega (
        arith,
        sum_by-append (work_weight f) (piece_waits p) [],
        sum_by-append (work_weight f) p.remote (p.local ++ p.behind),
        sum_by-append (work_weight f) p.local p.behind,
      )

  -- a group of which nothing waits
  group-weighs : (g : Group U Work) → g.cut ≡ [] → g.early ≡ [] → waits g ≡ [] → group_weight w f g ≡ unit-weight g
  group-weighs g cut early none =
      let is : g ≡ record { cut = []; current = g.current; early = []; arrived = g.arrived; last = g.last } =
      ap (λ (c : List (CutPiece U Work)). let x : Group U Work = record { cut = c; current = g.current; early = g.early; arrived = g.arrived; last = g.last } in x) cut
      ∙ ap (λ (e : List (Arrival U Work)). let x : Group U Work = record { cut = []; current = g.current; early = e; arrived = g.arrived; last = g.last } in x) early in
      let split : group_weight w f g ≡ works_weight f (waits g) + unit-weight g =
      subst (λ (x : Group U Work). group_weight w f x ≡ works_weight f (waits x) + unit-weight x) (sym is) (one-piece g.current g.arrived g.last) in
      omega (arith, split, ap (works_weight f) none)

  -- desks at which nothing waits hold their units
  pub desks-weigh : (n : ℕ) (v : View U Work) → length v.groups ≡ n → ((g : ℕ) → g < n → (group_at v g).cut ≡ []) → ((g : ℕ) → g < n → (group_at v g).early ≡ []) → ((g : ℕ) → g < n → waits (group_at v g) ≡ [])
      → desks_weight w f v ≡ sum-below unit-weight n v.groups empty
  desks-weigh n v size cut early none =
      sums-equal unit-weight (group_weight w f) v.groups
      (λ g d lt.
      let low : g < n = subst (λ k. g < k) size lt in
      subst (λ (x : Group U Work). group_weight w f x ≡ unit-weight x) (get_or_default v.groups g empty d lt) (group-weighs (group_at v g) (cut g low) (early g low) (none g low)))
      ∙ sym (below-all unit-weight v.groups empty) ∙ ap (λ k. sum-below unit-weight k v.groups empty) size

  first-units : (g : ℕ) (o : Option U) → sum_by (λ (u : ℕ × U). w u.1) (map (λ u. (let x : ℕ × U = (g, u) in x)) (option_to_list o)) ≡ maybe w o
  first-units g None = refl
  first-units g (Some u) = omega arith

  -- the units of a group on all cores
  some-units : {E : Type 0} (g : ℕ) (cores : List (Core U E)) → sum_by (λ (u : ℕ × U). w u.1) (units_of g cores) ≡ sum_by (λ c. unit-weight (group_at c.desks g)) cores
  some-units g [] = refl
  some-units {E} g (c ∷ cores) =
      omega (
        arith,
        ap (sum_by (λ (u : ℕ × U). w u.1)) (map-append (λ u. (let x : ℕ × U = (g, u) in x)) (units_here g c) (joined (units_here g) cores)),
        sum_by-append (λ (u : ℕ × U). w u.1) (map (λ u. (let x : ℕ × U = (g, u) in x)) (units_here g c)) (units_of g cores),
        first-units g (unit_of (group_at c.desks g)),
        some-units g cores,
        sum_by-cons (λ (c : Core U E). unit-weight (group_at c.desks g)) c cores,
      )

  -- those of the groups below a number
  pub units-weigh : {E : Type 0} (n : ℕ) (cores : List (Core U E)) → sum_by (λ (u : ℕ × U). w u.1) (units_below cores n) ≡ sum_by (λ c. sum-below unit-weight n c.desks.groups empty) cores
  unfolding units_below
  units-weigh {E} zero cores = sym (sums-none (λ (c : Core U E). 0) cores (λ k d lt. refl))
  units-weigh {E} (suc n) cores =
      omega (
        arith,
        sum_by-append (λ (u : ℕ × U). w u.1) (units_below cores n) (units_of n cores),
        units-weigh n cores,
        some-units n cores,
        sums-split (λ (c : Core U E). sum-below unit-weight (suc n) c.desks.groups empty) (λ c. sum-below unit-weight n c.desks.groups empty) (λ c. unit-weight (group_at c.desks n)) cores (λ k d lt. refl),
      )

-- ## The card
kept-weighs : (f : Name → ℕ) (o : Option Buffer) → buffers_weight f (option_to_list o) ≡ maybe (λ (b : Buffer). f b.name) o
kept-weighs f None = refl
kept-weighs f (Some b) = omega arith

ports-weigh : (f : Name → ℕ) (ports : List PortView) → buffers_weight f (joined port_holds ports) ≡ sum_by (posted_weight f) ports + sum_by (kept_weight f) ports
ports-weigh f ports =
    joined-weighs f port_holds ports
    ∙ sums-split (λ (p : PortView). buffers_weight f (port_holds p)) (posted_weight f) (kept_weight f) ports
    (λ k d lt.
    let p = get_or ports k d in
    omega (arith, sum_by-append (λ (b : Buffer). f b.name) (option_to_list p.kept) (known p.posts), kept-weighs f p.kept))

-- ## All together
-- A card and cores at rest, at whose desks nothing waits.
pub record AreAtRest {U E : Type 0} (n : ℕ) (card : CardView) (cores : List (Core U E)) : Type 0 where
  pub keeps : (c : ℕ) (d : Core U E) → c < length cores → KeepsNothing (get_or cores c d)
  pub none : (c : ℕ) (d : Core U E) → c < length cores → (get_or cores c d).returns.items ≡ []
  pub comes : (c p : ℕ) (d : Core U E) (e : Link U E) → c < length cores → p < length (get_or cores c d).links.items → known (link_at cores c p d e).take ≡ []
  pub size : (c : ℕ) (d : Core U E) → c < length cores → length (get_or cores c d).desks.groups ≡ n
  pub cut : (c g : ℕ) (d : Core U E) → c < length cores → g < n → (group_at (get_or cores c d).desks g).cut ≡ []
  pub early : (c g : ℕ) (d : Core U E) → c < length cores → g < n → (group_at (get_or cores c d).desks g).early ≡ []
  pub waits_none : (c g : ℕ) (d : Core U E) → c < length cores → g < n → waits (group_at (get_or cores c d).desks g) ≡ []

pub closes-as-held : {U E : Type 0} (weight : (Name → ℕ) → U → ℕ) (f : Name → ℕ) (card : CardView) (cores : List (Core U E)) → AreAtRest 512 card cores
    → close_weight weight f card cores ≡ held weight card cores f
closes-as-held {U} {E} weight f card cores rest =
    let returns : joined core_returns cores ≡ [] = none-return cores rest in
    omega (
      arith,
      ap (buffers_weight f) returns,
      ports-weigh f card.ports,
      units-weigh (weight f) f 512 cores,
      cores-weigh (weight f) f cores rest.keeps rest.none,
      sums-equal (λ (c : Core U E). sum-below (unit-weight (weight f) f) 512 c.desks.groups empty) (λ c. desks_weight (weight f) f c.desks) cores
          (λ k d lt. desks-weigh (weight f) f 512 (get_or cores k d).desks (rest.size k d lt) (λ g low. rest.cut k g d lt low) (λ g low. rest.early k g d lt low) (λ g low. rest.waits_none k g d lt low)),
    )
  where
    none-return : (cores : List (Core U E)) → AreAtRest 512 card cores → joined core_returns cores ≡ []
    none-return [] rest = refl
    none-return (c ∷ cores) rest =
        joined-none core_returns (c ∷ cores) c (λ k lt. core-returns-none (get_or (c ∷ cores) k c) (rest.keeps k c lt).links (λ p e within. rest.comes k p c e lt within) (rest.none k c lt))
