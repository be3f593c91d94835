-- The order of a card and all its cores.
use Rattle.std.proofs.Common.{◌≡◌, ◌<◌, ◌+◌, ◌-◌, ℕ, zero, suc, List, [], ◌∷◌, length, map, get_or, refl, sym, ap, ◌∙◌, arith}
use Rattle.ix_nic.specs.Cards.{CardView, opened}
use Rattle.ix_nic.specs.Ports.{PortView}
use Rattle.ix_nic.specs.declared.port.NicEnd.{NicEnd}
use Rattle.ix_core.specs.declared.link.Link.{Link}
use Rattle.ix_core.specs.declared.message.CoreEnds.{CoreEnds}
use Rattle.ix_core.specs.declared.message.MeshEnd.{MeshEnd}
use Rattle.ix_core.specs.declared.turning.Core.{Core}
use Rattle.ix_core.specs.Links.{AreOpened, IsOpenedLink}
use Rattle.ix_core.specs.Meeting.{AreInOrder}
use Rattle.ix_core.proofs.Units.{one_of}
use Rattle.ix_core.specs.Order.{AreOpenedAs, EndsAreInOrder, SameCores, SameRings}

map_length : {X Y : Type 0} (f : X → Y) (xs : List X) → length (map f xs) ≡ length xs
map_length f [] = refl
map_length f (x ∷ xs) = ap suc (map_length f xs)

map_at : {X Y : Type 0} (f : X → Y) (xs : List X) (i : ℕ) (x : X) (y : Y) → i < length xs → get_or (map f xs) i y ≡ f (get_or xs i x)
map_at f [] i d e lt = absurd (omega arith)
map_at f (x ∷ xs) zero d e lt = refl
map_at f (x ∷ xs) (suc i) d e lt = map_at f xs i d e (omega arith)

module _ {U E : Type 0} where
  opened_count : (ends : List (MeshEnd U E)) (links : List (Link U E)) → AreOpened ends links → length links ≡ length ends
  opened_count [] [] so = refl
  opened_count (e ∷ ends) (l ∷ links) so = ap suc (opened_count ends links so.1)
  opened_count [] (l ∷ links) so = absurd so
  opened_count (e ∷ ends) [] so = absurd so

  opened_at : (ends : List (MeshEnd U E)) (links : List (Link U E)) (p : ℕ) (e : MeshEnd U E) (l : Link U E) → AreOpened ends links → p < length links → IsOpenedLink (get_or ends p e) (get_or links p l)
  opened_at [] [] p e l so lt = absurd (omega arith)
  opened_at (x ∷ ends) (y ∷ links) zero e l so lt = so.0
  opened_at (x ∷ ends) (y ∷ links) (suc p) e l so lt = opened_at ends links p e l so.1 (omega arith)
  opened_at [] (y ∷ links) p e l so lt = absurd so
  opened_at (x ∷ ends) [] p e l so lt = absurd so

  pub opening_in_order : (x : CardView) (card : List NicEnd) (ends : List (CoreEnds U E)) (cores : List (Core U E)) → x.ports ≡ map opened card → EndsAreInOrder card ends → AreOpenedAs ends cores
      → AreInOrder x cores
  opening_in_order x card ends cores all m so = record {
    count = ap length all ∙ (map_length opened card ∙ (m.count ∙ sym so.count));
    numbers = λ c d lt. let o = so.each c (its c lt) d lt in ap (λ (s : _). s.home.0) o.is.pool_is ∙ o.own;
    ports = λ c p d lt.
        let e = its c lt in
        let o = (so.each c e d lt).is in
        let n = one_of card c (omega (arith, m.count, so.count, lt)) in
        let port : get_or x.ports c p ≡ opened (get_or card c n) = ap (λ (l : List PortView). get_or l c p) all ∙ map_at opened card c n p (omega (arith, m.count, so.count, lt)) in
        record {
          items = ap (λ (v : PortView). v.ring.ring) port ∙ (m.items c n e (omega (arith, so.count, lt)) ∙ sym (ap (λ (t : _). t.ring) o.items));
          posts = ap (λ (q : _). q.ring) o.posted ∙ (m.posts c n e (omega (arith, so.count, lt)) ∙ sym (ap (λ (v : PortView). v.posts.ring) port));
        };
    mesh = record {
      links = λ c d lt. omega (arith, links c d lt, m.mesh.links c (its c lt) (omega (arith, so.count, lt)), so.count);
      others = λ c p d e lt within.
          let i = its c lt in
          let f = mesh_end c p i (omega (arith, so.count, lt)) (omega (arith, so.count, within)) in
          ap (λ (k : _). k.0) (link c p d e f i lt within).core ∙ m.mesh.others c p i f (omega (arith, so.count, lt)) (omega (arith, so.count, within));
      rings = λ a b d e lt within.
          let i = its b within in
          let f = mesh_end b a i (omega (arith, so.count, within)) (omega (arith, so.count, within, lt)) in
          let first = link a (b - 1) d e f i (omega arith) (omega (arith, within, lt)) in
          let second = link b a d e f i within (omega (arith, within, lt)) in
          record {
            there = ap (λ (q : _). q.ring) first.put ∙ (m.mesh.there a b i f lt (omega (arith, so.count, within)) ∙ sym (ap (λ (t : _). t.ring) second.take));
            back = ap (λ (q : _). q.ring) second.put ∙ (m.mesh.back a b i f lt (omega (arith, so.count, within)) ∙ sym (ap (λ (t : _). t.ring) first.take));
          };
    };
  } where
    its : (c : ℕ) → c < length cores → CoreEnds U E
    its c lt = one_of ends c (omega (arith, so.count, lt))

    mesh_end : (c p : ℕ) (i : CoreEnds U E) → c < length ends → p + 1 < length ends → MeshEnd U E
    mesh_end c p i lt within = one_of (get_or ends c i).mesh.items p (omega (arith, m.mesh.links c i lt, within))

    links : (c : ℕ) (d : Core U E) (lt : c < length cores) → length (get_or cores c d).links.items ≡ length (get_or ends c (its c lt)).mesh.items
    links c d lt = opened_count (get_or ends c (its c lt)).mesh.items (get_or cores c d).links.items (so.each c (its c lt) d lt).is.links

    link : (c p : ℕ) (d : Core U E) (e : Link U E) (f : MeshEnd U E) (i : CoreEnds U E) → c < length cores → p + 1 < length cores
        → IsOpenedLink (get_or (get_or ends c i).mesh.items p f) (get_or (get_or cores c d).links.items p e)
    link c p d e f i lt within =
        let o = (so.each c i d lt).is in
        opened_at (get_or ends c i).mesh.items (get_or cores c d).links.items p f e o.links
        (omega (arith, opened_count (get_or ends c i).mesh.items (get_or cores c d).links.items o.links, m.mesh.links c i (omega (arith, so.count, lt)), so.count, within))

  pub order_stays : (x y : CardView) (old new : List (Core U E)) → AreInOrder x old → SameRings x y → SameCores old new → AreInOrder y new
  order_stays x y old new m card so = record {
    count = card.count ∙ (m.count ∙ sym so.count);
    numbers = λ c d lt. ap (λ (k : _). k.0) (so.each c d).home ∙ m.numbers c d (omega (arith, so.count, lt));
    ports = λ c p d lt.
        let was = m.ports c p d (omega (arith, so.count, lt)) in
        let core = so.each c d in
        record { items = (card.items c p).0 ∙ (was.items ∙ sym core.items); posts = core.posted.0 ∙ (was.posts ∙ sym (card.posts c p)) };
    mesh = record {
      links = λ c d lt. omega (arith, m.mesh.links c d (omega (arith, so.count, lt)), (so.each c d).links.count, so.count);
      others = λ c p d e lt within. ap (λ (k : _). k.0) ((so.each c d).links.each p e).core ∙ m.mesh.others c p d e (omega (arith, so.count, lt)) (omega (arith, so.count, within));
      rings = λ a b d e lt within.
          let was = m.mesh.rings a b d e lt (omega (arith, so.count, within)) in
          let first = (so.each a d).links.each (b - 1) e in
          let second = (so.each b d).links.each a e in
          record { there = first.put.0 ∙ (was.there ∙ sym second.take); back = second.put.0 ∙ (was.back ∙ sym first.take) };
    };
  }
