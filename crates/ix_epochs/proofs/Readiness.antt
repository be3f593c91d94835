-- The card and the cores between epochs: at the opening, after a meeting, an epoch and a settle.
use Rattle.std.proofs.Common.{◌≡◌, ◌<◌, ◌≤◌, ◌+◌, ◌-◌, ◌++◌, ℕ, zero, suc, Bool, List, [], ◌∷◌, None, Some, Option, length, map, get_or, refl, sym, ap, ◌∙◌, append-nil, arith, length-append}
use Rattle.std.specs.Prelude.{count_by, if◌then◌else◌}
use Rattle.std.proofs.lemmas.List.Sums.{sum_by-append, sum_by-cons}
use Rattle.ix_base.specs.declared.id.Owned.{Owned}
use Rattle.ix_mbuf.specs.Buffers.{Buffer, buffers_weight}
use Rattle.ix_mbuf.specs.Owners.{maybe}
use Rattle.ix_ring.specs.Views.{PutView, TakeView}
use Rattle.ix_ring.specs.Ends.{known, places, put_list, taken}
use Rattle.ix_desk.specs.Pieces.{joined}
use Rattle.ix_stack.specs.declared.item.Item.{Item}
use Rattle.ix_stack.specs.declared.item.Item.TheVariants.{Frame, Tag, Cut, Start, Time, End}
use Rattle.ix_stack.specs.declared.work.Work.{Work}
use Rattle.ix_stack.specs.Items.{is_frame, item_weight, items_weight}
use Rattle.ix_nic.specs.declared.port.NicEnd.{NicEnd}
use Rattle.ix_nic.specs.Cards.{CardView, all_waiting, opened}
use Rattle.ix_nic.specs.Held.{Conserves, KeepsBuffers}
use Rattle.ix_nic.specs.Ports.{PortView, kept_count, whole}
use Rattle.ix_feed.specs.Replays.{FeedView}
use Rattle.ix_core.specs.declared.link.Link.{Link}
use Rattle.ix_core.specs.declared.message.CoreEnds.{CoreEnds}
use Rattle.ix_core.specs.declared.message.MeshEnd.{MeshEnd}
use Rattle.ix_core.specs.declared.settling.SettleReport.{SettleReport}
use Rattle.ix_core.specs.declared.turning.Core.{Core}
use Rattle.ix_core.specs.Cores.{Ran}
use Rattle.ix_core.specs.Landing.{ship_in}
use Rattle.ix_core.specs.Homing.{LinkEmptied}
use Rattle.ix_core.specs.Links.{AreOpened, IsOpenedLink}
use Rattle.ix_core.specs.Meeting.{AllAreTold, AreInOrder, CardLearned, CoresLearned, link_at}
use Rattle.ix_core.specs.Opening.{EndsAreNew}
use Rattle.ix_core.specs.Order.{AreOpenedAs, EndsAreInOrder}
use Rattle.ix_core.specs.Renewing.{IsResting, posted_count}
use Rattle.ix_core.specs.Settling.{CanSettle, CoreSettled, MeshIsEmpty, Settles}
use Rattle.ix_epochs.specs.Epochs.{EpochRan}
use Rattle.ix_epochs.specs.Ready.{IsReady}
use Rattle.ix_epochs.specs.Rest.{KeepsNothing}
use Rattle.ix_epochs.proofs.Links.{all_taken, at_link, none_known, place_within}
use Rattle.ix_epochs.proofs.Places.{none_long, one_of}

-- ## Counting
frames_count : (xs : List Item) → items_weight (λ n. 1) xs ≡ count_by is_frame xs
frames_count [] = refl
frames_count (x ∷ xs) = omega (arith, one x, frames_count xs, sum_by-cons (item_weight (λ n. 1)) x xs, sum_by-cons (λ (i : Item). if is_frame i then 1 else 0) x xs) where
  one : (x : Item) → item_weight (λ n. 1) x ≡ (if is_frame x then 1 else 0)
  one (Frame w g buf) = refl
  one (Tag g) = refl
  one (Cut g to) = refl
  one (Start g k) = refl
  one (Time w t) = refl
  one End = refl

buffers_count : (xs : List Buffer) → buffers_weight (λ n. 1) xs ≡ length xs
buffers_count [] = refl
buffers_count (x ∷ xs) = omega (arith, buffers_count xs, sum_by-cons (λ (b : Buffer). 1) x xs)

kept_counts : (o : Option Buffer) → maybe (λ (b : Buffer). 1) o ≡ kept_count o
kept_counts None = refl
kept_counts (Some b) = refl

pub none_behind : (ports : List PortView) (c : ℕ) (p : PortView) → all_waiting ports ≡ 0 → c < length ports → (get_or ports c p).behind ≡ []
none_behind [] c p e lt = absurd (omega arith)
none_behind (q ∷ ports) zero p e lt = none_long q.behind (omega (arith, e, sum_by-cons (λ (v : PortView). length v.behind) q ports))
none_behind (q ∷ ports) (suc c) p e lt = none_behind ports c p (omega (arith, e, sum_by-cons (λ (v : PortView). length v.behind) q ports)) (omega arith)

module _ {U E : Type 0} where
  -- what was put on a core's ring was taken, and nothing stands behind it
  pub whole_so : (p : PortView) (x : Core U E) → IsResting p x → whole p ≡ taken x.items
  whole_so p x was = ap (λ l. put_list p.ring ++ l) was.none_behind ∙ append-nil (put_list p.ring) ∙ was.empty

  -- ## A settle can follow
  pub ready_can : (card : CardView) (cores : List (Core U E)) → 1 ≤ length cores → IsReady card cores → AllAreTold card cores → CanSettle card cores
  ready_can card cores some so told = record {
    order = so.order;
    told = told;
    some = some;
    done = λ c p d lt.
        let r = so.ports c p d lt in
        record { items_places = r.items_places; posts_places = r.posts_places; none_on = r.empty; none_behind = r.none_behind; few = r.few };
    no_ships = λ c d lt p e within. record {
      coming = ap (joined ship_in) (coming c d lt p e within);
      going = ap (joined ship_in) ((so.keep c d lt).links p e within).waits;
    };
  } where
    coming : (c : ℕ) (d : Core U E) → c < length cores → (p : ℕ) (e : Link U E) → p < length (get_or cores c d).links.items → known (link_at cores c p d e).take ≡ []
    coming c d lt p e within =
        at_link (λ (l : Link U E). known l.take ≡ []) cores
        (λ a b d e low high. (
          none_known (link_at cores b a d e).put (link_at cores a (b - 1) d e).take (told.mesh a b d e low high).back (so.mesh a b d e low high).1,
          none_known (link_at cores a (b - 1) d e).put (link_at cores b a d e).take (told.mesh a b d e low high).there (so.mesh a b d e low high).0,
        ))
        c p d e lt (place_within cores c p d (so.order.mesh.links c d lt) within)

  -- ## After a meeting
  pub meeting_ready : (x y : CardView) (old new : List (Core U E)) → IsReady x old → CardLearned x y → CoresLearned old new → AreInOrder y new → AllAreTold y new → IsReady y new
  meeting_ready x y old new so card cores order told = record {
    order = order;
    ports = λ c p d lt. ports c p d lt (omega (arith, cores.count, lt));
    mesh = λ a b d e lt within.
        let was = so.mesh a b d e lt (omega (arith, cores.count, within)) in
        let first = (cores.each a d).links (b - 1) e in
        let second = (cores.each b d).links a e in
        (first.put.puts ∙ was.0 ∙ sym second.take.took, second.put.puts ∙ was.1 ∙ sym first.take.took);
    keep = λ c d lt.
        let was = so.keep c d (omega (arith, cores.count, lt)) in
        let core = cores.each c d in
        record {
          came = ap (λ (k : Core U E). k.came.items) core.rest ∙ was.came;
          lost = ap (λ (k : Core U E). k.lost.items) core.rest ∙ was.lost;
          links = λ p e within.
              let link = was.links p e (omega (arith, core.count, within)) in
              record {
                ships = ap (λ (l : Link U E). l.ships.items) (core.links p e).rest ∙ link.ships;
                waits = ap (λ (l : Link U E). l.waiting.items) (core.links p e).rest ∙ link.waits;
              };
        };
  } where
    ports : (c : ℕ) (p : PortView) (d : Core U E) → c < length new → c < length old → IsResting (get_or y.ports c p) (get_or new c d)
    ports c p d lt before =
        let was = so.ports c p d before in
        let port = card.each c p in
        let core = cores.each c d in
        let at = order.ports c p d lt in
        let met = (told.ports c p d lt).posts.whole in
        let kept : kept_count (get_or y.ports c p).kept ≡ kept_count (get_or x.ports c p).kept = ap (λ (v : PortView). kept_count v.kept) port.rest in
        record {
          items = at.items;
          posts = at.posts;
          items_places = port.ring.ring.1 ∙ was.items_places;
          posts_places = core.posted.ring.1 ∙ was.posts_places;
          empty = port.ring.puts ∙ was.empty ∙ sym core.items.took;
          none_behind = ap (λ (v : PortView). v.behind) port.rest ∙ was.none_behind;
          met = met;
          few = omega (
            arith,
            was.few,
            kept,
            ap length met,
            ap length was.met,
            ap length core.posted.puts,
            ap length port.posts.took,
            length-append (taken (get_or y.ports c p).posts) (known (get_or y.ports c p).posts),
            length-append (taken (get_or x.ports c p).posts) (known (get_or x.ports c p).posts),
          );
        }

  -- ## At the opening
  pub opening_ready : (n : ℕ) (x : CardView) (card : List NicEnd) (ends : List (CoreEnds U E)) (cores : List (Core U E)) → x.ports ≡ map opened card → EndsAreInOrder card ends → EndsAreNew n card ends
      → AreOpenedAs ends cores → AreInOrder x cores → IsReady x cores
  opening_ready n x card ends cores all m fresh so order = record { order = order; ports = ports; mesh = mesh; keep = keep } where
    its : (c : ℕ) → c < length cores → CoreEnds U E
    its c lt = one_of ends c (omega (arith, so.count, lt))

    map_at : (ends : List NicEnd) (i : ℕ) (e : NicEnd) (p : PortView) → i < length ends → get_or (map opened ends) i p ≡ opened (get_or ends i e)
    map_at [] i e p lt = absurd (omega arith)
    map_at (k ∷ ks) zero e p lt = refl
    map_at (k ∷ ks) (suc i) e p lt = map_at ks i e p (omega arith)

    opened_count : (ends : List (MeshEnd U E)) (links : List (Link U E)) → AreOpened ends links → length links ≡ length ends
    opened_count [] [] so = refl
    opened_count (e ∷ ends) (l ∷ links) so = ap suc (opened_count ends links so.1)
    opened_count [] (l ∷ links) so = absurd so
    opened_count (e ∷ ends) [] so = absurd so

    opened_at : (ends : List (MeshEnd U E)) (links : List (Link U E)) (p : ℕ) (e : MeshEnd U E) (l : Link U E) → AreOpened ends links → p < length links → IsOpenedLink (get_or ends p e) (get_or links p l)
    opened_at [] [] p e l so lt = absurd (omega arith)
    opened_at (x ∷ ends) (y ∷ links) zero e l so lt = so.0
    opened_at (x ∷ ends) (y ∷ links) (suc p) e l so lt = opened_at ends links p e l so.1 (omega arith)
    opened_at [] (y ∷ links) p e l so lt = absurd so
    opened_at (x ∷ ends) [] p e l so lt = absurd so

    mesh_end : (c p : ℕ) (i : CoreEnds U E) → c < length ends → p + 1 < length ends → MeshEnd U E
    mesh_end c p i lt within = one_of (get_or ends c i).mesh.items p (omega (arith, m.mesh.links c i lt, within))

    link : (c p : ℕ) (d : Core U E) (e : Link U E) (f : MeshEnd U E) (i : CoreEnds U E) → c < length cores → p + 1 < length cores
        → IsOpenedLink (get_or (get_or ends c i).mesh.items p f) (link_at cores c p d e)
    link c p d e f i lt within =
        let o = (so.each c i d lt).is in
        opened_at (get_or ends c i).mesh.items (get_or cores c d).links.items p f e o.links
        (omega (arith, opened_count (get_or ends c i).mesh.items (get_or cores c d).links.items o.links, m.mesh.links c i (omega (arith, so.count, lt)), so.count, within))

    none_put : (c p : ℕ) (d : Core U E) (e : Link U E) → c < length cores → p + 1 < length cores → put_list (link_at cores c p d e).put ≡ []
    none_put c p d e lt within =
        let i = its c lt in
        let f = mesh_end c p i (omega (arith, so.count, lt)) (omega (arith, so.count, within)) in
        ap (λ (q : _). put_list q) (link c p d e f i lt within).put ∙ (fresh.mesh c p i f (omega (arith, so.count, lt)) (omega (arith, so.count, within))).put.none

    none_took : (c p : ℕ) (d : Core U E) (e : Link U E) → c < length cores → p + 1 < length cores → taken (link_at cores c p d e).take ≡ []
    none_took c p d e lt within =
        let i = its c lt in
        let f = mesh_end c p i (omega (arith, so.count, lt)) (omega (arith, so.count, within)) in
        ap (λ (t : _). taken t) (link c p d e f i lt within).take ∙ (fresh.mesh c p i f (omega (arith, so.count, lt)) (omega (arith, so.count, within))).take.none

    mesh : MeshIsEmpty cores
    mesh a b d e lt within = (
      none_put a (b - 1) d e (omega arith) (omega arith) ∙ sym (none_took b a d e within (omega arith)),
      none_put b a d e within (omega arith) ∙ sym (none_took a (b - 1) d e (omega arith) (omega arith)),
    )

    keep : (c : ℕ) (d : Core U E) → c < length cores → KeepsNothing (get_or cores c d)
    keep c d lt =
        let i = its c lt in
        let o = (so.each c i d lt).is in
        record {
          came = o.came;
          lost = o.lost;
          links = λ p e within.
              let room = place_within cores c p d (order.mesh.links c d lt) within in
              let f = mesh_end c p i (omega (arith, so.count, lt)) (omega (arith, so.count, room)) in
              let one = link c p d e f i lt room in
              record { ships = one.ships; waits = one.waiting };
        }

    ports : (c : ℕ) (p : PortView) (d : Core U E) → c < length cores → IsResting (get_or x.ports c p) (get_or cores c d)
    ports c p d lt =
        let i = its c lt in
        let o = (so.each c i d lt).is in
        let k = one_of card c (omega (arith, m.count, so.count, lt)) in
        let port : get_or x.ports c p ≡ opened (get_or card c k) = ap (λ (l : List PortView). get_or l c p) all ∙ map_at card c k p (omega (arith, m.count, so.count, lt)) in
        let new = fresh.ports c k i (omega (arith, so.count, lt)) in
        let at = order.ports c p d lt in
        record {
          items = at.items;
          posts = at.posts;
          items_places = ap (λ (v : PortView). places v.ring) port ∙ new.items_put.all;
          posts_places = ap (λ (q : PutView Buffer). places q) o.posted ∙ new.posts_put.all;
          empty = ap (λ (v : PortView). put_list v.ring) port ∙ new.items_put.none ∙ sym (ap (λ (t : TakeView Item). taken t) o.items ∙ new.items_take.none);
          none_behind = ap (λ (v : PortView). v.behind) port;
          met = ap (λ (q : PutView Buffer). put_list q) o.posted ∙ new.posts_put.none
              ∙ sym (ap (λ (v : PortView). taken v.posts ++ known v.posts) port ∙ ap (λ l. l ++ known (get_or card c k).posted) new.posts_take.none ∙ new.posts_take.empty);
          few = omega (arith, ap posted_count port, ap length new.posts_take.empty);
        }

  -- ## After a settle
  pub settle_ready : (owners : U → ℕ → Owned) (report : SettleReport) (x y : CardView) (old new : List (Core U E)) → IsReady x old → Settles owners report x y old new → IsReady y new
  settle_ready owners report x y old new so did = record {
    order = record {
      count = did.ports ∙ so.order.count ∙ sym did.count;
      numbers = λ c d lt. ap (λ (k : _). k.0) (core c d lt).home ∙ so.order.numbers c d (before c lt);
      ports = λ c p d lt. let one = did.each c p d (before c lt) in record { items = one.items; posts = one.posts };
      mesh = record {
        links = λ c d lt. omega (arith, (core c d lt).links.count, so.order.mesh.links c d (before c lt), did.count);
        others = λ c p d e lt within.
            let was = so.order.mesh.others c p d e (before c lt) (before (p + 1) within) in
            ap (λ (l : Link U E). l.core.0) (link c p d e lt within).rest ∙ was;
        rings = λ a b d e lt within.
            let was = so.order.mesh.rings a b d e lt (before b within) in
            let first = link a (b - 1) d e (omega arith) (omega arith) in
            let second = link b a d e within (omega arith) in
            record {
              there = ap (λ (l : Link U E). l.put.ring) first.rest ∙ (was.there ∙ sym second.ring);
              back = ap (λ (l : Link U E). l.put.ring) second.rest ∙ (was.back ∙ sym first.ring);
            };
      };
    };
    ports = λ c p d lt.
        let one = did.each c p d (before c lt) in
        let was = so.ports c p d (before c lt) in
        record {
          items = one.items;
          posts = one.posts;
          items_places = one.items_places;
          posts_places = one.posts_places;
          empty = one.none_put ∙ sym one.none_taken;
          none_behind = ap (λ (v : PortView). v.behind) one.port_rest ∙ was.none_behind;
          met = one.put ∙ sym (ap (λ l. l ++ known (get_or y.ports c p).posts) one.fresh);
          few = omega (arith, one.posted);
        };
    mesh = did.mesh;
    keep = λ c d lt.
        let was = so.keep c d (before c lt) in
        let one = core c d lt in
        record {
          came = ap (λ (k : Core U E). k.came.items) one.core_rest ∙ was.came;
          lost = ap (λ (k : Core U E). k.lost.items) one.core_rest ∙ was.lost;
          links = λ p e within.
              let room : p < length (get_or old c d).links.items = omega (arith, one.links.count, within) in
              let emptied = one.links.each p e room in
              record { ships = ap (λ (l : Link U E). l.ships.items) emptied.rest ∙ (was.links p e room).ships; waits = emptied.waits };
        };
  } where
    before : (c : ℕ) → c < length new → c < length old
    before c lt = omega (arith, did.count, lt)

    port : (c : ℕ) → c < length new → PortView
    port c lt = one_of x.ports c (omega (arith, so.order.count, did.count, lt))

    core : (c : ℕ) (d : Core U E) (lt : c < length new) → CoreSettled (get_or x.ports c (port c lt)) (get_or y.ports c (port c lt)) (get_or old c d) (get_or new c d)
    core c d lt = did.each c (port c lt) d (before c lt)

    link : (c p : ℕ) (d : Core U E) (e : Link U E) → c < length new → p + 1 < length new → LinkEmptied (link_at old c p d e) (link_at new c p d e)
    link c p d e lt within = (core c d lt).links.each p e (omega (arith, so.order.mesh.links c d (before c lt), did.count, within))

-- ## After an epoch
module _ {U E : Type 0} (counted : Work → Bool) (name : Work → ℕ) (stepped : U → List (ℕ × ℕ)) (advanced : U → E → ℕ → List Work → U → Type 0) (drained : U → List Buffer → U → Type 0) (env : E) where
  -- no more buffers are posted than were, since a core posts no more than it takes
  few_so : (p q : PortView) (x y : Core U E) → IsResting p x → Ran counted name stepped advanced drained env x y → Conserves (λ id. 1) p q → q.behind ≡ [] → put_list q.ring ≡ taken y.items
      → put_list y.posted ≡ taken q.posts ++ known q.posts → posted_count q ≤ 512
  few_so p q x y was made same behind empty met =
      let before : whole p ≡ taken x.items = whole_so p x was in
      let after : whole q ≡ taken x.items ++ made.items = ap (λ l. put_list q.ring ++ l) behind ∙ append-nil (put_list q.ring) ∙ empty ∙ made.took in
      omega (
        arith,
        was.few,
        made.few,
        same,
        frames_count (whole p),
        frames_count (whole q),
        ap (count_by is_frame) before,
        ap (count_by is_frame) after,
        sum_by-append (λ (i : Item). if is_frame i then 1 else 0) (taken x.items) made.items,
        kept_counts p.kept,
        kept_counts q.kept,
        buffers_count (taken p.posts),
        buffers_count (taken q.posts),
        ap length made.put,
        length-append (put_list x.posted) made.posts,
        ap length was.met,
        length-append (taken p.posts) (known p.posts),
        ap length met,
        length-append (taken q.posts) (known q.posts),
      )

  pub epoch_ready : (f g : FeedView) (old new : List (Core U E)) → IsReady f.card old → KeepsBuffers f.card.ports g.card.ports → EpochRan counted name stepped advanced drained env f g old new → IsReady g.card new
  epoch_ready f g old new so keeps ran = record {
    order = ran.over.order;
    ports = ports;
    mesh = λ a b d e lt within.
        let told = ran.over.told.mesh a b d e lt within in (
          all_taken (link_at new a (b - 1) d e).put (link_at new b a d e).take told.there (none b a d e within (omega arith)),
          all_taken (link_at new b a d e).put (link_at new a (b - 1) d e).take told.back (none a (b - 1) d e (omega arith) (omega arith)),
        );
    keep = λ c d lt. (ran.over.rest c d lt).keeps;
  } where
    none : (c p : ℕ) (d : Core U E) (e : Link U E) → c < length new → p + 1 < length new → known (link_at new c p d e).take ≡ []
    none c p d e lt within = (ran.over.empty c d lt).links p e (omega (arith, ran.over.order.mesh.links c d lt, within))

    ports : (c : ℕ) (p : PortView) (d : Core U E) → c < length new → IsResting (get_or g.card.ports c p) (get_or new c d)
    ports c p d lt =
        let before : c < length old = omega (arith, ran.cores.count, lt) in
        let in_f : c < length f.card.ports = omega (arith, so.order.count, before) in
        let in_g : c < length g.card.ports = omega (arith, ran.over.order.count, lt) in
        let was = so.ports c p d before in
        let at = ran.over.order.ports c p d lt in
        let told = ran.over.told.ports c p d lt in
        let same = ran.feed.rings.ports c p in_f in
        let core = ran.cores.each c d before in
        let made = core.ran (ran.over.rest c d lt).found in
        let empty = all_taken (get_or g.card.ports c p).ring (get_or new c d).items told.items (ran.over.empty c d lt).items in
        let behind = none_behind g.card.ports c p ran.over.ended.1 in_g in
        record {
          items = at.items;
          posts = at.posts;
          items_places = same.items.1 ∙ was.items_places;
          posts_places = core.ends.posted.1 ∙ was.posts_places;
          empty = empty;
          none_behind = behind;
          met = told.posts.whole;
          few = few_so (get_or f.card.ports c p) (get_or g.card.ports c p) (get_or old c d) (get_or new c d) was made (keeps.same (λ id. 1) c p in_f) behind empty told.posts.whole;
        }
