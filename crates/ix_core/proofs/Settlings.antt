-- What a settle leaves, part by part.
use Rattle.std.proofs.Common.{◌≡◌, ◌<◌, ◌≤◌, ◌+◌, ◌-◌, ℕ, zero, suc, false, List, [], ◌∷◌, ◌++◌, length, get_or, sum_by, refl, sym, ap, subst, ◌∙◌, arith}
use Rattle.std.specs.Prelude.{All}
use Rattle.std.proofs.lemmas.List.Elements.{All-head, All-nil, All-same, All-weaker}
use Rattle.std.proofs.lemmas.List.Sums.{sum_by-cons}
use Rattle.ix_base.specs.declared.id.Owned.{Owned}
use Rattle.ix_base.specs.declared.id.BufId.{BufId}
use Rattle.ix_base.specs.declared.id.CoreId.{CoreId}
use Rattle.ix_mbuf.specs.declared.name.Name.{Name}
use Rattle.ix_mbuf.specs.Buffers.{Buffer, buffers_weight}
use Rattle.ix_mbuf.specs.Owners.{one_if, times}
use Rattle.ix_mbuf.specs.Pools.{all_names, is_out_of}
use Rattle.ix_ring.specs.Views.{PutView, TakeView}
use Rattle.ix_ring.specs.Ends.{known, places, put_list, taken}
use Rattle.ix_desk.specs.Pieces.{joined}
use Rattle.ix_stack.specs.declared.item.Item.{Item}
use Rattle.ix_nic.specs.declared.offer.Counts.{Counts}
use Rattle.ix_nic.specs.Cards.{AreAtRest, AreSettled, CardView, counts_of, settled}
use Rattle.ix_nic.specs.Ports.{PortView, posted_now}
use Rattle.ix_core.specs.declared.link.Link.{Link}
use Rattle.ix_core.specs.declared.settling.SettleReport.{SettleReport}
use Rattle.ix_core.specs.declared.turning.Core.{Core}
use Rattle.ix_core.specs.Counting.{AreHomes, home_of}
use Rattle.ix_core.specs.Homing.{AllHomed, AreNumbered, AreOwn, CoreEmptied, CoreHomed, EachIs, LinkEmptied, NoneOut, core_returns, stock_weight}
use Rattle.ix_core.specs.Meeting.{AreInOrder, link_at}
use Rattle.ix_core.specs.Renewing.{IsOf, AreCounts, AreRenewed, AreResting, IsResting, Renewed, free_weight, posted_weight}
use Rattle.ix_core.specs.Settling.{CanSettle, CoreSettled, MeshIsEmpty, Settles}
use Rattle.ix_core.proofs.Pools.{in_free, one_self, still_of}
use Rattle.ix_core.proofs.Renewals.{any_port, sum_same}

sum_below : {X : Type 0} (v w : X → ℕ) (xs : List X) → ((k : ℕ) (d : X) → k < length xs → v (get_or xs k d) ≤ w (get_or xs k d)) → sum_by v xs ≤ sum_by w xs
sum_below v w [] each = omega arith
sum_below v w (x ∷ xs) each = omega (arith, sum_by-cons v x xs, sum_by-cons w x xs, each 0 x (omega arith), sum_below v w xs (λ k d lt. each (suc k) d (omega arith)))

-- the sum is above where one element's is
sum_above : {X : Type 0} (v w : X → ℕ) (xs : List X) (i : ℕ) (d : X) → i < length xs → ((k : ℕ) (e : X) → k < length xs → v (get_or xs k e) ≤ w (get_or xs k e)) → v (get_or xs i d) < w (get_or xs i d)
    → sum_by v xs < sum_by w xs
sum_above v w [] i d lt each more = absurd (omega arith)
sum_above v w (x ∷ xs) zero d lt each more = omega (arith, sum_by-cons v x xs, sum_by-cons w x xs, more, sum_below v w xs (λ k e h. each (suc k) e (omega arith)))
sum_above v w (x ∷ xs) (suc i) d lt each more =
    omega (arith, sum_by-cons v x xs, sum_by-cons w x xs, each 0 x (omega arith), sum_above v w xs i d (omega arith) (λ k e h. each (suc k) e (omega arith)) more)

same_counts : (a b c b' c' : ℕ) → b ≡ b' → c ≡ c' → ◌≡◌ {A = Counts} (record { posted = a; frames = b; items = c }) (record { posted = a; frames = b'; items = c' })
same_counts a b c b' c' p q = cc

pub sum_four : {X : Type 0} (a b c e : X → ℕ) (xs ys : List X) → length ys ≡ length xs → ((k : ℕ) (d : X) → k < length xs → a (get_or ys k d) + b (get_or xs k d) ≡ c (get_or xs k d) + e (get_or ys k d))
    → sum_by a ys + sum_by b xs ≡ sum_by c xs + sum_by e ys
sum_four a b c e [] [] len each = refl
sum_four a b c e [] (y ∷ ys) len each = absurd (omega arith)
sum_four a b c e (x ∷ xs) [] len each = absurd (omega arith)
sum_four a b c e (x ∷ xs) (y ∷ ys) len each =
    omega (
      arith,
      sum_by-cons a y ys,
      sum_by-cons b x xs,
      sum_by-cons c x xs,
      sum_by-cons e y ys,
      each 0 x (omega arith),
      sum_four a b c e xs ys (omega arith) (λ k d lt. each (suc k) d (omega arith)),
    )

module _ {U E : Type 0} where
  -- ## After the buffers were taken
  pub numbers_emptied : (x y : List (Core U E)) → EachIs CoreEmptied x y → AreNumbered x → AreNumbered y
  numbers_emptied x y so order c d lt =
      let one = so.each c d (omega (arith, so.count, lt)) in
      ap (λ (z : Core U E). z.pool.home.0) one.rest ∙ order c d (omega (arith, so.count, lt))

  pub none_emptied : (x y : List (Core U E)) → EachIs CoreEmptied x y → NoneOut y
  none_emptied x y so c h d e below_c below_h =
      All-same (λ (b : Buffer). is_out_of (get_or y h e).pool b.name.id ≡ false) (get_or y c d).returns.items [] (so.each c d (omega (arith, so.count, below_c))).returns
      (All-nil (λ (b : Buffer). is_out_of (get_or y h e).pool b.name.id ≡ false))

  pub weight_emptied : (f : Name → ℕ) (x y : List (Core U E)) → EachIs CoreEmptied x y → sum_by (stock_weight f) y ≡ sum_by (free_weight f) x
  weight_emptied f x y so = sum_same (stock_weight f) (free_weight f) x y so.count (λ k d lt.
      let one = so.each k d lt in
      omega (arith, ap (buffers_weight f) one.returns, ap (λ (z : Core U E). sum_by f z.pool.free) one.rest))

  -- Nothing is still to be given to a pool that is out of none, where free buffers and those that are to be given are the pools' own.
  pub none_kept : (z : List (Core U E)) → NoneOut z → ((x : BufId) → sum_by (stock_weight (one_if x)) z ≤ sum_by (λ (v : Core U E). times x (all_names v.pool.home v.pool.n)) z) → (c : ℕ) (d : Core U E) → c < length z
      → (get_or z c d).returns.items ≡ []
  none_kept z none own c d lt = step (get_or z c d).returns.items refl where
    step : (returns : List Buffer) → (get_or z c d).returns.items ≡ returns → (get_or z c d).returns.items ≡ []
    step [] is = is
    step (b ∷ rest) is =
        let id = b.name.id in
        let free : (k : ℕ) (e : Core U E) → k < length z → times id (all_names (get_or z k e).pool.home (get_or z k e).pool.n) ≤ times id (get_or z k e).pool.free = λ k e h.
        let out : All (λ (v : Buffer). is_out_of (get_or z k e).pool v.name.id ≡ false) (b ∷ rest) = subst (λ l. All (λ (v : Buffer). is_out_of (get_or z k e).pool v.name.id ≡ false) l) is (none c k d e lt h) in
        in_free (get_or z k e).pool id (All-head (λ (v : Buffer). is_out_of (get_or z k e).pool v.name.id ≡ false) b rest out) in
        let here : times id (all_names (get_or z c d).pool.home (get_or z c d).pool.n) < stock_weight (one_if id) (get_or z c d) =
        omega (arith, free c d lt, ap (buffers_weight (one_if id)) is, sum_by-cons (λ (v : Buffer). one_if id v.name) b rest, one_self id b.name refl) in
        let more = sum_above (λ (v : Core U E). times id (all_names v.pool.home v.pool.n)) (stock_weight (one_if id)) z c d lt
        (λ k e h. omega (arith, free k e h)) here in
        absurd (omega (arith, more, own id))

  -- the pools have the slots that they had
  pub slots_emptied : (id : BufId) (x y : List (Core U E)) → EachIs CoreEmptied x y
      → sum_by (λ (v : Core U E). times id (all_names v.pool.home v.pool.n)) y ≡ sum_by (λ (v : Core U E). times id (all_names v.pool.home v.pool.n)) x
  slots_emptied id x y so =
      sum_same (λ (v : Core U E). times id (all_names v.pool.home v.pool.n)) (λ (v : Core U E). times id (all_names v.pool.home v.pool.n)) x y so.count
      (λ k d lt. ap (λ (c : Core U E). times id (all_names c.pool.home c.pool.n)) (so.each k d lt).rest)

  pub slots_homed : (id : BufId) (x y : List (Core U E)) (bufs : List Buffer) → AllHomed bufs x y
      → sum_by (λ (v : Core U E). times id (all_names v.pool.home v.pool.n)) y ≡ sum_by (λ (v : Core U E). times id (all_names v.pool.home v.pool.n)) x
  slots_homed id x y bufs so =
      sum_same (λ (v : Core U E). times id (all_names v.pool.home v.pool.n)) (λ (v : Core U E). times id (all_names v.pool.home v.pool.n)) x y so.count (λ k d lt.
      ap (λ (h : CoreId). times id (all_names h (get_or y k d).pool.n)) (so.cores k d).home ∙ ap (λ n. times id (all_names (get_or x k d).pool.home n)) (so.cores k d).number)

  -- Nothing is still to be given to a pool, where the buffers that returned were out of the pools.
  none_left : (x y z : List (Core U E)) (bufs : List Buffer) → AreOwn x → EachIs CoreEmptied x y → bufs ≡ joined core_returns x → AllHomed bufs y z → (c : ℕ) (d : Core U E) → c < length x
      → (get_or z c d).returns.items ≡ []
  none_left x y z bufs own empty all homed c d lt =
      none_kept z (homed.none (none_emptied x y empty)) (λ id.
      omega (arith, slots_emptied id x y empty, slots_homed id y z bufs homed, own id, homed.weight (one_if id), weight_emptied (one_if id) x y empty, ap (buffers_weight (one_if id)) all))
      c d (omega (arith, lt, homed.count, empty.count))

  -- ## Before the rings are made anew
  pub resting_so : (card : CardView) (x y z : List (Core U E)) (bufs : List Buffer) → CanSettle card x → EachIs CoreEmptied x y → AllHomed bufs y z → AreResting card.ports z
  resting_so card x y z bufs can empty homed = record {
    count = can.order.count ∙ sym empty.count ∙ sym homed.count;
    numbers = λ c d lt.
        ap (λ (h : CoreId). h.0) (homed.cores c d).home ∙ numbers_emptied x y empty can.order.numbers c d (omega (arith, homed.count, lt));
    each = λ c p d lt. spot c p d (omega (arith, homed.count, empty.count, lt));
  } where
    spot : (c : ℕ) (p : PortView) (d : Core U E) → c < length x → IsResting (get_or card.ports c p) (get_or z c d)
    spot c p d lt =
        let port = can.order.ports c p d lt in
        let told = can.told.ports c p d lt in
        let done = can.done c p d lt in
        let same_items : (get_or z c d).items ≡ (get_or x c d).items = ap (λ (k : Core U E). k.items) (homed.cores c d).rest ∙ ap (λ (k : Core U E). k.items) (empty.each c d lt).rest in
        let same_posted : (get_or z c d).posted ≡ (get_or x c d).posted = ap (λ (k : Core U E). k.posted) (homed.cores c d).rest ∙ ap (λ (k : Core U E). k.posted) (empty.each c d lt).rest in
        record {
          items = port.items ∙ sym (ap (λ (t : TakeView Item). t.ring) same_items);
          posts = ap (λ (t : PutView Buffer). t.ring) same_posted ∙ port.posts;
          items_places = done.items_places;
          posts_places = ap (λ (t : PutView Buffer). places t) same_posted ∙ done.posts_places;
          empty = done.none_on ∙ sym (ap (λ (t : TakeView Item). taken t) same_items);
          none_behind = done.none_behind;
          met = ap (λ (t : PutView Buffer). put_list t) same_posted ∙ told.posts.whole;
          few = done.few;
        }

  pub numbers_so : (card : CardView) (x y : List (Core U E)) → CanSettle card x → EachIs CoreEmptied x y → AreNumbered y
  numbers_so card x y can empty = numbers_emptied x y empty can.order.numbers

  first_core : (x : List (Core U E)) → 1 ≤ length x → Core U E
  first_core [] le = absurd (omega arith)
  first_core (k ∷ ks) le = k

  pub at_rest : (card card' : CardView) (x z w : List (Core U E)) → CanSettle card x → length z ≡ length x → AreRenewed card card' z w → AreAtRest card'.ports
  at_rest card card' x z w can count anew r p lt =
      let d = first_core x can.some in
      let within : r < length x = omega (arith, lt, anew.ports, can.order.count) in
      let one = anew.each r p d (omega (arith, within, count)) in
      record { none = ap (λ (q : PortView). q.behind) one.port_rest ∙ (can.done r p d within).none_behind; room = omega (arith, one.room) }

  -- ## One core
  core_so : (p q : PortView) (x y z w : Core U E) → CoreEmptied x y → CoreHomed y z → Renewed p q z w → CoreSettled p (settled q) x w
  core_so p q x y z w empty homed one =
      let links : w.links ≡ y.links = ap (λ (k : Core U E). k.links) one.core_rest ∙ ap (λ (k : Core U E). k.links) homed.rest in
      let returns : w.returns ≡ z.returns = ap (λ (k : Core U E). k.returns) one.core_rest in
      let before : z ≡ record x { pool = z.pool; returns = z.returns; links = y.links } = homed.rest ∙ ap (λ (k : Core U E). record k { pool = z.pool; returns = z.returns }) empty.rest in
      let after : w ≡ record x { pool = w.pool; returns = z.returns; items = w.items; links = y.links; posted = w.posted } =
      one.core_rest ∙ ap (λ (k : Core U E). record k { pool = w.pool; items = w.items; posted = w.posted }) before in
      let own : All (λ (b : Buffer). IsOf x.pool b.name) one.filled = All-weaker (λ (b : Buffer). IsOf z.pool b.name) (λ (b : Buffer). IsOf x.pool b.name)
      (λ b here. still_of z.pool x.pool b.name (homed.home ∙ ap (λ (k : Core U E). k.pool.home) empty.rest) (homed.number ∙ ap (λ (k : Core U E). k.pool.n) empty.rest) here) one.filled one.own in
      let still : All (λ (n : Name). IsOf x.pool n) w.pool.free = All-weaker (λ (n : Name). IsOf z.pool n) (λ (n : Name). IsOf x.pool n)
      (λ n here. still_of z.pool x.pool n (homed.home ∙ ap (λ (k : Core U E). k.pool.home) empty.rest) (homed.number ∙ ap (λ (k : Core U E). k.pool.n) empty.rest) here) w.pool.free one.still in
      record {
        items = one.items;
        items_places = one.items_places;
        none_put = one.none_put;
        none_taken = one.none_taken;
        none_known = one.none_known;
        room = one.room;
        posts = one.posts;
        posts_places = one.posts_places;
        filled = one.filled;
        own = own;
        still = still;
        all = one.all;
        fresh = one.fresh;
        put = one.put;
        posted = one.posted;
        links = rw links empty.links;
        home = one.home ∙ homed.home ∙ ap (λ (k : Core U E). k.pool.home) empty.rest;
        slots = one.slots ∙ homed.number ∙ ap (λ (k : Core U E). k.pool.n) empty.rest;
        core_rest = after ∙ core_parts x w y z (sym links) (sym returns);
        port_rest = ap (λ (k : PortView). record k { items = 0; frames = 0; posted = posted_now q; ended = false }) one.port_rest;
      } where
        core_parts : (x w y z : Core U E) → y.links ≡ w.links → z.returns ≡ w.returns
            → ◌≡◌ {A = Core U E} (record x { pool = w.pool; returns = z.returns; items = w.items; links = y.links; posted = w.posted }) (record x { pool = w.pool; returns = w.returns; items = w.items; links = w.links; posted = w.posted })
        core_parts x w y z p q = cc

  -- ## The mesh
  link_so : (x w : List (Core U E)) (c p : ℕ) (d : Core U E) (e : Link U E) → EachIs LinkEmptied (get_or x c d).links.items (get_or w c d).links.items → p < length (get_or x c d).links.items
      → LinkEmptied (link_at x c p d e) (link_at w c p d e)
  link_so x w c p d e so lt = so.each p e lt

  one_way : (a b a' b' : Link U E) → LinkEmptied a a' → LinkEmptied b b' → put_list a.put ≡ taken b.take ++ known b.take → put_list a'.put ≡ taken b'.take
  one_way a b a' b' p q whole = ap (λ (l : Link U E). put_list l.put) p.rest ∙ whole ∙ sym q.took

  mesh_so : (card : CardView) (x w : List (Core U E)) → CanSettle card x → length w ≡ length x
      → ((c : ℕ) (d : Core U E) → c < length x → EachIs LinkEmptied (get_or x c d).links.items (get_or w c d).links.items) → MeshIsEmpty w
  mesh_so card x w can count each a b d e lt within =
      let in_b : b < length x = omega (arith, within, count) in
      let in_a : a < length x = omega (arith, in_b, lt) in
      let first = link_so x w a (b - 1) d e (each a d in_a) (omega (arith, can.order.mesh.links a d in_a, in_b, lt)) in
      let second = link_so x w b a d e (each b d in_b) (omega (arith, can.order.mesh.links b d in_b, in_b, lt)) in
      let told = can.told.mesh a b d e lt in_b in (
        one_way (link_at x a (b - 1) d e) (link_at x b a d e) (link_at w a (b - 1) d e) (link_at w b a d e) first second told.there.whole,
        one_way (link_at x b a d e) (link_at x a (b - 1) d e) (link_at w b a d e) (link_at w a (b - 1) d e) second first told.back.whole,
      )

  -- ## The order of all cores
  order_so : (card card' : CardView) (x w : List (Core U E)) → AreInOrder card x → length card'.ports ≡ length card.ports → length w ≡ length x
      → ((c : ℕ) (p : PortView) (d : Core U E) → c < length x → CoreSettled (get_or card.ports c p) (get_or card'.ports c p) (get_or x c d) (get_or w c d)) → AreInOrder card' w
  order_so card card' x w order ports count each = record {
    count = ports ∙ order.count ∙ sym count;
    numbers = λ c d lt. let within : c < length x = omega (arith, lt, count) in ap (λ (h : CoreId). h.0) (each c (any_port d) d within).home ∙ order.numbers c d within;
    ports = λ c p d lt. let one = each c p d (omega (arith, lt, count)) in record { items = one.items; posts = one.posts };
    mesh = record {
      links = λ c d lt. let within : c < length x = omega (arith, lt, count) in omega (arith, (each c (any_port d) d within).links.count, order.mesh.links c d within, count);
      others = λ c p d e lt below.
          let within : c < length x = omega (arith, lt, count) in
          let place : p < length (get_or x c d).links.items = omega (arith, order.mesh.links c d within, below, count) in
          ap (λ (l : Link U E). l.core.0) ((each c (any_port d) d within).links.each p e place).rest ∙ order.mesh.others c p d e within (omega (arith, below, count));
      rings = λ a b d e lt below.
          let in_b : b < length x = omega (arith, below, count) in
          let in_a : a < length x = omega (arith, in_b, lt) in
          let first = link_so x w a (b - 1) d e (each a (any_port d) d in_a).links (omega (arith, order.mesh.links a d in_a, in_b, lt)) in
          let second = link_so x w b a d e (each b (any_port d) d in_b).links (omega (arith, order.mesh.links b d in_b, in_b, lt)) in
          let linked = order.mesh.rings a b d e lt in_b in
          record {
            there = ap (λ (l : Link U E). l.put.ring) first.rest ∙ linked.there ∙ sym second.ring;
            back = ap (λ (l : Link U E). l.put.ring) second.rest ∙ linked.back ∙ sym first.ring;
          };
    };
  }

  -- ## All together
  pub settles_so : (owners : U → ℕ → Owned) (report : SettleReport) (card card' card'' : CardView) (x y z w : List (Core U E)) (bufs : List Buffer) → CanSettle card x → EachIs CoreEmptied x y
      → bufs ≡ joined core_returns x → AllHomed bufs y z → AreRenewed card card' z w → AreCounts (length z) report.rings.items card'
      → AreHomes owners (length w) w report.rings.items report.homes.items → card''.table ≡ card'.table → AreSettled card'.ports card''.ports → Settles owners report card card'' x w
  settles_so owners report card card' card'' x y z w bufs can empty all homed anew counts homes table begun = record {
    table = table ∙ anew.table;
    ports = begun.count ∙ anew.ports;
    count = count;
    each = each;
    order = order_so card card'' x w can.order (begun.count ∙ anew.ports) count each;
    mesh = mesh_so card x w can count (λ c d lt. (each c (any_port d) d lt).links);
    none = λ own c d lt. ap (λ (k : Core U E). k.returns.items) (anew.each c (any_port d) d (omega (arith, lt, count_z))).core_rest ∙ none_left x y z bufs own empty all homed c d lt;
    weight = λ f. omega (arith, anew.weight f, homed.weight f, weight_emptied f x y empty, ap (buffers_weight f) all, posted f, stocks f);
    rings_count = counts.count ∙ count_z;
    rings = λ c p r lt. counts.each c p r (omega (arith, lt, count_z)) ∙ told c p (first_core x can.some) lt;
    homes_count = homes.count ∙ count;
    homes = λ c p d h lt.
        let ring : (get_or report.rings.items c (none_counted)).posted ≡ posted_now (get_or card''.ports c p) =
        ap (λ (n : Counts). n.posted) (counts.each c p none_counted (omega (arith, lt, count_z))) ∙ ap posted_now (sym (begun.rings c p (omega (arith, lt, in_ports)))) in
        homes.each c d none_counted h (omega (arith, lt, count)) ∙ ap (λ n. home_of owners w (get_or w c d) n) ring;
  } where
    none_counted : Counts
    none_counted = record { posted = 0; frames = 0; items = 0 }

    count_z : length z ≡ length x
    count_z = homed.count ∙ empty.count

    count : length w ≡ length x
    count = anew.count ∙ count_z

    in_ports : length card'.ports ≡ length x
    in_ports = anew.ports ∙ can.order.count

    each : (c : ℕ) (p : PortView) (d : Core U E) → c < length x → CoreSettled (get_or card.ports c p) (get_or card''.ports c p) (get_or x c d) (get_or w c d)
    each c p d lt =
        subst (λ (q : PortView). CoreSettled (get_or card.ports c p) q (get_or x c d) (get_or w c d)) (sym (begun.rings c p (omega (arith, lt, in_ports))))
        (core_so (get_or card.ports c p) (get_or card'.ports c p) (get_or x c d) (get_or y c d) (get_or z c d) (get_or w c d) (empty.each c d lt) (homed.cores c d) (anew.each c p d (omega (arith, lt, count_z))))

    told : (c : ℕ) (p : PortView) (d : Core U E) → c < length x
        → counts_of (get_or card'.ports c p) ≡ record { posted = posted_now (get_or card''.ports c p); frames = (get_or card.ports c p).frames; items = (get_or card.ports c p).items }
    told c p d lt =
        let one = anew.each c p d (omega (arith, lt, count_z)) in
        let same : posted_now (get_or card''.ports c p) ≡ posted_now (get_or card'.ports c p) = ap posted_now (begun.rings c p (omega (arith, lt, in_ports))) in
        rw same (same_counts _ _ _ _ _ (ap (λ (q : PortView). q.frames) one.port_rest) (ap (λ (q : PortView). q.items) one.port_rest))

    posted : (f : Name → ℕ) → sum_by (posted_weight f) card''.ports ≡ sum_by (posted_weight f) card'.ports
    posted f = sum_same (posted_weight f) (posted_weight f) card'.ports card''.ports begun.count (λ r p lt. ap (posted_weight f) (begun.rings r p lt))

    stocks : (f : Name → ℕ) → sum_by (stock_weight f) w + sum_by (free_weight f) z ≡ sum_by (stock_weight f) z + sum_by (free_weight f) w
    stocks f = sum_four (stock_weight f) (free_weight f) (stock_weight f) (free_weight f) z w anew.count (λ k d lt.
        let one = anew.each k (any_port d) d lt in
        omega (arith, ap (λ (c : Core U E). buffers_weight f c.returns.items) one.core_rest))
