-- Rings that are made anew, and buffers that are posted.
use Rattle.std.proofs.Common.{◌≡◌, ◌≢◌, ◌<◌, ◌≤◌, ◌+◌, ◌-◌, ◌^◌, ◌⊎◌, inl, inr, ℕ, zero, suc, min, false, None, List, [], ◌∷◌, ◌++◌, length, length-append, append-nil, append_assoc, get_or, set, sum_by, refl, sym, ap, subst, ◌∙◌, arith}
use Rattle.std.proofs.Math.ListN.{length-set}
use Rattle.std.proofs.lemmas.Bool.{cases_eq}
use Rattle.std.proofs.lemmas.List.{append_cancel_left, get_or-append_right, get_or-set_other, get_or-set_same, get_or_append_left}
use Rattle.std.proofs.lemmas.List.Sums.{sum_by-append, sum_by-cons, sum_by_push}
use Rattle.ix_base.specs.Places.{sum_by-changed}
use Rattle.ix_base.specs.declared.id.BufId.{BufId}
use Rattle.ix_mbuf.specs.Buffers.{Buffer, buffers_weight}
use Rattle.ix_mbuf.specs.Owners.{one_if, times}
use Rattle.ix_mbuf.specs.Pools.{Stock, all_names}
use Rattle.ix_ring.specs.Views.{PutView, TakeView}
use Rattle.ix_ring.specs.Ends.{SamePutEnd, known, places, put_list, spare, taken}
use Rattle.ix_stack.specs.declared.item.Item.{Item}
use Rattle.ix_nic.specs.declared.offer.Counts.{Counts}
use Rattle.ix_nic.specs.Cards.{CardView, ChangesOne, counts_of}
use Rattle.ix_nic.specs.Offers.{BothFreshen, BothMeet}
use Rattle.ix_nic.specs.Ports.{PortView, kept_count, posted_now}
use Rattle.ix_core.specs.declared.turning.Core.{Core}
use Rattle.ix_core.specs.Renewing.{AreCounts, AreRenewed, AreResting, Fills, FillsSome, IsResting, Renewed, RenewedSome, free_weight, posted_count, posted_weight}
use Rattle.ix_core.proofs.LinkLaws.{get_any}
use Rattle.ix_core.proofs.Pools.{all_of_pool, names_of_pool}

-- ## Sums over two lists
pub sum_same : {X : Type 0} (w v : X → ℕ) (xs ys : List X) → length ys ≡ length xs → ((k : ℕ) (d : X) → k < length xs → w (get_or ys k d) ≡ v (get_or xs k d)) → sum_by w ys ≡ sum_by v xs
sum_same w v [] [] len each = refl
sum_same w v [] (y ∷ ys) len each = absurd (omega arith)
sum_same w v (x ∷ xs) [] len each = absurd (omega arith)
sum_same w v (x ∷ xs) (y ∷ ys) len each =
    omega (arith, sum_by-cons v x xs, sum_by-cons w y ys, each 0 y (omega arith), sum_same w v xs ys (omega arith) (λ k d lt. each (suc k) d (omega arith)))

pub sum_one : {X : Type 0} (w : X → ℕ) (xs ys : List X) (i : ℕ) (d : X) → length ys ≡ length xs → i < length xs → ((k : ℕ) (e : X) → k ≢ i → get_or ys k e ≡ get_or xs k e)
    → sum_by w ys + w (get_or xs i d) ≡ sum_by w xs + w (get_or ys i d)
sum_one w [] ys i d len lt off = absurd (omega arith)
sum_one w (x ∷ xs) [] i d len lt off = absurd (omega arith)
sum_one w (x ∷ xs) (y ∷ ys) zero d len lt off =
    omega (arith, sum_by-cons w x xs, sum_by-cons w y ys, sum_same w w xs ys (omega arith) (λ k e h. ap w (off (suc k) e (λ is. omega arith))))
sum_one w (x ∷ xs) (y ∷ ys) (suc i) d len lt off =
    let first : w y ≡ w x = ap w (off 0 y (λ is. omega arith)) in
    omega (arith, first, sum_by-cons w x xs, sum_by-cons w y ys, sum_one w xs ys i d (omega arith) (omega arith) (λ k e apart. off (suc k) e (λ is. apart (omega arith))))

sum_zero : {X : Type 0} (w : X → ℕ) (xs : List X) → ((k : ℕ) (e : X) → k < length xs → w (get_or xs k e) ≡ 0) → sum_by w xs ≡ 0
sum_zero w [] none = refl
sum_zero w (x ∷ xs) none = omega (arith, sum_by-cons w x xs, none 0 x (omega arith), sum_zero w xs (λ k e lt. none (suc k) e (omega arith)))

-- a sum of which one element alone counts
pub sum_only : {X : Type 0} (w : X → ℕ) (xs : List X) (i : ℕ) (d : X) → i < length xs → ((k : ℕ) (e : X) → k < length xs → k ≢ i → w (get_or xs k e) ≡ 0) → sum_by w xs ≡ w (get_or xs i d)
sum_only w [] i d lt off = absurd (omega arith)
sum_only w (x ∷ xs) zero d lt off = omega (arith, sum_by-cons w x xs, sum_zero w xs (λ k e less. off (suc k) e (omega arith) (λ is. omega arith)))
sum_only w (x ∷ xs) (suc i) d lt off =
    omega (arith, sum_by-cons w x xs, off 0 x (omega arith) (λ is. omega arith), sum_only w xs i d (omega arith) (λ k e less apart. off (suc k) e (omega arith) (λ is. apart (omega arith))))

-- ## Free buffers that are posted
pub fills_none : (pool : Stock) (old : PutView Buffer) → FillsSome 0 pool pool old old
fills_none pool old = record {
  posts = [];
  number = refl;
  home = refl;
  slots = refl;
  put = sym (append-nil (put_list old));
  room = omega arith;
  left = omega arith;
  weight = λ f. omega arith;
}

pub fills_more : (i : ℕ) (pool p p' : Stock) (old cur next : PutView Buffer) (b : Buffer) → p.free ≡ p'.free ++ b.name ∷ [] → p' ≡ record p { free = p'.free }
    → put_list next ≡ put_list cur ++ b ∷ [] → spare cur ≤ spare next + 1 → FillsSome i pool p old cur → FillsSome (i + 1) pool p' old next
fills_more i pool p p' old cur next b free is put room so = record {
  posts = so.posts ++ b ∷ [];
  number = omega (arith, length-append so.posts (b ∷ []), so.number);
  home = ap (λ (s : Stock). s.home) is ∙ so.home;
  slots = ap (λ (s : Stock). s.n) is ∙ so.slots;
  put = put ∙ ap (λ l. l ++ b ∷ []) so.put ∙ append_assoc (put_list old) so.posts (b ∷ []);
  room = omega (arith, room, so.room);
  left = omega (arith, so.left, ap length free, length-append p'.free (b.name ∷ []));
  weight = λ f. omega (arith, so.weight f, ap (sum_by f) free, sum_by_push f p'.free b.name, sum_by_push (λ (z : Buffer). f z.name) so.posts b);
}

pub fills_done : (i most : ℕ) (pool p : Stock) (old cur : PutView Buffer) → i ≡ most → ((id : BufId) → times id pool.free ≤ times id (all_names pool.home pool.n)) → FillsSome i pool p old cur → Fills most pool p old cur
fills_done i most pool p old cur is own so = record {
  posts = so.posts;
  number = omega (arith, so.number, so.left, is);
  home = so.home;
  slots = so.slots;
  put = so.put;
  left = omega (arith, so.left, so.number);
  own = all_of_pool pool so.posts (λ id. omega (arith, own id, so.weight (one_if id)));
  still = names_of_pool pool p.free (λ id. omega (arith, own id, so.weight (one_if id)));
  weight = so.weight;
}

pub fills_out : (i most : ℕ) (pool p : Stock) (old cur : PutView Buffer) → i < most → p.free ≡ [] → ((id : BufId) → times id pool.free ≤ times id (all_names pool.home pool.n)) → FillsSome i pool p old cur → Fills most pool p old cur
fills_out i most pool p old cur lt none own so = record {
  posts = so.posts;
  number = omega (arith, so.number, so.left, lt, ap length none);
  home = so.home;
  slots = so.slots;
  put = so.put;
  left = omega (arith, so.left, so.number);
  own = all_of_pool pool so.posts (λ id. omega (arith, own id, so.weight (one_if id)));
  still = names_of_pool pool p.free (λ id. omega (arith, own id, so.weight (one_if id)));
  weight = so.weight;
}

-- ## One port of the card
pub posted_is : (n : ℕ) → n ≤ 512 → min n (2 ^ 32 - 1) ≡ n
posted_is n le = omega arith

posted_so : (n q most filled free free' : ℕ) → n ≤ 512 → most ≡ 512 - n → filled ≡ min most free → free' + filled ≡ free → q ≡ n + filled → q ≡ min 512 (free' + q)
posted_so n q most filled free free' few m f l e = omega (arith, few, m, f, l, e)

pub changes_join : (core : ℕ) (x y z : CardView) → ChangesOne core x y → ChangesOne core y z → ChangesOne core x z
changes_join core x y z p q = record { table = q.table ∙ p.table; count = q.count ∙ p.count; others = λ r d apart. q.others r d apart ∙ p.others r d apart }

pub nothing_left : {X : Type 0} (xs ys : List X) → xs ≡ xs ++ ys → ys ≡ []
nothing_left xs ys e = sym (append_cancel_left xs [] ys (append-nil xs ∙ e))

module _ {U E : Type 0} where
  -- some port: what is said of each default may be asked of it
  pub any_port : Core U E → PortView
  any_port c = record {
    ring = record { ring = c.items.ring; places = 0; put = []; spare = 0 };
    behind = [];
    posts = record { ring = c.posted.ring; taken = []; known = [] };
    kept = None;
    items = 0;
    frames = 0;
    posted = 0;
    ended = false;
  }

  -- where both rings were made anew, the card knows what it knew
  pub known_fresh : (p p' : PortView) (x : Core U E) (items : TakeView Item) (posted : PutView Buffer) → IsResting p x → BothFreshen p p' x.items items x.posted posted → known p'.posts ≡ known p.posts
  known_fresh p p' x items posted rest fresh =
      fresh.posts_fresh.all_known ∙ append_cancel_left (taken p.posts) (put_list posted) (known p.posts) (sym fresh.posts_fresh.left ∙ rest.met)

  kept_fresh : (p p' : PortView) (x : Core U E) (items : TakeView Item) (posted : PutView Buffer) → BothFreshen p p' x.items items x.posted posted → p'.kept ≡ p.kept
  kept_fresh p p' x items posted fresh = ap (λ (z : PortView). z.kept) fresh.rest

  pub count_fresh : (p p' : PortView) (x : Core U E) (items : TakeView Item) (posted : PutView Buffer) → IsResting p x → BothFreshen p p' x.items items x.posted posted
      → posted_count p' ≡ posted_count p
  count_fresh p p' x items posted rest fresh =
      omega (arith, ap (λ (l : List Buffer). length l) (known_fresh p p' x items posted rest fresh), ap kept_count (kept_fresh p p' x items posted fresh))

  pub now_fresh : (p p' : PortView) (x : Core U E) (items : TakeView Item) (posted : PutView Buffer) → IsResting p x → BothFreshen p p' x.items items x.posted posted
      → posted_now p' ≡ posted_count p
  now_fresh p p' x items posted rest fresh =
      let same = count_fresh p p' x items posted rest fresh in
      ap (λ n. min n (2 ^ 32 - 1)) same ∙ posted_is (posted_count p) rest.few

  pub room_fresh : (p p' : PortView) (x : Core U E) (items : TakeView Item) (posted : PutView Buffer) → IsResting p x → BothFreshen p p' x.items items x.posted posted
      → 512 - posted_count p ≤ spare posted
  room_fresh p p' x items posted rest fresh =
      omega (arith, fresh.posts_fresh.room, fresh.posts_fresh.places_same, rest.posts_places, ap (λ (l : List Buffer). length l) (known_fresh p p' x items posted rest fresh))

  pub renewed_so : (p p' q : PortView) (x y : Core U E) (items : TakeView Item) (posted filled : PutView Buffer) (most : ℕ) → IsResting p x → BothFreshen p p' x.items items x.posted posted
      → most ≡ 512 - posted_count p → SamePutEnd posted filled → Fills most x.pool y.pool posted filled → BothMeet p' q items y.items filled y.posted
      → y ≡ record x { pool = y.pool; items = y.items; posted = y.posted } → Renewed p q x y
  renewed_so p p' q x y items posted filled most rest fresh number same fills met core_rest =
      let port_rest : q ≡ record p { ring = q.ring; posts = q.posts } = met.rest ∙ ap (λ (z : PortView). record z { ring = q.ring; posts = q.posts }) fresh.rest in
      let left : taken x.items ≡ taken x.items ++ put_list p'.ring = sym rest.empty ∙ fresh.items_fresh.left in
      let none_put : put_list q.ring ≡ [] = met.items_meet.put_same ∙ nothing_left (taken x.items) (put_list p'.ring) left in
      let none_taken : taken y.items ≡ [] = met.items_meet.taken_same ∙ fresh.items_fresh.none_taken in
      let none_known : known y.items ≡ [] = sym (ap (λ l. l ++ known y.items) none_taken) ∙ sym met.items_meet.all ∙ none_put in
      let items_places : places q.ring ≡ 512 = met.items_meet.ring.1 ∙ fresh.items_fresh.places_same ∙ rest.items_places in
      let none_before : taken q.posts ≡ [] = met.posts_meet.taken_same ∙ fresh.posts_fresh.none_taken in
      let put : put_list y.posted ≡ known q.posts = met.posts_meet.all ∙ ap (λ l. l ++ known q.posts) none_before in
      let known_one : put_list posted ≡ known p.posts = append_cancel_left (taken p.posts) (put_list posted) (known p.posts) (sym fresh.posts_fresh.left ∙ rest.met) in
      let all : known q.posts ≡ known p.posts ++ fills.posts = sym put ∙ met.posts_meet.put_same ∙ fills.put ∙ ap (λ l. l ++ fills.posts) known_one in
      let count : posted_count q ≡ posted_count p + length fills.posts =
      omega (arith, ap (λ (l : List Buffer). length l) all, length-append (known p.posts) fills.posts, ap (λ (z : PortView). kept_count z.kept) port_rest) in
      record {
        items = met.items_meet.pair;
        posts = met.posts_meet.pair;
        items_places = items_places;
        posts_places = met.posts_meet.ring.1 ∙ same.1 ∙ fresh.posts_fresh.places_same ∙ rest.posts_places;
        none_put = none_put;
        none_taken = none_taken;
        none_known = none_known;
        room = omega (arith, met.items_meet.room, ap (λ (l : List Item). length l) none_known, items_places);
        filled = fills.posts;
        all = all;
        fresh = none_before;
        put = put;
        posted = posted_so (posted_count p) (posted_count q) most (length fills.posts) (length x.pool.free) (length y.pool.free) rest.few number fills.number fills.left count;
        home = fills.home;
        slots = fills.slots;
        left = fills.left;
        own = fills.own;
        still = fills.still;
        weight = fills.weight;
        core_rest = core_rest;
        port_rest = port_rest;
      }

  -- ## All ports
  pub renewed_none : (card : CardView) (cores : List (Core U E)) → RenewedSome 0 card card cores cores
  renewed_none card cores = record {
    table = refl;
    ports = refl;
    count = refl;
    done = λ c p d lt. absurd (omega arith);
    rest_ports = λ c p le. refl;
    rest_cores = λ c d le. refl;
    weight = λ f. refl;
  }

  renewed_next : (i : ℕ) (card mid next : CardView) (cores cur after : List (Core U E)) (x y : Core U E) → length card.ports ≡ length cores → i < length cur → x ≡ get_or cur i x
      → after ≡ set cur i y → ChangesOne i mid next → ((p : PortView) → Renewed (get_or mid.ports i p) (get_or next.ports i p) x y) → RenewedSome i card mid cores cur
      → RenewedSome (i + 1) card next cores after
  renewed_next i card mid next cores cur after x y len lt read is one step so = subst (λ (l : List (Core U E)). RenewedSome (i + 1) card next cores l) (sym is) (record {
    table = one.table ∙ so.table;
    ports = one.count ∙ so.ports;
    count = length-set cur i y ∙ so.count;
    done = λ c p d below. spot c p d below (cases_eq c i);
    rest_ports = λ c p le. one.others c p (λ h. omega arith) ∙ so.rest_ports c p (omega arith);
    rest_cores = λ c d le. get_or-set_other cur i c y d (λ h. omega arith) ∙ so.rest_cores c d (omega arith);
    weight = λ f.
        let p = any_port x in
        let r = step p in
        omega (
          arith,
          so.weight f,
          r.weight f,
          sum_by-changed (free_weight f) cur i x y lt read,
          sum_one (posted_weight f) mid.ports next.ports i p one.count (omega (arith, lt, len, so.count, so.ports)) one.others,
          ap (buffers_weight f) r.all,
          sum_by-append (λ (z : Buffer). f z.name) (known (get_or mid.ports i p).posts) r.filled,
        );
  }) where
    spot : (c : ℕ) (p : PortView) (d : Core U E) → c < i + 1 → (c ≡ i) ⊎ (c ≢ i) → Renewed (get_or card.ports c p) (get_or next.ports c p) (get_or cores c d) (get_or (set cur i y) c d)
    spot c p d below (inl same) =
        let port : get_or mid.ports i p ≡ get_or card.ports c p = so.rest_ports i p (omega arith) ∙ ap (λ k. get_or card.ports k p) (sym same) in
        let next_port : get_or next.ports i p ≡ get_or next.ports c p = ap (λ k. get_or next.ports k p) (sym same) in
        let core : x ≡ get_or cores c d = read ∙ get_any cur i x d lt ∙ so.rest_cores i d (omega arith) ∙ ap (λ k. get_or cores k d) (sym same) in
        let next_core : y ≡ get_or (set cur i y) c d = sym (get_or-set_same cur i y d lt) ∙ ap (λ k. get_or (set cur i y) k d) (sym same) in
        subst (λ (z : Core U E). Renewed (get_or card.ports c p) (get_or next.ports c p) (get_or cores c d) z) next_core
        (subst (λ (z : Core U E). Renewed (get_or card.ports c p) (get_or next.ports c p) z y) core
        (subst (λ (z : PortView). Renewed (get_or card.ports c p) z x y) next_port (subst (λ (z : PortView). Renewed z (get_or next.ports i p) x y) port (step p))))
    spot c p d below (inr apart) =
        subst (λ (z : Core U E). Renewed (get_or card.ports c p) (get_or next.ports c p) (get_or cores c d) z) (sym (get_or-set_other cur i c y d apart))
        (subst (λ (z : PortView). Renewed (get_or card.ports c p) z (get_or cores c d) (get_or cur c d)) (sym (one.others c p apart)) (so.done c p d (omega arith)))

  pub renewed_more : (id i : ℕ) (card mid next : CardView) (cores cur after : List (Core U E)) (x y : Core U E) → id ≡ i → length card.ports ≡ length cores → i < length cur → x ≡ get_or cur i x
      → after ≡ set cur i y → ChangesOne id mid next → ((p : PortView) → Renewed (get_or mid.ports id p) (get_or next.ports id p) x y) → RenewedSome i card mid cores cur
      → RenewedSome (i + 1) card next cores after
  renewed_more id i card mid next cores cur after x y same len lt read is one step so =
      renewed_next i card mid next cores cur after x y len lt read is (subst (λ n. ChangesOne n mid next) same one) (λ p. subst (λ n. Renewed (get_or mid.ports n p) (get_or next.ports n p) x y) same (step p)) so

  pub renewed_all : (n : ℕ) (card card' : CardView) (cores cores' : List (Core U E)) → length cores ≤ n → RenewedSome n card card' cores cores' → AreRenewed card card' cores cores'
  renewed_all n card card' cores cores' le so = record {
    table = so.table;
    ports = so.ports;
    count = so.count;
    each = λ c p d lt. so.done c p d (omega arith);
    weight = so.weight;
  }

  -- what is asked of a core at its turn
  pub resting_at : (id i : ℕ) (card mid : CardView) (cores cur : List (Core U E)) (x : Core U E) (p : PortView) → id ≡ i → i < length cur → x ≡ get_or cur i x → AreResting card.ports cores
      → RenewedSome i card mid cores cur → IsResting (get_or mid.ports id p) x
  resting_at id i card mid cores cur x p same lt read rest so =
      let core : get_or cores i x ≡ x = sym (so.rest_cores i x (omega arith)) ∙ sym read in
      subst (λ n. IsResting (get_or mid.ports n p) x) (sym same)
      (subst (λ (z : PortView). IsResting z x) (sym (so.rest_ports i p (omega arith)))
      (subst (λ (z : Core U E). IsResting (get_or card.ports i p) z) core (rest.each i p x (omega (arith, lt, so.count)))))

  pub number_at : (i : ℕ) (card mid : CardView) (cores cur : List (Core U E)) (x : Core U E) → i < length cur → x ≡ get_or cur i x → AreResting card.ports cores
      → RenewedSome i card mid cores cur → x.pool.home.0 ≡ i
  number_at i card mid cores cur x lt read rest so =
      let core : get_or cores i x ≡ x = sym (so.rest_cores i x (omega arith)) ∙ sym read in
      ap (λ (z : Core U E). z.pool.home.0) (sym core) ∙ rest.numbers i x (omega (arith, lt, so.count))

-- ## The counts
pub counts_none : (rings : List Counts) (card : CardView) → rings ≡ [] → AreCounts 0 rings card
counts_none rings card none = record { count = ap length none; each = λ c p d lt. absurd (omega arith) }

counts_last : (rings : List Counts) (n d : Counts) (c : ℕ) → c ≡ length rings → get_or (rings ++ n ∷ []) c d ≡ n
counts_last rings n d c here =
    let first : c - length rings ≡ 0 = omega arith in
    get_or-append_right rings (n ∷ []) (length rings) c d refl (omega arith) ∙ ap (λ k. get_or (n ∷ []) k d) first

counts_at : (i : ℕ) (rings : List Counts) (mid next : CardView) (n : Counts) → ChangesOne i mid next → ((p : PortView) → n ≡ counts_of (get_or next.ports i p)) → AreCounts i rings mid
    → (c : ℕ) (p : PortView) (d : Counts) → c < i + 1 → (c ≡ i) ⊎ (c ≢ i) → get_or (rings ++ n ∷ []) c d ≡ counts_of (get_or next.ports c p)
counts_at i rings mid next n one counts so c p d lt (inl here) =
    counts_last rings n d c (here ∙ sym so.count) ∙ counts p ∙ ap (λ k. counts_of (get_or next.ports k p)) (sym here)
counts_at i rings mid next n one counts so c p d lt (inr apart) =
    get_or_append_left rings (n ∷ []) d c (omega (arith, so.count)) ∙ so.each c p d (omega arith) ∙ ap (λ (z : PortView). counts_of z) (sym (one.others c p apart))

pub counts_more : (id i : ℕ) (rings after : List Counts) (mid next : CardView) (n : Counts) → id ≡ i → after ≡ rings ++ n ∷ [] → ChangesOne id mid next
    → ((p : PortView) → n ≡ counts_of (get_or next.ports id p)) → AreCounts i rings mid → AreCounts (i + 1) after next
counts_more id i rings after mid next n same is one counts so = record {
  count = omega (arith, ap length is, length-append rings (n ∷ []), so.count);
  each = λ c p d lt. ap (λ (l : List Counts). get_or l c d) is
      ∙ counts_at i rings mid next n (subst (λ k. ChangesOne k mid next) same one) (λ q. subst (λ k. n ≡ counts_of (get_or next.ports k q)) same (counts q)) so c p d lt (cases_eq c i);
}
