-- Cores that meet pair by pair, and then the card.
use Rattle.std.proofs.Common.{◌≡◌, ◌≢◌, ◌<◌, ◌+◌, ◌-◌, ◌⊎◌, inl, inr, ℕ, false, None, List, suc, [], ◌∷◌, ◌++◌, length, length-append, append-nil, append_assoc, get_or, set, sum_by, refl, sym, ap, subst, ◌∙◌, arith}
use Rattle.std.proofs.Math.ListN.{length-set}
use Rattle.std.proofs.lemmas.Bool.{cases_eq}
use Rattle.std.proofs.lemmas.List.{get_or-append_right, get_or-set_other, get_or-set_same, get_or_append_left, set-append_left, set-append_right}
use Rattle.std.proofs.lemmas.List.Sums.{sum_by-cons}
use Rattle.ix_mbuf.specs.declared.name.Name.{Name}
use Rattle.ix_mbuf.specs.Buffers.{Buffer, buffers_weight}
use Rattle.ix_ring.specs.Views.{PutView, TakeView}
use Rattle.ix_ring.specs.Ends.{IsRing, known}
use Rattle.ix_nic.specs.Cards.{CardView, ChangesOne}
use Rattle.ix_nic.specs.Offers.{BothMeet, Meets}
use Rattle.ix_nic.specs.Ports.{PortView}
use Rattle.ix_stack.specs.declared.item.Item.{Item}
use Rattle.ix_stack.specs.Items.{items_weight}
use Rattle.ix_core.specs.declared.link.Link.{Link}
use Rattle.ix_core.specs.declared.turning.Core.{Core}
use Rattle.ix_core.specs.Weights.{WeighsTheSame, core_weight, link_put, link_taken, link_weight, messages_weight}
use Rattle.ix_core.proofs.LinkLaws.{get_any}
use Rattle.ix_core.specs.Meeting.{AllAreTold, AreInOrder, AreLinked, AreMeshed, AreTold, CardLearned, CardMeets, CoreLearned, CoresLearned, FirstMeet, IsAtPort, LinkLearned, LinkMeets, LinksAreTold, PairMeets, PortIsTold, PortLearned, PortMeets, PutEndLearned, RowMeets, TakeEndLearned, link_at}

-- ## Ends
take_same : {T : Type 0} (x : TakeView T) → TakeEndLearned x x
take_same x = record { ring = refl; took = refl; more = ([], append-nil (known x)) }

take_join : {T : Type 0} (x y z : TakeView T) → TakeEndLearned x y → TakeEndLearned y z → TakeEndLearned x z
take_join x y z p q = record {
  ring = q.ring ∙ p.ring;
  took = q.took ∙ p.took;
  more = ((p.more).0 ++ (q.more).0, sym (append_assoc (known x) (p.more).0 (q.more).0) ∙ ap (λ s. s ++ (q.more).0) (p.more).1 ∙ (q.more).1);
}

put_same : {T : Type 0} (x : PutView T) → PutEndLearned x x
put_same x = record { ring = (refl, refl); puts = refl; room = omega arith }

put_join : {T : Type 0} (x y z : PutView T) → PutEndLearned x y → PutEndLearned y z → PutEndLearned x z
put_join x y z p q = record { ring = (q.ring.0 ∙ p.ring.0, q.ring.1 ∙ p.ring.1); puts = q.puts ∙ p.puts; room = omega (arith, p.room, q.room) }

-- what the card's meeting says of the two ends of a ring
take_learns : {T : Type 0} (p p' : PutView T) (t t' : TakeView T) → IsRing p t → Meets p t p' t' → TakeEndLearned t t'
take_learns p p' t t' pair m = record { ring = sym m.pair ∙ (m.ring.0 ∙ pair); took = m.taken_same; more = m.known_more }

put_learns : {T : Type 0} (p p' : PutView T) (t t' : TakeView T) → Meets p t p' t' → PutEndLearned p p'
put_learns p p' t t' m = record { ring = m.ring; puts = m.put_same; room = m.no_less }

are_told : {T : Type 0} (p p' : PutView T) (t t' : TakeView T) → Meets p t p' t' → AreTold p' t'
are_told p p' t t' m = record { whole = m.all; room = m.room }

sums_same : {X : Type 0} (v : X → ℕ) (xs ys : List X) → length ys ≡ length xs → ((i : ℕ) (d : X) → v (get_or ys i d) ≡ v (get_or xs i d)) → sum_by v ys ≡ sum_by v xs
sums_same v [] [] len each = refl
sums_same v [] (y ∷ ys) len each = absurd (omega (arith, len))
sums_same v (x ∷ xs) [] len each = absurd (omega (arith, len))
sums_same v (x ∷ xs) (y ∷ ys) len each =
    omega (arith, each 0 x, sums_same v xs ys (omega (arith, len)) (λ i d. each (suc i) d), sum_by-cons v x xs, sum_by-cons v y ys)

port_same : (x : PortView) → PortLearned x x
port_same x = record { ring = put_same x.ring; posts = take_same x.posts; rest = refl }

port_join : (x y z : PortView) → PortLearned x y → PortLearned y z → PortLearned x z
port_join x y z p q = record {
  ring = put_join x.ring y.ring z.ring p.ring q.ring;
  posts = take_join x.posts y.posts z.posts p.posts q.posts;
  rest = q.rest ∙ ap (λ (v : PortView). record v { ring = z.ring; posts = z.posts }) p.rest;
}

card_same : (x : CardView) → CardLearned x x
card_same x = record { table = refl; count = refl; each = λ c p. port_same (get_or x.ports c p) }

card_join : (x y z : CardView) → CardLearned x y → CardLearned y z → CardLearned x z
card_join x y z p q = record {
  table = q.table ∙ p.table;
  count = q.count ∙ p.count;
  each = λ c d. port_join (get_or x.ports c d) (get_or y.ports c d) (get_or z.ports c d) (p.each c d) (q.each c d);
}

module _ {U E : Type 0} where
  link_same : (x : Link U E) → LinkLearned x x
  link_same x = record { take = take_same x.take; put = put_same x.put; rest = refl }

  link_join : (x y z : Link U E) → LinkLearned x y → LinkLearned y z → LinkLearned x z
  link_join x y z p q = record {
    take = take_join x.take y.take z.take p.take q.take;
    put = put_join x.put y.put z.put p.put q.put;
    rest = q.rest ∙ ap (λ (l : Link U E). record l { take = z.take; put = z.put }) p.rest;
  }

  core_same : (x : Core U E) → CoreLearned x x
  core_same x = record {
    items = take_same x.items;
    posted = put_same x.posted;
    count = refl;
    links = λ p e. link_same (get_or x.links.items p e);
    rest = refl;
  }

  core_join : (x y z : Core U E) → CoreLearned x y → CoreLearned y z → CoreLearned x z
  core_join x y z p q = record {
    items = take_join x.items y.items z.items p.items q.items;
    posted = put_join x.posted y.posted z.posted p.posted q.posted;
    count = q.count ∙ p.count;
    links = λ k e. link_join (get_or x.links.items k e) (get_or y.links.items k e) (get_or z.links.items k e) (p.links k e) (q.links k e);
    rest = q.rest ∙ ap (λ (c : Core U E). record c { items = z.items; posted = z.posted; links = z.links }) p.rest;
  }

  cores_same : (x : List (Core U E)) → CoresLearned x x
  cores_same x = record { count = refl; each = λ c d. core_same (get_or x c d) }

  pub cores_join : (x y z : List (Core U E)) → CoresLearned x y → CoresLearned y z → CoresLearned x z
  cores_join x y z p q = record {
    count = q.count ∙ p.count;
    each = λ c d. core_join (get_or x c d) (get_or y c d) (get_or z c d) (p.each c d) (q.each c d);
  }

  -- ## The order stays
  pub meshed_on : (old new : List (Core U E)) → AreMeshed old → CoresLearned old new → AreMeshed new
  meshed_on old new m so = record {
    links = λ c d lt. omega (arith, m.links c d (omega (arith, so.count, lt)), (so.each c d).count, so.count);
    others = λ c p d e lt within.
        ap (λ (l : Link U E). l.core.0) ((so.each c d).links p e).rest ∙ m.others c p d e (omega (arith, so.count, lt)) (omega (arith, so.count, within));
    rings = λ a b d e lt within.
        let old_pair = m.rings a b d e lt (omega (arith, so.count, within)) in
        let first = (so.each a d).links (b - 1) e in
        let second = (so.each b d).links a e in
        record { there = first.put.ring.0 ∙ (old_pair.there ∙ sym second.take.ring); back = second.put.ring.0 ∙ (old_pair.back ∙ sym first.take.ring) };
  }

  pub in_order_on : (x y : CardView) (old new : List (Core U E)) → AreInOrder x old → CardLearned x y → CoresLearned old new → AreInOrder y new
  in_order_on x y old new m card so = record {
    count = card.count ∙ (m.count ∙ sym so.count);
    numbers = λ c d lt. ap (λ (k : Core U E). k.pool.home.0) (so.each c d).rest ∙ m.numbers c d (omega (arith, so.count, lt));
    ports = λ c p d lt.
        let was = m.ports c p d (omega (arith, so.count, lt)) in
        let port = card.each c p in
        let core = so.each c d in
        record { items = port.ring.ring.0 ∙ (was.items ∙ sym core.items.ring); posts = core.posted.ring.0 ∙ (was.posts ∙ sym port.posts.ring) };
    mesh = meshed_on old new m.mesh so;
  }

  -- ## One link of a core, and one pair of cores
  pub link_meets : (old new : Core U E) (p : ℕ) (l m : Link U E) → p < length old.links.items → l ≡ get_or old.links.items p l → new ≡ record old { links = new.links }
      → new.links.items ≡ set old.links.items p m → LinkLearned l m → LinkMeets p old new
  link_meets old new p l m lt read rest is one = record {
    learned = record {
      items = subst (λ (t : TakeView Item). TakeEndLearned old.items t) (sym items) (take_same old.items);
      posted = subst (λ (q : PutView Buffer). PutEndLearned old.posted q) (sym posted) (put_same old.posted);
      count = ap length is ∙ length-set old.links.items p m;
      links = λ k e. step k e (cases_eq k p);
      rest = rest ∙ (ap (λ (t : TakeView Item). record old { items = t; links = new.links }) (sym items) ∙ ap (λ (q : PutView Buffer). record old { items = new.items; posted = q; links = new.links }) (sym posted));
    };
    others = λ k e apart. ap (λ (ls : List (Link U E)). get_or ls k e) is ∙ get_or-set_other old.links.items p k m e apart;
  } where
    items : new.items ≡ old.items
    items = ap (λ (c : Core U E). c.items) rest

    posted : new.posted ≡ old.posted
    posted = ap (λ (c : Core U E). c.posted) rest

    step : (k : ℕ) (e : Link U E) → (k ≡ p) ⊎ (k ≢ p) → LinkLearned (get_or old.links.items k e) (get_or new.links.items k e)
    step k e (inl same) =
        let before : get_or old.links.items k e ≡ l = ap (λ i. get_or old.links.items i e) same ∙ get_any old.links.items p e l lt ∙ sym read in
        let after : get_or new.links.items k e ≡ m = ap (λ i. get_or new.links.items i e) same ∙ ap (λ (ls : List (Link U E)). get_or ls p e) is ∙ get_or-set_same old.links.items p m e lt in
        rw (before, after) one
    step k e (inr apart) =
        let after : get_or new.links.items k e ≡ get_or old.links.items k e = ap (λ (ls : List (Link U E)). get_or ls k e) is ∙ get_or-set_other old.links.items p k m e apart in
        rw after (link_same (get_or old.links.items k e))

  pub told_at : (x y : List (Link U E)) (i j : ℕ) (l m : Link U E) (e : Link U E) → i < length x → j < length y → LinksAreTold l m → LinksAreTold (get_or (set x i l) i e) (get_or (set y j m) j e)
  told_at x y i j l m e p q met =
      let first : get_or (set x i l) i e ≡ l = get_or-set_same x i l e p in
      let second : get_or (set y j m) j e ≡ m = get_or-set_same y j m e q in
      rw (first, second) met

  pub linked_at : (x y : List (Link U E)) (i j : ℕ) (l m : Link U E) → i < length x → j < length y → l ≡ get_or x i l → m ≡ get_or y j m
      → ((e : Link U E) → AreLinked (get_or x i e) (get_or y j e)) → AreLinked l m
  linked_at x y i j l m p q read other so =
      let second : get_or y j l ≡ m = get_any y j l m q ∙ sym other in
      subst (λ (k : Link U E). AreLinked k m) (sym read) (subst (λ (k : Link U E). AreLinked (get_or x i l) k) second (so l))

  -- the two cores of a pair, of which one stands in each half
  at_front : (cores front back : List (Core U E)) (a : ℕ) (x d : Core U E) → cores ≡ front ++ back → a < length front → x ≡ get_or front a x → get_or cores a d ≡ x
  at_front cores front back a x d whole lt read = ap (λ (l : List (Core U E)). get_or l a d) whole ∙ (get_or_append_left front back d a lt ∙ (get_any front a d x lt ∙ sym read))

  at_back : (cores front back : List (Core U E)) (b : ℕ) (y d : Core U E) → cores ≡ front ++ back → length front ≡ b → b < length cores → y ≡ get_or back 0 y → get_or cores b d ≡ y
  at_back cores front back b y d whole len within other =
      let room : 0 < length back = omega (arith, within, len, ap length whole, length-append front back) in
      let none : b - b ≡ 0 = omega arith in
      ap (λ (l : List (Core U E)). get_or l b d) whole ∙ (get_or-append_right front back b b d len (omega arith) ∙ (ap (λ n. get_or back n d) none ∙ (get_any back 0 d y room ∙ sym other)))

  pub pair_lower : (cores front back : List (Core U E)) (a b : ℕ) (x : Core U E) → cores ≡ front ++ back → length front ≡ b → a < b → b < length cores → x ≡ get_or front a x
      → AreMeshed cores → b - 1 < length x.links.items
  pair_lower cores front back a b x whole len lt within read m =
      let is = at_front cores front back a x x whole (omega (arith, len, lt)) read in
      let count = m.links a x (omega arith) in
      omega (arith, ap (λ (c : Core U E). length c.links.items) is, count, lt, within)

  pub pair_upper : (cores front back : List (Core U E)) (a b : ℕ) (y : Core U E) → cores ≡ front ++ back → length front ≡ b → a < b → b < length cores → y ≡ get_or back 0 y
      → AreMeshed cores → a < length y.links.items
  pair_upper cores front back a b y whole len lt within other m =
      let is = at_back cores front back b y y whole len within other in
      let count = m.links b y within in
      omega (arith, ap (λ (c : Core U E). length c.links.items) is, count, lt, within)

  pub pair_linked : (cores front back : List (Core U E)) (a b : ℕ) (x y : Core U E) → cores ≡ front ++ back → length front ≡ b → a < b → b < length cores
      → x ≡ get_or front a x → y ≡ get_or back 0 y → AreMeshed cores → (e : Link U E) → AreLinked (get_or x.links.items (b - 1) e) (get_or y.links.items a e)
  pair_linked cores front back a b x y whole len lt within read other m e =
      let first : get_or cores a x ≡ x = at_front cores front back a x x whole (omega (arith, len, lt)) read in
      let second : get_or cores b x ≡ y = at_back cores front back b y x whole len within other in
      subst (λ (k : Core U E). AreLinked (get_or x.links.items (b - 1) e) (get_or k.links.items a e)) second
      (subst (λ (k : Core U E). AreLinked (get_or k.links.items (b - 1) e) (get_or (get_or cores b x).links.items a e)) first (m.rings a b x e lt within))

  pub pair_meets : (cores front back : List (Core U E)) (a b : ℕ) (x y x' y' : Core U E) → cores ≡ front ++ back → length front ≡ b → a < b → b < length cores
      → x ≡ get_or front a x → y ≡ get_or back 0 y → LinkMeets (b - 1) x x' → LinkMeets a y y'
      → ((e : Link U E) → LinksAreTold (get_or x'.links.items (b - 1) e) (get_or y'.links.items a e)) → PairMeets a b cores (set front a x' ++ set back 0 y')
  pair_meets cores front back a b x y x' y' whole len lt within read other lower upper met = record {
    learned = record {
      count = ap length next ∙ length-set (set cores a x') b y' ∙ length-set cores a x';
      each = λ c d. one c d (cases_eq c a) (cases_eq c b);
    };
    others = λ c p d e out off. same c p d e out off (cases_eq c a) (cases_eq c b);
    told = λ d e. rw (at_a d, at_b d) (met e);
  } where
    next : set front a x' ++ set back 0 y' ≡ set (set cores a x') b y'
    next =
        let first : set cores a x' ≡ set front a x' ++ back = ap (λ (l : List (Core U E)). set l a x') whole ∙ set-append_left front back a x' (omega (arith, len, lt)) in
        let place : set back 0 y' ≡ set back (b - b) y' = ap (λ n. set back n y') (omega arith) in
        sym (ap (λ (l : List (Core U E)). set l b y') first ∙ set-append_right (set front a x') back b b y' (length-set front a x' ∙ len) (omega arith) ∙ ap (λ l. set front a x' ++ l) (sym place))

    old_a : (d : Core U E) → get_or cores a d ≡ x
    old_a d = at_front cores front back a x d whole (omega (arith, len, lt)) read

    old_b : (d : Core U E) → get_or cores b d ≡ y
    old_b d = at_back cores front back b y d whole len within other

    at_b : (d : Core U E) → get_or (set front a x' ++ set back 0 y') b d ≡ y'
    at_b d = ap (λ (l : List (Core U E)). get_or l b d) next ∙ get_or-set_same (set cores a x') b y' d (omega (arith, length-set cores a x', within))

    at_a : (d : Core U E) → get_or (set front a x' ++ set back 0 y') a d ≡ x'
    at_a d = ap (λ (l : List (Core U E)). get_or l a d) next ∙ get_or-set_other (set cores a x') b a y' d (λ e. omega arith) ∙ get_or-set_same cores a x' d (omega arith)

    at_none : (c : ℕ) (d : Core U E) → c ≢ a → c ≢ b → get_or (set front a x' ++ set back 0 y') c d ≡ get_or cores c d
    at_none c d not_a not_b = ap (λ (l : List (Core U E)). get_or l c d) next ∙ get_or-set_other (set cores a x') b c y' d not_b ∙ get_or-set_other cores a c x' d not_a

    one : (c : ℕ) (d : Core U E) → (c ≡ a) ⊎ (c ≢ a) → (c ≡ b) ⊎ (c ≢ b) → CoreLearned (get_or cores c d) (get_or (set front a x' ++ set back 0 y') c d)
    one c d (inl is) q =
        let before : get_or cores c d ≡ x = ap (λ k. get_or cores k d) is ∙ old_a d in
        let after : get_or (set front a x' ++ set back 0 y') c d ≡ x' = ap (λ k. get_or (set front a x' ++ set back 0 y') k d) is ∙ at_a d in
        rw (before, after) lower.learned
    one c d (inr apart) (inl is) =
        let before : get_or cores c d ≡ y = ap (λ k. get_or cores k d) is ∙ old_b d in
        let after : get_or (set front a x' ++ set back 0 y') c d ≡ y' = ap (λ k. get_or (set front a x' ++ set back 0 y') k d) is ∙ at_b d in
        rw (before, after) upper.learned
    one c d (inr apart) (inr off) = let after = at_none c d apart off in rw after (core_same (get_or cores c d))

    same : (c p : ℕ) (d : Core U E) (e : Link U E) → (c ≢ a) ⊎ (p ≢ b - 1) → (c ≢ b) ⊎ (p ≢ a) → (c ≡ a) ⊎ (c ≢ a) → (c ≡ b) ⊎ (c ≢ b)
        → link_at (set front a x' ++ set back 0 y') c p d e ≡ link_at cores c p d e
    same c p d e (inl apart) off (inl is) q = absurd (apart is)
    same c p d e (inr apart) off (inl is) q =
        let before : get_or cores c d ≡ x = ap (λ k. get_or cores k d) is ∙ old_a d in
        let after : get_or (set front a x' ++ set back 0 y') c d ≡ x' = ap (λ k. get_or (set front a x' ++ set back 0 y') k d) is ∙ at_a d in
        rw (before, after) (lower.others p e apart)
    same c p d e out (inl off) (inr not_a) (inl is) = absurd (off is)
    same c p d e out (inr off) (inr not_a) (inl is) =
        let before : get_or cores c d ≡ y = ap (λ k. get_or cores k d) is ∙ old_b d in
        let after : get_or (set front a x' ++ set back 0 y') c d ≡ y' = ap (λ k. get_or (set front a x' ++ set back 0 y') k d) is ∙ at_b d in
        rw (before, after) (upper.others p e off)
    same c p d e out off (inr not_a) (inr not_b) = ap (λ (k : Core U E). get_or k.links.items p e) (at_none c d not_a not_b)

  pub row_none : (b : ℕ) (cores : List (Core U E)) → RowMeets 0 b cores cores
  row_none b cores = record {
    learned = cores_same cores;
    kept = λ i j d e lt below met. met;
    told = λ i d e lt. absurd (omega arith);
  }

  pub row_more : (a b : ℕ) (old new next : List (Core U E)) → a < b → RowMeets a b old new → PairMeets a b new next → RowMeets (a + 1) b old next
  row_more a b old new next lt so one = record {
    learned = cores_join old new next so.learned one.learned;
    kept = λ i j d e below above met.
        let first : link_at next i (j - 1) d e ≡ link_at new i (j - 1) d e = one.others i (j - 1) d e (inr (λ h. omega arith)) (inl (λ h. omega arith)) in
        let second : link_at next j i d e ≡ link_at new j i d e = one.others j i d e (inr (λ h. omega arith)) (inl (λ h. omega arith)) in
        rw (first, second) (so.kept i j d e below above met);
    told = λ i d e h. step i d e h (cases_eq i a);
  } where
    step : (i : ℕ) (d : Core U E) (e : Link U E) → i < a + 1 → (i ≡ a) ⊎ (i ≢ a) → LinksAreTold (link_at next i (b - 1) d e) (link_at next b i d e)
    step i d e h (inl same) = subst (λ k. LinksAreTold (link_at next k (b - 1) d e) (link_at next b k d e)) (sym same) (one.told d e)
    step i d e h (inr apart) =
        let first : link_at next i (b - 1) d e ≡ link_at new i (b - 1) d e = one.others i (b - 1) d e (inl apart) (inl (λ k. omega arith)) in
        let second : link_at next b i d e ≡ link_at new b i d e = one.others b i d e (inl (λ k. omega arith)) (inr apart) in
        rw (first, second) (so.told i d e (omega arith))

  pub first_none : (cores : List (Core U E)) → FirstMeet 0 cores cores
  first_none cores = record { learned = cores_same cores; told = λ i j d e lt below. absurd (omega arith) }

  pub first_more : (b : ℕ) (old new next : List (Core U E)) → FirstMeet b old new → RowMeets b b new next → FirstMeet (b + 1) old next
  first_more b old new next so row = record {
    learned = cores_join old new next so.learned row.learned;
    told = λ i j d e lt below. step i j d e lt below (cases_eq j b);
  } where
    step : (i j : ℕ) (d : Core U E) (e : Link U E) → i < j → j < b + 1 → (j ≡ b) ⊎ (j ≢ b) → LinksAreTold (link_at next i (j - 1) d e) (link_at next j i d e)
    step i j d e lt below (inl same) = subst (λ k. LinksAreTold (link_at next i (k - 1) d e) (link_at next k i d e)) (sym same) (row.told i d e (omega (arith, same, lt)))
    step i j d e lt below (inr apart) = row.kept i j d e lt (omega arith) (so.told i j d e lt (omega arith))

  -- ## The card and one core
  pub port_meets : (p p' : PortView) (c c' : Core U E) → IsAtPort p c → c' ≡ record c { items = c'.items; posted = c'.posted } → BothMeet p p' c.items c'.items c.posted c'.posted → PortMeets p p' c c'
  port_meets p p' c c' paired rest m =
      let links : c'.links ≡ c.links = ap (λ (k : Core U E). k.links) rest in
      record {
        port = record {
          ring = put_learns p.ring p'.ring c.items c'.items m.items_meet;
          posts = take_learns c.posted c'.posted p.posts p'.posts paired.posts m.posts_meet;
          rest = m.rest;
        };
        core = record {
          items = take_learns p.ring p'.ring c.items c'.items paired.items m.items_meet;
          posted = put_learns c.posted c'.posted p.posts p'.posts m.posts_meet;
          count = ap (λ (l : _). length l.items) links;
          links = λ k e. subst (λ (ls : List (Link U E)). LinkLearned (get_or c.links.items k e) (get_or ls k e)) (sym (ap (λ (l : _). l.items) links)) (link_same (get_or c.links.items k e));
          rest = rest ∙ ap (λ (l : _). record c { items = c'.items; posted = c'.posted; links = l }) (sym links);
        };
        links = links;
        told = record {
          items = are_told p.ring p'.ring c.items c'.items m.items_meet;
          posts = are_told c.posted c'.posted p.posts p'.posts m.posts_meet;
        };
      }

  -- the core at a place, by its own number
  pub number_at : (y : CardView) (new : List (Core U E)) (n : ℕ) (c : Core U E) → AreInOrder y new → n < length new → c ≡ get_or new n c → c.pool.home.0 ≡ n
  number_at y new n c m lt read = ap (λ (k : Core U E). k.pool.home.0) read ∙ m.numbers n c lt

  pub within_at : (y : CardView) (new : List (Core U E)) (n : ℕ) (c : Core U E) → AreInOrder y new → n < length new → c ≡ get_or new n c → c.pool.home.0 < length y.ports
  within_at y new n c m lt read = omega (arith, number_at y new n c m lt read, m.count, lt)

  pub port_at : (y : CardView) (new : List (Core U E)) (n : ℕ) (c : Core U E) → AreInOrder y new → n < length new → c ≡ get_or new n c
      → (p : PortView) → IsAtPort (get_or y.ports c.pool.home.0 p) c
  port_at y new n c m lt read p =
      let here : IsAtPort (get_or y.ports n p) c = subst (λ (k : Core U E). IsAtPort (get_or y.ports n p) k) (sym read) (m.ports n p c lt) in
      subst (λ (i : ℕ). IsAtPort (get_or y.ports i p) c) (sym (number_at y new n c m lt read)) here

  -- some port, over the ends of a core
  any_port : Core U E → PortView
  any_port c = record {
    ring = record { ring = c.items.ring; places = 0; put = []; spare = 0 };
    behind = [];
    posts = record { ring = c.posted.ring; taken = []; known = [] };
    kept = None;
    items = 0;
    frames = 0;
    posted = 0;
    ended = false;
  }

  pub card_none : (x : CardView) (cores : List (Core U E)) → CardMeets 0 x x cores cores
  card_none x cores = record { card = card_same x; cores = cores_same cores; links = λ c d. refl; told = λ c p d lt. absurd (omega arith) }

  pub card_more : (n : ℕ) (x y z : CardView) (old new next : List (Core U E)) (c c' : Core U E) → n < length new → c ≡ get_or new n c → next ≡ set new n c' → c.pool.home.0 ≡ n
      → CardMeets n x y old new → ChangesOne c.pool.home.0 y z → ((p : PortView) → PortMeets (get_or y.ports c.pool.home.0 p) (get_or z.ports c.pool.home.0 p) c c') → CardMeets (n + 1) x z old next
  card_more n x y z old new next c c' lt read is number so change met = record {
    card = card_join x y z so.card (record { table = one.table; count = one.count; each = λ k p. one_port k p (cases_eq k n) });
    cores = cores_join old new next so.cores (record { count = ap length is ∙ length-set new n c'; each = λ k d. one_core k d (cases_eq k n) });
    links = λ k d. one_links k d (cases_eq k n) ∙ so.links k d;
    told = λ k p d h. one_told k p d h (cases_eq k n);
  } where
    one : ChangesOne n y z
    one = subst (λ (k : ℕ). ChangesOne k y z) number change

    meets : (p : PortView) → PortMeets (get_or y.ports n p) (get_or z.ports n p) c c'
    meets p = subst (λ (k : ℕ). PortMeets (get_or y.ports k p) (get_or z.ports k p) c c') number (met p)

    before : (k : ℕ) (d : Core U E) → k ≡ n → get_or new k d ≡ c
    before k d same = ap (λ i. get_or new i d) same ∙ get_any new n d c lt ∙ sym read

    after : (k : ℕ) (d : Core U E) → k ≡ n → get_or next k d ≡ c'
    after k d same = ap (λ i. get_or next i d) same ∙ ap (λ (l : List (Core U E)). get_or l n d) is ∙ get_or-set_same new n c' d lt

    stays : (k : ℕ) (d : Core U E) → k ≢ n → get_or next k d ≡ get_or new k d
    stays k d apart = ap (λ (l : List (Core U E)). get_or l k d) is ∙ get_or-set_other new n k c' d apart

    one_port : (k : ℕ) (p : PortView) → (k ≡ n) ⊎ (k ≢ n) → PortLearned (get_or y.ports k p) (get_or z.ports k p)
    one_port k p (inl same) = subst (λ (i : ℕ). PortLearned (get_or y.ports i p) (get_or z.ports i p)) (sym same) (meets p).port
    one_port k p (inr apart) = subst (λ (v : PortView). PortLearned (get_or y.ports k p) v) (sym (one.others k p apart)) (port_same (get_or y.ports k p))

    one_core : (k : ℕ) (d : Core U E) → (k ≡ n) ⊎ (k ≢ n) → CoreLearned (get_or new k d) (get_or next k d)
    one_core k d (inl same) = let was = before k d same in let now = after k d same in rw (was, now) (meets (any_port c)).core
    one_core k d (inr apart) = let now = stays k d apart in rw now (core_same (get_or new k d))

    one_links : (k : ℕ) (d : Core U E) → (k ≡ n) ⊎ (k ≢ n) → (get_or next k d).links ≡ (get_or new k d).links
    one_links k d (inl same) = let was = before k d same in let now = after k d same in rw (was, now) (meets (any_port c)).links
    one_links k d (inr apart) = ap (λ (v : Core U E). v.links) (stays k d apart)

    one_told : (k : ℕ) (p : PortView) (d : Core U E) → k < n + 1 → (k ≡ n) ⊎ (k ≢ n) → PortIsTold (get_or z.ports k p) (get_or next k d)
    one_told k p d h (inl same) =
        let now = after k d same in
        rw now (subst (λ (i : ℕ). PortIsTold (get_or z.ports i p) c') (sym same) (meets p).told)
    one_told k p d h (inr apart) =
        let now = stays k d apart in
        rw now (subst (λ (v : PortView). PortIsTold v (get_or new k d)) (sym (one.others k p apart)) (so.told k p d (omega arith)))

  -- ## All of them
  pub mesh_in_order : (x : CardView) (n : ℕ) (old new : List (Core U E)) → AreInOrder x old → FirstMeet n old new → AreInOrder x new
  mesh_in_order x n old new m so = in_order_on x x old new m (card_same x) so.learned

  pub all_told : (x y : CardView) (old mid new : List (Core U E)) → FirstMeet (length old) old mid → CardMeets (length mid) x y mid new → AllAreTold y new
  all_told x y old mid new mesh so = record {
    ports = λ c p d lt. so.told c p d (omega (arith, so.cores.count, lt));
    mesh = λ a b d e lt within.
        let first : link_at new a (b - 1) d e ≡ link_at mid a (b - 1) d e = ap (λ (l : _). get_or l.items (b - 1) e) (so.links a d) in
        let second : link_at new b a d e ≡ link_at mid b a d e = ap (λ (l : _). get_or l.items a e) (so.links b d) in
        rw (first, second) (mesh.told a b d e lt (omega (arith, so.cores.count, mesh.learned.count, within)));
  }

  pub weighs_same : (weight : (Name → ℕ) → U → ℕ) (old new : Core U E) → CoreLearned old new → WeighsTheSame weight old new
  weighs_same weight old new so = record {
    held = λ f.
        let links = sums_same (link_weight (weight f) f) old.links.items new.links.items so.count (λ i d. ap (link_weight (weight f) f) (so.links i d).rest) in
        omega (arith, ap (core_weight (weight f) f) so.rest, links);
    put = λ f.
        let links = sums_same (link_put (weight f) f) old.links.items new.links.items so.count (λ i d. ap (messages_weight (weight f) f) (so.links i d).put.puts) in
        omega (arith, ap (buffers_weight f) so.posted.puts, links);
    took = λ f.
        let links = sums_same (link_taken (weight f) f) old.links.items new.links.items so.count (λ i d. ap (messages_weight (weight f) f) (so.links i d).take.took) in
        omega (arith, ap (items_weight f) so.items.took, links);
  }
