-- Buffers that go home.
use Rattle.std.proofs.Common.{◌≡◌, ◌≢◌, ◌<◌, ◌≤◌, ◌+◌, ◌-◌, ◌⊎◌, inl, inr, ℕ, min, false, List, [], ◌∷◌, ◌++◌, length, length-append, append-nil, append_assoc, get_or, set, take, sum_by, refl, sym, ap, subst, ◌∙◌, arith}
use Rattle.std.specs.Prelude.{All, ◌==◌}
use mathlib.Core.List.{IsPrefix}
use Rattle.std.proofs.Math.ListN.{length-set}
use Rattle.std.proofs.lemmas.Bool.{cases_eq}
use Rattle.std.proofs.lemmas.Bool.Decides.{nat_tests}
use Rattle.std.proofs.lemmas.List.{get_or-set_other, get_or-set_same, take_all, take_more}
use Rattle.std.proofs.lemmas.List.Elements.{All-push, All-same, All-weaker}
use Rattle.std.proofs.lemmas.List.Sums.{sum_by-append, sum_by-cons, sum_by_push}
use Rattle.ix_base.specs.Places.{step_done, step_rest, sum_by-changed}
use Rattle.ix_base.specs.declared.id.BufId.{BufId}
use Rattle.ix_base.specs.declared.id.CoreId.{CoreId}
use Rattle.ix_mbuf.specs.declared.name.Name.{Name}
use Rattle.ix_mbuf.specs.Buffers.{Buffer, buffers_weight}
use Rattle.ix_mbuf.specs.Pools.{Stock, is_out_of}
use Rattle.ix_ring.specs.Views.{TakeView}
use Rattle.ix_ring.specs.Ends.{known, taken}
use Rattle.ix_desk.specs.Pieces.{joined}
use Rattle.ix_core.specs.declared.message.Message.{Message}
use Rattle.ix_core.specs.declared.turning.Core.{Core}
use Rattle.ix_core.specs.Landing.{home_in, ship_in}
use Rattle.ix_core.specs.Runs.{joined-append}
use Rattle.ix_core.specs.Homing.{AllHomed, CoreHomed, EachIs, GatheredSome, AreNumbered, NoneOut, Passed, TakesBack, TookSome, given_back, kept_back, stock_weight}
use Rattle.ix_core.proofs.LinkLaws.{get_any}
use Rattle.ix_core.proofs.Returns.{stays-in}

pub nil_left : {X : Type 0} (a b : List X) → a ++ b ≡ [] → a ≡ []
nil_left [] b e = refl
nil_left (x ∷ a) b e = cc

pub nil_right : {X : Type 0} (a b : List X) → a ++ b ≡ [] → b ≡ []
nil_right [] b e = e
nil_right (x ∷ a) b e = cc

none_long : {X : Type 0} (xs : List X) → length xs ≡ 0 → xs ≡ []
none_long [] e = refl
none_long (x ∷ xs) e = absurd (omega arith)

pub joined_more : {X I : Type 0} (f : X → List I) (xs : List X) (i : ℕ) (d : X) → i < length xs → joined f (take (i + 1) xs) ≡ joined f (take i xs) ++ f (get_or xs i d)
joined_more f xs i d lt =
    ap (joined f) (take_more xs i d lt) ∙ joined-append f (take i xs) (get_or xs i d ∷ []) ∙ ap (λ l. joined f (take i xs) ++ l) (append-nil (f (get_or xs i d)))

-- ## A loop over a list, one element after the other
module _ {X : Type 0} (R : X → X → Type 0) where
  pub passed_none : (xs : List X) → Passed R 0 xs xs
  passed_none xs = record { count = refl; done = λ k d lt. absurd (omega arith); rest = λ k d le. refl }

  pub passed_more : (i : ℕ) (old new : List X) (x y : X) → i < length new → x ≡ get_or new i x → R x y → Passed R i old new → Passed R (i + 1) old (set new i y)
  passed_more i old new x y lt read step so = record {
    count = length-set new i y ∙ so.count;
    done = step_done R old new i x y lt read (λ d. so.rest i d (omega arith)) step so.done;
    rest = step_rest R old new i x y so.rest;
  }

  pub passed_all : (n : ℕ) (old new : List X) → length old ≤ n → Passed R n old new → EachIs R old new
  passed_all n old new le so = record { count = so.count; each = λ k d lt. so.done k d (omega arith) }

-- what is read at the place of the loop is what was there
pub read_first : {X : Type 0} (R : X → X → Type 0) (i : ℕ) (old new : List X) (x d : X) → i < length new → x ≡ get_or new i x → Passed R i old new → get_or old i d ≡ x
read_first R i old new x d lt read so = sym (so.rest i d (omega arith)) ∙ get_any new i d x lt ∙ sym read

-- an element that is read once more is the same
pub read_self : {X : Type 0} (xs : List X) (i : ℕ) (d : X) → i < length xs → get_or xs i d ≡ get_or xs i (get_or xs i d)
read_self xs i d lt = get_any xs i d (get_or xs i d) lt

-- so what holds of each element that was there holds of it
pub holds_first : {X : Type 0} (P : X → Type 0) (R : X → X → Type 0) (i : ℕ) (old new : List X) (x : X) → i < length new → x ≡ get_or new i x → Passed R i old new
    → ((k : ℕ) (d : X) → k < length old → P (get_or old k d)) → P x
holds_first P R i old new x lt read so each = subst P (read_first R i old new x x lt read so) (each i x (omega (arith, lt, so.count)))

pub gathered_none : {X : Type 0} (R : X → X → Type 0) (f : X → List Buffer) (xs : List X) (bufs : List Buffer) → GatheredSome R f 0 xs xs bufs bufs
gathered_none R f xs bufs = record { passed = passed_none R xs; bufs = sym (append-nil bufs) }

pub gathered_more : {X : Type 0} (R : X → X → Type 0) (f : X → List Buffer) (i : ℕ) (old new next : List X) (x y : X) (before mid after : List Buffer) → i < length new → x ≡ get_or new i x
    → next ≡ set new i y → R x y → after ≡ mid ++ f x → GatheredSome R f i old new before mid → GatheredSome R f (i + 1) old next before after
gathered_more R f i old new next x y before mid after lt read is step more so = record {
  passed = subst (λ l. Passed R (i + 1) old l) (sym is) (passed_more R i old new x y lt read step so.passed);
  bufs =
      let one : joined f (take (i + 1) old) ≡ joined f (take i old) ++ f x =
      joined_more f old i x (omega (arith, lt, so.passed.count)) ∙ ap (λ z. joined f (take i old) ++ f z) (read_first R i old new x x lt read so.passed) in
      more ∙ ap (λ l. l ++ f x) so.bufs ∙ append_assoc before (joined f (take i old)) (f x) ∙ ap (λ l. before ++ l) (sym one);
}

pub gathered_all : {X : Type 0} (R : X → X → Type 0) (f : X → List Buffer) (i : ℕ) (old new : List X) (before after : List Buffer) → length old ≤ i → GatheredSome R f i old new before after
    → after ≡ before ++ joined f old
gathered_all R f i old new before after le so = so.bufs ∙ ap (λ l. before ++ joined f l) (take_all i old le)

-- ## Items of a ring
module _ {T : Type 0} (bufs_in : T → List Buffer) where
  pub took_none : (t : TakeView T) (bufs : List Buffer) → TookSome bufs_in 0 t t bufs bufs
  took_none t bufs = record {
    items = [];
    rest = known t;
    split = refl;
    number = refl;
    took = sym (append-nil (taken t));
    still = ([], append-nil (known t));
    bufs = sym (append-nil bufs);
  }

  pub took_more : (i : ℕ) (old cur next : TakeView T) (before mid : List Buffer) (x : T) (b : Buffer) → i < length (known old) → TookSome bufs_in i old cur before mid
      → taken next ≡ taken cur ++ x ∷ [] → IsPrefix (known cur) (x ∷ known next) → bufs_in x ≡ b ∷ [] → TookSome bufs_in (i + 1) old next before (mid ++ b ∷ [])
  took_more i old cur next before mid x b lt so took ahead home = step so.rest so.split so.still where
    step : (rest : List T) → known old ≡ so.items ++ rest → IsPrefix rest (known cur) → TookSome bufs_in (i + 1) old next before (mid ++ b ∷ [])
    step [] split still = absurd (omega (arith, lt, so.number, ap length split, length-append so.items []))
    step (y ∷ ys) split still =
        let whole : y ∷ ((ys ++ still.0) ++ ahead.0) ≡ x ∷ known next = ap (λ l. l ++ ahead.0) still.1 ∙ ahead.1 in
        let same : y ≡ x = cc in
        let rest : (ys ++ still.0) ++ ahead.0 ≡ known next = cc in
        let one : bufs_in y ≡ b ∷ [] = ap bufs_in same ∙ home in
        let last : joined bufs_in (so.items ++ y ∷ []) ≡ joined bufs_in so.items ++ b ∷ [] =
        joined-append bufs_in so.items (y ∷ []) ∙ ap (λ (h : List Buffer). joined bufs_in so.items ++ (h ++ [])) one in
        record {
          items = so.items ++ y ∷ [];
          rest = ys;
          split = split ∙ sym (append_assoc so.items (y ∷ []) ys);
          number = omega (arith, length-append so.items (y ∷ []), so.number);
          took = took ∙ ap (λ l. l ++ x ∷ []) so.took ∙ append_assoc (taken old) so.items (x ∷ []) ∙ ap (λ z. taken old ++ (so.items ++ z ∷ [])) (sym same);
          still = (still.0 ++ ahead.0, sym (append_assoc ys still.0 ahead.0) ∙ rest);
          bufs = ap (λ l. l ++ b ∷ []) so.bufs ∙ append_assoc before (joined bufs_in so.items) (b ∷ []) ∙ ap (λ l. before ++ l) (sym last);
        }

  -- what holds of all that was known holds of what is taken
  pub took_none_in : {S : Type 0} (in_it : T → List S) (i : ℕ) (old cur next : TakeView T) (before mid : List Buffer) (x : T) → joined in_it (known old) ≡ [] → i < length (known old)
      → TookSome bufs_in i old cur before mid → IsPrefix (known cur) (x ∷ known next) → in_it x ≡ []
  took_none_in {S} in_it i old cur next before mid x none lt so ahead = step so.rest so.split so.still where
    step : (rest : List T) → known old ≡ so.items ++ rest → IsPrefix rest (known cur) → in_it x ≡ []
    step [] split still = absurd (omega (arith, lt, so.number, ap length split, length-append so.items []))
    step (y ∷ ys) split still =
        let whole : y ∷ ((ys ++ still.0) ++ ahead.0) ≡ x ∷ known next = ap (λ l. l ++ ahead.0) still.1 ∙ ahead.1 in
        let same : y ≡ x = cc in
        let all : joined in_it so.items ++ (in_it y ++ joined in_it ys) ≡ [] = sym (joined-append in_it so.items (y ∷ ys)) ∙ ap (joined in_it) (sym split) ∙ none in
        ap in_it (sym same) ∙ nil_left (in_it y) (joined in_it ys) (nil_right (joined in_it so.items) _ all)

  -- something is known until all was taken
  pub took_known : (i : ℕ) (old cur : TakeView T) (before mid : List Buffer) → i < length (known old) → TookSome bufs_in i old cur before mid → known cur ≡ [] → ⊥
  took_known i old cur before mid lt so none = step so.rest so.split so.still where
    step : (rest : List T) → known old ≡ so.items ++ rest → IsPrefix rest (known cur) → ⊥
    step [] split still = omega (arith, lt, so.number, ap length split, length-append so.items [])
    step (y ∷ ys) split still = let clash : y ∷ (ys ++ still.0) ≡ [] = still.1 ∙ none in cc

  all_of_them : (i : ℕ) (old cur : TakeView T) (before mid : List Buffer) → length (known old) ≤ i → (so : TookSome bufs_in i old cur before mid) → so.items ≡ known old
  all_of_them i old cur before mid le so =
      let none : so.rest ≡ [] = none_long so.rest (omega (arith, le, so.number, ap length so.split, length-append so.items so.rest)) in
      sym (so.split ∙ ap (λ l. so.items ++ l) none ∙ append-nil so.items)

  pub took_all : (i : ℕ) (old cur : TakeView T) (before mid : List Buffer) → length (known old) ≤ i → TookSome bufs_in i old cur before mid → taken cur ≡ taken old ++ known old
  took_all i old cur before mid le so = so.took ∙ ap (λ l. taken old ++ l) (all_of_them i old cur before mid le so)

  pub took_bufs : (i : ℕ) (old cur : TakeView T) (before mid : List Buffer) → length (known old) ≤ i → TookSome bufs_in i old cur before mid → mid ≡ before ++ joined bufs_in (known old)
  took_bufs i old cur before mid le so = so.bufs ∙ ap (λ (l : List T). before ++ joined bufs_in l) (all_of_them i old cur before mid le so)

elsewhere : (p : Stock) (id : BufId) → id.home.0 ≢ p.home.0 → is_out_of p id ≡ false
elsewhere p id apart = let off : (id.home.0 == p.home.0) ≡ false = grind (arith, nat_tests) in rw off refl

module _ {U E : Type 0} where
  -- ## Messages that wait
  pub waits_more : (bufs : List Buffer) (x : Message U E) (rest : List (Message U E)) (b : Buffer) → home_in x ≡ b ∷ [] → (bufs ++ b ∷ []) ++ joined home_in rest ≡ bufs ++ joined home_in (x ∷ rest)
  waits_more bufs x rest b home = append_assoc bufs (b ∷ []) (joined home_in rest) ∙ ap (λ (h : List Buffer). bufs ++ (h ++ joined home_in rest)) (sym home)

  pub waits_first : (x : Message U E) (rest : List (Message U E)) → joined ship_in (x ∷ rest) ≡ [] → ship_in x ≡ []
  waits_first x rest e = nil_left (ship_in x) (joined ship_in rest) e

  pub waits_rest : (x : Message U E) (rest : List (Message U E)) → joined ship_in (x ∷ rest) ≡ [] → joined ship_in rest ≡ []
  waits_rest x rest e = nil_right (ship_in x) (joined ship_in rest) e

  -- ## One buffer
  takes_homed : (b : Buffer) (x y : Core U E) → TakesBack b x y → CoreHomed x y
  takes_homed b x y (given_back out e) = record {
    home = ap (λ (c : Core U E). c.pool.home) e;
    number = ap (λ (c : Core U E). c.pool.n) e;
    rest = subst (λ (z : Core U E). z ≡ record x { pool = z.pool; returns = z.returns }) (sym e) refl;
  }
  takes_homed b x y (kept_back out items e) = record {
    home = ap (λ (c : Core U E). c.pool.home) e;
    number = ap (λ (c : Core U E). c.pool.n) e;
    rest = e ∙ ap (λ (p : Stock). record x { pool = p; returns = y.returns }) (sym (ap (λ (c : Core U E). c.pool) e));
  }

  takes_weigh : (f : Name → ℕ) (b : Buffer) (x y : Core U E) → TakesBack b x y → stock_weight f y ≡ stock_weight f x + f b.name
  takes_weigh f b x y (given_back out e) = omega (arith, ap (λ (c : Core U E). stock_weight f c) e, sum_by_push f x.pool.free b.name)
  takes_weigh f b x y (kept_back out items e) =
      omega (arith, ap (λ (c : Core U E). sum_by f c.pool.free) e, ap (buffers_weight f) items, sum_by_push (λ (z : Buffer). f z.name) x.returns.items b)

  -- what is out of no pool stays so
  out_stays : (b : Buffer) (x y : Core U E) (id : BufId) → TakesBack b x y → is_out_of x.pool id ≡ false → is_out_of y.pool id ≡ false
  out_stays b x y id (given_back out e) off =
      subst (λ (c : Core U E). is_out_of c.pool id ≡ false) (sym e) (stays-in x.pool.home x.pool.n x.pool.free b.name id off)
  out_stays b x y id (kept_back out items e) off = subst (λ (c : Core U E). is_out_of c.pool id ≡ false) (sym e) off

  module _ (cores : List (Core U E)) (p : ℕ) (x y : Core U E) (b : Buffer) (lt : p < length cores) (read : x ≡ get_or cores p x) (order : AreNumbered cores)
      (place : p ≡ min b.name.id.home.0 (length cores - 1)) (so : TakesBack b x y) where
    -- a pool after it
    pool_after : (h : ℕ) (e : Core U E) (id : BufId) → is_out_of (get_or cores h e).pool id ≡ false → (h ≡ p) ⊎ (h ≢ p) → is_out_of (get_or (set cores p y) h e).pool id ≡ false
    pool_after h e id off (inl same) =
        let after : get_or (set cores p y) h e ≡ y = ap (λ k. get_or (set cores p y) k e) same ∙ get_or-set_same cores p y e lt in
        let before : get_or cores h e ≡ x = ap (λ k. get_or cores k e) same ∙ get_any cores p e x lt ∙ sym read in
        subst (λ (c : Core U E). is_out_of c.pool id ≡ false) (sym after) (out_stays b x y id so (subst (λ (c : Core U E). is_out_of c.pool id ≡ false) before off))
    pool_after h e id off (inr apart) = subst (λ (c : Core U E). is_out_of c.pool id ≡ false) (sym (get_or-set_other cores p h y e apart)) off

    -- a buffer that is kept is out of no pool
    kept_is_in : is_out_of x.pool b.name.id ≡ false → (h : ℕ) (e : Core U E) → h < length cores → (h ≡ p) ⊎ (h ≢ p) → is_out_of (get_or cores h e).pool b.name.id ≡ false
    kept_is_in off h e below (inl same) =
        let before : get_or cores h e ≡ x = ap (λ k. get_or cores k e) same ∙ get_any cores p e x lt ∙ sym read in
        subst (λ (c : Core U E). is_out_of c.pool b.name.id ≡ false) (sym before) off
    kept_is_in off h e below (inr apart) =
        let spot : (get_or cores h e).pool.home.0 ≡ h = order h e below in
        elsewhere (get_or cores h e).pool b.name.id (λ is. apart (omega (arith, is, spot, place, below)))

    -- what stands in the list that a core keeps, if it keeps the buffer
    kept_all : (P : Buffer → Type 0) → All (λ (z : Buffer). P z) x.returns.items → (is_out_of x.pool b.name.id ≡ false → P b) → TakesBack b x y → All (λ (z : Buffer). P z) y.returns.items
    kept_all P all one (given_back out e) = subst (λ (c : Core U E). All (λ (z : Buffer). P z) c.returns.items) (sym e) all
    kept_all P all one (kept_back out items e) = All-same (λ (z : Buffer). P z) _ _ items (All-push (λ (z : Buffer). P z) x.returns.items b all (one out))

    none_step : (c h : ℕ) (d e : Core U E) → h < length cores → All (λ (z : Buffer). is_out_of (get_or (set cores p y) h e).pool z.name.id ≡ false) (get_or cores c d).returns.items
        → (c ≡ p) ⊎ (c ≢ p) → All (λ (z : Buffer). is_out_of (get_or (set cores p y) h e).pool z.name.id ≡ false) (get_or (set cores p y) c d).returns.items
    none_step c h d e in_h all (inl same) =
        let after : get_or (set cores p y) c d ≡ y = ap (λ k. get_or (set cores p y) k d) same ∙ get_or-set_same cores p y d lt in
        let before : get_or cores c d ≡ x = ap (λ k. get_or cores k d) same ∙ get_any cores p d x lt ∙ sym read in
        let here : All (λ (z : Buffer). is_out_of (get_or (set cores p y) h e).pool z.name.id ≡ false) x.returns.items =
        subst (λ (k : Core U E). All (λ (z : Buffer). is_out_of (get_or (set cores p y) h e).pool z.name.id ≡ false) k.returns.items) before all in
        subst (λ (k : Core U E). All (λ (z : Buffer). is_out_of (get_or (set cores p y) h e).pool z.name.id ≡ false) k.returns.items) (sym after)
        (kept_all (λ (z : Buffer). is_out_of (get_or (set cores p y) h e).pool z.name.id ≡ false) here (λ off. pool_after h e b.name.id (kept_is_in off h e in_h (cases_eq h p)) (cases_eq h p)) so)
    none_step c h d e in_h all (inr apart) =
        subst (λ (k : Core U E). All (λ (z : Buffer). is_out_of (get_or (set cores p y) h e).pool z.name.id ≡ false) k.returns.items) (sym (get_or-set_other cores p c y d apart)) all

    none_after : NoneOut cores → NoneOut (set cores p y)
    none_after none c h d e below_c below_h =
        let in_c : c < length cores = omega (arith, below_c, length-set cores p y) in
        let in_h : h < length cores = omega (arith, below_h, length-set cores p y) in
        let old_ones : All (λ (z : Buffer). is_out_of (get_or (set cores p y) h e).pool z.name.id ≡ false) (get_or cores c d).returns.items =
        All-weaker (λ (z : Buffer). is_out_of (get_or cores h e).pool z.name.id ≡ false) (λ (z : Buffer). is_out_of (get_or (set cores p y) h e).pool z.name.id ≡ false)
        (λ z off. pool_after h e z.name.id off (cases_eq h p)) (get_or cores c d).returns.items (none c h d e in_c in_h) in
        none_step c h d e in_h old_ones (cases_eq c p)

    core_after : (c : ℕ) (d : Core U E) → (c ≡ p) ⊎ (c ≢ p) → CoreHomed (get_or cores c d) (get_or (set cores p y) c d)
    core_after c d (inl same) =
        let after : get_or (set cores p y) c d ≡ y = ap (λ k. get_or (set cores p y) k d) same ∙ get_or-set_same cores p y d lt in
        let before : get_or cores c d ≡ x = ap (λ k. get_or cores k d) same ∙ get_any cores p d x lt ∙ sym read in
        subst (λ (k : Core U E). CoreHomed (get_or cores c d) k) (sym after) (subst (λ (k : Core U E). CoreHomed k y) (sym before) (takes_homed b x y so))
    core_after c d (inr apart) =
        subst (λ (k : Core U E). CoreHomed (get_or cores c d) k) (sym (get_or-set_other cores p c y d apart)) (record { home = refl; number = refl; rest = refl })

    pub homed_one : AllHomed (b ∷ []) cores (set cores p y)
    homed_one = record {
      count = length-set cores p y;
      cores = λ c d. core_after c d (cases_eq c p);
      weight = λ f. omega (arith, sum_by-changed (stock_weight f) cores p x y lt read, takes_weigh f b x y so, sum_by-cons (λ (z : Buffer). f z.name) b []);
      none = none_after;
    }

  -- ## Many buffers
  homed_join : (x y z : Core U E) → CoreHomed x y → CoreHomed y z → CoreHomed x z
  homed_join x y z p q = record {
    home = q.home ∙ p.home;
    number = q.number ∙ p.number;
    rest = q.rest ∙ ap (λ (c : Core U E). record c { pool = z.pool; returns = z.returns }) p.rest;
  }

  pub homed_none : (cores : List (Core U E)) → AllHomed [] cores cores
  homed_none cores = record { count = refl; cores = λ c d. record { home = refl; number = refl; rest = refl }; weight = λ f. omega arith; none = λ n. n }

  pub homed_more : (a b : List Buffer) (x y z : List (Core U E)) → AllHomed a x y → AllHomed b y z → AllHomed (a ++ b) x z
  homed_more a b x y z p q = record {
    count = q.count ∙ p.count;
    cores = λ c d. homed_join (get_or x c d) (get_or y c d) (get_or z c d) (p.cores c d) (q.cores c d);
    weight = λ f. omega (arith, p.weight f, q.weight f, sum_by-append (λ (v : Buffer). f v.name) a b);
    none = λ n. q.none (p.none n);
  }

  pub order_homed : (bufs : List Buffer) (x y : List (Core U E)) → AreNumbered x → AllHomed bufs x y → AreNumbered y
  order_homed bufs x y order so c d lt = ap (λ (h : CoreId). h.0) (so.cores c d).home ∙ order c d (omega (arith, so.count, lt))
